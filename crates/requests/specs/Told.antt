-- What is told of the judgements of a list (this project's).
use Rattle.std.specs.Prelude.{ℕ, ◌+◌, ◌^◌, ◌-◌, min, Bool, true, false, ◌||◌, ◌==◌, nat_lt, if◌then◌else◌, List, [], ◌∷◌, ◌++◌, drop, codes, decimal}
use Rattle.base.specs.Lines.{whole_lines}
use Rattle.base.specs.Decimals.{is_nothing}
use Rattle.requests.specs.declared.told_lines.Totals.{Totals}
use Rattle.subcommands.specs.Objects.{object, why_member}

-- what a line answers: the exit status, and what stands on standard output and on standard error
pub record Answer : Type 0 where
  pub status : ℕ
  pub out : List ℕ
  pub err : List ℕ

-- a number between two texts
unfoldable pub between : List ℕ → ℕ → List ℕ → List ℕ
between before n behind = before ++ (decimal n ++ behind)

-- a line behind the number of the line of the list
abbrev pub line_said : ℕ → List ℕ → List ℕ
line_said n line = between (codes "line ") n (codes ": ") ++ (line ++ codes "\n")

-- the lines of a text so
abbrev pub lines_said : ℕ → List (List ℕ) → List ℕ
lines_said n [] = []
lines_said n (line ∷ more) = line_said n line ++ lines_said n more

-- the first line of a text, without its end
abbrev pub up_to_end : List ℕ → List ℕ
up_to_end [] = []
up_to_end (b ∷ bs) = if b == 10 then [] else b ∷ up_to_end bs

-- the lines that tell a judgement, or why there is none
abbrev pub answer_lines : ℕ → Answer → List ℕ
answer_lines n a = if nat_lt 1 a.status then line_said n (up_to_end a.err) else lines_said n (whole_lines a.out) ++ lines_said n (whole_lines a.err)

-- the object that tells it: what stands on standard output, or why nothing does
abbrev pub failed_object : List ℕ → List ℕ
failed_object why = object (codes "failed") (why_member why)

abbrev pub answer_object : Answer → List ℕ
answer_object a = if (a.status == 3) || is_nothing a.out then failed_object (up_to_end a.err) else a.out

-- the same with the number of the line of the list and the status in front
abbrev pub line_object : ℕ → ℕ → List ℕ → List ℕ
line_object n status object = (between (codes "{\"line\": ") n (codes ", ") ++ between (codes "\"status\": ") status (codes ", ")) ++ drop 1 object

abbrev pub answer_said : Bool → ℕ → Answer → List ℕ
answer_said false n a = answer_lines n a
answer_said true n a = line_object n a.status (answer_object a)

-- no judgement yet
abbrev pub no_totals : Totals
no_totals = record { accepted = 0; not_accepted = 0; refused = 0; failed = 0; status = 0 }

-- one more, up to the greatest number of 64 bits
abbrev pub one_more : ℕ → ℕ
one_more n = min (n + 1) (2 ^ 64 - 1)

-- a judgement more
abbrev pub counted : ℕ → Totals → Totals
counted status t =
    if status == 0 then record t { accepted = one_more t.accepted }
    else (if status == 1 then record t { not_accepted = one_more t.not_accepted }
    else (if status == 3 then record t { failed = one_more t.failed }
    else record t { refused = one_more t.refused }))

abbrev pub with_status : Totals → ℕ → Totals
with_status t status = record (counted status t) { status = if nat_lt t.status status then status else t.status }

-- how many judgements there are
abbrev pub sum_to : ℕ → ℕ → ℕ
sum_to m n = min (m + n) (2 ^ 64 - 1)

abbrev pub all : Totals → ℕ
all t = sum_to (sum_to (sum_to t.accepted t.not_accepted) t.refused) t.failed

-- the last line, which counts them
abbrev pub totals_line : Totals → List ℕ
totals_line t =
    (((between [] (all t) (codes " judgements: ") ++ between [] t.accepted (codes " accepted or hold, "))
    ++ between [] t.not_accepted (codes " not, ")) ++ between [] t.refused (codes " refused, ")) ++ between [] t.failed (codes " failed\n")

-- the last object
abbrev pub totals_object : Totals → List ℕ
totals_object t =
    ((((between (codes "{\"judgements\": ") (all t) [] ++ between (codes ", \"accepted\": ") t.accepted [])
    ++ between (codes ", \"not_accepted\": ") t.not_accepted []) ++ between (codes ", \"refused\": ") t.refused []) ++ between (codes ", \"failed\": ") t.failed [])
    ++ between (codes ", \"status\": ") t.status (codes "}\n")

abbrev pub totals_said : Bool → Totals → List ℕ
totals_said false t = totals_line t
totals_said true t = totals_object t
