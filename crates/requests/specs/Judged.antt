-- What the code's answer of a line is, and what one line does.
use Rattle.std.specs.Prelude.{◌≡◌, ℕ, Bool, true, false, List, [], Option}
use Rattle.std.specs.Io.KnownBytes.{Appends}
use Rattle.requests.specs.declared.lists.Answered.{Answered}
use Rattle.requests.specs.declared.told_lines.Totals.{Totals}
use Rattle.requests.specs.Lists.{AnswersLine, has_judgement, words}
use Rattle.requests.specs.Told.{Answer, answer_said, with_status}

-- the code's answer of a line
abbrev pub answer_of : Answered → Answer
answer_of r = record { status = r.status; out = r.out.bytes.items; err = r.err.bytes.items }

-- a line that has a judgement or has none, by its words, leaves these totals and tells this
abbrev pub JudgesLineBy : Bool → (List ℕ → Option (List ℕ)) → Bool → ℕ → List (List ℕ) → Totals → Totals → Option (List ℕ) → Option (List ℕ) → Type 0
JudgesLineBy false texts as_json n ws before behind told told' = (behind ≡ before) × Appends told told' []
JudgesLineBy true texts as_json n ws before behind told told' = (a : Answer) × (AnswersLine texts as_json ws a × ((behind ≡ with_status before a.status) × Appends told told' (answer_said as_json n a)))

abbrev pub JudgesLine : (List ℕ → Option (List ℕ)) → Bool → ℕ → List ℕ → Totals → Totals → Option (List ℕ) → Option (List ℕ) → Type 0
JudgesLine texts as_json n line before behind told told' = JudgesLineBy (has_judgement (words line)) texts as_json n (words line) before behind told told'
