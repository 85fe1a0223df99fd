-- What is told of refusals that are asked for, and that a table has a refusal.
use Rattle.std.specs.Prelude.{◌≡◌, ℕ, ◌==◌, nat_eq, Bool, true, false, not, ◌&&◌, ◌||◌, cond, if◌then◌else◌, List, [], ◌∷◌, ◌++◌, Option, Some, None, is_some, option_map, flat_map, codes, decimal}
use Rattle.std.specs.Char.{is_ascii_whitespace}
use Rattle.std.specs.List.{list_all, list_any, starts_with}
use Rattle.std.specs.Str.{bytes_eq, str_eq_ignore_ascii_case}
use Rattle.base.specs.Decimals.{number_of}
use Rattle.base.specs.Lines.{onto_first}
use Rattle.explanations.specs.declared.table.Explanation.{Explanation}
use Rattle.explanations.specs.declared.table.Part.{Part}
use Rattle.explanations.specs.declared.explaining.Sought.{Sought}

-- ---- words

-- a word ends where white space follows, or nothing
abbrev pub ends_word : List ℕ → Bool
ends_word [] = true
ends_word (b ∷ bs) = is_ascii_whitespace b

-- the words of a text: its longest stretches without white space
abbrev pub words_in : List ℕ → List (List ℕ)
words_in [] = []
words_in (b ∷ bs) =
    if is_ascii_whitespace b then words_in bs
    else (if ends_word bs then (b ∷ []) ∷ words_in bs else onto_first b (words_in bs))

-- what is sought: the number, the name, in letters of either case, and whether it was told of the first line of a file
pub record Search : Type 0 where
  pub number : Option ℕ
  pub name : Option (List ℕ)
  pub in_first_line : Option Bool

abbrev pub search_of : Sought → Search
search_of s = record { number = s.number; name = option_map (λ name. name.now) s.name; in_first_line = s.in_first_line }

-- a word more: a number is sought alone; a name with the number before it, or alone behind another name; and behind the word
-- `line` what is no number is a line's, and begins what is sought anew
abbrev pub with_word : Bool → Search → List ℕ → Search
with_word is_behind_line s w =
    if is_some (number_of w) then record { number = number_of w; name = None; in_first_line = s.in_first_line }
    else (if is_behind_line then record { number = None; name = None; in_first_line = Some (bytes_eq w (codes "1:")) }
    else record { number = if is_some s.name then None else s.number; name = Some w; in_first_line = s.in_first_line })

-- words more, the first of which is behind the word `line`, or is not
abbrev pub with_words : Bool → Search → List (List ℕ) → Search
with_words is_behind_line s [] = s
with_words is_behind_line s (w ∷ ws) = with_words (bytes_eq w (codes "line")) (with_word is_behind_line s w) ws

-- what the words of texts seek, where they name a number or a name
abbrev pub sought_by : List (List ℕ) → Option Search
sought_by texts =
    let s : Search = with_words false (record { number = None; name = None; in_first_line = None }) (flat_map words_in texts) in
    if is_some s.number || is_some s.name then Some s else None

-- ---- what is sought

-- a number is that of a row, where one is sought
abbrev pub has_sought_number : Option ℕ → Explanation → Bool
has_sought_number None row = true
has_sought_number (Some number) row = number == row.number

-- a name is that of a row, in letters of either case, where one is sought
abbrev pub has_name : Option (List ℕ) → Explanation → Bool
has_name None row = true
has_name (Some name) row = str_eq_ignore_ascii_case name row.name.now

-- a row is sought: it has the number and the name
abbrev pub is_sought : Search → Explanation → Bool
is_sought s row = has_sought_number s.number row && has_name s.name row

-- a row is about the first line of a file
abbrev pub is_of_first_line : Explanation → Bool
is_of_first_line row = starts_with nat_eq row.when.now (codes "at line 1")

-- two answers are the same
abbrev pub is_same : Bool → Bool → Bool
is_same true b = b
is_same false b = not b

-- a row fits what is known of the line: in the first one those about it do, in a later one the others, and all do where nothing is known
abbrev pub is_of_line : Option Bool → Explanation → Bool
is_of_line None row = true
is_of_line (Some first) row = is_same first (is_of_first_line row)

-- ---- what is told

-- the lines of a row, with the title of its part
abbrev pub row_lines : List ℕ → Explanation → List ℕ
row_lines title row =
    decimal row.number ++ (codes " " ++ (row.name.now ++ (codes " (" ++ (title ++ (codes ")\n  when: "
    ++ (row.when.now ++ (codes "\n  do: " ++ (row.remedy.now ++ codes "\n"))))))))

-- a row is told: it is sought, and it fits the line, or does not
abbrev pub is_told : Search → Bool → Explanation → Bool
is_told s fitting row = is_sought s row && is_same fitting (is_of_line s.in_first_line row)

-- what is told of a row: nothing where it is not told
abbrev pub told_row : Search → Bool → List ℕ → Explanation → List ℕ
told_row s fitting title row = cond (is_told s fitting row) (row_lines title row) []

-- what is told of a part: its rows that are told, in their order
abbrev pub told_part : Search → Bool → Part → List ℕ
told_part s fitting part = flat_map (told_row s fitting part.title.now) part.rows.now

-- what is told of some parts
abbrev pub told_parts : Search → Bool → List Part → List ℕ
told_parts s fitting parts = flat_map (told_part s fitting) parts

-- what is told of some parts: first the rows that fit the line
abbrev pub explained : Search → List Part → List ℕ
explained s parts = told_parts s true parts ++ told_parts s false parts

-- ---- what the table has

-- a row is of the refusal of this number and this name
abbrev pub is_of : ℕ → List ℕ → Explanation → Bool
is_of number name row = (row.number == number) && bytes_eq row.name.now name

-- some row is of the refusal of this number and this name
abbrev pub has_row : ℕ → List ℕ → List Explanation → Bool
has_row number name rows = list_any (is_of number name) rows

-- some part has a row of the refusal of this number and this name
abbrev pub Explains : List Part → ℕ → List ℕ → Type 0
Explains parts number name = list_any (λ part. has_row number name part.rows.now) parts ≡ true

-- two rows have one name where they have one number
abbrev pub is_alike : Explanation → Explanation → Bool
is_alike one other = not (one.number == other.number) || bytes_eq one.name.now other.name.now

-- no number has two names among the rows of some parts
abbrev pub NameOnce : List Part → Type 0
NameOnce parts =
    let rows : List Explanation = flat_map (λ (part : Part). part.rows.now) parts in
    list_all (λ one. list_all (is_alike one) rows) rows ≡ true
