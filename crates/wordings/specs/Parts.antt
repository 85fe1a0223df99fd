-- The parts of the words behind a command: files, flags, and options with their values, as GNU's conventions have them.
use Rattle.std.specs.Prelude.{ℕ, nat_eq, ◌==◌, Bool, true, false, not, ◌&&◌, ◌||◌, if◌then◌else◌, List, [], ◌∷◌, drop, map, Option, Some, None, codes}
use Rattle.std.specs.List.{list_any, starts_with, before_first, after_first}
use Rattle.std.specs.Str.{bytes_eq}
use Rattle.wordings.specs.declared.table.Kind.{Kind}
use Rattle.wordings.specs.declared.table.Kind.TheVariants as kind
use Rattle.wordings.specs.declared.table.Verb.{Verb}
use Rattle.wordings.specs.Table.{words_of}

-- a part: a file; a flag by its name; an option by its name, with its value
pub data Said : Type 0 where
  a_file : List ℕ → Said
  a_flag : List ℕ → Said
  an_option : List ℕ → List ℕ → Said

-- what stands behind `--`: `name`, or `name=value`
abbrev pub long_part : List ℕ → Said
long_part name =
    if list_any (λ b. b == 61) name
    then an_option (before_first (λ b. b == 61) name) (after_first (λ b. b == 61) name)
    else a_flag name

-- the part that a word is: `-` is a file, and so is what begins with no hyphen; `-o` is `--output`, with the file behind it
-- or behind `=`; no other letter is known, and the flag of the name `-`, which no command has, stands for it
abbrev pub word_part : List ℕ → Said
word_part w =
    if bytes_eq w (codes "-") || not (starts_with nat_eq w (codes "-")) then a_file w
    else (if starts_with nat_eq w (codes "--") then long_part (drop 2 w)
    else (if starts_with nat_eq w (codes "-o=") then an_option (codes "output") (drop 3 w)
    else (if bytes_eq w (codes "-o") then a_flag (codes "output")
    else (if starts_with nat_eq w (codes "-o") then an_option (codes "output") (drop 2 w)
    else a_flag (codes "-")))))

-- an option takes a value
abbrev pub takes_value : Kind → Bool
takes_value kind.Text = true
takes_value kind.Position = true
takes_value kind.PositionWithEngine = true
takes_value kind.Number = true
takes_value _ = false

-- a part is the name of an option of the command, without a value
abbrev pub lacks_value : Verb → Said → Bool
lacks_value v (a_flag name) = list_any (λ word. bytes_eq word.0 name && takes_value word.1) (words_of v)
lacks_value v _ = false

-- an option with the word behind it as its value, where that is no flag and no option
abbrev pub with_value : Said → Said → Said
with_value (a_flag name) (a_file w) = an_option name w
with_value p _ = p

-- the parts of words, behind an option that lacks its value where there is one; behind `--` each word is a file
abbrev pub parts_behind : Verb → Option Said → List (List ℕ) → List Said
parts_behind v None [] = []
parts_behind v None (w ∷ ws) =
    if bytes_eq w (codes "--") then map a_file ws
    else (if lacks_value v (word_part w) then parts_behind v (Some (word_part w)) ws
    else word_part w ∷ parts_behind v None ws)
parts_behind v (Some p) [] = p ∷ []
parts_behind v (Some p) (w ∷ ws) = with_value p (word_part w) ∷ parts_behind v None ws
