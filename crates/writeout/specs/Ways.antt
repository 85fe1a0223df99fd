-- How the init line of a state is written.
use Rattle.std.specs.Prelude.{◌≡◌, ℕ, ◌^◌, ◌<◌, ◌==◌, Bool, true, false, List, [], Option, Some, None, option_map, unwrap_or, if◌then◌else◌}
use Rattle.base.specs.Operator.{ones}
use Rattle.btor2.specs.declared.item.Body.{Body}
use Rattle.btor2.specs.Items.{constant_word}
use Rattle.wide.specs.declared.constant.Spelling.{Spelling}
use Rattle.wide.specs.Lines.{constant_body}
use Rattle.full.specs.Lines.{Operand, Says, form, FullLine, find_line, sort_of_node, width_of, init_of, next_of}
use Rattle.full.specs.Agreement.{is_words}
use Rattle.writeout.specs.declared.way.Kind.{Kind}
use Rattle.writeout.specs.declared.way.Kind.TheVariants as kind
use Rattle.writeout.specs.declared.way.Way.{Way}
use Rattle.writeout.specs.declared.way.Way.TheVariants as way

-- Which constant it is, by whether its word is 0, and whether all its bits are 1.
abbrev pub kind_by : Bool → Bool → Kind
kind_by true ones = kind.Zero
kind_by false true = kind.Ones
kind_by false false = kind.Other

-- a form of a width, by its word, where it is a constant
abbrev pub kind_of_form : ℕ → Body → Kind
kind_of_form n b = unwrap_or (option_map (λ v. kind_by (v == 0) (v == ones n)) (constant_word n b)) kind.Neither

-- a line of a width, and that with an id
abbrev pub kind_of : ℕ → Says → Kind
kind_of n (form b minuses) = kind_of_form n b
kind_of n _ = kind.Neither

abbrev pub kind_at : List FullLine → ℕ → Kind
kind_at full id = unwrap_or (option_map (λ (x : FullLine). kind_of (width_of full id) x.says) (find_line full id)) kind.Neither

-- the number of a constant in digits fits a width
abbrev pub NumberFits : ℕ → Says → Type 0
NumberFits n b = (spelling : Spelling) (s count v : ℕ) → b ≡ form (constant_body spelling s count v) [] → v < 2 ^ n

-- the way of a state of words, or of arrays, that begins with such a value and has a next line
abbrev pub way_by : Kind → Bool → Way
way_by kind.Zero true = way.Constant
way_by kind.Zero false = way.Zeros
way_by kind.Ones true = way.Constant
way_by kind.Ones false = way.Ones
way_by kind.Other true = way.Constant
way_by kind.Other false = way.First
way_by kind.Neither words = way.First

-- by its init, without a minus, and its next
abbrev pub way_with : List FullLine → ℕ → Option Operand → Option Operand → Way
way_with full id None next = way.Open
way_with full id (Some o) None = way.First
way_with full id (Some o) (Some n) = if o.minus then way.First else way_by (kind_at full o.id) (is_words (sort_of_node full id))

-- the way of the state with an id
unfoldable pub way_of : List FullLine → ℕ → Way
way_of full id = way_with full id (init_of full id) (next_of full id)

-- by its first word
abbrev pub is_first : Way → Bool
is_first way.First = true
is_first way.Open = false
is_first way.Constant = false
is_first way.Zeros = false
is_first way.Ones = false
