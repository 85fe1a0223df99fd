-- The variables that the lines of a file define: those up to a count of variables in turn, and others by a bit for each.
use Rattle.std.specs.Prelude.{ℕ, ◌/◌, ◌%◌, Bool, false, Option, None, Some, ◌&&◌, ◌||◌, nat_eq, nat_le, cond}
use Rattle.std.specs.HashMap.{get}
use Rattle.std.specs.Int.{bit_at}
use Rattle.aigerlists.specs.declared.definitions.Definitions.{Definitions}

-- whether a bit of a word is 1, if there is the word
unfoldable pub is_marked : Option ℕ → ℕ → Bool
is_marked None place = false
is_marked (Some bits) place = nat_eq (bit_at bits place) 1

-- the word at a place: the one that was written last, or one of the others
abbrev pub word_of : Definitions → ℕ → Option ℕ
word_of d w = cond (nat_eq d.place w) (Some d.word) (get nat_eq d.others w)

-- whether a variable is among them
abbrev pub has_variable : Definitions → ℕ → Bool
has_variable d v = (nat_le 1 v && nat_le v d.in_turn) || is_marked (word_of d (v / 64)) (v % 64)
