-- A line of a text as it is found: whole, or what is unfinished, and either up to a mark.
use Rattle.std.specs.Prelude.{◌≡◌, ℕ, Bool, true, false, List, ◌∷◌, ◌++◌}
use Rattle.base.specs.Lines.{HasNone}
use Rattle.base.specs.Held.{Held}

-- these are the bytes before the first mark of some, or all of them
abbrev pub CutsAtMark : List ℕ → Bool → List ℕ → Type 0
CutsAtMark bytes false front = (front ≡ bytes) × HasNone 35 bytes
CutsAtMark bytes true front = (behind : List ℕ) × ((bytes ≡ front ++ 35 ∷ behind) × HasNone 35 front)

-- a line of what is held, and whether it is the last one of the text
abbrev pub FindsLine : Held → Bool → List ℕ → Bool → Type 0
FindsLine held true line last = CutsAtMark held.line last line
FindsLine held false line last = (last ≡ true) × ((marked : Bool) × CutsAtMark held.rest marked line)
