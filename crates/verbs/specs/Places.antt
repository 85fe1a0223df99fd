-- Where the lines of a kind stand in a model of the whole language.
use Rattle.std.specs.Prelude.{◌≡◌, ℕ, Bool, List, map, Some, slice_get}
use Rattle.btor2.specs.declared.item.Body.{Body}
use Rattle.full.specs.Lines.{FullLine, lines_of}

-- at these places stand the lines of a kind, in file order
abbrev pub ArePlaces : (Body → Bool) → List FullLine → List ℕ → Type 0
ArePlaces test full list = map (slice_get full) list ≡ map (λ (x : FullLine). Some x) (lines_of test full)
