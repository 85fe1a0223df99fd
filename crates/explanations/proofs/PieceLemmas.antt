-- Texts that are written piece by piece.
use Rattle.std.proofs.Common.{◌≡◌, ℕ, ◌<◌, List, [], ◌∷◌, ◌++◌, length, sym, ◌∙◌, arith}
use Rattle.std.proofs.lemmas.List.{append-nil}
use Rattle.std.specs.Prelude.{flat_map}

-- all pieces are written where none is left
pub all_written : {X : Type 0} (f : X → List ℕ) (written all : List ℕ) (rest : List X) → written ++ flat_map f rest ≡ all → length rest < 1 → written ≡ all
all_written f written all [] e few = sym (append-nil written) ∙ e
all_written f written all (x ∷ xs) e few = absurd (omega (arith, few))
