-- What was taken of a source, piece by piece.
use Rattle.std.specs.Prelude.{◌≡◌, ℕ, Bool, true, false, List, ◌++◌, Option, Result, Ok, Err}
use Rattle.std.specs.Io.KnownBytes.{Consumes}
use Rattle.base.specs.Device.{HasRisen}
use Rattle.base.specs.declared.takers.TakingFault.{TakingFault}
use Rattle.base.specs.declared.takers.TakingFault.TheVariants as fault

-- the bytes that a source gave were taken: with an output, a taker stands for them behind what it stood for
pub record TakesFront {V O T : Type 0} (Stands : V → O → T → List ℕ → Type 0) (source source' : Option (List ℕ)) (o o' : O) (before after : T) : Type 0 where
  pub front : List ℕ
  pub consumes : Consumes source source' front
  pub takes : (over : V) (text : List ℕ) → Stands over o before text → Stands over o' after (text ++ front)

-- why reading stopped: the taker is done; or it is not, and the source has failed, or is at its end
abbrev pub Stops : Result Unit TakingFault → Bool → ℕ → ℕ → Type 0
Stops (Ok x) done old new = (done ≡ false) × (new ≡ old)
Stops (Err fault.Source) done old new = (done ≡ false) × HasRisen old new
Stops (Err fault.Done) done old new = (done ≡ true) × (new ≡ old)
