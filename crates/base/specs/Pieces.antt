-- What calls that put pieces of a text into an outbox do. `Rattle.base.specs.Device` has the words for what a sink is given.
use Rattle.std.specs.Prelude.{ℕ, List, ◌++◌, Option, Result, MatchResult}
use Rattle.base.specs.Device.{Sent, AppendsBeginning}

-- a text was put behind what was kept: the front of both has gone out, and the rest is kept; at a fault a beginning of both has gone out
abbrev pub Puts : {T E : Type 0} → Result T E → Option (List ℕ) → Option (List ℕ) → List ℕ → List ℕ → List ℕ → Type 0
Puts r old new kept left text =
    MatchResult r (λ _. Sent old new (kept ++ text) left) (λ _. AppendsBeginning old new (kept ++ text))
