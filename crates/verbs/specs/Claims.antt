-- Which bad property is claimed of the circuit of a first file.
use Rattle.std.specs.Prelude.{◌≡◌, ℕ, [], length, Option, Some, None}
use Rattle.aiger.specs.Circuit.{Circuit}

-- the bad property of a circuit that is claimed: the chosen one, and without a choice the only one
abbrev pub IsClaim : Option ℕ → Circuit → ℕ → Type 0
IsClaim (Some k) c claim = claim ≡ k
IsClaim None c claim = (length c.bads ≡ 1) × (claim ≡ 0)

-- a circuit has a bad property that a witness may claim, or no output that was to be one, as before AIGER 1.9
abbrev pub CanBeClaimed : Circuit → Type 0
CanBeClaimed c = c.bads ≡ [] → c.outputs ≡ []
