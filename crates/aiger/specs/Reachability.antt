-- Whether a bad property of a circuit can rise ("AIGER 1.9 and Beyond", properties).
use Rattle.std.specs.Prelude.{◌≡◌, ℕ, Bool, true, List, map}
use Rattle.base.specs.Shown.{Shown, rises_within}
use Rattle.base.specs.Literal.{Valuation, literal_value}
use Rattle.aiger.specs.Circuit.{Circuit}
use Rattle.aiger.specs.Trace.{AreInitial, IsCircuitTrace}

-- what a valuation of a circuit shows
abbrev pub circuit_shows : Circuit → Valuation → Shown
circuit_shows c v = record { bads = map (literal_value v) c.bads; constraints = map (literal_value v) c.constraints }

-- a bad property of a circuit can rise: it does so in a trace from initial bits that agree with the resets
pub record CanRiseInCircuit (c : Circuit) (b : ℕ) : Type 0 where
  pub state : List Bool
  pub inputs : List (List Bool)
  pub frames : List Valuation
  pub initial : AreInitial c.latches state
  pub trace : IsCircuitTrace c state inputs frames
  pub rises : rises_within b (map (circuit_shows c) frames) ≡ true
