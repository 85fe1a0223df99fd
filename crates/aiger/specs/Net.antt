-- Gates over inputs and latches, and what satisfies them ("AIGER 1.9 and Beyond", and-inverter graphs).
use Rattle.std.specs.Prelude.{◌≡◌, ℕ, zero, suc, ◌+◌, ◌*◌, ◌<◌, ◌≤◌, Bool, ◌&&◌, List, [], ◌∷◌, length}
use Rattle.base.specs.Literal.{Valuation, variable, literal_value}
use Rattle.aiger.specs.declared.circuit.Gate.{Gate}

-- the gates over so many inputs and latches: variables are numbered inputs first, then latches, then gates
pub record Net : Type 0 where
  pub inputs : ℕ
  pub latches : ℕ
  pub gates : List Gate

-- how many variables there are, and so the greatest one
abbrev pub variables : Net → ℕ
variables n = n.inputs + n.latches + length n.gates

-- a literal is defined: its variable is 0 or one of the net
abbrev pub IsDefined : Net → ℕ → Type 0
IsDefined n l = variable l ≤ variables n

-- each gate's variable, from a first one on, is true exactly when both its operands are
abbrev pub SatisfiesFrom : ℕ → List Gate → Valuation → Type 0
SatisfiesFrom first [] v = Unit {0}
SatisfiesFrom first (g ∷ gs) v =
    (v first ≡ (literal_value v g.rhs0 && literal_value v g.rhs1)) × SatisfiesFrom (suc first) gs v

-- a valuation satisfies the gates
abbrev pub Satisfies : Net → Valuation → Type 0
Satisfies n v = SatisfiesFrom (suc (n.inputs + n.latches)) n.gates v

-- each gate, from a first variable on, has operands below it, the greater one first
abbrev pub AreOrderedFrom : ℕ → List Gate → Type 0
AreOrderedFrom first [] = Unit {0}
AreOrderedFrom first (g ∷ gs) =
    (g.rhs0 < 2 * first) × (g.rhs1 ≤ g.rhs0) × AreOrderedFrom (suc first) gs

abbrev pub AreOrdered : Net → Type 0
AreOrdered n = AreOrderedFrom (suc (n.inputs + n.latches)) n.gates

-- the bits of so many variables from a first one on
abbrev pub bits_from : ℕ → ℕ → Valuation → List Bool
bits_from first zero v = []
bits_from first (suc count) v = v first ∷ bits_from (suc first) count v

-- the bits of the inputs, and of the latches
abbrev pub net_input_bits : Net → Valuation → List Bool
net_input_bits n v = bits_from 1 n.inputs v

abbrev pub latch_bits : Net → Valuation → List Bool
latch_bits n v = bits_from (suc n.inputs) n.latches v
