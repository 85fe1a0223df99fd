-- Gates that are made once: what a sharing maker answers, and what its gates keep ("AIGER 1.9 and Beyond", and-inverter graphs).
use Rattle.std.specs.Prelude.{◌≡◌, ℕ, ◌+◌, ◌*◌, ◌<◌, Bool, ◌&&◌, ◌||◌, ◌==◌, List, All, length, Option, None, Some, position, max, min, if◌then◌else◌}
use Rattle.std.specs.List.{AllPairs}
use Rattle.std.specs.Option.{option_map, option_or}
use Rattle.aiger.specs.declared.circuit.Gate.{Gate}
use Rattle.base.specs.Literal.{Valuation, variable, negation}
use Rattle.aiger.specs.Net.{Net, Satisfies, net_input_bits, latch_bits}
use Rattle.gates.specs.Made.{AreSame}

-- the and of two literals where it needs no gate: false of false and of a literal and its negation, the other one of true, and the one of two equal ones
abbrev pub folded_and : ℕ → ℕ → Option ℕ
folded_and a b =
    if a == 0 || b == 0 || a == negation b then Some 0
    else (if a == 1 || a == b then Some b
    else (if b == 1 then Some a else None))

-- the gate of two operands, in either order: the greater one stands first
abbrev pub gate_of : ℕ → ℕ → Gate
gate_of a b = record { rhs0 = max a b; rhs1 = min a b }

-- whether a gate is that of two operands
abbrev pub is_gate_of : ℕ → ℕ → Gate → Bool
is_gate_of a b g = max a b == g.rhs0 && min a b == g.rhs1

-- the literal of the gate at a place, counted from 0
abbrev pub gate_literal : Net → ℕ → ℕ
gate_literal n place = 2 * (n.inputs + n.latches + place + 1)

-- the and of two literals where it needs no new gate: it is folded, or a gate of the same two stands
abbrev pub standing_and : Net → ℕ → ℕ → Option ℕ
standing_and n a b = option_or (folded_and a b) (option_map (gate_literal n) (position (is_gate_of a b) n.gates))

-- a gate that could not be folded: neither operand is a constant, and they are not of one variable; the greater one stands first
pub record IsNeeded (g : Gate) : Type 0 where
  pub order : g.rhs1 < g.rhs0
  pub no_constant : 1 < g.rhs1
  pub two : ¬ (variable g.rhs0 ≡ variable g.rhs1)

-- gates that are shared: each is needed, and no two have the same operands, in either order
pub record AreShared (gates : List Gate) : Type 0 where
  pub needed : All IsNeeded gates
  pub once : AllPairs (λ g h. ¬ AreSame g.rhs0 g.rhs1 h.rhs0 h.rhs1) gates

-- a valuation of a net with these bits of inputs and latches
pub record HasValuation (n : Net) (inputs latches : List Bool) : Type 0 where
  pub valuation : Valuation
  pub gates : Satisfies n valuation
  pub input_bits_are : net_input_bits n valuation ≡ inputs
  pub latch_bits_are : latch_bits n valuation ≡ latches

-- a net that any bits of inputs and latches have a valuation of
abbrev pub HasValuations : Net → Type 0
HasValuations n = (inputs latches : List Bool) → length inputs ≡ n.inputs → length latches ≡ n.latches → HasValuation n inputs latches
