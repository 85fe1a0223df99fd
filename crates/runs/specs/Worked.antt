-- Worked circuits: an AND gate of two inputs, and two latches that exchange their bits.
use Rattle.std.specs.Prelude.{[], ◌∷◌, true}
use Rattle.aiger.specs.declared.circuit.Reset.TheVariants.{One, Free}
use Rattle.base.specs.Literal.{Valuation}
use Rattle.aiger.specs.Circuit.{Circuit}

-- two inputs, their AND gate, and it as an output
abbrev pub and_gate : Circuit
and_gate =
    record {
      inputs = 2;
      latches = [];
      gates = record { rhs0 = 4; rhs1 = 2 } ∷ [];
      outputs = 6 ∷ [];
      bads = [];
      constraints = [];
      justice = [];
      fair = [];
      names = [];
    }

-- two latches, each of which takes the other's bit; the first begins with 1, the second has no initial value
abbrev pub exchange : Circuit
exchange =
    record {
      inputs = 0;
      latches = record { next = 4; reset = One } ∷ record { next = 2; reset = Free } ∷ [];
      gates = [];
      outputs = [];
      bads = [];
      constraints = [];
      justice = [];
      fair = [];
      names = [];
    }

-- each variable is true
abbrev pub all_true : Valuation
all_true k = true
