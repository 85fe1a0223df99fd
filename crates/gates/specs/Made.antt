-- What a gate maker does to the gates that it has made, and what literals mean in every valuation that satisfies them ("AIGER 1.9 and Beyond", and-inverter graphs).
use Rattle.std.specs.Prelude.{◌≡◌, ℕ, ◌+◌, ◌<◌, ◌≤◌, Bool, ◌&&◌, List, ◌++◌, length, map, All, ◌⊎◌}
use Rattle.base.specs.Word.{word}
use Rattle.aiger.specs.declared.circuit.Gate.{Gate}
use Rattle.base.specs.Literal.{Valuation, literal_value}
use Rattle.aiger.specs.Limits.{greatest_count}
use Rattle.aiger.specs.Circuit.{Circuit, fresh_circuit}
use Rattle.aiger.specs.Net.{Net, variables, IsDefined, Satisfies}
use Rattle.gates.specs.declared.fault.GateFault.{GateFault}
use Rattle.gates.specs.declared.fault.GateFault.TheVariants as fault

-- a later net: the same inputs and latches, and at most so many gates more, behind the old ones
pub record Grows (old new : Net) (most : ℕ) : Type 0 where
  pub inputs : new.inputs ≡ old.inputs
  pub latches : new.latches ≡ old.latches
  pub gates : (more : List Gate) × (new.gates ≡ old.gates ++ more) × (length more ≤ most)

-- a literal that is the and of two, made with at most one gate more
pub record MakesAnd (old new : Net) (a b l : ℕ) : Type 0 where
  pub grows : Grows old new 1
  pub defined : IsDefined new l
  pub means : (v : Valuation) → Satisfies new v → literal_value v l ≡ (literal_value v a && literal_value v b)

-- a literal that is true where `meaning` says, made with at most so many gates more
pub record MakesLiteral (old new : Net) (most : ℕ) (meaning : Valuation → Bool) (l : ℕ) : Type 0 where
  pub grows : Grows old new most
  pub defined : IsDefined new l
  pub means : (v : Valuation) → Satisfies new v → literal_value v l ≡ meaning v

-- the word that literals read as in a valuation, the lowest bit first
abbrev pub word_value : Valuation → List ℕ → ℕ
word_value v bits = word (map (literal_value v) bits)

-- the bits of a word of a width, made with at most so many gates more; in a valuation that satisfies the gates they read as what `meaning` says
pub record MakesWord (old new : Net) (most width : ℕ) (meaning : Valuation → ℕ) (bits : List ℕ) : Type 0 where
  pub grows : Grows old new most
  pub wide : length bits ≡ width
  pub defined : All (IsDefined new) bits
  pub means : (v : Valuation) → Satisfies new v → word_value v bits ≡ meaning v

-- a refused maker keeps the gates made so far; it says that the circuit is too big only where so many gates more may not fit
pub record RefusesGate (old new : Net) (most : ℕ) (e : GateFault) : Type 0 where
  pub grows : Grows old new most
  pub too_big : e ≡ fault.TooBig → greatest_count < variables old + most

-- the circuit of a net, and nothing else
abbrev pub gates_only : Net → Circuit
gates_only n = record (fresh_circuit n.inputs n.latches) { gates = n.gates }

-- two literals are two others, in either order
abbrev pub AreSame : ℕ → ℕ → ℕ → ℕ → Type 0
AreSame a b x y = ((x ≡ a) × (y ≡ b)) ⊎ ((x ≡ b) × (y ≡ a))
