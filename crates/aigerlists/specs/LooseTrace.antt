-- What the lists of a file say of its variables by name, and what the file and its circuit show in a frame ("AIGER 1.9 and Beyond", semantics).
use Rattle.std.specs.Prelude.{◌≡◌, Bool, ◌&&◌, List, [], ◌∷◌, map, All}
use Rattle.std.specs.List.{AllZip}
use Rattle.aigerlists.specs.declared.loose.GateLine.{GateLine}
use Rattle.base.specs.Literal.{Valuation, variable, literal_value}
use Rattle.aiger.specs.Net.{latch_bits}
use Rattle.aiger.specs.Circuit.{Circuit, net}
use Rattle.aigerlists.specs.Loose.{Loose, latch_variable, gate_variable}

-- a gate's variable is true exactly when both its operands are
abbrev pub HoldsOf : Valuation → GateLine → Type 0
HoldsOf v line = v (gate_variable line) ≡ (literal_value v line.rhs0 && literal_value v line.rhs1)

-- a frame from these latch bits and input bits: a valuation of the file's own variables that satisfies its gates and has them
pub record IsLooseFrame (l : Loose) (state : List Bool) (input : List Bool) (v : Valuation) : Type 0 where
  pub gates : All (HoldsOf v) l.gates
  pub inputs : map (λ lit. v (variable lit)) l.inputs ≡ input
  pub latches : map (λ line. v (latch_variable line)) l.latches ≡ state

-- the latches' bits in the frame after v: those of their next literals
abbrev pub loose_next_state : Loose → Valuation → List Bool
loose_next_state l v = map (λ line. literal_value v line.next) l.latches

-- a trace: as many frames as input frames, each from the state that the one before leaves
abbrev pub IsLooseTrace : Loose → List Bool → List (List Bool) → List Valuation → Type 0
IsLooseTrace l state [] [] = Unit {0}
IsLooseTrace l state [] (v ∷ vs) = ⊥
IsLooseTrace l state (input ∷ inputs) [] = ⊥
IsLooseTrace l state (input ∷ inputs) (v ∷ vs) =
    IsLooseFrame l state input v × IsLooseTrace l (loose_next_state l v) inputs vs

-- a file and a circuit show the same latches, outputs, bad properties and constraints
pub record ShowsSameAsFile (l : Loose) (c : Circuit) (v : Valuation) (w : Valuation) : Type 0 where
  pub latches : map (λ line. v (latch_variable line)) l.latches ≡ latch_bits (net c) w
  pub outputs : map (literal_value v) l.outputs ≡ map (literal_value w) c.outputs
  pub bads : map (literal_value v) l.bads ≡ map (literal_value w) c.bads
  pub constraints : map (literal_value v) l.constraints ≡ map (literal_value w) c.constraints

-- as many frames, and the same in each
abbrev pub AllShowSame : Loose → Circuit → List Valuation → List Valuation → Type 0
AllShowSame l c vs ws = AllZip (ShowsSameAsFile l c) vs ws
