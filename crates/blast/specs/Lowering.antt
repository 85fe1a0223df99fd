-- A circuit lowers a model (the profile of this project, over the traces of both formats).
use Rattle.std.specs.Prelude.{◌≡◌, ◌≤◌, List, [], length, map}
use Rattle.std.specs.List.{AllZip, AllByRecursion}
use Rattle.btor2.specs.declared.item.Item.{Item}
use Rattle.btor2.specs.Check.{IsWellFormed}
use Rattle.btor2.specs.Trace.{Frame, IsInitial, IsTrace, IsInput}
use Rattle.btor2.specs.Reachability.{model_shows}
use Rattle.base.specs.Literal.{Valuation, literal_value}
use Rattle.aiger.specs.declared.circuit.Section.TheVariants as section
use Rattle.aiger.specs.Circuit.{Circuit, IsCircuit, section_names}
use Rattle.aiger.specs.Trace.{IsCircuitTrace}
use Rattle.aiger.specs.Reachability.{circuit_shows}
use Rattle.blast.specs.Leaves.{input_bits, state_bits, input_names, state_names, output_names, bad_names, constraint_names, state_resets, output_bits}
use Rattle.blast.specs.Cost.{cost, given_width}
use Rattle.blast.specs.Refusal.{IsOfProfile}

-- a frame of the model and a valuation of the circuit show the same output bits, bad properties and constraints
pub record ShowsSame (items : List Item) (c : Circuit) (f : Frame) (v : Valuation) : Type 0 where
  pub outputs : map (literal_value v) c.outputs ≡ output_bits items f
  pub properties : circuit_shows c v ≡ model_shows items f

-- a circuit lowers a model: its inputs are the bits of the words that are given in each frame and its latches the bits of those that are carried, and under the same words both show the same output bits, bad properties and constraints in every frame
pub record Lowers (items : List Item) (c : Circuit) : Type 0 where
  -- the model is one of the profile, and the circuit is one: its gates are in order, and every literal is of a variable that is there
  pub well_formed : IsWellFormed items
  pub of_profile : IsOfProfile items
  pub circuit : IsCircuit c
  -- inputs are the bits of the inputs and then of the free states, latches those of the other states, in file order, the lowest first; names and resets are theirs
  pub inputs : c.inputs ≡ given_width items
  pub input_names : section_names section.Input c ≡ input_names items
  pub latch_names : section_names section.Latch c ≡ state_names items
  pub resets : map (λ latch. latch.reset) c.latches ≡ state_resets items
  -- outputs are the bits of the output lines in file order, the lowest first; names are theirs
  pub output_names : section_names section.Output c ≡ output_names items
  pub bad_names : section_names section.Bad c ≡ bad_names items
  pub constraint_names : section_names section.Constraint c ≡ constraint_names items
  -- there is no justice and no fairness
  pub no_justice : c.justice ≡ []
  pub no_fair : c.fair ≡ []
  -- there are at most the stated number of gates
  pub few_gates : length c.gates ≤ cost items
  -- from all initial words and under all given words, the two traces from the same bits show the same in every frame
  pub frames : (state : Frame) (inputs : List Frame) → IsInitial items state → AllByRecursion (IsInput items) inputs
      → (fs : List Frame) → IsTrace items state inputs fs
      → (vs : List Valuation) → IsCircuitTrace c (state_bits items state) (map (input_bits items) inputs) vs
      → AllZip (ShowsSame items c) fs vs
