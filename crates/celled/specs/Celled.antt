-- A list of wide items whose arrays are words, and one in which each array has a leaf for each of its cells (SMT-LIB, theory of arrays; cell i of n bits is the
-- bits n * i to n * i + n - 1 of the word).
use Rattle.std.specs.Prelude.{◌≡◌, ℕ, ◌*◌, ◌^◌, List, flat_map, None}
use Rattle.std.specs.List.{AllByRecursion, AllZip}
use Rattle.btor2.specs.declared.item.Item.{Item}
use Rattle.btor2.specs.Items.{is_bad, is_constraint}
use Rattle.btor2.specs.Lists.{first_init_without_next}
use Rattle.btor2.specs.Trace.{bits_of}
use Rattle.fit.specs.Fitting.{Layout, is_output, IsFittingOf}
use Rattle.fitting.specs.Models.{input_ids, state_ids}
use Rattle.fitting.specs.Names.{names_of}
use Rattle.writeout.specs.Faults.{NoneIsLiveItem}
use Rattle.celled.specs.Names.{CellsAreNamed}

-- a word of so many bits is that of a power of two of cells of so many bits
abbrev pub IsWordOfCells : ℕ → ℕ → Type 0
IsWordOfCells bits cell = (k : ℕ) × (bits ≡ 2 ^ k * cell)

-- the cells of the leaves with some ids
abbrev pub AreCells : List Item → List ℕ → List ℕ → Type 0
AreCells wide ids cells = AllZip (λ id n. IsWordOfCells (bits_of wide id) n) ids cells

-- the pieces of a node have so many bits each
abbrev pub HasCells : Layout → List Item → ℕ → ℕ → Type 0
HasCells layout celled id n = AllByRecursion (λ p. bits_of celled p ≡ n) (layout id)

-- A list is fitted by some layout into one in which the pieces of each leaf are its cells, which have so many bits as is given for the inputs, and for the states,
-- in file order. They stand in the leaf's place and have its name with their index; bad properties, constraints and outputs have their own. A line of justice or
-- of fairness is there, and a state with an init line and no next line, only where one was.
pub record IsCelledOf (wide : List Item) (inputs states : List ℕ) (celled : List Item) : Type 0 where
  pub layout : Layout
  pub fits : IsFittingOf wide layout celled
  pub input_leaves : flat_map layout (input_ids wide) ≡ input_ids celled
  pub state_leaves : flat_map layout (state_ids wide) ≡ state_ids celled
  pub input_cells : AllZip (HasCells layout celled) (input_ids wide) inputs
  pub state_cells : AllZip (HasCells layout celled) (state_ids wide) states
  pub leaf_names : AllByRecursion (CellsAreNamed layout celled) wide
  pub bad_names : names_of is_bad wide ≡ names_of is_bad celled
  pub constraint_names : names_of is_constraint wide ≡ names_of is_constraint celled
  pub output_names : names_of is_output wide ≡ names_of is_output celled
  pub forms : NoneIsLiveItem wide → NoneIsLiveItem celled
  pub nexts : first_init_without_next wide wide ≡ None → first_init_without_next celled celled ≡ None
