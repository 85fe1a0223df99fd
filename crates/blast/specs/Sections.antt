-- The names that the leaves of a model give the positions of its circuit, kind by kind, and circuits that take them.
use Rattle.std.specs.Prelude.{◌≡◌, ◌≢◌, List, [], if◌then◌else◌}
use Rattle.btor2.specs.declared.item.Item.{Item}
use Rattle.btor2.specs.declared.leaves.Leaves.{Leaves}
use Rattle.btor2.specs.declared.leaves.Leaves.TheVariants as leaves
use Rattle.btor2.specs.Leaves.{kind_of}
use Rattle.aiger.specs.declared.circuit.Section.{Section}
use Rattle.aiger.specs.declared.circuit.Section.TheVariants as section
use Rattle.aiger.specs.Circuit.{Circuit, Names, section_names}
use Rattle.blast.specs.Leaves.{given_by_kind, leaf_names, input_names, state_names}

-- the section in which the positions of leaves of a kind stand: those of free states behind those of all inputs
abbrev pub section_of : Leaves → Section
section_of leaves.Inputs = section.Input
section_of leaves.Free = section.Input
section_of leaves.Carried = section.Latch

-- their names
abbrev pub part_names : List Item → Leaves → Names
part_names items l = given_by_kind (kind_of items l) (leaf_names items) items

-- the names of an item, and none where it is no leaf of the kind
abbrev pub names_given : List Item → Leaves → Item → Names
names_given items l x = if kind_of items l x then leaf_names items x else []

-- a circuit that has these names in one section, and else is as another
pub record Renames (s : Section) (old : Circuit) (names : Names) (new : Circuit) : Type 0 where
  pub own : section_names s new ≡ names
  pub others : (t : Section) → s ≢ t → section_names t new ≡ section_names t old
  pub rest : new ≡ record old { names = new.names }

-- a circuit that has the names of the inputs and states of a model, and but for names is as another
pub record TakesNames (items : List Item) (old new : Circuit) : Type 0 where
  pub inputs : section_names section.Input new ≡ input_names items
  pub latches : section_names section.Latch new ≡ state_names items
  pub rest : new ≡ record old { names = new.names }
