-- The outputs, bad properties and constraints that a lowering adds to a circuit, each with its name.
use Rattle.std.specs.Prelude.{◌≡◌, ◌≢◌, ℕ, zero, suc, Bool, List, [], ◌∷◌, ◌++◌, length, Option, Some, None}
use Rattle.btor2.specs.declared.item.Item.{Item}
use Rattle.btor2.specs.declared.item.Body.{Body}
use Rattle.btor2.specs.declared.item.Body.TheVariants as body
use Rattle.btor2.specs.Items.{is_bad, is_constraint}
use Rattle.aiger.specs.declared.circuit.Section.{Section}
use Rattle.aiger.specs.declared.circuit.Section.TheVariants as section
use Rattle.aiger.specs.Circuit.{Circuit, Names, net, section_names}
use Rattle.blast.specs.declared.properties.Property.{Property}
use Rattle.blast.specs.declared.properties.Property.TheVariants as property
use Rattle.blast.specs.Leaves.{is_output, bit_name, output_names, bad_names, constraint_names}
use Rattle.blast.specs.Reads.{OutputsRead, BadsRead, ConstraintsRead}
use Rattle.blast.specs.Rows.{row_at}

-- the lines that properties of a kind come from
abbrev pub property_kind : Property → Body → Bool
property_kind property.Output = is_output
property_kind property.Bad = is_bad
property_kind property.Constraint = is_constraint

-- the section that they stand in
abbrev pub property_section : Property → Section
property_section property.Output = section.Output
property_section property.Bad = section.Bad
property_section property.Constraint = section.Constraint

-- the literals that a circuit has of them
abbrev pub literals_of : Property → Circuit → List ℕ
literals_of property.Output c = c.outputs
literals_of property.Bad c = c.bads
literals_of property.Constraint c = c.constraints

-- a circuit with more of them
abbrev pub with_more : Property → Circuit → List ℕ → Circuit
with_more property.Output c literals = record c { outputs = c.outputs ++ literals }
with_more property.Bad c literals = record c { bads = c.bads ++ literals }
with_more property.Constraint c literals = record c { constraints = c.constraints ++ literals }

-- the node of a line of theirs, and none of any other line
abbrev pub property_operand : Property → Body → Option ℕ
property_operand property.Output (body.Output a) = Some a
property_operand property.Bad (body.Bad a) = Some a
property_operand property.Constraint (body.Constraint a) = Some a
property_operand _ _ = None

-- the literals that a line adds: the row of its node, and none for any other line
abbrev pub property_literals : List Item → List (List ℕ) → Property → Body → List ℕ
property_literals items rows p b = row_at items rows (property_operand p b)

-- the name of the property of a bit of a line: the symbol, with the bit's number if it is an output
abbrev pub name_by : Property → List ℕ → ℕ → List ℕ
name_by property.Output symbol bit = bit_name symbol bit
name_by _ symbol bit = symbol

-- the names of so many of them from a bit on: none without a symbol
abbrev pub names_by : Property → Option (List ℕ) → ℕ → ℕ → Names
names_by p symbol bit zero = []
names_by p None bit (suc count) = None ∷ names_by p None (suc bit) count
names_by p (Some s) bit (suc count) = Some (name_by p s bit) ∷ names_by p (Some s) (suc bit) count

-- the names that a line adds: one for each of its literals
abbrev pub property_names : List Item → List (List ℕ) → Property → Item → Names
property_names items rows p x = names_by p x.symbol 0 (length (property_literals items rows p x.body))

-- a circuit with more properties of a kind, which have these names, and else as another
pub record Adds (p : Property) (old : Circuit) (literals : List ℕ) (names : Names) (new : Circuit) : Type 0 where
  pub own : section_names (property_section p) new ≡ section_names (property_section p) old ++ names
  pub others : (t : Section) → property_section p ≢ t → section_names t new ≡ section_names t old
  pub rest : new ≡ record (with_more p old literals) { names = new.names }

-- a circuit with the outputs, the bad properties and the constraints of a model, which have their names, and else as another
pub record TakesProperties (items : List Item) (old new : Circuit) : Type 0 where
  pub outputs : OutputsRead items (net old) items new.outputs
  pub bads : BadsRead items (net old) items new.bads
  pub constraints : ConstraintsRead items (net old) items new.constraints
  pub output_names : section_names section.Output new ≡ output_names items
  pub bad_names : section_names section.Bad new ≡ bad_names items
  pub constraint_names : section_names section.Constraint new ≡ constraint_names items
  pub input_names : section_names section.Input new ≡ section_names section.Input old
  pub latch_names : section_names section.Latch new ≡ section_names section.Latch old
  pub rest : new ≡ record old { outputs = new.outputs; bads = new.bads; constraints = new.constraints; names = new.names }
