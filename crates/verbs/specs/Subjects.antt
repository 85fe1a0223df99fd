-- The lines of a model by the numbers by which judgements tell them.
use Rattle.std.specs.Prelude.{ℕ, Bool, List, length, Option, option_map, slice_get}
use Rattle.btor2.specs.declared.item.Item.{Item}
use Rattle.btor2.specs.declared.item.Body.{Body}
use Rattle.btor2.specs.Items.{is_bad, is_constraint, is_input, is_state}
use Rattle.btor2.specs.Lists.{of_kind, places}
use Rattle.full.specs.Lines.{FullLine, lines_of}
use Rattle.verbs.specs.declared.given.GivenModel.{GivenModel}
use Rattle.verbs.specs.declared.given.GivenModel.TheVariants as given_model
use Rattle.verbs.specs.declared.subjects.Lines.{Lines}
use Rattle.verbs.specs.declared.subjects.Lines.TheVariants as lines
use Rattle.verbs.specs.declared.subjects.Counts.{Counts}
use Rattle.verbs.specs.declared.subjects.Named.{Named}
use Rattle.verbs.specs.declared.whole_model.Kind.{Kind}
use Rattle.verbs.specs.declared.whole_model.Kind.TheVariants as kind

-- the item with a number among those of a kind, in file order
abbrev pub numbered_item : (Body → Bool) → List Item → ℕ → Option Item
numbered_item test items k = slice_get (of_kind test items) k

-- the same of a model of the whole language
abbrev pub numbered_line : (Body → Bool) → List FullLine → ℕ → Option FullLine
numbered_line test full k = slice_get (lines_of test full) k

-- which forms are of a kind
abbrev pub test_of : Kind → Body → Bool
test_of kind.Bad = is_bad
test_of kind.Constraint = is_constraint
test_of kind.State = is_state
test_of kind.Input = is_input

-- ---- what names a line

-- its id and its symbol
pub record Name : Type 0 where
  pub id : ℕ
  pub symbol : Option (List ℕ)

abbrev pub name_of : Named → Name
name_of n = record { id = n.id; symbol = n.symbol.now }

abbrev pub item_name : Item → Name
item_name x = record { id = x.id; symbol = x.symbol }

abbrev pub line_name : FullLine → Name
line_name x = record { id = x.id; symbol = x.symbol }

-- what names the bad property, the constraint and the state with a number
pub record Told : Type 0 where
  pub bad : ℕ → Option Name
  pub constraint : ℕ → Option Name
  pub state : ℕ → Option Name

-- of a model of the profile, and of one of the whole language
abbrev pub model_told : List Item → Told
model_told items = record {
  bad = λ k. option_map item_name (numbered_item is_bad items k);
  constraint = λ k. option_map item_name (numbered_item is_constraint items k);
  state = λ k. option_map item_name (numbered_item is_state items k);
}

abbrev pub whole_told : List FullLine → Told
whole_told full = record {
  bad = λ k. option_map line_name (numbered_line is_bad full k);
  constraint = λ k. option_map line_name (numbered_line is_constraint full k);
  state = λ k. option_map line_name (numbered_line is_state full k);
}

abbrev pub lines_told : Lines → Told
lines_told (lines.Profile m) = model_told m.now
lines_told (lines.Whole m) = whole_told m.now

abbrev pub given_told : GivenModel → Told
given_told (given_model.Profile items) = model_told items
given_told (given_model.Whole full) = whole_told full

-- how many lines there are, and how many of some kinds
abbrev pub model_counts : List Item → Counts
model_counts items = record {
  lines = length items;
  inputs = length (places is_input 0 items);
  states = length (places is_state 0 items);
  bads = length (places is_bad 0 items);
  constraints = length (places is_constraint 0 items);
}

abbrev pub whole_counts : List FullLine → Counts
whole_counts full = record {
  lines = length full;
  inputs = length (lines_of is_input full);
  states = length (lines_of is_state full);
  bads = length (lines_of is_bad full);
  constraints = length (lines_of is_constraint full);
}

abbrev pub counts_of : Lines → Counts
counts_of (lines.Profile m) = model_counts m.now
counts_of (lines.Whole m) = whole_counts m.now
