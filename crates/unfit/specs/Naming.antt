-- The names of the states and of the inputs of a model, and item by item.
use Rattle.std.specs.Prelude.{ℕ, List, [], ◌∷◌, ◌++◌, Option, map, if◌then◌else◌}
use Rattle.btor2.specs.declared.item.Body.{Body}
use Rattle.btor2.specs.declared.item.Item.{Item}
use Rattle.btor2.specs.Items.{is_input, is_state}
use Rattle.btor2.specs.Lists.{of_kind}
use Rattle.unfit.specs.Joined.{Names}

-- the symbols of the states and of the inputs of a list, in file order
abbrev pub names_of : List Item → Names
names_of items = record { states = map (λ x. x.symbol) (of_kind is_state items); inputs = map (λ x. x.symbol) (of_kind is_input items) }

-- those of some items, with one more that has this form and this symbol
abbrev pub named_by : Names → Body → Option (List ℕ) → Names
named_by names b symbol =
    record {
      states = if is_state b then names.states ++ symbol ∷ [] else names.states;
      inputs = if is_input b then names.inputs ++ symbol ∷ [] else names.inputs;
    }

abbrev pub named_with : Names → Item → Names
named_with names x = named_by names x.body x.symbol

-- with more items
abbrev pub all_named : Names → List Item → Names
all_named names [] = names
all_named names (x ∷ xs) = all_named (named_with names x) xs
