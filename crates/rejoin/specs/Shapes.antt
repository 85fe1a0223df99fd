-- What a witness needs to know of a model, item by item.
use Rattle.std.specs.Prelude.{ℕ, ◌+◌, ◌&&◌, List, [], ◌∷◌, ◌++◌, Option, Some, None, if◌then◌else◌}
use Rattle.btor2.specs.declared.item.Item.{Item}
use Rattle.btor2.specs.Items.{is_input, is_state, is_bad, is_free}
use Rattle.btor2.specs.Lists.{has_init_without_next}
use Rattle.btor2.specs.Trace.{bits_of}
use Rattle.witness.specs.Texts.{Shape}

-- the shape of some items of a model, with one item more
abbrev pub with_item : List Item → Shape → Item → Shape
with_item items s x =
    record {
      bads = if is_bad x.body then s.bads + 1 else s.bads;
      states = if is_state x.body then s.states ++ bits_of items x.id ∷ [] else s.states;
      free = if is_state x.body then s.free ++ is_free items x.id ∷ [] else s.free;
      inputs = if is_input x.body then s.inputs ++ bits_of items x.id ∷ [] else s.inputs;
    }

-- with more items
abbrev pub with_items : List Item → Shape → List Item → Shape
with_items items s [] = s
with_items items s (x ∷ xs) = with_items items (with_item items s x) xs

-- the id of a state that has an init line and no next line
abbrev pub lacking : List Item → Item → Option ℕ
lacking items x = if is_state x.body && has_init_without_next items x.id then Some x.id else None
