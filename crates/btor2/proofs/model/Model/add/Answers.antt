-- The model's invariant once an item was added: each part by its lemma.
use Rattle.std.proofs.Common.{◌≡◌, List, ◌∷◌, [], ◌++◌, None, nat_eq, length, sym, ap, ◌∙◌}
use Rattle.std.specs.HashMap.{get}
use Rattle.btor2.specs.declared.item.Item.{Item}
use Rattle.btor2.specs.Items.{is_input, is_state, is_bad, is_constraint}
use Rattle.btor2.specs.Check.{refusal}
use Rattle.btor2.specs.Entries.{entry_of}
use Rattle.btor2.proofs.ElsewhereLemmas.{front-added, few-added}
use Rattle.btor2.proofs.EntryLemmas.{entries-added, sort_fits}
use Rattle.btor2.proofs.PushLemmas.{items-added, parts-added, elsewhere-added, places-added, inits-added, nexts-added}
use Rattle.btor2.proofs.model.Model.add.Goals as goal

pub invariant_of-self-2 : goal.invariant_of-self-2
invariant_of-self-2 c =
    let xs = c.self.inside.items.items in
    let x = c.args.item in
    let ys = c.add_last-2.new.list.items in
    let place = c.in_ok-place.place in
    let known = c.self.invariant in
    let added : ys ≡ xs ++ x ∷ [] = c.add_last-2.ensures ∙ ap (λ (l : List Item). l ++ x ∷ []) c.make_room.ensures.same in
    let at : place ≡ length xs = c.in_ok-place.ensures.answer.0 in
    let accepted : refusal xs x ≡ None = rw c.self.view_is c.requires in
    record {
      well_formed = items-added xs ys x known.well_formed accepted added;
      parts = parts-added xs ys x known.parts c.know_parts.ensures added;
      elsewhere = elsewhere-added xs ys x place (get nat_eq c.make_room.new.elsewhere) (get nat_eq c.add_by_id-self-inside.new.elsewhere) known.well_formed accepted added at (λ id. c.make_room.ensures.kept id ∙ known.elsewhere id) c.add_by_id-self-inside.ensures.elsewhere;
      few = few-added xs ys x place c.self.inside.in_place c.add_by_id-self-inside.result added at known.few c.add_by_id-self-inside.ensures.front;
      front = front-added xs ys x place c.self.inside.in_place c.add_by_id-self-inside.result known.well_formed accepted added at known.front c.add_by_id-self-inside.ensures.front;
      entries = entries-added xs ys x c.self.inside.entries.items c.make_room.new.entries.items c.add_last.new.list.items c.entry_of-entry.result known.well_formed accepted added known.entries c.make_room.ensures.same_entries (c.entry_of-entry.ensures ∙ ap (λ (l : List Item). entry_of l x.body) (sym c.self.view_is)) c.add_last.ensures;
      inputs = places-added is_input xs ys x place c.self.inside.inputs.items c.note.new.inputs.items added at known.inputs c.in_ok-note.ensures.inputs;
      states = places-added is_state xs ys x place c.self.inside.states.items c.note.new.states.items added at known.states c.in_ok-note.ensures.states;
      bads = places-added is_bad xs ys x place c.self.inside.bads.items c.note.new.bads.items added at known.bads c.in_ok-note.ensures.bads;
      constraints = places-added is_constraint xs ys x place c.self.inside.constraints.items c.note.new.constraints.items added at known.constraints c.in_ok-note.ensures.constraints;
      inits = inits-added xs ys x (get nat_eq c.self.inside.inits) (get nat_eq c.note.new.inits) accepted added known.inits c.in_ok-note.ensures.inits;
      nexts = nexts-added xs ys x (get nat_eq c.self.inside.nexts) (get nat_eq c.note.new.nexts) accepted added known.nexts c.in_ok-note.ensures.nexts;
    }

pub entry_of-entry-requires : goal.entry_of-entry-requires
entry_of-entry-requires c = sort_fits c.self.inside.items.items c.args.item (rw c.self.view_is c.requires)
