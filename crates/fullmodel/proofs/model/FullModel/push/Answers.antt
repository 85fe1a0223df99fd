use Rattle.std.proofs.Common.{◌≡◌, ℕ, nat_eq, cond, [], ◌∷◌, ◌++◌, map, Some, None, option_map, sym, ap, ap₂, subst, ◌∙◌}
use Rattle.std.specs.HashMap.{get, keys}
use Rattle.full.specs.Lines.{FullLine, init_of, next_of}
use Rattle.fullmodel.specs.Lines.{line_of, lines_in, operand_of}
use Rattle.fullmodel.specs.Entries.{entry_of, entry_at}
use Rattle.fullmodel.specs.FullModels.{line_refusal, IsAccepted}
use Rattle.fullmodel.proofs.RowLemmas.{accepted_push}
use Rattle.fullmodel.proofs.GrowLemmas.{no_entry, entries_more, inits_more, nexts_more, lines_more, forms_more, ids_more}
use Rattle.fullmodel.proofs.model.FullModel.push.Goals as goal

pub add_entry-requires-clause-new : goal.add_entry-requires-clause-new
add_entry-requires-clause-new c =
    let xs = lines_in c.self.inside.lines.items in
    let x = line_of c.args.line in
    let accepted : line_refusal xs x ≡ None = rw c.self.view_is c.in_ok-check.ensures in
    c.make_room.ensures.kept x.id ∙ c.self.invariant.entries x.id ∙ no_entry xs x accepted

pub invariant_of-self-2 : goal.invariant_of-self-2
invariant_of-self-2 c =
    let xs = lines_in c.self.inside.lines.items in
    let x = line_of c.args.line in
    let known = c.self.invariant in
    let is = c.add_line.ensures ∙ ap (λ l. l ++ c.args.line ∷ []) c.make_room.ensures.same in
    let added = lines_more c.self.inside.lines.items c.add_line.new.lines.items c.args.line is in
    let accepted : line_refusal xs x ≡ None = rw c.self.view_is c.in_ok-check.ensures in
    let own : c.entry_of-entry.result ≡ entry_of xs x.says = rw c.self.view_is c.entry_of-entry.ensures in
    record {
      accepted = subst IsAccepted (sym added) (accepted_push xs x known.accepted accepted);
      forms = forms_more c.self.inside.lines.items c.add_line.new.lines.items c.args.line is known.forms c.requires;
      entries = λ id.
          entries_more xs x (get nat_eq c.self.inside.entries) (get nat_eq c.add_entry.new.entries) known.accepted accepted known.entries
          (λ k. c.add_entry.ensures.added k ∙ ap₂ (λ e o. cond (nat_eq k x.id) (Some e) o) own (c.make_room.ensures.kept k)) id
          ∙ ap (λ l. entry_at l id) (sym added);
      ids = c.add_entry.ensures.last ∙ ap (λ ks. ks ++ x.id ∷ []) (c.make_room.ensures.keys ∙ known.ids) ∙ sym (ids_more xs x) ∙ ap (λ l. map (λ (y : FullLine). y.id) l) (sym added);
      inits = λ id.
          inits_more xs x (λ k. option_map operand_of (get nat_eq c.self.inside.inits k)) (λ k. option_map operand_of (get nat_eq c.note.new.inits k)) accepted known.inits c.in_ok-note.ensures.inits id
          ∙ ap (λ l. init_of l id) (sym added);
      nexts = λ id.
          nexts_more xs x (λ k. option_map operand_of (get nat_eq c.self.inside.nexts k)) (λ k. option_map operand_of (get nat_eq c.note.new.nexts k)) accepted known.nexts c.in_ok-note.ensures.nexts id
          ∙ ap (λ l. next_of l id) (sym added);
    }
