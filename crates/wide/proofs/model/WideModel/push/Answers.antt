use Rattle.std.proofs.Common.{◌≡◌, nat_eq, cond, [], ◌∷◌, ◌++◌, Some, None, sym, ap, ap₂, subst, ◌∙◌}
use Rattle.std.specs.HashMap.{get}
use Rattle.std.specs.Option.{option_or}
use Rattle.btor2.specs.Items.{init_for, next_for, init_value, next_value}
use Rattle.wide.specs.declared.constant.Line.TheVariants as line
use Rattle.wide.specs.Entries.{entry_of, entry_at}
use Rattle.wide.specs.Lines.{items_of}
use Rattle.wide.specs.WideModels.{greatest_width, wide_refusal, IsWideModel}
use Rattle.wide.proofs.GrowLemmas.{items_more, model_push, entries_more, inits_more, nexts_more}
use Rattle.wide.proofs.model.WideModel.push.Goals as goal

pub invariant_of-self-2 : goal.invariant_of-self-2
invariant_of-self-2 c =
    let xs = items_of c.self.inside.lines.items in
    let x = c.args.item in
    let known = c.self.invariant in
    let added = items_more c.self.inside.lines.items c.add_line.new.lines.items (line.Item x) (c.add_line.ensures ∙ ap (λ l. l ++ line.Item x ∷ []) c.make_room.ensures.same) in
    let accepted : wide_refusal greatest_width xs x ≡ None = rw c.self.view_is c.in_ok-check.ensures in
    let own : c.entry_of-entry.result ≡ entry_of xs x.body = rw c.self.view_is c.entry_of-entry.ensures in
    record {
      well_formed = subst (IsWideModel greatest_width) (sym added) (model_push greatest_width xs x known.well_formed accepted);
      entries = λ id.
          entries_more greatest_width xs x (get nat_eq c.self.inside.entries) (get nat_eq c.add_entry.new.entries) known.well_formed accepted known.entries
          (λ k. c.add_entry.ensures k ∙ ap₂ (λ e o. cond (nat_eq k x.id) (Some e) o) own (c.make_room.ensures.kept k)) id
          ∙ ap (λ l. entry_at l id) (sym added);
      inits = λ id. inits_more greatest_width xs x (get nat_eq c.self.inside.inits) (get nat_eq c.note.new.inits) accepted known.inits c.in_ok-note.ensures.inits id ∙ ap (λ l. init_value l id) (sym added);
      nexts = λ id. nexts_more greatest_width xs x (get nat_eq c.self.inside.nexts) (get nat_eq c.note.new.nexts) accepted known.nexts c.in_ok-note.ensures.nexts id ∙ ap (λ l. next_value l id) (sym added);
    }
