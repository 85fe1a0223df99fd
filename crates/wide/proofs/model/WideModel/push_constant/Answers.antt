use Rattle.std.proofs.Common.{◌≡◌, nat_eq, cond, [], ◌∷◌, ◌++◌, Some, None, sym, ap, ap₂, subst, ◌∙◌}
use Rattle.std.specs.HashMap.{get}
use Rattle.btor2.specs.Items.{init_value, next_value}
use Rattle.wide.specs.declared.constant.Line.TheVariants as line
use Rattle.wide.specs.declared.entries.Entry.TheVariants as kind
use Rattle.wide.specs.Entries.{entry_by, entry_of, entry_at}
use Rattle.wide.specs.Lines.{number_of_digits, constant_item, items_of}
use Rattle.wide.specs.WideModels.{greatest_width, wide_refusal, IsWideModel}
use Rattle.wide.proofs.GrowLemmas.{items_more, model_push, entries_more, inits_more, nexts_more, inits_same, nexts_same, constant_entry_is}
use Rattle.wide.proofs.model.WideModel.push_constant.Goals as goal

pub invariant_of-self-2 : goal.invariant_of-self-2
invariant_of-self-2 c =
    let xs = items_of c.self.inside.lines.items in
    let k = c.args.constant in
    let x = constant_item k in
    let known = c.self.invariant in
    let added = items_more c.self.inside.lines.items c.add_line.new.lines.items (line.Constant k) (c.add_line.ensures ∙ ap (λ l. l ++ line.Constant k ∷ []) c.make_room.ensures.same) in
    let accepted : wide_refusal greatest_width xs x ≡ None = rw c.self.view_is c.in_ok-check_constant.ensures in
    let v = number_of_digits k.number.items in
    let own : c.constant_entry-entry.result ≡ entry_of xs x.body = rw c.self.view_is (c.constant_entry-entry.ensures ∙ ap (entry_by (λ n. kind.Constant n)) c.sort.ensures ∙ constant_entry_is _ k.spelling k.sort k.count v) in
    record {
      well_formed = subst (IsWideModel greatest_width) (sym added) (model_push greatest_width xs x known.well_formed accepted);
      entries = λ id.
          entries_more greatest_width xs x (get nat_eq c.self.inside.entries) (get nat_eq c.add_entry.new.entries) known.well_formed accepted known.entries
          (λ i. c.add_entry.ensures i ∙ ap₂ (λ e o. cond (nat_eq i x.id) (Some e) o) own (c.make_room.ensures.kept i)) id
          ∙ ap (λ l. entry_at l id) (sym added);
      inits = λ id. inits_more greatest_width xs x (get nat_eq c.self.inside.inits) (get nat_eq c.self.inside.inits) accepted known.inits (inits_same k.spelling k.sort k.count v (get nat_eq c.self.inside.inits)) id ∙ ap (λ l. init_value l id) (sym added);
      nexts = λ id. nexts_more greatest_width xs x (get nat_eq c.self.inside.nexts) (get nat_eq c.self.inside.nexts) accepted known.nexts (nexts_same k.spelling k.sort k.count v (get nat_eq c.self.inside.nexts)) id ∙ ap (λ l. next_value l id) (sym added);
    }
