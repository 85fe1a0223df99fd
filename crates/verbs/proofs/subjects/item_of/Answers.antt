use Rattle.std.proofs.Common.{sym, ap, ◌∙◌}
use Rattle.std.specs.Prelude.{Option, ℕ, option_and_then, slice_get}
use Rattle.verbs.proofs.SubjectLemmas.{numbered}
use Rattle.verbs.proofs.subjects.item_of.Goals as goal

pub returns-in-Some : goal.returns-in-Some
returns-in-Some c = λ test is.
    rw c.items.ensures.items at c.entry_at.ensures
    ∙ ap (λ (o : Option ℕ). option_and_then (slice_get c.args.model.now) o) c.in-Some.ensures
    ∙ sym (numbered test c.args.model.now c.args.list.now c.args.number is)

pub returns-in-None : goal.returns-in-None
returns-in-None c = λ test is.
    ap (λ (o : Option ℕ). option_and_then (slice_get c.args.model.now) o) c.in-None.ensures
    ∙ sym (numbered test c.args.model.now c.args.list.now c.args.number is)
