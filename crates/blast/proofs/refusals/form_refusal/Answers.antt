use Rattle.std.proofs.Common.{◌+◌, cond, take, sym, ap, ◌∙◌, arith}
use Rattle.std.proofs.lemmas.List.{length-take}
use Rattle.btor2.specs.Items.{is_state}
use Rattle.btor2.proofs.ModelLemmas.{few_items}
use Rattle.blast.specs.Refusal.{form_refusal}
use Rattle.blast.proofs.NodeRows.{length-places, states_more}
use Rattle.blast.proofs.RefusalLemmas.{refusal_here, refusal_passed}
use Rattle.blast.proofs.refusals.form_refusal.Goals as goal

pub returns-then-is_some : goal.returns-then-is_some
returns-then-is_some c =
    refusal_here c.args.model.now c.loop-place.place c.item_at-item.result.now c.item_refusal-refused.result (form_refusal c.args.model.now) (rw c.items-items.ensures.items at c.item_at-item.ensures) c.item_refusal-refused.ensures c.loop-place.invariant.rest
    (sym c.is_some.ensures ∙ c.if-is_some.true)

pub count_state-states-requires : goal.count_state-states-requires
count_state-states-requires c =
    omega
    (arith, c.loop-place.invariant.states, length-places is_state 0 (take c.loop-place.place c.args.model.now), length-take c.loop-place.place c.args.model.now, few_items c.args.model.now c.items-items.ensures.well_formed)

pub loop-place-preserved : goal.loop-place-preserved
loop-place-preserved c =
    record {
      states = c.count_state-states.ensures ∙ ap (λ n. n + cond (is_state c.item_at-item.result.now.body) 1 0) c.loop-place.invariant.states
          ∙ sym (states_more c.args.model.now c.loop-place.place c.item_at-item.result.now (rw c.items-items.ensures.items at c.item_at-item.ensures));
      rest = refusal_passed c.args.model.now c.loop-place.place c.item_at-item.result.now c.item_refusal-refused.result (form_refusal c.args.model.now) (rw c.items-items.ensures.items at c.item_at-item.ensures) c.item_refusal-refused.ensures
          c.loop-place.invariant.rest (sym c.is_some.ensures ∙ c.if-is_some.false);
    }
