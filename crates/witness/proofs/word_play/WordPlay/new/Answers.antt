use Rattle.std.proofs.Common.{ap, ◌∙◌, rules}
use Rattle.btor2.specs.Items.{is_input, is_state}
use Rattle.witness.specs.WordValues.{widths_by}
use Rattle.witness.proofs.ShapeLemmas.{states_have_bits, inputs_have_bits, each_has_width, widths_at_places, each_inside}
use Rattle.witness.proofs.word_play.WordPlay.new.Goals as goal

pub widths_at-requires-clause-there : goal.widths_at-requires-clause-there
widths_at-requires-clause-there c = rw c.states.ensures (each_inside is_state c.args.model.now)

pub widths_at-requires-clause-some : goal.widths_at-requires-clause-some
widths_at-requires-clause-some c = rw c.states.ensures (each_has_width is_state states_have_bits c.args.model.now c.items-items.ensures.well_formed)

pub widths_at-requires-2-clause-there : goal.widths_at-requires-2-clause-there
widths_at-requires-2-clause-there c = rw c.inputs.ensures (each_inside is_input c.args.model.now)

pub widths_at-requires-2-clause-some : goal.widths_at-requires-2-clause-some
widths_at-requires-2-clause-some c = rw c.inputs.ensures (each_has_width is_input inputs_have_bits c.args.model.now c.items-items.ensures.well_formed)

pub invariant_of-result : goal.invariant_of-result
invariant_of-result c = (
  search rules,
  search rules,
  search rules,
  search rules,
  c.in_ok-state_widths.ensures.ok ∙ (ap (widths_by c.args.model.now) c.states.ensures ∙ widths_at_places is_state c.args.model.now c.items-items.ensures.well_formed),
  c.in_ok-input_widths.ensures.ok ∙ (ap (widths_by c.args.model.now) c.inputs.ensures ∙ widths_at_places is_input c.args.model.now c.items-items.ensures.well_formed),
)
