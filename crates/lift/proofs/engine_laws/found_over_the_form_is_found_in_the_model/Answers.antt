use Rattle.std.proofs.Common.{◌+◌}
use Rattle.restore.specs.Restored.{restored_text}
use Rattle.lift.specs.EngineLifting.{engine_lifted_text}
use Rattle.lift.proofs.EngineLemmas.{keeps_either, found_in_model}
use Rattle.lift.proofs.engine_laws.found_over_the_form_is_found_in_the_model.Goals as goal

pub returns : goal.returns
returns c named items circuit k text lowers there choice d given ws n form has is few trace at lines =
    let accepted = c.restored_text_is_accepted.ensures circuit choice k d text given ws n form has there is few trace at in
    let keeps = keeps_either items circuit (λ t j. c.lifting_keeps_the_verdict.ensures items circuit t j lowers) (λ t j. c.names_keep_the_verdict.ensures items circuit t j lowers) named (restored_text circuit k text) _ accepted in
    found_in_model items circuit (restored_text circuit k text) (engine_lifted_text named items circuit k text) (n + 1) _ lines (c.restored_text_says_a_witness.ensures circuit k text given there is few) keeps
    (c.exactly_one_judgement.ensures.exists items (engine_lifted_text named items circuit k text) lowers.well_formed)
