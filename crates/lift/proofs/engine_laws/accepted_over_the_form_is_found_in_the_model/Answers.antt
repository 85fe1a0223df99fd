use Rattle.std.proofs.Common.{◌+◌}
use Rattle.restore.specs.FormWitness.{form_restored_text}
use Rattle.lift.specs.EngineLifting.{form_lifted_text}
use Rattle.lift.proofs.EngineLemmas.{keeps_either, found_in_model}
use Rattle.lift.proofs.engine_laws.accepted_over_the_form_is_found_in_the_model.Goals as goal

pub returns : goal.returns
returns c named items circuit choice d text lowers form frames accepted =
    let again = c.accepted_over_the_form_is_found_again.ensures circuit choice d text frames form accepted in
    let keeps = keeps_either items circuit (λ t j. c.lifting_keeps_the_verdict.ensures items circuit t j lowers) (λ t j. c.names_keep_the_verdict.ensures items circuit t j lowers) named (form_restored_text circuit choice d text) _ again.accepted in
    record {
      again = again;
      accepted = λ lines.
          found_in_model items circuit (form_restored_text circuit choice d text) (form_lifted_text named items circuit choice d text) (again.last + 1) _ lines again.restored keeps
          (c.exactly_one_judgement.ensures.exists items (form_lifted_text named items circuit choice d text) lowers.well_formed);
    }
