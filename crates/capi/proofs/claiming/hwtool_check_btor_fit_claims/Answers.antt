use Rattle.std.proofs.Common.{arith, sym}
use Rattle.capi.proofs.JudgedLemmas.{fills, judges_whole_for, needs}
use Rattle.capi.proofs.StopLemmas.{stopped_first}
use Rattle.capi.proofs.claiming.hwtool_check_btor_fit_claims.Goals as goal

pub returns-in-Ok-clause-done : goal.returns-in-Ok-clause-done
returns-in-Ok-clause-done c = λ is. fills
    (λ list told. judges_whole_for c.args.chosen c.args.bad c.args.model.now c.args.witness.now _ c.in-Ok.judged c.of_outcome-told.result c.tell_claims.new.verdict list
    c.decimals_are_numbers.ensures.read c.ranges.bad.fits c.word_asked-word.ensures c.in-Ok.ensures.judged c.of_outcome-told.ensures (c.tell_claims.ensures.verdict (omega (arith, is))) told)
    (c.tell_claims.ensures.done is)

pub returns-in-Ok-clause-small : goal.returns-in-Ok-clause-small
returns-in-Ok-clause-small c = λ is. needs
    (λ list told. judges_whole_for c.args.chosen c.args.bad c.args.model.now c.args.witness.now _ c.in-Ok.judged c.of_outcome-told.result c.tell_claims.new.verdict list
    c.decimals_are_numbers.ensures.read c.ranges.bad.fits c.word_asked-word.ensures c.in-Ok.ensures.judged c.of_outcome-told.ensures (c.tell_claims.ensures.verdict (omega (arith, is))) told)
    (c.tell_claims.ensures.small is)

pub returns-in-Err-clause-stops : goal.returns-in-Err-clause-stops
returns-in-Err-clause-stops c = rw (sym c.word_asked-word.ensures) (λ _. stopped_first c.in-Err.against c.tell.ensures.tells c.in-Err.ensures.refused c.in-Err.ensures.ends)
