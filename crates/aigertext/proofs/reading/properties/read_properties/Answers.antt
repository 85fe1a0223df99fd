use Rattle.std.proofs.lemmas.Result.{err_from_is_err_and}
use Rattle.aigertext.specs.Reading.{properties_at}
use Rattle.aigertext.proofs.PassLemmas.{reads_stop, stops_then, stopped}
use Rattle.aigertext.proofs.ReadFrontLemmas.{properties_read}
use Rattle.aigertext.proofs.reading.properties.read_properties.Goals as goal

pub returns-in_err-rest : goal.returns-in_err-rest
unfolding properties_at
returns-in_err-rest c = stopped _ _ _ _ (err_from_is_err_and c.from_residual.result c.from_residual.ensures.1) (reads_stop _ _ _ c.in_err-rest.ensures)

pub returns-in_err-rest-2 : goal.returns-in_err-rest-2
unfolding properties_at
returns-in_err-rest-2 c = stopped _ _ _ _ (err_from_is_err_and c.from_residual-in_err-rest-2.result c.from_residual-in_err-rest-2.ensures.1) (stops_then _ _ _ _ c.in_ok-rest.ensures (reads_stop _ _ _ c.in_err-rest-2.ensures))

pub returns-in_err-rest-3 : goal.returns-in_err-rest-3
unfolding properties_at
returns-in_err-rest-3 c = stopped _ _ _ _ (err_from_is_err_and c.from_residual-in_err-rest-3.result c.from_residual-in_err-rest-3.ensures.1) (stops_then _ _ _ _ c.in_ok-rest.ensures (stops_then _ _ _ _ c.in_ok-rest-2.ensures (reads_stop _ _ _ c.in_err-rest-3.ensures)))

pub returns-in_err-rest-4 : goal.returns-in_err-rest-4
unfolding properties_at
returns-in_err-rest-4 c = stopped _ _ _ _ (err_from_is_err_and c.from_residual-in_err-rest-4.result c.from_residual-in_err-rest-4.ensures.1) (stops_then _ _ _ _ c.in_ok-rest.ensures (stops_then _ _ _ _ c.in_ok-rest-2.ensures (stops_then _ _ _ _ c.in_ok-rest-3.ensures (reads_stop _ _ _ c.in_err-rest-4.ensures))))

pub returns : goal.returns
returns c = properties_read c.args.counts.now c.args.text.now _ _ _ _ _ _ _ _ _ (λ x. x.now) c.read_literals-4.result c.in_ok-rest.ensures c.in_ok-rest-2.ensures c.in_ok-rest-3.ensures c.in_ok-rest-4.ensures c.read_literals-4.ensures
