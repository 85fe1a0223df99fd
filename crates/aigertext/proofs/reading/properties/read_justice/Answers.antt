use Rattle.std.proofs.lemmas.Result.{err_from_is_err_and}
use Rattle.std.proofs.Common.{◌∙◌}
use Rattle.aigertext.proofs.PassLemmas.{reads_stop, stops_then, stopped}
use Rattle.aigertext.proofs.ReadFrontLemmas.{justice_read}
use Rattle.aigertext.proofs.ReadStandsLemmas.{literals_many}
use Rattle.aigertext.proofs.reading.properties.read_justice.Goals as goal

pub returns-in_err-total : goal.returns-in_err-total
returns-in_err-total c = stopped _ _ _ _ (err_from_is_err_and c.from_residual.result c.from_residual.ensures.1) (reads_stop _ _ _ c.in_err-total.ensures.read)

pub returns-in_err-rest : goal.returns-in_err-rest
returns-in_err-rest c = stopped _ _ _ _ (err_from_is_err_and c.from_residual-in_err-rest.result c.from_residual-in_err-rest.ensures.1) (stops_then _ _ _ _ c.in_ok-total.ensures.read (reads_stop _ _ _ (rw c.in_ok-total.ensures.sums at c.in_err-rest.ensures)))

pub push_rows-requires : goal.push_rows-requires
push_rows-requires c = rw (c.deref.ensures.value, c.deref-2.ensures.value) (literals_many c.args.greatest _ _ _ _ c.in_ok-rest.ensures ∙ c.in_ok-total.ensures.sums)

pub returns-in-Ok : goal.returns-in-Ok
returns-in-Ok c =
    justice_read c.args.greatest c.args.count c.args.text.now _ _ _ _ c.push_rows.new.rows c.in_ok-total.ensures.read (rw c.in_ok-total.ensures.sums at c.in_ok-rest.ensures) (rw (c.requires, c.deref.ensures.value, c.deref-2.ensures.value) at c.in-Ok.ensures)
