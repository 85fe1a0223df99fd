use Rattle.std.proofs.lemmas.Result.{err_from_is_err_and}
use Rattle.std.specs.Io.KnownBytes.{Appends}
use Rattle.base.specs.Device.{AppendsBeginning}
use Rattle.base.proofs.PenLemmas.{writes_then}
use Rattle.std.proofs.lemmas.Option.{IfSome_then}
use Rattle.witness.specs.WordStands.{StandsForWitness}
use Rattle.vcd.proofs.WavingLemmas.{begun, ended, whole_dump, stop_well}
use Rattle.vcd.proofs.waving.write_dump.Goals as goal

pub returns-in_err-take_all-clause-beginning : goal.returns-in_err-take_all-clause-beginning
returns-in_err-take_all-clause-beginning g c =
    let is = err_from_is_err_and c.from_residual.result c.from_residual.ensures.1 in
    rw is.1 (begun c.args.shown c.args.title.now c.args.model.now c.requires.kept c.requires.well c.put_declarations.ensures c.requires.waves c.in_err-take_all.ensures.takes)

pub returns-in-Ok-clause-stands : goal.returns-in-Ok-clause-stands
returns-in-Ok-clause-stands g c =
    IfSome_then _ {Q = StandsForWitness c.args.model.now c.take_all.new.waving.waver.judge} (ended c.args.shown c.args.model.now c.requires.waves c.in_ok-take_all.ensures.takes c.in_ok-take_all.ensures.end) (λ text waves. waves.judge)

pub returns-in-Ok-clause-written : goal.returns-in-Ok-clause-written
returns-in-Ok-clause-written g c =
    let put = writes_then (writes_then c.put_declarations.ensures c.in_ok-take_all.ensures.takes.takes.writes) c.put_end.ensures.writes in
    whole_dump c.args.shown c.args.title.now c.args.model.now _ (Appends _ _) c.requires.waves c.in_ok-take_all.ensures.takes c.in_ok-take_all.ensures.end c.put_end.ensures.is (c.in-Ok.ensures _ _ _ c.requires.kept c.requires.well put).ok

pub returns-in-Err-clause-beginning : goal.returns-in-Err-clause-beginning
returns-in-Err-clause-beginning g c =
    let put = writes_then (writes_then c.put_declarations.ensures c.in_ok-take_all.ensures.takes.takes.writes) c.put_end.ensures.writes in
    whole_dump c.args.shown c.args.title.now c.args.model.now _ (AppendsBeginning _ _) c.requires.waves c.in_ok-take_all.ensures.takes c.in_ok-take_all.ensures.end c.put_end.ensures.is (c.in-Err.ensures _ _ _ c.requires.kept c.requires.well put).err

pub returns-in-Ok-clause-counted : goal.returns-in-Ok-clause-counted
returns-in-Ok-clause-counted g c =
    let put = writes_then (writes_then c.put_declarations.ensures c.in_ok-take_all.ensures.takes.takes.writes) c.put_end.ensures.writes in
    (stop_well _ _ _ _ c.in_ok-take_all.ensures.stops, (c.in-Ok.ensures _ _ _ c.requires.kept c.requires.well put).failures)

pub returns-in-Err-clause-counted : goal.returns-in-Err-clause-counted
returns-in-Err-clause-counted g c =
    let put = writes_then (writes_then c.put_declarations.ensures c.in_ok-take_all.ensures.takes.takes.writes) c.put_end.ensures.writes in
    (stop_well _ _ _ _ c.in_ok-take_all.ensures.stops, (c.in-Err.ensures _ _ _ c.requires.kept c.requires.well put).failures)
