use Rattle.std.specs.Io.KnownBytes.{Appends}
use Rattle.std.proofs.KnownBytes.{Consumes-whole}
use Rattle.base.specs.Device.{AppendsBeginning}
use Rattle.tidy.specs.Tidied.{tidied}
use Rattle.tidy.proofs.WholeLemmas.{taken_front, front_put, sink_well, sink_failed}
use Rattle.tidy.proofs.tidying.tidy.Goals as goal

pub returns-in-Ok-finish-clause-written : goal.returns-in-Ok-finish-clause-written
returns-in-Ok-finish-clause-written g c =
    let taken = taken_front c.args.pick c.new-tidying.ensures.tidier c.new-tidying.ensures.kept c.new-tidying.ensures.well c.take_source.ensures.front in
    Consumes-whole _ _ c.take_source.ensures.front.front (λ text. Appends _ _ (tidied c.args.pick text)) c.take_source.ensures.front.consumes c.in-Ok.ensures.end (c.in-Ok-finish.ensures _ _ _ taken).ok

pub returns-in-Ok-finish-clause-counted : goal.returns-in-Ok-finish-clause-counted
returns-in-Ok-finish-clause-counted g c =
    let taken = taken_front c.args.pick c.new-tidying.ensures.tidier c.new-tidying.ensures.kept c.new-tidying.ensures.well c.take_source.ensures.front in
    (c.in-Ok.ensures.stops.1, (c.in-Ok-finish.ensures _ _ _ taken).failures)

pub returns-in-Err-clause-beginning : goal.returns-in-Err-clause-beginning
returns-in-Err-clause-beginning g c =
    let taken = taken_front c.args.pick c.new-tidying.ensures.tidier c.new-tidying.ensures.kept c.new-tidying.ensures.well c.take_source.ensures.front in
    Consumes-whole _ _ c.take_source.ensures.front.front (λ text. AppendsBeginning _ _ (tidied c.args.pick text)) c.take_source.ensures.front.consumes c.in-Ok.ensures.end (c.in-Err.ensures _ _ _ taken).err

pub returns-in-Err-clause-counted : goal.returns-in-Err-clause-counted
returns-in-Err-clause-counted g c =
    let taken = taken_front c.args.pick c.new-tidying.ensures.tidier c.new-tidying.ensures.kept c.new-tidying.ensures.well c.take_source.ensures.front in
    (c.in-Ok.ensures.stops.1, (c.in-Err.ensures _ _ _ taken).failures)

pub returns-in-Err-Source-clause-beginning : goal.returns-in-Err-Source-clause-beginning
returns-in-Err-Source-clause-beginning g c =
    let taken = taken_front c.args.pick c.new-tidying.ensures.tidier c.new-tidying.ensures.kept c.new-tidying.ensures.well c.take_source.ensures.front in
    front_put c.args.pick _ _ c.take_source.ensures.front.consumes taken

pub returns-in-Err-Source-clause-counted : goal.returns-in-Err-Source-clause-counted
returns-in-Err-Source-clause-counted g c =
    let taken = taken_front c.args.pick c.new-tidying.ensures.tidier c.new-tidying.ensures.kept c.new-tidying.ensures.well c.take_source.ensures.front in
    let stops = rw c.in-Err-Source.field-0-is at c.in-Err-Source.ensures.stops in
    (stops.1, sink_well c.args.pick taken stops.0)

pub returns-in-Err-Done-clause-beginning : goal.returns-in-Err-Done-clause-beginning
returns-in-Err-Done-clause-beginning g c =
    let taken = taken_front c.args.pick c.new-tidying.ensures.tidier c.new-tidying.ensures.kept c.new-tidying.ensures.well c.take_source.ensures.front in
    front_put c.args.pick _ _ c.take_source.ensures.front.consumes taken

pub returns-in-Err-Done-clause-counted : goal.returns-in-Err-Done-clause-counted
returns-in-Err-Done-clause-counted g c =
    let taken = taken_front c.args.pick c.new-tidying.ensures.tidier c.new-tidying.ensures.kept c.new-tidying.ensures.well c.take_source.ensures.front in
    let stops = rw c.in-Err-Done.field-0-is at c.in-Err-Done.ensures.stops in
    (stops.1, sink_failed c.args.pick taken stops.0)
