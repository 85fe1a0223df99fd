use Rattle.btor2text.specs.Writing.{written}
use Rattle.btor2text.proofs.StandsLemmas.{stands_read}
use Rattle.btor2text.proofs.WrittenLemmas.{written_stands}
use Rattle.btor2text.proofs.writing.write.Goals as goal

pub returns : goal.returns
returns g c =
    let w = c.finish.ensures _ _ _ c.new-pen.ensures.kept c.new-pen.ensures.well (rw c.items.ensures.items at c.put_items.ensures) in
    let stands = written_stands c.args.model.now c.items.ensures.well_formed c.items.ensures.parts in
    record { ok = w.ok; err = w.err; stands = stands; read = stands_read (written c.args.model.now) c.args.model.now stands; failures = w.failures }
