use Rattle.fulltext.specs.Writing.{written_full}
use Rattle.fulltext.proofs.StandsLemmas.{stands_read}
use Rattle.fulltext.proofs.WrittenLemmas.{written_stands}
use Rattle.fulltext.proofs.WritingLemmas.{short_lines}
use Rattle.fulltext.proofs.writing.write.Goals as goal

pub put_lines-requires-clause-short : goal.put_lines-requires-clause-short
put_lines-requires-clause-short g c = short_lines c.lines.result.now (rw c.lines.ensures.lines c.lines.ensures.accepted)

pub returns : goal.returns
returns g c =
    let w = c.finish.ensures _ _ _ c.new-pen.ensures.kept c.new-pen.ensures.well (rw c.lines.ensures.lines at c.put_lines.ensures) in
    record {
      ok = w.ok;
      err = w.err;
      stands = λ text stands. written_stands text c.args.model.now stands;
      read = λ text stands. stands_read (written_full c.args.model.now) c.args.model.now (written_stands text c.args.model.now stands);
      failures = w.failures;
    }
