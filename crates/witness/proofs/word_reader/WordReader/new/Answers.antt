use Rattle.std.proofs.Common.{length, ap, ◌∙◌}
use Rattle.witness.proofs.WordReaderLemmas.{reads_start}
use Rattle.witness.proofs.word_reader.WordReader.new.Goals as goal

pub returns-clause-ok : goal.returns-clause-ok
returns-clause-ok c =
    reads_start c.args.model.now c.in_ok-play.play c.new-2.result c.in_ok-claimed.claimed c.has_free.result c.in_ok-play.ensures.ok (c.new-2.ensures c.in_ok-claimed.claimed c.in_ok-claimed.ensures.none)
    (c.in_ok-claimed.ensures.many ∙ ap length c.bads.ensures) c.has_free.ensures
