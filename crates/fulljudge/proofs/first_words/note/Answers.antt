use Rattle.fulljudge.proofs.HearLemmas.{noted_is_set, noted_past}
use Rattle.fulljudge.proofs.first_words.note.Goals as goal

pub returns-then-index-flags : goal.returns-then-index-flags
returns-then-index-flags c = noted_is_set c.args.flags.now c.args.index c.if-index-flags.true

pub returns-else-index-flags : goal.returns-else-index-flags
returns-else-index-flags c = noted_past c.args.flags.now c.args.index c.if-index-flags.false
