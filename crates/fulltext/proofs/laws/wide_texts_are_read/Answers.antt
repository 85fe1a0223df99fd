use Rattle.fulltext.proofs.WideLemmas.{wide_stands}
use Rattle.fulltext.proofs.laws.wide_texts_are_read.Goals as goal

pub returns : goal.returns
returns c = wide_stands
