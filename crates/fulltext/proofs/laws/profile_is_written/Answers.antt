use Rattle.fulltext.proofs.PlainLemmas.{plain_written}
use Rattle.fulltext.proofs.laws.profile_is_written.Goals as goal

pub returns : goal.returns
returns c = plain_written
