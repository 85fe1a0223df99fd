use Rattle.std.proofs.Common.{length}
use Rattle.wordings.proofs.parts.+has_option.Given as goal

abbrev pub decreases-has_option : goal.decreases-has_option
decreases-has_option l = length l.words.now
