use Rattle.std.proofs.Common.{refl}
use Rattle.tidy.specs.Tidied.{tidied}
use Rattle.tidy.proofs.laws.worked_others.Goals as goal

pub returns : goal.returns
unfolding tidied
returns c = record { unsat = refl; zero = refl; nothing = refl; other = refl; held = refl; other_lines = refl; comment_of_bits = refl }
