use Rattle.std.proofs.Common.{refl}
use Rattle.std.specs.Fmt.{digits}
use Rattle.subcommands.proofs.laws.worked_forms.Goals as goal

pub returns-clause-several : goal.returns-clause-several
unfolding digits
returns-clause-several c = refl
