use Rattle.base.proofs.RotationLaws.{rol_ror, ror_rol}
use Rattle.base.proofs.laws.rotations_return.Goals as goal

pub returns-clause-right : goal.returns-clause-right
returns-clause-right c = ror_rol

pub returns-clause-left : goal.returns-clause-left
returns-clause-left c = rol_ror
