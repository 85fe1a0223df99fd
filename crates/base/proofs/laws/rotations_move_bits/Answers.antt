use Rattle.base.proofs.RotationLaws.{rol_bit, ror_bit}
use Rattle.base.proofs.laws.rotations_move_bits.Goals as goal

pub returns-clause-rol : goal.returns-clause-rol
returns-clause-rol c = rol_bit

pub returns-clause-ror : goal.returns-clause-ror
returns-clause-ror c = ror_bit
