use Rattle.base.proofs.OverflowLaws.{saddo_exactly, ssubo_exactly, smulo_exactly, sdivo_exactly, sdivo_by_zero}
use Rattle.base.proofs.laws.overflow_tests.Goals as goal

pub returns-clause-saddo : goal.returns-clause-saddo
returns-clause-saddo c = saddo_exactly

pub returns-clause-ssubo : goal.returns-clause-ssubo
returns-clause-ssubo c = ssubo_exactly

pub returns-clause-smulo : goal.returns-clause-smulo
returns-clause-smulo c = smulo_exactly

pub returns-clause-sdivo : goal.returns-clause-sdivo
returns-clause-sdivo c = sdivo_exactly

pub returns-clause-sdivo_by_0 : goal.returns-clause-sdivo_by_0
returns-clause-sdivo_by_0 c = sdivo_by_zero
