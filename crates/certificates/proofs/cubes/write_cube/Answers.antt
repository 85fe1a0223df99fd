use Rattle.std.proofs.Common.{arith}
use Rattle.certificates.proofs.PutLemmas.{written_none}
use Rattle.certificates.proofs.WordLemmas.{cube_end}
use Rattle.certificates.proofs.cubes.write_cube.Goals as goal

pub returns-clause-ok : goal.returns-clause-ok
returns-clause-ok c = written_none _ _ _ (cube_end c.args.named.now c.args.parts.now c.loop-place.place (omega (arith, c.min-place-end.ensures, c.loop-place-test.false))) c.loop-place.invariant
