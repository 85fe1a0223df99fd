use Rattle.std.proofs.Common.{◌∙◌, arith, false}
use Rattle.std.proofs.lemmas.List.{length-set}
use Rattle.drup.proofs.TrailLemmas.{pop_step}
use Rattle.drup.proofs.trail.Trail.undo.Goals as goal

pub index_mut-requires : goal.index_mut-requires
index_mut-requires c = omega (arith, (pop_step _ _ _ _ c.loop-self.invariant.order (omega (arith, c.loop-self-test.true)) c.index.ensures).0)

pub loop-self-preserved : goal.loop-self-preserved
loop-self-preserved c = record {
  order = (pop_step _ _ _ _ c.loop-self.invariant.order (omega (arith, c.loop-self-test.true)) c.index.ensures).1;
  literals = c.loop-self.invariant.literals;
  as_many = length-set c.loop-self.self-inside.marks.items c.index.result.now false ∙ c.loop-self.invariant.as_many;
  below = omega (arith, c.loop-self.invariant.below);
  kept = omega (arith, c.loop-self-test.true);
}
