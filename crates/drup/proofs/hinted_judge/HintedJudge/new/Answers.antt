use Rattle.std.proofs.Common.{arith}
use Rattle.drup.proofs.hinted_judge.HintedJudge.new.Goals as goal

pub invariant_of-result : goal.invariant_of-result
invariant_of-result c = record {
  named = c.from.ensures.named _;
  even = omega (arith, c.in_ok-trail.ensures.0);
  none = c.in_ok-trail.ensures.2;
  fresh = λ id behind. c.from.ensures.none id;
  held = λ ok. c.from.ensures.tight;
}
