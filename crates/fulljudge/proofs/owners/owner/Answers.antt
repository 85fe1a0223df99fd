use Rattle.std.proofs.Common.{◌≡◌, arith, suc}
use Rattle.fulljudge.proofs.OwnerLemmas.{some_value, below_all, from_none, found}
use Rattle.fulljudge.proofs.owners.owner.Goals as goal

pub loop-high-init : goal.loop-high-init
loop-high-init c = record {
  apart = omega (arith, c.count-high.ensures, some_value c.args.values.now c.args.word c.requires);
  most = omega (arith, c.count-high.ensures);
  from = from_none c.args.values.now c.args.word;
  below = below_all c.args.values.now c.count-high.result c.args.word c.count-high.ensures c.requires;
}

pub returns : goal.returns
returns c =
    let next : c.loop-high.high ≡ suc c.loop-high.low = omega (arith, c.loop-high.invariant.apart, c.loop-high-test.false) in
    found c.args.values.now c.loop-high.low c.loop-high.high c.args.word next c.loop-high.invariant.from c.loop-high.invariant.below
