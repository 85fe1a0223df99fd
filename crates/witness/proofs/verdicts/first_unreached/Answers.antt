use Rattle.std.proofs.Common.{◌∙◌, ◌&&◌, Bool, true, false, not, sym, ap, arith}
use Rattle.witness.specs.Fits.{is_set}
use Rattle.witness.proofs.FrameLemmas.{unreached_by, unreached_end}
use Rattle.witness.proofs.verdicts.first_unreached.Goals as goal

pub returns-then-claimed-i : goal.returns-then-claimed-i
returns-then-claimed-i c claims nodes fs none marked many clear rises =
    unreached_by claims nodes fs none c.args.rose.now c.loop-i.i _ (omega arith) clear rises (c.loop-i.invariant claims nodes fs none marked many clear rises) true
    (ap (λ (b : Bool). b && not (is_set c.args.rose.now c.loop-i.i)) (sym (marked c.loop-i.i)) ∙ c.if-claimed-i.true)

pub loop-i-preserved : goal.loop-i-preserved
loop-i-preserved c claims nodes fs none marked many clear rises =
    unreached_by claims nodes fs none c.args.rose.now c.loop-i.i _ (omega arith) clear rises (c.loop-i.invariant claims nodes fs none marked many clear rises) false
    (ap (λ (b : Bool). b && not (is_set c.args.rose.now c.loop-i.i)) (sym (marked c.loop-i.i)) ∙ c.if-claimed-i.false)

pub returns : goal.returns
returns c claims nodes fs none marked many clear rises =
    unreached_end claims nodes fs c.loop-i.i _ (omega arith) (c.loop-i.invariant claims nodes fs none marked many clear rises)
