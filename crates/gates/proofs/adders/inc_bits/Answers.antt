use Rattle.std.proofs.Common.{◌≡◌, length, replicate, ◌∙◌}
use Rattle.gates.proofs.SumLemmas.{MakesWord-incremented}
use Rattle.gates.proofs.adders.inc_bits.Goals as goal

pub returns-clause-ok : goal.returns-clause-ok
returns-clause-ok g c =
    let zeros : c.as_slice.result.now ≡ replicate (length c.args.a.now) 0 = (c.as_slice.ensures.value ∙ c.repeated.ensures) in
    MakesWord-incremented _ _ c.args.a.now c.as_slice.result.now c.in_ok-sum.sum.sum.items c.in_ok-sum.sum.into_top c.in_ok-sum.sum.out zeros c.in_ok-sum.ensures.ok
