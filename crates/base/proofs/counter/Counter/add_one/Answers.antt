use Rattle.std.proofs.Common.{◌≡◌, ◌+◌, suc, decimal, length, ap, ◌∙◌, arith}
use Rattle.std.proofs.lemmas.Fmt.{length-decimal-le}
use Rattle.std.proofs.lemmas.List.{length-take-le}
use Rattle.base.proofs.counter.Counter.add_one.Goals as goal

pub count_on-self-inside-requires : goal.count_on-self-inside-requires
count_on-self-inside-requires c = record { room = omega (arith, c.self.invariant.0, c.self.told) }

pub invariant_of-self : goal.invariant_of-self
invariant_of-self c =
    let low = c.if-self.false in
    let on : suc (suc c.self.inside.count) ≡ suc (c.self.inside.count + 1) = omega arith in
    let is = c.count_on-self-inside.ensures.next (suc c.self.inside.count) (omega (arith, low)) c.self.invariant.2 in
    let few = length-decimal-le 20 (suc (suc c.self.inside.count)) (omega arith) (omega (arith, low)) (omega (arith, low)) in
    let long = length-take-le c.count_on-self-inside.result c.count_on-self-inside.new.next (omega (arith, c.count_on-self-inside.auto.next, c.count_on-self-inside.ensures.more, c.self.invariant.0, c.self.told)) in
    (omega (arith, ap length is, few, long), omega (arith, low), is ∙ ap decimal on)
