use Rattle.std.proofs.Common.{◌+◌, length, ap, arith}
use Rattle.fullmodel.specs.Lines.{sort_value}
use Rattle.fulljudge.specs.Compared.{StateWords}
use Rattle.fulljudge.proofs.OtherwiseLemmas.{get_below}
use Rattle.fulljudge.proofs.TextLemmas.{first_within}
use Rattle.fulljudge.proofs.compared.StateWords.is_otherwise.Goals as goal

pub returns-then-behind-len : goal.returns-then-behind-len
returns-then-behind-len c = λ items text fs stands trace d. let below = get_below c.args.self.now.places (length c.args.self.now.leaves + c.args.index) d.node d.is_node in
    omega (arith, below, c.if-behind-len.true, c.count.ensures, c.len.ensures, ap (λ (w : StateWords). length w.places) c.self.view_is)

pub is_told_otherwise-requires : goal.is_told_otherwise-requires
is_told_otherwise-requires c =
    let e = c.in-Some.ensures.value in
    omega (arith, first_within c.args.states.now c.args.index (sort_value c.in-Some.value.sort) e.0, e.1, c.in-Some.ensures.few)
