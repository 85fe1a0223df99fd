use Rattle.std.proofs.Common.{◌+◌, List, ℕ, rules, arith, length, take, sym, subst}
use Rattle.std.proofs.lemmas.List.{length-take-le}
use Rattle.gates.specs.Made.{RefusesGate}
use Rattle.gates.proofs.LiteralLemmas.{Refuses-behind}
use Rattle.engine_form.specs.Reads.{BadLiteralsRead}
use Rattle.engine_form.proofs.TableLemmas.{bads-more, pushed}
use Rattle.engine_form.proofs.properties.bad_literals.Goals as goal

pub returns-in_err-lit-clause-refused : goal.returns-in_err-lit-clause-refused
returns-in_err-lit-clause-refused g c =
    let n = length c.args.bads.now in
    let so_far = length-take-le c.loop-bad.bad-index c.args.bads.now (omega arith) in
    let refused : RefusesGate (g.G.Gates.made c.args.g.now) (g.G.Gates.made c.and.new.self) n c.in_err-lit.field-0.0 =
    Refuses-behind _ _ _ (length (take c.loop-bad.bad-index c.args.bads.now)) 1 n _ (omega arith) c.loop-bad.invariant.grows c.in_err-lit.ensures.refused
    in search rules

pub loop-bad-preserved : goal.loop-bad-preserved
loop-bad-preserved g c =
    let longer = pushed _ _ c.loop-bad.literals.items c.push.new.self.items c.in_ok-lit.lit c.push.ensures.items c.is_err.ensures.negation c.if-is_err.false in
    let more = bads-more _ _ _ c.args.table.now c.args.bads.now c.args.met c.loop-bad.bad-index c.bad-item.result c.literal_of.result c.in_ok-lit.lit c.loop-bad.literals.items c.loop-bad-test.true c.bad-item.is c.literal_of.ensures c.loop-bad.invariant c.in_ok-lit.ensures.ok in
    subst (λ (xs : List ℕ). BadLiteralsRead (g.G.Gates.made c.args.g.now) (g.G.Gates.made c.and.new.self) c.args.table.now (take (c.loop-bad.bad-index + 1) c.args.bads.now) c.args.met xs) (sym longer) more
