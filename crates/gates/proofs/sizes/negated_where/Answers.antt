use Rattle.std.proofs.Common.{length, refl, arith, rules, ◌*◌}
use Rattle.aiger.specs.Net.{IsDefined}
use Rattle.gates.specs.Made.{RefusesGate}
use Rattle.gates.proofs.LaterLemmas.{IsDefined-of_word}
use Rattle.gates.proofs.SizeLemmas.{IsNegatedRow-push, MakesWord-negated_where}
use Rattle.gates.proofs.LiteralLemmas.{Refuses-behind}
use Rattle.gates.proofs.GrowthLemmas.{Grows-trans, IsDefined-grown}
use Rattle.gates.proofs.sizes.negated_where.Goals as goal

pub loop-i-preserved : goal.loop-i-preserved
loop-i-preserved g c =
    rw c.push.ensures.items
    (IsNegatedRow-push _ _ _ _ _ c.loop-i.i c.args.negative c.args.a.now c.loop-i.bits.items c.index-a-i.result c.loop-i.flips c.in_ok-xor.field-0 c.in_ok-some.some c.in_ok-flips.flips
    (omega arith) c.index-a-i.is c.loop-i.invariant c.in_ok-xor.ensures.ok c.in_ok-some.ensures.ok c.in_ok-flips.ensures.ok)

pub returns-clause-ok : goal.returns-clause-ok
returns-clause-ok g c = MakesWord-negated_where _ _ (length c.args.a.now) c.loop-i.i c.args.negative c.args.a.now c.loop-i.bits.items c.loop-i.flips refl (omega arith) c.loop-i.invariant

pub returns-in_err-some-clause-refused : goal.returns-in_err-some-clause-refused
returns-in_err-some-clause-refused g c =
    let n = length c.args.a.now in
    let refused : RefusesGate (g.G.Gates.made c.args.g.now) (g.G.Gates.made c.disjunction.new.g) (12 * n) c.in_err-some.field-0.0 =
    Refuses-behind _ _ _ _ _ (12 * n) _ (omega arith) (Grows-trans _ _ _ _ _ c.loop-i.invariant.word.grows c.in_ok-xor.ensures.ok.grows) c.in_err-some.ensures.refused
    in search rules

pub returns-in_err-flips-clause-refused : goal.returns-in_err-flips-clause-refused
returns-in_err-flips-clause-refused g c =
    let n = length c.args.a.now in
    let refused : RefusesGate (g.G.Gates.made c.args.g.now) (g.G.Gates.made c.and.new.self) (12 * n) c.in_err-flips.field-0.0 =
    Refuses-behind _ _ _ _ _ (12 * n) _ (omega arith) (Grows-trans _ _ _ _ _ c.loop-i.invariant.word.grows (Grows-trans _ _ _ _ _ c.in_ok-xor.ensures.ok.grows c.in_ok-some.ensures.ok.grows)) c.in_err-flips.ensures.refused
    in search rules

pub xor-requires-clause-left : goal.xor-requires-clause-left
xor-requires-clause-left g c =
    IsDefined-of_word _ _ _ c.args.a.now c.loop-i.i c.index-a-i.result (omega arith) c.index-a-i.is c.requires.defined c.loop-i.invariant.word.grows

pub xor-requires-clause-right : goal.xor-requires-clause-right
xor-requires-clause-right g c = c.loop-i.invariant.above.defined

pub disjunction-requires-clause-left : goal.disjunction-requires-clause-left
disjunction-requires-clause-left g c =
    let lit : IsDefined (g.G.Gates.made c.loop-i.g) c.index-a-i.result =
    IsDefined-of_word _ _ _ c.args.a.now c.loop-i.i c.index-a-i.result (omega arith) c.index-a-i.is c.requires.defined c.loop-i.invariant.word.grows
    in
    IsDefined-grown _ _ _ c.in_ok-xor.ensures.ok.grows _ lit

pub disjunction-requires-clause-right : goal.disjunction-requires-clause-right
disjunction-requires-clause-right g c = IsDefined-grown _ _ _ c.in_ok-xor.ensures.ok.grows _ c.loop-i.invariant.above.defined

pub and-requires-clause-left : goal.and-requires-clause-left
and-requires-clause-left g c =
    IsDefined-grown _ _ _ (Grows-trans _ _ _ _ _ c.loop-i.invariant.word.grows (Grows-trans _ _ _ _ _ c.in_ok-xor.ensures.ok.grows c.in_ok-some.ensures.ok.grows)) _ c.requires.literal

pub and-requires-clause-right : goal.and-requires-clause-right
and-requires-clause-right g c = c.in_ok-some.ensures.ok.defined

pub returns-in_err-xor-clause-refused : goal.returns-in_err-xor-clause-refused
returns-in_err-xor-clause-refused g c =
    let n = length c.args.a.now in
    let refused : RefusesGate (g.G.Gates.made c.args.g.now) (g.G.Gates.made c.xor.new.g) (12 * n) c.in_err-xor.field-0.0 =
    Refuses-behind _ _ _ _ _ (12 * n) _ (omega arith) c.loop-i.invariant.word.grows c.in_err-xor.ensures.refused
    in search rules
