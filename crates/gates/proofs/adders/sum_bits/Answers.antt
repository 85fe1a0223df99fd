use Rattle.std.proofs.Common.{◌≡◌, ◌+◌, ◌-◌, ◌*◌, ◌≤◌, rules, ◌∷◌, [], ◌++◌, length, take, sym, ◌∙◌, arith}
use Rattle.std.proofs.lemmas.List.{take_all}
use Rattle.gates.specs.Made.{RefusesGate}
use Rattle.gates.proofs.LaterLemmas.{IsDefined-of_word, Refuses-weaker}
use Rattle.gates.proofs.GrowthLemmas.{Grows-trans, IsDefined-grown}
use Rattle.gates.proofs.LiteralLemmas.{Refuses-behind}
use Rattle.gates.proofs.SumLemmas.{front_with}
use Rattle.gates.proofs.TopLemmas.{MakesWord-without_carry}
use Rattle.gates.proofs.adders.sum_bits.Goals as goal

pub returns-clause-ok : goal.returns-clause-ok
returns-clause-ok g c =
    let low = c.in_ok-low.low in
    let a = c.args.a.now in
    let b = c.args.b.now in
    let k = length c.args.a.now - 1 in
    let some = c.requires.operands.some in
    let same = c.requires.operands.equal in
    let x = c.index-a-top.result in
    let y = c.index-b-top.result in
    let a_is : a ≡ take k a ++ x ∷ [] = sym (take_all (k + 1) a (omega arith)) ∙ front_with a k x (omega arith) c.index-a-top.is in
    let b_is : b ≡ take k b ++ y ∷ [] = sym (take_all (k + 1) b (omega arith)) ∙ front_with b k y (omega arith) c.index-b-top.is in
    MakesWord-without_carry _ _ _ _ k a b c.args.carry low.sum.items low.into_top low.out x y c.in_ok-differ.differ c.in_ok-last.last c.push.new.self.items
    (omega arith) (omega arith) a_is b_is c.push.ensures.items c.in_ok-low.ensures.ok c.in_ok-differ.ensures.ok c.in_ok-last.ensures.ok

pub returns-in_err-differ-clause-refused : goal.returns-in_err-differ-clause-refused
returns-in_err-differ-clause-refused g c =
    let old = g.G.Gates.made c.args.g.now in
    let mid = g.G.Gates.made c.columns.new.g in
    let new = g.G.Gates.made c.xor.new.g in
    let n = length c.args.a.now in
    let low = 7 * (length c.args.a.now - 1) in
    let fault = c.in_err-differ.field-0.0 in
    let within : low + 3 ≤ 9 * n = omega (arith, c.requires.operands.some) in
    let whole : RefusesGate old new (9 * n) fault = Refuses-behind old mid new low 3 (9 * n) fault within c.in_ok-low.ensures.ok.grows c.in_err-differ.ensures.refused in
    search rules

pub returns-in_err-last-clause-refused : goal.returns-in_err-last-clause-refused
returns-in_err-last-clause-refused g c =
    let old = g.G.Gates.made c.args.g.now in
    let mid = g.G.Gates.made c.columns.new.g in
    let next = g.G.Gates.made c.xor.new.g in
    let new = g.G.Gates.made c.xor-2.new.g in
    let n = length c.args.a.now in
    let low = 7 * (length c.args.a.now - 1) in
    let fault = c.in_err-last.field-0.0 in
    let within : low + 3 + 3 ≤ 9 * n = omega (arith, c.requires.operands.some) in
    let before = Grows-trans old mid next low 3 c.in_ok-low.ensures.ok.grows c.in_ok-differ.ensures.ok.grows in
    let whole : RefusesGate old new (9 * n) fault = Refuses-behind old next new (low + 3) 3 (9 * n) fault within before c.in_err-last.ensures.refused in
    search rules

pub xor-requires-clause-left : goal.xor-requires-clause-left
xor-requires-clause-left g c =
    IsDefined-of_word _ _ _ c.args.a.now (length c.args.a.now - 1) c.index-a-top.result (omega (arith, c.requires.operands.some)) c.index-a-top.is c.requires.operands.left c.in_ok-low.ensures.ok.grows

pub xor-requires-clause-right : goal.xor-requires-clause-right
xor-requires-clause-right g c =
    IsDefined-of_word _ _ _ c.args.b.now (length c.args.a.now - 1) c.index-b-top.result (omega (arith, c.requires.operands.some, c.requires.operands.equal)) c.index-b-top.is c.requires.operands.right c.in_ok-low.ensures.ok.grows

pub xor-requires-2-clause-left : goal.xor-requires-2-clause-left
xor-requires-2-clause-left g c = c.in_ok-differ.ensures.ok.defined

pub xor-requires-2-clause-right : goal.xor-requires-2-clause-right
xor-requires-2-clause-right g c = IsDefined-grown _ _ _ c.in_ok-differ.ensures.ok.grows _ c.in_ok-low.ensures.ok.out_defined

pub returns-in_err-low-clause-refused : goal.returns-in_err-low-clause-refused
returns-in_err-low-clause-refused g c =
    let n = length c.args.a.now in
    let refused : RefusesGate (g.G.Gates.made c.args.g.now) (g.G.Gates.made c.columns.new.g) (9 * n) c.in_err-low.field-0.0 =
    Refuses-weaker _ _ _ (9 * n) _ (omega arith) c.in_err-low.ensures.refused
    in search rules
