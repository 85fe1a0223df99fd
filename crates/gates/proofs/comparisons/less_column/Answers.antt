use Rattle.std.proofs.Common.{rules, arith}
use Rattle.std.proofs.lemmas.Result.{IfOk-weaker, IfErr-weaker}
use Rattle.gates.specs.Made.{RefusesGate}
use Rattle.gates.proofs.LaterLemmas.{IsDefined-not, Refuses-weaker}
use Rattle.gates.proofs.OrderLemmas.{MakesLiteral-column, MakesLiteral-lowest}
use Rattle.gates.proofs.LiteralLemmas.{Refuses-behind}
use Rattle.gates.proofs.GrowthLemmas.{Grows-trans, IsDefined-grown}
use Rattle.gates.proofs.comparisons.less_column.Goals as goal

pub returns-clause-ok : goal.returns-clause-ok
returns-clause-ok g c =
    IfOk-weaker c.disjunction.result _ _
    (λ l less. MakesLiteral-column _ _ _ _ _ c.args.a c.args.b c.args.below c.in_ok-less.less c.in_ok-greater.greater c.in_ok-rest.rest l
    (rw c.not.ensures at c.in_ok-less.ensures.ok) (rw c.not-2.ensures at c.in_ok-greater.ensures.ok) (rw c.not-3.ensures at c.in_ok-rest.ensures.ok) less)
    c.disjunction.ensures.ok

pub returns-then-eq-clause-ok : goal.returns-then-eq-clause-ok
returns-then-eq-clause-ok g c =
    MakesLiteral-lowest _ _ c.args.a c.args.b c.args.below c.in_ok-less.less (search rules) (rw c.not.ensures at c.in_ok-less.ensures.ok)

pub returns-in_err-rest-clause-refused : goal.returns-in_err-rest-clause-refused
returns-in_err-rest-clause-refused g c =
    let refused : RefusesGate (g.G.Gates.made c.args.g.now) (g.G.Gates.made c.and-3.new.self) (4) c.in_err-rest.field-0.0 =
    Refuses-behind _ _ _ _ _ (4) _ (omega arith) (Grows-trans _ _ _ _ _ c.in_ok-less.ensures.ok.grows c.in_ok-greater.ensures.ok.grows) c.in_err-rest.ensures.refused
    in search rules

pub returns-clause-refused : goal.returns-clause-refused
returns-clause-refused g c =
    let before = Grows-trans _ _ _ _ _ c.in_ok-less.ensures.ok.grows (Grows-trans _ _ _ _ _ c.in_ok-greater.ensures.ok.grows c.in_ok-rest.ensures.ok.grows) in
    IfErr-weaker c.disjunction.result _ _ (λ e refused. Refuses-behind _ _ _ _ 1 4 e (omega arith) before refused) c.disjunction.ensures.refused

pub and-requires-clause-left : goal.and-requires-clause-left
and-requires-clause-left g c = IsDefined-not _ c.args.a _ c.not.ensures c.requires.left

pub and-requires-2-clause-left : goal.and-requires-2-clause-left
and-requires-2-clause-left g c = IsDefined-grown _ _ _ c.in_ok-less.ensures.ok.grows _ c.requires.left

pub and-requires-2-clause-right : goal.and-requires-2-clause-right
and-requires-2-clause-right g c = IsDefined-not _ c.args.b _ c.not-2.ensures (IsDefined-grown _ _ _ c.in_ok-less.ensures.ok.grows _ c.requires.right)

pub and-requires-3-clause-left : goal.and-requires-3-clause-left
and-requires-3-clause-left g c = IsDefined-grown _ _ _ (Grows-trans _ _ _ _ _ c.in_ok-less.ensures.ok.grows c.in_ok-greater.ensures.ok.grows) _ c.requires.below

pub and-requires-3-clause-right : goal.and-requires-3-clause-right
and-requires-3-clause-right g c = IsDefined-not _ c.in_ok-greater.greater _ c.not-3.ensures c.in_ok-greater.ensures.ok.defined

pub disjunction-requires-clause-left : goal.disjunction-requires-clause-left
disjunction-requires-clause-left g c = IsDefined-grown _ _ _ (Grows-trans _ _ _ _ _ c.in_ok-greater.ensures.ok.grows c.in_ok-rest.ensures.ok.grows) _ c.in_ok-less.ensures.ok.defined

pub disjunction-requires-clause-right : goal.disjunction-requires-clause-right
disjunction-requires-clause-right g c = c.in_ok-rest.ensures.ok.defined

pub returns-in_err-less-clause-refused : goal.returns-in_err-less-clause-refused
returns-in_err-less-clause-refused g c =
    let refused : RefusesGate (g.G.Gates.made c.args.g.now) (g.G.Gates.made c.and.new.self) 4 c.in_err-less.field-0.0 = Refuses-weaker _ _ 1 4 _ (omega arith) c.in_err-less.ensures.refused in
    search rules

pub returns-in_err-greater-clause-refused : goal.returns-in_err-greater-clause-refused
returns-in_err-greater-clause-refused g c =
    let refused : RefusesGate (g.G.Gates.made c.args.g.now) (g.G.Gates.made c.and-2.new.self) 4 c.in_err-greater.field-0.0 = Refuses-behind _ _ _ 1 1 4 _ (omega arith) c.in_ok-less.ensures.ok.grows c.in_err-greater.ensures.refused in
    search rules
