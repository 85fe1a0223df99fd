use Rattle.std.proofs.Common.{◌≡◌, Bool, true, false, not, ◌&&◌, ◌||◌, refl, arith, if◌then◌else◌, rules}
use Rattle.std.proofs.lemmas.Result.{IfOk-weaker, IfErr-weaker}
use Rattle.base.specs.Literal.{literal_value}
use Rattle.base.proofs.LiteralLemmas.{literal_value-negation}
use Rattle.gates.specs.Made.{RefusesGate}
use Rattle.gates.proofs.LaterLemmas.{IsDefined-not, Refuses-weaker}
use Rattle.gates.proofs.LiteralLemmas.{MakesLiteral-and, MakesLiteral-join, MakesLiteral-same, Refuses-behind}
use Rattle.gates.proofs.GrowthLemmas.{Grows-trans, IsDefined-grown}
use Rattle.gates.proofs.literals.mux.Goals as goal

-- what is chosen
chosen : (c t e : Bool) → ((c && t) || (not c && e)) ≡ (if c then t else e)
chosen true true e = refl
chosen true false e = refl
chosen false t e = refl

pub returns-clause-ok : goal.returns-clause-ok
returns-clause-ok g c =
    let condition = c.args.c in
    let t = c.args.t in
    let e = c.args.e in
    IfOk-weaker c.disjunction.result _ _
    (λ l m.
    let first = MakesLiteral-and _ _ condition t c.in_ok-first.first c.in_ok-first.ensures.ok in
    let second = MakesLiteral-same _ _ 1 1 c.in_ok-second.second _ (λ v. not (literal_value v condition) && literal_value v e) (omega arith) (λ v. rw (c.not.ensures, literal_value-negation v condition) refl) (MakesLiteral-and _ _ _ _ _ c.in_ok-second.ensures.ok) in
    let joined = MakesLiteral-join _ _ _ _ 1 1 1 _ _ l _ _ (λ x y. x || y) first second m in
    MakesLiteral-same _ _ 3 3 l _ (λ v. if literal_value v condition then literal_value v t else literal_value v e) (omega arith) (λ v. chosen (literal_value v condition) (literal_value v t) (literal_value v e)) joined)
    c.disjunction.ensures.ok

pub returns-clause-refused : goal.returns-clause-refused
returns-clause-refused g c =
    let before = Grows-trans _ _ _ _ _ c.in_ok-first.ensures.ok.grows c.in_ok-second.ensures.ok.grows in
    IfErr-weaker c.disjunction.result _ _ (λ e refused. Refuses-behind _ _ _ _ _ (3) e (omega arith) before refused) c.disjunction.ensures.refused

pub and-requires-clause-left : goal.and-requires-clause-left
and-requires-clause-left g c = c.requires.condition

pub and-requires-clause-right : goal.and-requires-clause-right
and-requires-clause-right g c = c.requires.then

pub and-requires-2-clause-left : goal.and-requires-2-clause-left
and-requires-2-clause-left g c = IsDefined-not _ c.args.c _ c.not.ensures (IsDefined-grown _ _ _ c.in_ok-first.ensures.ok.grows _ c.requires.condition)

pub and-requires-2-clause-right : goal.and-requires-2-clause-right
and-requires-2-clause-right g c = IsDefined-grown _ _ _ c.in_ok-first.ensures.ok.grows _ c.requires.otherwise

pub disjunction-requires-clause-left : goal.disjunction-requires-clause-left
disjunction-requires-clause-left g c = IsDefined-grown _ _ _ c.in_ok-second.ensures.ok.grows _ c.in_ok-first.ensures.ok.defined

pub disjunction-requires-clause-right : goal.disjunction-requires-clause-right
disjunction-requires-clause-right g c = c.in_ok-second.ensures.ok.defined

pub returns-in_err-first-clause-refused : goal.returns-in_err-first-clause-refused
returns-in_err-first-clause-refused g c =
    let refused : RefusesGate (g.G.Gates.made c.args.g.now) (g.G.Gates.made c.and.new.self) 3 c.in_err-first.field-0.0 = Refuses-weaker _ _ 1 3 _ (omega arith) c.in_err-first.ensures.refused in
    search rules

pub returns-in_err-second-clause-refused : goal.returns-in_err-second-clause-refused
returns-in_err-second-clause-refused g c =
    let refused : RefusesGate (g.G.Gates.made c.args.g.now) (g.G.Gates.made c.and-2.new.self) 3 c.in_err-second.field-0.0 = Refuses-behind _ _ _ 1 1 3 _ (omega arith) c.in_ok-first.ensures.ok.grows c.in_err-second.ensures.refused in
    search rules
