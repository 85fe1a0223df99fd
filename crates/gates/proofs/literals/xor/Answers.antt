use Rattle.std.proofs.Common.{◌≡◌, Bool, true, false, not, ◌&&◌, refl, arith, rules}
use Rattle.std.proofs.lemmas.Result.{IfOk-weaker, IfErr-weaker}
use Rattle.base.specs.Literal.{literal_value}
use Rattle.base.proofs.LiteralLemmas.{literal_value-negation}
use Rattle.gates.specs.Made.{RefusesGate}
use Rattle.gates.specs.Connect.{differ}
use Rattle.gates.proofs.LaterLemmas.{IsDefined-not, Refuses-weaker}
use Rattle.gates.proofs.LiteralLemmas.{MakesLiteral-and, MakesLiteral-join, MakesLiteral-same, Refuses-behind}
use Rattle.gates.proofs.GrowthLemmas.{Grows-trans, IsDefined-grown}
use Rattle.gates.proofs.literals.xor.Goals as goal

-- neither both nor neither
just_one : (x y : Bool) → (not (x && y) && not (not x && not y)) ≡ differ x y
just_one true true = refl
just_one true false = refl
just_one false true = refl
just_one false false = refl

pub returns-clause-ok : goal.returns-clause-ok
returns-clause-ok g c =
    let a = c.args.a in
    let b = c.args.b in
    IfOk-weaker c.and-3.result _ _
    (λ l m.
    let first = MakesLiteral-and _ _ a b c.in_ok-both.both c.in_ok-both.ensures.ok in
    let second = MakesLiteral-same _ _ 1 1 c.in_ok-neither.neither _ (λ v. not (literal_value v a) && not (literal_value v b)) (omega arith) (λ v. rw (c.not.ensures, c.not-2.ensures, literal_value-negation v a, literal_value-negation v b) refl) (MakesLiteral-and _ _ _ _ _ c.in_ok-neither.ensures.ok) in
    let third = MakesLiteral-same _ _ 1 1 l _ (λ v. not (literal_value v c.in_ok-both.both) && not (literal_value v c.in_ok-neither.neither)) (omega arith) (λ v. rw (c.not-3.ensures, c.not-4.ensures, literal_value-negation v c.in_ok-both.both, literal_value-negation v c.in_ok-neither.neither) refl) (MakesLiteral-and _ _ _ _ l m) in
    let joined = MakesLiteral-join _ _ _ _ 1 1 1 _ _ l _ _ (λ x y. not x && not y) first second third in
    MakesLiteral-same _ _ 3 3 l _ (λ v. differ (literal_value v a) (literal_value v b)) (omega arith) (λ v. just_one (literal_value v a) (literal_value v b)) joined)
    c.and-3.ensures.ok

pub returns-clause-refused : goal.returns-clause-refused
returns-clause-refused g c =
    let before = Grows-trans _ _ _ _ _ c.in_ok-both.ensures.ok.grows c.in_ok-neither.ensures.ok.grows in
    IfErr-weaker c.and-3.result _ _ (λ e refused. Refuses-behind _ _ _ _ _ (3) e (omega arith) before refused) c.and-3.ensures.refused

pub and-requires-2-clause-left : goal.and-requires-2-clause-left
and-requires-2-clause-left g c = IsDefined-not _ c.args.a _ c.not.ensures (IsDefined-grown _ _ _ c.in_ok-both.ensures.ok.grows _ c.requires.left)

pub and-requires-2-clause-right : goal.and-requires-2-clause-right
and-requires-2-clause-right g c = IsDefined-not _ c.args.b _ c.not-2.ensures (IsDefined-grown _ _ _ c.in_ok-both.ensures.ok.grows _ c.requires.right)

pub and-requires-3-clause-left : goal.and-requires-3-clause-left
and-requires-3-clause-left g c = IsDefined-not _ c.in_ok-both.both _ c.not-3.ensures (IsDefined-grown _ _ _ c.in_ok-neither.ensures.ok.grows _ c.in_ok-both.ensures.ok.defined)

pub and-requires-3-clause-right : goal.and-requires-3-clause-right
and-requires-3-clause-right g c = IsDefined-not _ c.in_ok-neither.neither _ c.not-4.ensures c.in_ok-neither.ensures.ok.defined

pub returns-in_err-both-clause-refused : goal.returns-in_err-both-clause-refused
returns-in_err-both-clause-refused g c =
    let refused : RefusesGate (g.G.Gates.made c.args.g.now) (g.G.Gates.made c.and.new.self) 3 c.in_err-both.field-0.0 = Refuses-weaker _ _ 1 3 _ (omega arith) c.in_err-both.ensures.refused in
    search rules

pub returns-in_err-neither-clause-refused : goal.returns-in_err-neither-clause-refused
returns-in_err-neither-clause-refused g c =
    let refused : RefusesGate (g.G.Gates.made c.args.g.now) (g.G.Gates.made c.and-2.new.self) 3 c.in_err-neither.field-0.0 = Refuses-behind _ _ _ 1 1 3 _ (omega arith) c.in_ok-both.ensures.ok.grows c.in_err-neither.ensures.refused in
    search rules
