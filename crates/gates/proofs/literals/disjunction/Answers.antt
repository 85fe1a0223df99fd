use Rattle.std.proofs.Common.{◌≡◌, Bool, true, false, not, ◌&&◌, ◌||◌, refl, arith}
use Rattle.base.specs.Literal.{literal_value}
use Rattle.base.proofs.LiteralLemmas.{literal_value-negation}
use Rattle.gates.proofs.LiteralLemmas.{MakesLiteral-and, MakesLiteral-not, MakesLiteral-same}
use Rattle.gates.proofs.literals.disjunction.Goals as goal

-- not both of the opposites
not_neither : (x y : Bool) → not (not x && not y) ≡ (x || y)
not_neither true true = refl
not_neither true false = refl
not_neither false true = refl
not_neither false false = refl

pub returns-clause-ok : goal.returns-clause-ok
returns-clause-ok g c =
    let both = MakesLiteral-not _ _ _ _ _ (MakesLiteral-and _ _ _ _ c.in_ok-neither.neither c.in_ok-neither.ensures.ok) in
    rw c.not-3.ensures (MakesLiteral-same _ _ 1 1 _ _ _ (omega arith) (λ v. rw (c.not.ensures, c.not-2.ensures, literal_value-negation v c.args.a, literal_value-negation v c.args.b) (not_neither (literal_value v c.args.a) (literal_value v c.args.b))) both)
