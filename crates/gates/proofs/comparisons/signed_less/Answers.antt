use Rattle.std.proofs.Common.{◌≡◌, length, ap, ◌∙◌, arith}
use Rattle.std.proofs.lemmas.Result.{IfOk-weaker}
use Rattle.gates.proofs.OrderLemmas.{All-top_negated, length-top_negated, MakesLiteral-signed}
use Rattle.gates.proofs.comparisons.signed_less.Goals as goal

pub less-requires : goal.less-requires
less-requires g c =
    let a = c.args.a.now in
    let b = c.args.b.now in
    let in_a : length c.as_slice.result.now ≡ length a = ap length (c.as_slice.ensures.value ∙ c.top_negated.ensures) ∙ length-top_negated a c.requires.some in
    let in_b : length c.as_slice-2.result.now ≡ length b = ap length (c.as_slice-2.ensures.value ∙ c.top_negated-2.ensures) ∙ length-top_negated b (omega arith) in
    record {
      some = omega arith;
      most = omega arith;
      equal = omega arith;
      left = All-top_negated _ a c.as_slice.result.now (c.as_slice.ensures.value ∙ c.top_negated.ensures) c.requires.some c.requires.left;
      right = All-top_negated _ b c.as_slice-2.result.now (c.as_slice-2.ensures.value ∙ c.top_negated-2.ensures) (omega arith) c.requires.right;
    }

pub returns-clause-ok : goal.returns-clause-ok
returns-clause-ok g c =
    IfOk-weaker c.less.result _ _
    (λ l less. MakesLiteral-signed _ _ c.args.a.now c.args.b.now c.as_slice.result.now c.as_slice-2.result.now l c.requires.some c.requires.equal (c.as_slice.ensures.value ∙ c.top_negated.ensures) (c.as_slice-2.ensures.value ∙ c.top_negated-2.ensures) less)
    c.less.ensures.ok
