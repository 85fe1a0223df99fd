use Rattle.std.proofs.Common.{ℕ, Bool, cond, sym, ap, subst, ◌∙◌}
use Rattle.base.specs.Operator.{unary_value}
use Rattle.pieces.specs.Nodes.{word_of, bits_in, MakesWord}
use Rattle.pieces.proofs.ListLemmas.{ok_with}
use Rattle.fitting.proofs.OperatorLemmas.{alone_word, unary_alone}
use Rattle.fitting.proofs.operators.unary.Goals as goal

pub returns-then-a-eq1-clause-word : goal.returns-then-a-eq1-clause-word
returns-then-a-eq1-clause-word c =
    ok_with _ _ c.alone.result (λ rs is. unary_alone c.unary.new.self c.args.operator c.args.a.now _ c.in_ok-node.node rs.items c.if-a-eq1.true is c.in_ok-node.ensures.node) c.alone.ensures.word

pub returns-then-is_reduction-clause-word : goal.returns-then-is_reduction-clause-word
returns-then-is_reduction-clause-word c =
    ok_with _ _ c.alone-then-is_reduction.result
    (λ rs is.
    subst (λ (n : ℕ). MakesWord c.reduction.new.maker n (λ g. unary_value c.args.operator (bits_in c.args.a.now) (word_of g c.args.a.now)) rs.items)
    (sym (ap (λ (t : Bool). cond t 1 (bits_in c.args.a.now)) (sym c.is_reduction.ensures ∙ c.if-is_reduction.true)))
    (alone_word c.reduction.new.maker 1 (λ g. unary_value c.args.operator (bits_in c.args.a.now) (word_of g c.args.a.now)) c.in_ok-node-2.node rs.items is c.in_ok-node-2.ensures.node)) c.alone-then-is_reduction.ensures.word
