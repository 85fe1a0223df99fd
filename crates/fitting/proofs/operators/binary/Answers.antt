use Rattle.std.proofs.Common.{◌≡◌, ℕ, Bool, cond, length, sym, ap, subst, ◌∙◌, arith}
use Rattle.base.specs.Operator.{binary_value}
use Rattle.pieces.specs.Nodes.{word_of, bits_in, MakesWord}
use Rattle.pieces.proofs.ListLemmas.{ok_with, words_alike, same_length}
use Rattle.fitting.proofs.OperatorLemmas.{alone_word, binary_alone, more_bits, wide_of_words}
use Rattle.fitting.proofs.operators.binary.Goals as goal

pub returns-then-a-eq1-clause-word : goal.returns-then-a-eq1-clause-word
returns-then-a-eq1-clause-word c =
    let a = c.args.a.now in
    let b = c.args.b.now in
    let one_b : length b ≡ 1 = sym (same_length a b (words_alike 64 a b (omega arith) c.requires.a.cut c.requires.b.cut c.requires.same)) ∙ c.if-a-eq1.true in
    ok_with _ _ c.alone.result
    (λ rs is.
    binary_alone c.args.maker.now c.binary.new.self c.args.operator c.of_words.result a b _ _ c.in_ok-node.node rs.items c.in_ok-node.ensures.extends c.requires.a c.requires.b c.requires.same c.if-a-eq1.true one_b c.requires.bits
    c.of_words.ensures.width c.of_words.ensures.value is c.in_ok-node.ensures.node) c.alone.ensures.word

pub test-requires-clause-operator : goal.test-requires-clause-operator
test-requires-clause-operator c =
    wide_of_words c.args.operator (bits_in c.args.a.now) (more_bits c.args.a.now c.requires.a.cut c.requires.a.some c.if-a-eq1.false) c.requires.bits

pub returns-then-is_test-clause-word : goal.returns-then-is_test-clause-word
returns-then-is_test-clause-word c =
    ok_with _ _ c.alone-then-is_test.result
    (λ rs is.
    subst (λ (n : ℕ). MakesWord c.test.new.maker n (λ g. binary_value c.args.operator (bits_in c.args.a.now) (word_of g c.args.a.now) (word_of g c.args.b.now)) rs.items)
    (sym (ap (λ (t : Bool). cond t 1 (bits_in c.args.a.now)) (sym c.is_test.ensures ∙ c.if-is_test.true)))
    (alone_word c.test.new.maker 1 (λ g. binary_value c.args.operator (bits_in c.args.a.now) (word_of g c.args.a.now) (word_of g c.args.b.now)) c.in_ok-node-2.node rs.items is c.in_ok-node-2.ensures.node)) c.alone-then-is_test.ensures.word

pub operation-requires-clause-operator : goal.operation-requires-clause-operator
operation-requires-clause-operator c =
    wide_of_words c.args.operator (bits_in c.args.a.now) (more_bits c.args.a.now c.requires.a.cut c.requires.a.some c.if-a-eq1.false) c.requires.bits
