use Rattle.std.proofs.Common.{◌+◌, ◌*◌, take, sym, ap, ◌∙◌, arith, length-take, length, rules}
use Rattle.base.specs.Literal.{literal_value}
use Rattle.gates.specs.Connect.{connected, connected_bits, connective_bound, words_bound}
use Rattle.gates.specs.Made.{word_value, RefusesGate}
use Rattle.gates.proofs.LaterLemmas.{IsDefined-of_word}
use Rattle.gates.proofs.WordLemmas.{connected_bits-push}
use Rattle.gates.proofs.LiteralLemmas.{MakesLiteral-then, MakesLiteral-same, Refuses-behind}
use Rattle.gates.proofs.BitListLemmas.{word_value-more, word_value-below}
use Rattle.gates.proofs.RowLemmas.{words_bound-more}
use Rattle.gates.proofs.bitwise.connect_bits.Goals as goal

pub loop-lit-preserved : goal.loop-lit-preserved
loop-lit-preserved g c =
    let by = c.args.by in
    let a = c.args.a.now in
    let i = c.loop-lit.lit-index in
    let lit = c.lit-item.result in
    let cost = connective_bound by in
    MakesLiteral-same _ _ (cost * i + cost) (cost * (i + 1)) c.in_ok-all.all _ (λ v. connected_bits by (i + 1) (word_value v (take (i + 1) a))) (omega arith)
    (λ v.
    sym (ap (connected_bits by (i + 1)) (word_value-more v a i lit (omega arith) (cc))
    ∙ connected_bits-push by (word_value v (take i a)) i (literal_value v lit) (word_value-below v (take i a) i (omega (arith, length-take i a)))))
    (MakesLiteral-then _ _ _ (cost * i) cost c.loop-lit.all c.in_ok-all.all (λ v. connected_bits by i (word_value v (take i a))) (λ v x. connected by x (literal_value v lit)) c.loop-lit.invariant c.in_ok-all.ensures.ok)

pub connect-requires-clause-left : goal.connect-requires-clause-left
connect-requires-clause-left g c = c.loop-lit.invariant.defined

pub connect-requires-clause-right : goal.connect-requires-clause-right
connect-requires-clause-right g c =
    IsDefined-of_word _ _ _ c.args.a.now c.loop-lit.lit-index c.lit-item.result (omega arith) (cc) c.requires.defined c.loop-lit.invariant.grows

pub returns-in_err-all-clause-refused : goal.returns-in_err-all-clause-refused
returns-in_err-all-clause-refused g c =
    let by = c.args.by in
    let n = length c.args.a.now in
    let refused : RefusesGate (g.G.Gates.made c.args.g.now) (g.G.Gates.made c.connect.new.g) (words_bound by n) c.in_err-all.field-0.0 =
    Refuses-behind _ _ _ (connective_bound by * c.loop-lit.lit-index) (connective_bound by) (words_bound by n) _ (words_bound-more by c.loop-lit.lit-index n (omega arith)) c.loop-lit.invariant.grows c.in_err-all.ensures.refused
    in search rules
