use Rattle.std.proofs.Common.{◌≡◌, Bool, true, false, not, ◌||◌, ◌==◌, refl, sym, ap, ap₂, ◌∙◌}
use Rattle.base.specs.Word.{bit_number}
use Rattle.base.specs.Literal.{literal_value}
use Rattle.base.proofs.LiteralLemmas.{literal_value-negation}
use Rattle.gates.proofs.BitListLemmas.{MakesWord-bit, MakesWord-same, word_value-bit}
use Rattle.gates.proofs.bitwise.implies.Goals as goal

-- the first is 0 or the second 1
implied : (x y : Bool) → bit_number (not x || y) ≡ bit_number ((bit_number x == 0) || (bit_number y == 1))
implied true true = refl
implied true false = refl
implied false true = refl
implied false false = refl

pub returns-clause-ok : goal.returns-clause-ok
returns-clause-ok g c =
    let x = c.index-a-0.result in
    let y = c.index-b-0.result in
    let lit = c.in_ok-lit.lit in
    MakesWord-same _ _ 1 1 _ _ c.one_bit.result.items
    (λ v. ap (λ z. bit_number (z || literal_value v y)) (ap (literal_value v) c.not.ensures ∙ literal_value-negation v x)
    ∙ implied (literal_value v x) (literal_value v y)
    ∙ sym (ap₂ (λ k m. bit_number ((k == 0) || (m == 1))) (word_value-bit v c.args.a.now x c.requires.bit (cc)) (word_value-bit v c.args.b.now y (c.requires.operands.equal ∙ c.requires.bit) (cc))))
    (MakesWord-bit _ _ 1 lit _ c.one_bit.result.items c.one_bit.ensures c.in_ok-lit.ensures.ok)
