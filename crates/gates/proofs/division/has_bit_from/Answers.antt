use Rattle.std.proofs.Common.{◌≡◌, ℕ, ◌+◌, ◌-◌, ◌∷◌, [], length, drop, get_or, sym, ap₂, ◌∙◌, arith, rules, ap}
use Rattle.std.proofs.lemmas.List.{drop_more, drop_all}
use Rattle.gates.specs.Made.{RefusesGate}
use Rattle.gates.proofs.LaterLemmas.{IsDefined-of_word}
use Rattle.gates.proofs.LiteralLemmas.{Refuses-behind}
use Rattle.gates.proofs.QuotientLemmas.{MakesLiteral-no_bit, MakesLiteral-bit_more}
use Rattle.gates.proofs.division.has_bit_from.Goals as goal

pub loop-above-init : goal.loop-above-init
loop-above-init g c =
    let a = c.args.a.now in
    let none : drop (length a - 0) a ≡ [] = drop_all (length a - 0) a (omega arith) in
    rw none (MakesLiteral-no_bit (g.G.Gates.made c.args.g.now))

pub loop-above-preserved : goal.loop-above-preserved
loop-above-preserved g c =
    let a = c.args.a.now in
    let above = c.loop-above.above in
    let x = c.index-a-place.result in
    let place = length a - (above + 1) in
    let at : x ≡ get_or a place x = c.index-a-place.is ∙ ap (λ (k : ℕ). get_or a k x) (omega arith) in
    let longer : drop place a ≡ x ∷ drop (length a - above) a = drop_more a place x (omega arith) ∙ ap₂ (λ (y k : ℕ). y ∷ drop k a) (sym at) (omega arith) in
    rw longer (MakesLiteral-bit_more _ _ _ above (above + 1) (drop (length a - above) a) x c.loop-above.some c.in_ok-some.some (omega arith) c.loop-above.invariant c.in_ok-some.ensures.ok)

pub disjunction-requires-clause-left : goal.disjunction-requires-clause-left
disjunction-requires-clause-left g c = c.loop-above.invariant.defined

pub disjunction-requires-clause-right : goal.disjunction-requires-clause-right
disjunction-requires-clause-right g c =
    IsDefined-of_word _ _ _ c.args.a.now (length c.args.a.now - 1 - c.loop-above.above) c.index-a-place.result (omega arith) c.index-a-place.is c.requires.defined c.loop-above.invariant.grows

pub returns-in_err-some-clause-refused : goal.returns-in_err-some-clause-refused
returns-in_err-some-clause-refused g c =
    let most = length c.args.a.now - c.args.from in
    let refused : RefusesGate (g.G.Gates.made c.args.g.now) (g.G.Gates.made c.disjunction.new.g) most c.in_err-some.field-0.0 =
    Refuses-behind _ _ _ c.loop-above.above 1 most _ (omega arith) c.loop-above.invariant.grows c.in_err-some.ensures.refused
    in search rules
