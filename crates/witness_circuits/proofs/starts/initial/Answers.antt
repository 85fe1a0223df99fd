use Rattle.std.proofs.Common.{◌+◌, ◌&&◌, Bool, List, take, length, sym, ap, ◌∙◌, arith}
use Rattle.std.proofs.Math.Bool.{and_assoc}
use Rattle.std.proofs.lemmas.List.{take_all}
use Rattle.aiger.specs.declared.circuit.Latch.{Latch}
use Rattle.aiger.specs.declared.circuit.Reset.{Reset}
use Rattle.base.specs.Literal.{Valuation, literal_value}
use Rattle.gates.proofs.GrowthLemmas.{All-defined-grown}
use Rattle.gates.proofs.LiteralLemmas.{MakesLiteral-then, MakesLiteral-same}
use Rattle.witness_circuits.specs.Made.{agrees, own_initial, values}
use Rattle.witness_circuits.proofs.MakerLemmas.{initial-none, initial-next, defined_at}
use Rattle.witness_circuits.proofs.starts.initial.Goals as goal

pub agreeing-requires-clause-bit : goal.agreeing-requires-clause-bit
agreeing-requires-clause-bit g c =
    defined_at _ c.args.bits.now c.loop-j.j c.index-bits-j.result (omega (arith, c.loop-j-test.true, c.requires.many)) c.index-bits-j.is (All-defined-grown _ _ _ c.loop-j.invariant.grows c.args.bits.now c.requires.bits)

pub loop-j-init : goal.loop-j-init
loop-j-init g c = initial-none _ c.args.shared.now c.args.bits.now c.args.so_far c.requires.so_far

pub loop-j-preserved : goal.loop-j-preserved
loop-j-preserved g c =
    let ms = c.args.shared.now in
    let ls = c.args.latches.now in
    let bs = c.args.bits.now in
    let i = c.loop-j.j in
    let f : Valuation → Bool = λ v. literal_value v c.args.so_far && own_initial ms (take i ls) (values v bs) in
    MakesLiteral-same _ _ (i + 1) (i + 1) _ (λ v. f v && agrees c.own_reset.result (literal_value v c.index-bits-j.result)) (λ v. literal_value v c.args.so_far && own_initial ms (take (i + 1) ls) (values v bs)) (omega arith)
    (λ v.
    and_assoc (literal_value v c.args.so_far) (own_initial ms (take i ls) (values v bs)) (agrees c.own_reset.result (literal_value v c.index-bits-j.result))
    ∙ ap (λ (b : Bool). literal_value v c.args.so_far && b)
    (ap (λ (r : Reset). own_initial ms (take i ls) (values v bs) && agrees r (literal_value v c.index-bits-j.result)) c.own_reset.ensures
    ∙ sym (initial-next ms ls bs v i c.index-latches-j.result c.index-bits-j.result c.loop-j-test.true c.requires.many c.index-latches-j.is c.index-bits-j.is)))
    (MakesLiteral-then _ _ _ i 1 c.loop-j.so_far c.in_ok-so_far.so_far f (λ v b. b && agrees c.own_reset.result (literal_value v c.index-bits-j.result)) c.loop-j.invariant c.in_ok-so_far.ensures.ok)

pub returns-clause-ok : goal.returns-clause-ok
returns-clause-ok g c =
    let ms = c.args.shared.now in
    let ls = c.args.latches.now in
    let i = c.loop-j.j in
    MakesLiteral-same _ _ i (length ls) _ (λ v. literal_value v c.args.so_far && own_initial ms (take i ls) (values v c.args.bits.now)) (λ v. literal_value v c.args.so_far && own_initial ms ls (values v c.args.bits.now)) (omega arith)
    (λ v. ap (λ (xs : List Latch). literal_value v c.args.so_far && own_initial ms xs (values v c.args.bits.now)) (take_all i ls (omega (arith, c.loop-j-test.false)))) c.loop-j.invariant
