use Rattle.std.proofs.Common.{◌&&◌, Bool, sym, ap, ◌∙◌, arith}
use Rattle.std.proofs.lemmas.Result.{IfOk-weaker}
use Rattle.aiger.specs.declared.circuit.Reset.{Reset}
use Rattle.base.specs.Literal.{literal_value}
use Rattle.base.proofs.LiteralLemmas.{literal_value-negation}
use Rattle.gates.proofs.LiteralLemmas.{MakesLiteral-and, MakesLiteral-same}
use Rattle.witness_circuits.specs.Made.{agrees}
use Rattle.witness_circuits.proofs.starts.agreeing.Goals as goal

pub returns-in-Zero-clause-ok : goal.returns-in-Zero-clause-ok
returns-in-Zero-clause-ok g c =
    IfOk-weaker c.and.result _ _ (λ l makes.
    MakesLiteral-same _ _ 1 1 l (λ v. literal_value v c.args.so_far && literal_value v c.not.result) (λ v. literal_value v c.args.so_far && agrees c.args.reset (literal_value v c.args.bit)) (omega arith)
    (λ v.
    ap (λ n. literal_value v c.args.so_far && literal_value v n) c.not.ensures
    ∙ (ap (λ (b : Bool). literal_value v c.args.so_far && b) (literal_value-negation v c.args.bit)
    ∙ ap (λ (r : Reset). literal_value v c.args.so_far && agrees r (literal_value v c.args.bit)) (sym c.in-Zero.is)))
    (MakesLiteral-and _ _ c.args.so_far c.not.result l makes))
    c.and.ensures.ok
