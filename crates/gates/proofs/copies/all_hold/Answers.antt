use Rattle.std.proofs.Common.{◌≡◌, ℕ, ◌&&◌, List, length, take, ap, refl, arith}
use Rattle.std.proofs.lemmas.List.{take_all}
use Rattle.std.specs.List.{list_all}
use Rattle.base.specs.Literal.{literal_value}
use Rattle.gates.proofs.LiteralLemmas.{MakesLiteral-same}
use Rattle.gates.specs.Reads.{literal_in}
use Rattle.gates.proofs.TableLemmas.{hold-more}
use Rattle.gates.proofs.copies.all_hold.Goals as goal

pub loop-constraint-preserved : goal.loop-constraint-preserved
loop-constraint-preserved g c =
    hold-more _ _ _ c.args.table.now c.args.constraints.now c.args.met c.loop-constraint.constraint-index c.constraint-item.result c.loop-constraint.met (literal_in c.args.table.now c.constraint-item.result) c.in_ok-met.met (omega arith) (cc) refl c.loop-constraint.invariant c.in_ok-met.ensures.ok

pub returns-clause-ok : goal.returns-clause-ok
returns-clause-ok g c =
    let ls = c.args.constraints.now in
    let i = c.loop-constraint.constraint-index in
    let table = c.args.table.now in
    let all : take i ls ≡ ls = take_all i ls (omega arith) in
    MakesLiteral-same _ _ i (length ls) _ _ (λ v. literal_value v c.args.met && list_all (λ l. literal_value v (literal_in table l)) ls) (omega arith)
    (λ v. ap (λ (xs : List ℕ). literal_value v c.args.met && list_all (λ l. literal_value v (literal_in table l)) xs) all) c.loop-constraint.invariant
