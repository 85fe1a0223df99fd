use Rattle.std.proofs.Common.{◌+◌, ◌&&◌, [], length, ap, ◌∙◌, arith}
use Rattle.std.proofs.lemmas.Result.{IfOk-weaker, IfErr-weaker}
use Rattle.base.specs.Literal.{literal_value}
use Rattle.gates.specs.Reads.{read}
use Rattle.gates.proofs.LiteralLemmas.{MakesLiteral-same, Refuses-behind}
use Rattle.witness_circuits.specs.Certificate.{constraints_hold, bad_rises}
use Rattle.witness_circuits.specs.Tests.{claim_holds}
use Rattle.witness_circuits.specs.Made.{own_initial, values, fails_by, condition_cost}
use Rattle.witness_circuits.proofs.ConditionLemmas.{five_grown, condition_made, bad_read}
use Rattle.witness_circuits.proofs.conditions.condition_fails.Goals as goal

pub returns-clause-ok : goal.returns-clause-ok
returns-clause-ok g c =
    let circuit = c.args.circuit.now in
    let witness = c.args.witness.now in
    let first = c.args.first.now in
    let next = c.args.next.now in
    let stands = c.args.shared.now.latches.items in
    IfOk-weaker c.fails.result _ _
    (λ l made.
    let whole = condition_made _ _ _ _ _ _ _ _ _ _ _ _ _ _ _ _ _ _ _ _ _ c.in_ok-met.ensures.ok c.in_ok-begin.ensures.ok c.in_ok-holds.ensures.ok c.in_ok-next_met.ensures.ok c.in_ok-next_holds.ensures.ok _ c.literal_of-bad.result l made in
    MakesLiteral-same _ _ (length circuit.constraints + (length circuit.latches + length witness.latches) + (length witness.constraints + 1) + length circuit.constraints + (length witness.constraints + 1) + 7) (condition_cost circuit witness) l _ _ (omega arith)
    (λ v.
    ap (fails_by (constraints_hold circuit (read first.table v)) (own_initial [] circuit.latches (values v c.args.latches.now) && own_initial stands witness.latches (values v c.args.own_latches.now))
    (claim_holds witness (read first.own v)) (constraints_hold circuit (read next.table v)) (claim_holds witness (read next.own v)))
    (ap (literal_value v) c.literal_of-bad.ensures ∙ bad_read circuit _ first.table c.bads.result.now v c.args.bad c.index-bads-bad.result c.bads.ensures.items c.index-bads-bad.is c.requires.bad c.requires.table))
    whole)
    c.fails.ensures.ok

pub returns-clause-refused : goal.returns-clause-refused
returns-clause-refused g c =
    let circuit = c.args.circuit.now in
    let witness = c.args.witness.now in
    let before =
    five_grown _ _ _ _ _ _ _ _ _ _ _ _ _ _ _ _ _ _ _ _ _ c.in_ok-met.ensures.ok c.in_ok-begin.ensures.ok c.in_ok-holds.ensures.ok c.in_ok-next_met.ensures.ok c.in_ok-next_holds.ensures.ok in
    IfErr-weaker c.fails.result _ _
    (λ e refused. Refuses-behind _ _ _ (length circuit.constraints + (length circuit.latches + length witness.latches) + (length witness.constraints + 1) + length circuit.constraints + (length witness.constraints + 1)) 7 (condition_cost circuit witness) e (omega arith) before refused)
    c.fails.ensures.refused
