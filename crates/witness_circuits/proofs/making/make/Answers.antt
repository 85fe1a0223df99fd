use Rattle.std.proofs.Common.{◌+◌, length, rules, arith}
use Rattle.std.proofs.lemmas.Result.{IfOk-weaker, IfErr-weaker}
use Rattle.aiger.specs.Net.{IsDefined}
use Rattle.gates.specs.Made.{RefusesGate}
use Rattle.gates.proofs.GrowthLemmas.{Grows-trans, All-defined-grown}
use Rattle.gates.proofs.LiteralLemmas.{Refuses-behind}
use Rattle.witness_circuits.specs.Tests.{test_cost}
use Rattle.witness_circuits.specs.Made.{condition_cost}
use Rattle.witness_circuits.specs.Parts.{mapping_in, parts_of_test}
use Rattle.witness_circuits.proofs.ConditionLemmas.{StandFor-grown}
use Rattle.witness_circuits.proofs.PartLemmas.{each_part, made_from}
use Rattle.witness_circuits.proofs.making.make.Goals as goal

pub first_frames-requires-clause-inputs_defined : goal.first_frames-requires-clause-inputs_defined
first_frames-requires-clause-inputs_defined g c = (each_part (IsDefined (g.G.Gates.made c.args.g.now)) (parts_of_test c.args.parts) c.requires.defined).inputs

pub first_frames-requires-clause-latches_defined : goal.first_frames-requires-clause-latches_defined
first_frames-requires-clause-latches_defined g c = (each_part (IsDefined (g.G.Gates.made c.args.g.now)) (parts_of_test c.args.parts) c.requires.defined).latches

pub first_frames-requires-clause-own_inputs_defined : goal.first_frames-requires-clause-own_inputs_defined
first_frames-requires-clause-own_inputs_defined g c = (each_part (IsDefined (g.G.Gates.made c.args.g.now)) (parts_of_test c.args.parts) c.requires.defined).own_inputs

pub first_frames-requires-clause-own_latches_defined : goal.first_frames-requires-clause-own_latches_defined
first_frames-requires-clause-own_latches_defined g c = (each_part (IsDefined (g.G.Gates.made c.args.g.now)) (parts_of_test c.args.parts) c.requires.defined).own_latches

pub next_frames-requires-clause-inputs_defined : goal.next_frames-requires-clause-inputs_defined
next_frames-requires-clause-inputs_defined g c =
    All-defined-grown _ _ _ c.in_ok-first.ensures.ok.grows c.args.parts.next_inputs.now (each_part (IsDefined (g.G.Gates.made c.args.g.now)) (parts_of_test c.args.parts) c.requires.defined).next_inputs

pub next_frames-requires-clause-own_inputs_defined : goal.next_frames-requires-clause-own_inputs_defined
next_frames-requires-clause-own_inputs_defined g c =
    All-defined-grown _ _ _ c.in_ok-first.ensures.ok.grows c.args.parts.next_own.now (each_part (IsDefined (g.G.Gates.made c.args.g.now)) (parts_of_test c.args.parts) c.requires.defined).next_own

pub returns-in_err-next-clause-refused : goal.returns-in_err-next-clause-refused
returns-in_err-next-clause-refused g c =
    let circuit = c.args.circuit.now in
    let witness = c.args.witness.now in
    let refused : RefusesGate (g.G.Gates.made c.args.g.now) (g.G.Gates.made c.next_frames.new.g) (test_cost circuit witness) c.in_err-next.field-0.0 =
    Refuses-behind _ _ _ (length circuit.gates + length witness.gates) (length circuit.gates + length witness.gates) (test_cost circuit witness) _ (omega arith) c.in_ok-first.ensures.ok.grows c.in_err-next.ensures.refused
    in search rules

pub condition_fails-requires-clause-latches_defined : goal.condition_fails-requires-clause-latches_defined
condition_fails-requires-clause-latches_defined g c =
    All-defined-grown _ _ _ (Grows-trans _ _ _ _ _ c.in_ok-first.ensures.ok.grows c.in_ok-next.ensures.ok.grows) c.args.parts.latches.now (each_part (IsDefined (g.G.Gates.made c.args.g.now)) (parts_of_test c.args.parts) c.requires.defined).latches

pub condition_fails-requires-clause-own_latches_defined : goal.condition_fails-requires-clause-own_latches_defined
condition_fails-requires-clause-own_latches_defined g c =
    All-defined-grown _ _ _ (Grows-trans _ _ _ _ _ c.in_ok-first.ensures.ok.grows c.in_ok-next.ensures.ok.grows) c.args.parts.own_latches.now
    (each_part (IsDefined (g.G.Gates.made c.args.g.now)) (parts_of_test c.args.parts) c.requires.defined).own_latches

pub condition_fails-requires-clause-table : goal.condition_fails-requires-clause-table
condition_fails-requires-clause-table g c = StandFor-grown c.args.circuit.now _ _ _ c.in_ok-first.first.table c.in_ok-next.ensures.ok.grows c.in_ok-first.ensures.ok.stand

pub condition_fails-requires-clause-own : goal.condition_fails-requires-clause-own
condition_fails-requires-clause-own g c = StandFor-grown c.args.witness.now _ _ _ c.in_ok-first.first.own c.in_ok-next.ensures.ok.grows c.in_ok-first.ensures.ok.own_stand

pub condition_fails-requires-clause-next_table : goal.condition_fails-requires-clause-next_table
condition_fails-requires-clause-next_table g c = c.in_ok-next.ensures.ok.stand

pub condition_fails-requires-clause-next_own : goal.condition_fails-requires-clause-next_own
condition_fails-requires-clause-next_own g c = c.in_ok-next.ensures.ok.own_stand

pub returns-clause-ok : goal.returns-clause-ok
returns-clause-ok g c =
    IfOk-weaker c.condition_fails.result _ _
    (λ l made.
    made_from c.args.circuit.now c.args.bad c.args.witness.now (mapping_in c.args.shared.now) (parts_of_test c.args.parts) _ _ _ _ c.in_ok-first.first.table c.in_ok-first.first.own c.in_ok-next.next.table
    c.in_ok-next.next.own l c.requires.mapping c.in_ok-first.ensures.ok c.in_ok-next.ensures.ok made)
    c.condition_fails.ensures.ok

pub returns-clause-refused : goal.returns-clause-refused
returns-clause-refused g c =
    let circuit = c.args.circuit.now in
    let witness = c.args.witness.now in
    let gates = length circuit.gates + length witness.gates in
    IfErr-weaker c.condition_fails.result _ _
    (λ e refused. Refuses-behind _ _ _ (gates + gates) (condition_cost circuit witness) (test_cost circuit witness) e (omega arith) (Grows-trans _ _ _ _ _ c.in_ok-first.ensures.ok.grows c.in_ok-next.ensures.ok.grows) refused)
    c.condition_fails.ensures.refused
