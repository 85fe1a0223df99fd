use Rattle.std.proofs.Common.{ap, ◌∙◌}
use Rattle.aiger.specs.Circuit.{Circuit}
use Rattle.runs.specs.CircuitRun.{CircuitRun}
use Rattle.vectors.specs.CircuitRuns.{IsRunOf}
use Rattle.vectors.proofs.OperatorLemmas.{input_count, outputs_few, word_is_value, of_own, settled_run}
use Rattle.vectors.proofs.circuits.circuit_word.Goals as goal

-- the run that is settled is of the circuit
still : (c : goal.After-output_word) → IsRunOf c.args.circuit.now c.settle.new.self
still c =
    settled_run c.args.circuit.now c.set_operands.new.run c.settle.new.self (ap (λ (r : CircuitRun). r.circuit) c.settle.ensures) (ap (λ (r : CircuitRun). r.latches) c.settle.ensures) (ap (λ (r : CircuitRun). r.inputs) c.settle.ensures)
    (c.set_operands.ensures.same ∙ c.requires.run.same) c.set_operands.ensures.run

pub set_operands-requires-clause-run : goal.set_operands-requires-clause-run
set_operands-requires-clause-run c = of_own _ _ c.requires.run

pub set_operands-requires-clause-inputs : goal.set_operands-requires-clause-inputs
set_operands-requires-clause-inputs c = ap (λ (d : Circuit). d.inputs) c.requires.run.same ∙ input_count c.args.vector c.args.circuit.now c.requires.lowers

pub output_word-requires-clause-few : goal.output_word-requires-clause-few
output_word-requires-clause-few c = outputs_few c.args.vector c.args.circuit.now c.requires.fits c.requires.lowers

pub returns-clause-same : goal.returns-clause-same
returns-clause-same c = still c

pub returns-clause-word : goal.returns-clause-word
returns-clause-word c =
    word_is_value c.args.vector c.args.circuit.now c.settle.new.self c.output_word.result c.requires.fits c.requires.lowers (still c)
    (ap (λ (r : CircuitRun). r.inputs) c.settle.ensures ∙ c.set_operands.ensures.inputs) c.output_word.ensures
