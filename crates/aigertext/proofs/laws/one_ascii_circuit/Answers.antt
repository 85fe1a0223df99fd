use Rattle.std.proofs.Common.{Ok}
use Rattle.aigertext.proofs.AsciiStandsLemmas.{ascii-read, ascii-valid}
use Rattle.aigertext.proofs.StandsLemmas.{ok_circuit}
use Rattle.aigertext.proofs.laws.one_ascii_circuit.Goals as goal

pub returns-clause-read : goal.returns-clause-read
returns-clause-read c = ascii-read c.one_renumbering.ensures.circuit

pub returns-clause-same : goal.returns-clause-same
returns-clause-same c = λ text x y s t.
    ok_circuit x y (c.one_answer.ensures.unique text (Ok x) (Ok y) (ascii-read c.one_renumbering.ensures.circuit text x s) (ascii-read c.one_renumbering.ensures.circuit text y t))

pub returns-clause-valid : goal.returns-clause-valid
returns-clause-valid c = ascii-valid c.one_renumbering.ensures.circuit c.circuit_with_a_name.ensures
