use Rattle.std.proofs.Common.{Ok}
use Rattle.aigertext.proofs.StandsLemmas.{stands-read, ok_circuit}
use Rattle.aigertext.proofs.laws.one_binary_circuit.Goals as goal

pub returns-clause-read : goal.returns-clause-read
returns-clause-read c = stands-read

pub returns-clause-same : goal.returns-clause-same
returns-clause-same c = λ text x y s t. ok_circuit x y (c.one_answer.ensures.unique text (Ok x) (Ok y) (stands-read text x s) (stands-read text y t))
