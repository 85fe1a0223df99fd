use Rattle.std.proofs.Common.{length, rules}
use Rattle.gates.specs.Bound.{binary_bound}
use Rattle.gates.specs.Made.{RefusesGate}
use Rattle.gates.proofs.OperatorLemmas.{comparison_bound, comparison_width}
use Rattle.gates.proofs.comparisons.comparison_bit.Goals as goal

pub returns-clause-ok : goal.returns-clause-ok
returns-clause-ok g c =
    let op = c.args.op in
    let n = length c.args.a.now in
    rw (comparison_bound op n c.requires.comparison, comparison_width op n c.requires.comparison, c.one_bit.ensures) c.in_ok-lit.ensures.ok

pub returns-in_err-lit-clause-refused : goal.returns-in_err-lit-clause-refused
returns-in_err-lit-clause-refused g c =
    let n = length c.args.a.now in
    let refused : RefusesGate (g.G.Gates.made c.args.g.now) (g.G.Gates.made c.comparison.new.g) (binary_bound c.args.op n) c.in_err-lit.field-0.0 =
    rw (comparison_bound c.args.op n c.requires.comparison) c.in_err-lit.ensures.refused
    in search rules
