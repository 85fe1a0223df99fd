use Rattle.std.proofs.Common.{sym, ◌∙◌}
use Rattle.gates.proofs.SharedLemmas.{MakesAnd-made, MakesAnd-folded}
use Rattle.gates.proofs.shared.HashGatesGates.and.Goals as goal

pub returns-in-Some-clause-ok : goal.returns-in-Some-clause-ok
returns-in-Some-clause-ok c = MakesAnd-folded _ c.args.a c.args.b c.in-Some.lit c.requires.left c.requires.right (sym c.folded.ensures ∙ c.in-Some.is)

pub returns-in-None-clause-ok : goal.returns-in-None-clause-ok
returns-in-None-clause-ok c =
    MakesAnd-made c.gate_or_make.result c.args.self.now c.gate_or_make.new.self c.args.a c.args.b c.requires.left c.requires.right c.gate_or_make.ensures.standing c.gate_or_make.ensures.fresh
