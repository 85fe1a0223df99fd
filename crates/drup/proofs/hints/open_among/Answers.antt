use Rattle.std.proofs.Common.{ap, ◌∙◌, arith}
use Rattle.std.proofs.lemmas.List.{take_all}
use Rattle.drup.specs.Marked.{set_of}
use Rattle.drup.specs.Hints.{open_in}
use Rattle.drup.proofs.hints.open_among.Goals as goal

pub returns : goal.returns
returns c = c.loop-literal.invariant ∙ ap (open_in (set_of c.args.trail.now)) (take_all c.loop-literal.literal-index c.args.clause.now (omega (arith, c.loop-literal-test.false)))
