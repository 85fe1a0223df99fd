use Rattle.std.proofs.Common.{◌≡◌, ◌<◌, false, length, sym, ◌∙◌, arith}
use Rattle.base.specs.Literal.{negation}
use Rattle.drup.specs.Marked.{set_of}
use Rattle.base.proofs.LiteralLemmas.{negation-inside}
use Rattle.drup.proofs.ConflictLemmas.{assumes_literal}
use Rattle.drup.proofs.propagator.assume_one.Goals as goal

pub returns : goal.returns
returns c =
    let off : set_of c.args.trail.now c.args.literal ≡ false = sym c.has.ensures ∙ c.if-has.false in
    let inside : negation c.args.literal < length c.args.trail.now.marks = negation-inside c.args.literal (length c.args.trail.now.marks) c.requires.even c.requires.inside in
    assumes_literal c.args.trail.now c.push.new.self c.args.literal c.negation-opposite.result c.negation-opposite.ensures c.push.ensures c.requires.consistent off (omega (arith, inside, c.negation-opposite.ensures))
