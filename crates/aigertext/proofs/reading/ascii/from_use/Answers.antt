use Rattle.std.proofs.Common.{◌+◌, refl, ap, ◌∙◌, arith}
use Rattle.aigertext.specs.AsciiReading.{behind_lines}
use Rattle.aigertext.proofs.PassOverLemmas.{before_low, before_high}
use Rattle.aigertext.proofs.reading.ascii.from_use.Goals as goal

pub returns-then-k-before_sizes : goal.returns-then-k-before_sizes
returns-then-k-before_sizes c =
    c.skip_lines-then-k-before_sizes.ensures ∙ ap (behind_lines c.args.k) c.skip_lines.ensures
    ∙ before_low c.args.counts.now c.args.k c.args.counts.now.inputs (omega (arith, c.if-k-before_sizes.true)) refl c.args.text.now

pub returns-else-k-before_sizes : goal.returns-else-k-before_sizes
returns-else-k-before_sizes c =
    c.skip_lines-else-k-before_sizes-2.ensures ∙ ap (behind_lines c.args.k) c.skip_lines-else-k-before_sizes.ensures
    ∙ before_high c.args.counts.now c.args.k (c.args.counts.now.inputs + c.args.counts.now.justice) (omega (arith, c.if-k-before_sizes.false)) refl c.args.text.now
