use Rattle.std.proofs.Common.{ℕ, ap, refl, take, drop, ◌∙◌}
use Rattle.base.proofs.PenLemmas.{write_none, write_more}
use Rattle.unfit.specs.Joined.{name_at}
use Rattle.unfit.proofs.LineLemmas.{part_more}
use Rattle.unfit.proofs.words.put_words.Goals as goal

pub loop-index-init : goal.loop-index-init
loop-index-init g c = write_none

pub loop-index-preserved : goal.loop-index-preserved
loop-index-preserved g c =
    write_more c.loop-index.invariant c.put_told_word.ensures
    (part_more (g.T.Titles.fronts c.args.titles.now) c.args.frame (name_at c.args.named (g.T.Titles.symbols c.args.titles.now) c.args.frame) c.args.widths.now c.loop-index.index _ c.loop-index.rest.now c.cut.result.0.now c.cut.result.1.now c.loop-index-test.true refl (c.cut.ensures.front ∙ ap (λ (m : ℕ). take m c.loop-index.rest.now) c.piece_count.ensures) (c.cut.ensures.behind ∙ ap (λ (m : ℕ). drop m c.loop-index.rest.now) c.piece_count.ensures))
