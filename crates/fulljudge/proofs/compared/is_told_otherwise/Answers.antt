use Rattle.std.proofs.Common.{◌≡◌, ℕ, Bool, false, ◌+◌, ◌*◌, ◌<◌, ◌≤◌, ⊎_elim, arith, sym, subst, ap, ap₂, ◌∙◌}
use Rattle.std.proofs.lemmas.Bool.{cases_lt}
use Rattle.fullmodel.specs.Lines.{sort_value}
use Rattle.witness.specs.ClosedWords.{last_word}
use Rattle.fulljudge.specs.Shapes.{word_width}
use Rattle.fulljudge.specs.Compared.{Tells, DifferWithin, flag_at}
use Rattle.fulljudge.proofs.compared.is_told_otherwise.Goals.{else-flag_at-via-then-flag_at+else-differ_within, else-flag_at-via-else-flag_at}
use Rattle.fulljudge.proofs.compared.is_told_otherwise.Goals as goal

pub loop-cell-preserved : goal.loop-cell-preserved
loop-cell-preserved c = λ items text fs stands trace d within told differ.
    ⊎_elim (λ (l : d < c.loop-cell.cell). c.loop-cell.invariant items text fs stands trace d l told differ)
    (λ (l : c.loop-cell.cell ≤ d).
    let is : d ≡ c.loop-cell.cell = omega (arith, within, l) in
    let width = c.word_width-width.ensures in
    elim c.else-flag_at.branch [
      | else-flag_at-via-then-flag_at+else-differ_within w ↦
          let from = ap₂ (λ (a b : ℕ). a * b) (w.from.ensures ∙ sym is) (w.from-then-flag_at.ensures ∙ width) in
          let none : Tells false (DifferWithin (last_word items text fs) c.args.leaf.now c.args.node.now (w.from.result * w.from-then-flag_at.result) c.word_width-width.result) =
          subst (λ (b : Bool). Tells b (DifferWithin (last_word items text fs) c.args.leaf.now c.args.node.now (w.from.result * w.from-then-flag_at.result) c.word_width-width.result)) w.if-differ_within.false (w.differ_within.ensures items text fs stands trace) in
          none (subst (λ (m : ℕ). DifferWithin (last_word items text fs) c.args.leaf.now c.args.node.now m c.word_width-width.result) (sym from)
          (subst (DifferWithin (last_word items text fs) c.args.leaf.now c.args.node.now (d * word_width (sort_value c.args.value.sort))) (sym width) differ))
      | else-flag_at-via-else-flag_at w ↦ cc (sym (ap (λ (k : ℕ). flag_at c.args.flags.now (c.args.value.first + k)) is) ∙ told, c.flag_at.ensures, w.if-flag_at.false)
    ]) (cases_lt d c.loop-cell.cell)

pub returns : goal.returns
returns c = λ items text fs stands trace o. c.loop-cell.invariant items text fs stands trace o.cell (omega (arith, o.within, c.word_count-cell-end.ensures, c.loop-cell-test.false)) o.is_told o.differ
