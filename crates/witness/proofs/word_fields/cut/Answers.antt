use Rattle.std.proofs.Common.{◌≡◌, get_or, sym}
use Rattle.std.proofs.lemmas.Bool.{eqb-true}
use Rattle.base.proofs.CutLemmas.{cut_behind}
use Rattle.witness.proofs.WordFieldLemmas.{is_space, no_space, at_space}
use Rattle.witness.proofs.word_fields.cut.Goals as goal

pub returns-in_err-at : goal.returns-in_err-at
returns-in_err-at c = rw c.from_residual.ensures (no_space c.args.line.now (sym c.in_err-at.ensures))

pub returns : goal.returns
returns c =
    let cut = at_space c.args.line.now c.in_ok-at.at (sym c.in_ok-at.ensures) in
    let is : get_or c.args.line.now c.in_ok-at.at 0 ≡ 32 = eqb-true _ 32 cut.passes in
    let parts = rw is at (cut_behind is_space c.args.line.now c.in_ok-at.at cut) in
    rw (c.split_at-2.ensures.back, c.split_at.ensures.front, c.split_at.ensures.back) (parts, cut.before)
