use Rattle.std.proofs.Common.{◌≡◌, get_or}
use Rattle.std.proofs.lemmas.Bool.{eqb-true}
use Rattle.bstr.specs.Find.{is_byte}
use Rattle.base.proofs.CutLemmas.{cut_behind, cut_at_first, none_at_all}
use Rattle.base.proofs.lines.cut_at.Goals as goal

pub returns-in-None : goal.returns-in-None
returns-in-None c = none_at_all (is_byte c.args.byte) c.args.text.now c.in-None.ensures

pub returns-in-Some : goal.returns-in-Some
returns-in-Some c =
    let cut = cut_at_first (is_byte c.args.byte) c.args.text.now c.in-Some.at c.in-Some.ensures in
    let is : get_or c.args.text.now c.in-Some.at 0 ≡ c.args.byte = eqb-true _ c.args.byte cut.passes in
    let parts = rw is at (cut_behind (is_byte c.args.byte) c.args.text.now c.in-Some.at cut) in
    rw (c.split_at-in-Some.ensures.back, c.split_at.ensures.front, c.split_at.ensures.back) (parts, cut.before)
