use Rattle.std.proofs.Common.{◌∙◌, ◌++◌, suc, decimal, ap, List, ℕ}
use Rattle.witness.proofs.PlainLineLemmas.{longer_line}
use Rattle.witness.proofs.plain_line.behind_frame_line.Goals as goal

pub returns-else-end-eq10 : goal.returns-else-end-eq10
returns-else-end-eq10 c rest is =
    let digits : List ℕ = decimal (suc c.args.frames.now) in
    longer_line digits c.args.text.now c.in_ok-first.behind.now c.in_ok-end.rest.now rest c.in_ok-first.first.now c.in_ok-end.end.now c.if-end-eq10.false c.in_ok-first.ensures.cases.0
    (c.in_ok-behind_next.ensures ∙ ap (λ (l : List ℕ). digits ++ l) c.in_ok-end.ensures.cases.0) is
