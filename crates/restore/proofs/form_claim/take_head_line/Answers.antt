use Rattle.std.proofs.Common.{arith, sym, ◌∙◌}
use Rattle.restore.proofs.FormHeadLemmas.{head_claims, head_passes, head_goes}
use Rattle.restore.proofs.form_claim.take_head_line.Goals as goal

pub returns-then-not-admits : goal.returns-then-not-admits
returns-then-not-admits c d text valid head =
    head_passes d c.args.judge.now c.admits.new.judge text c.args.line.now valid c.requires head (c.admits.ensures.judged d text head.at) (sym c.if-not-admits.true ∙ c.admits.ensures.admitted d text head.at)

pub returns-then-number-ne1 : goal.returns-then-number-ne1
returns-then-number-ne1 c d text valid head =
    head_goes d c.args.judge.now c.admits.new.judge text c.args.line.now valid c.requires head (c.admits.ensures.judged d text head.at)
    (λ one. let number = c.admitted_lines-number.ensures d text head.at in let other = c.if-number-ne1.true in grind arith)

pub returns : goal.returns
returns c d text valid head =
    head_claims d c.args.judge.now c.admits.new.judge text c.args.line.now valid c.requires head (c.admits.ensures.judged d text head.at) c.claim_of.result
    (sym c.if-not-admits.false ∙ c.admits.ensures.admitted d text head.at)
    (let number = c.admitted_lines-number.ensures d text head.at in let one = c.if-number-ne1.false in grind arith) c.claim_of.ensures
