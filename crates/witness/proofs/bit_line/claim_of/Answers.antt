use Rattle.std.proofs.Common.{sym, ◌∙◌}
use Rattle.witness.proofs.CutLineLemmas.{claim_enough, claim_spoiled}
use Rattle.witness.proofs.bit_line.claim_of.Goals as goal

pub returns-then-not-digits : goal.returns-then-not-digits
returns-then-not-digits c room whole enough front = sym (claim_spoiled c.args.bads c.ranges.bads.fits room enough c.args.line.now c.args.digits whole front c.if-not-digits.true)

pub returns : goal.returns
returns c room whole enough front = c.claimed.ensures ∙ claim_enough c.args.bads c.ranges.bads.fits room enough c.args.line.now c.args.digits whole front c.if-not-digits.false
