use Rattle.std.proofs.Common.{ap, ◌∙◌}
use Rattle.base.specs.Literal.{literal_value, valuation_of}
use Rattle.base.proofs.GateLemmas.{one_put}
use Rattle.base.proofs.and_gates.put_output.Goals as goal

pub returns : goal.returns
returns g c =
    one_put _ _ _ _ _ _ _ _ c.requires.over c.requires.there
    (c.literal_bit.ensures ∙ ap (literal_value (valuation_of c.args.bits.now)) c.operands-left.ensures.first)
    (c.literal_bit-2.ensures ∙ ap (literal_value (valuation_of c.args.bits.now)) c.operands-left.ensures.second)
