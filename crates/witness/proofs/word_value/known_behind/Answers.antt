use Rattle.std.proofs.Common.{◌+◌, ◌-◌, ◌*◌, length, take, subst, sym}
use Rattle.std.proofs.lemmas.List.{take_more}
use Rattle.witness.proofs.EightDigitLemmas.{IsBehind, behind_more}
use Rattle.witness.proofs.word_value.known_behind.Goals as goal

pub loop-byte-preserved : goal.loop-byte-preserved
loop-byte-preserved c =
    let is = c.in_ok-bit.ensures in
    subst (IsBehind c.args.front (64 - length c.args.bytes.now) (c.loop-byte.word * 2 + c.in_ok-bit.bit)) (sym (take_more c.args.bytes.now c.loop-byte.byte-index 0 c.loop-byte-test.true))
    (behind_more c.args.front (64 - length c.args.bytes.now) c.loop-byte.word c.in_ok-bit.bit (take c.loop-byte.byte-index c.args.bytes.now) _ is.0 is.1 c.loop-byte.invariant)
