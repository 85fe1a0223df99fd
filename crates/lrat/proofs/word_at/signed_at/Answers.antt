use Rattle.std.proofs.Common.{◌==◌, ◌+◌, get_or, refl, ap}
use Rattle.lrat.proofs.WordAtLemmas.{signed_word}
use Rattle.lrat.proofs.word_at.signed_at.Goals as goal

pub returns : goal.returns
returns c =
    signed_word c.args.bytes.now c.args.at c.in_ok-value.value c.in_ok-value.end (get_or c.args.bytes.now c.args.at 0 == 45) (c.args.at + c.from.result) c.requires refl (ap (λ n. c.args.at + n) (c.from.ensures)) c.in_ok-value.ensures
