use Rattle.std.proofs.Common.{◌≡◌, ◌<◌, ◌≤◌, arith}
use Rattle.std.proofs.lemmas.Bool.Decides.{nat_tests}
use Rattle.deltas.proofs.DigitLemmas.{digits_kept}
use Rattle.deltas.proofs.writing.write.Goals as goal

pub returns-clause-bytes : goal.returns-clause-bytes
returns-clause-bytes c =
    let second : (128 ≤ c.args.number → c.from-more.result ≡ 1) × (c.args.number < 128 → c.from-more.result ≡ 0) = (λ h. grind (arith, nat_tests), λ h. grind (arith, nat_tests)) in
    let third : (16384 ≤ c.args.number → c.from-further.result ≡ 1) × (c.args.number < 16384 → c.from-further.result ≡ 0) = (λ h. grind (arith, nat_tests), λ h. grind (arith, nat_tests)) in
    digits_kept c.args.buffer.now c.args.at c.args.number c.from-more.result c.from-further.result c.from.result (omega arith) c.if-number-ge2097152.false c.from.ensures second third
