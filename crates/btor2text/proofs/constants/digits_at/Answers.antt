use Rattle.std.proofs.Common.{◌≡◌, Some, arith, rules}
use Rattle.btor2text.specs.Digits.{number_in}
use Rattle.btor2text.proofs.DigitLemmas.{number_parts, word_of_digits}
use Rattle.btor2text.proofs.constants.digits_at.Goals as goal

pub overflow_cast-result-then-token-most : goal.overflow_cast-result-then-token-most
overflow_cast-result-then-token-most c =
    let is : number_in c.args.radix c.in_ok-token.token.now ≡ Some c.in_ok-number.number = search rules in
    let parts = number_parts c.args.radix c.in_ok-token.token.now c.in_ok-number.number is in
    let word = word_of_digits c.args.radix c.args.most c.in_ok-token.token.now (omega (arith, c.requires.least)) c.requires.word (omega arith) parts.0 in
    omega (arith, parts.1, word)
