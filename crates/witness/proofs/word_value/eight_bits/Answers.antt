use Rattle.std.proofs.Common.{◌≡◌, ℕ, ◌*◌, ◌/◌, ◌%◌, ◌^◌, true, subst, sym, rules}
use Rattle.std.specs.List.{list_all}
use Rattle.std.specs.Int.RustNames.{bit_xor}
use lib.Bits.{bit_and}
use Rattle.witness.specs.Admits.{is_bit}
use Rattle.witness.specs.WordValues.{digits_word}
use Rattle.witness.proofs.EightDigitLemmas.{AreTested, are_tested, are_bytes}
use Rattle.witness.proofs.word_value.eight_bits.Goals as goal

pub returns-then-excess-ne0 : goal.returns-then-excess-ne0
returns-then-excess-ne0 c =
    let tested : AreTested c.args.bytes.now = are_tested c.args.bytes.now (search rules) (are_bytes c.args.bytes.now (search rules)) in
    tested.others (subst (λ (n : ℕ). bit_and (bit_xor n 3472328296227680304) 18374403900871474942 ≡ 0 → ⊥) c.from_le_bytes-read.ensures c.if-excess-ne0.true)

pub returns : goal.returns
returns c =
    let tested : AreTested c.args.bytes.now = are_tested c.args.bytes.now (search rules) (are_bytes c.args.bytes.now (search rules)) in
    subst (λ (n : ℕ). (list_all is_bit c.args.bytes.now ≡ true) × ((bit_xor n 3472328296227680304 * 9241421688590303745) % 2 ^ 64 / 2 ^ 56 ≡ digits_word 0 c.args.bytes.now)) (sym c.from_le_bytes-read.ensures)
    (tested.digits (subst (λ (n : ℕ). bit_and (bit_xor n 3472328296227680304) 18374403900871474942 ≡ 0) c.from_le_bytes-read.ensures c.if-excess-ne0.false))
