use Rattle.std.proofs.Common.{rules, ◌≡◌, ℕ, zero, suc, ◌+◌, ◌-◌, ◌*◌, ◌<◌, ◌^◌, nat_lt, nat_le, refl, ap, ◌∙◌, arith}
use Rattle.std.proofs.Math.Nat.{pow-suc}
use Rattle.std.proofs.lemmas.Nat.{pow-add, pow_pos}
use Rattle.std.proofs.lemmas.Bool.Decides.{nat_tests}
use Rattle.btor2.proofs.model.check.is_of_hex_digits.Goals as goal

-- four bits for each digit
hex_bits : (d : ℕ) → 2 ^ (4 * d) ≡ 16 ^ d
hex_bits zero = refl
hex_bits (suc d) =
    let last : 16 * 16 ^ d ≡ 16 ^ suc d = omega (arith, pow-suc 16 d) in
    let four : 4 * suc d ≡ 4 + 4 * d = omega arith in
    ap (λ (k : ℕ). 2 ^ k) four ∙ pow-add 2 4 (4 * d) ∙ ap (λ (k : ℕ). 16 * k) (hex_bits d) ∙ last

below : (v m : ℕ) → 0 < m → nat_le v (m - 1) ≡ nat_lt v m
below v m h = grind (arith, nat_tests)

pub returns : goal.returns
returns c =
    let digits : c.from.result ≡ c.args.digits = search rules in
    rw c.all_ones.ensures (below c.args.value (2 ^ (4 * c.from.result)) (pow_pos (4 * c.from.result)) ∙ ap (nat_lt c.args.value) (hex_bits c.from.result ∙ ap (λ (k : ℕ). 16 ^ k) digits))
