-- A number at the front of a text, digit by digit up to a byte.
use Rattle.std.proofs.Common.{◌≡◌, ℕ, ◌+◌, ◌-◌, ◌*◌, ◌/◌, ◌%◌, ◌<◌, ◌≤◌, List, [], ◌∷◌, ◌++◌, length, get_or, take, drop, decimal, sym, ap, ◌∙◌, arith}
use Rattle.std.proofs.lemmas.Fmt.{decimal_digit, decimal_step}
use Rattle.std.proofs.lemmas.List.{take_more, take_all}

-- a byte is a digit from 0 to 9
abbrev pub IsDigit : ℕ → Type 0
IsDigit b = (48 ≤ b) × (b ≤ 57)

-- a digit's byte
byte_back : (b : ℕ) → 48 ≤ b → 48 + (b - 48) ≡ b
byte_back b h = omega arith

pub first_digit : (text : List ℕ) → 49 ≤ get_or text 0 0 → get_or text 0 0 ≤ 57 → take 1 text ≡ decimal (get_or text 0 0 - 48)
first_digit [] low high = absurd (omega (arith, low))
first_digit (b ∷ bs) low high = ap (λ (d : ℕ). d ∷ []) (sym (byte_back b (omega (arith, low)))) ∙ sym (decimal_digit (b - 48) (omega (arith, high)))

-- 0 has no digit more
pub zero_before : (text : List ℕ) (end : ℕ) → 2 ≤ length text → get_or text 0 0 ≡ 48 → get_or text 1 0 ≡ end → text ≡ decimal 0 ++ end ∷ take (length text - 2) (drop 2 text)
zero_before [] end long zero is = absurd (omega (arith, long))
zero_before (a ∷ []) end long zero is = absurd (omega (arith, long))
zero_before (a ∷ b ∷ rest) end long zero is =
    ap (λ (x : ℕ). x ∷ b ∷ rest) zero ∙ ap (λ (x : ℕ). 48 ∷ x ∷ rest) is ∙ ap (λ (t : List ℕ). 48 ∷ end ∷ t) (sym (take_all (length (a ∷ b ∷ rest) - 2) rest (omega arith)))
    ∙ ap (λ (ds : List ℕ). ds ++ end ∷ take (length (a ∷ b ∷ rest) - 2) rest) (sym (decimal_digit 0 (omega arith)))

-- a number with a digit more
shifted : (v b : ℕ) → IsDigit b → 0 < v → v ≤ 429496728 → decimal (v * 10 + (b - 48)) ≡ decimal v ++ b ∷ []
shifted v b digit some room =
    let n : ℕ = v * 10 + (b - 48) in
    let front : n / 10 ≡ v = omega (arith, digit) in
    let last : 48 + n % 10 ≡ b = omega (arith, digit) in
    decimal_step n (omega (arith, some)) (omega (arith, digit, room)) ∙ ap (λ (m : ℕ). decimal m ++ (48 + n % 10) ∷ []) front ∙ ap (λ (c : ℕ). decimal v ++ c ∷ []) last

pub next_digit : (text : List ℕ) (at value : ℕ) → take at text ≡ decimal value → at < length text → IsDigit (get_or text at 0) → 0 < value → value ≤ 429496728 → take (at + 1) text ≡ decimal (value * 10 + (get_or text at 0 - 48))
next_digit text at value read lt digit some room =
    take_more text at 0 lt ∙ ap (λ (ds : List ℕ). ds ++ get_or text at 0 ∷ []) read ∙ sym (shifted value (get_or text at 0) digit some room)
