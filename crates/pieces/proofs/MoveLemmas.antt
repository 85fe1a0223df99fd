-- Words that are moved: by two amounts in turn, and by one amount below the width, in two parts.
use Rattle.std.proofs.Common.{◌≡◌, ℕ, zero, suc, ◌+◌, ◌-◌, ◌*◌, ◌/◌, ◌%◌, ◌^◌, ◌<◌, ◌≤◌, Bool, true, false, not, ◌==◌, pos, inl, inr, refl, sym, ap, ap₂, ◌∙◌, arith, true≢false, subst, lit<, List, Some, ◌⊎◌, ⊎_elim}
use Rattle.std.proofs.Math.Nat.{mul_assoc, mod-eq_of_lt, mod-add-mod, mul-mod_left, div-le_self, div-eq_of_lt, div-add-mod', mod-lt, mod-one, div-one, pow-le-pow_right}
use Rattle.std.proofs.lemmas.Bool.{cases_lt, ne_eqb}
use Rattle.std.proofs.lemmas.Bool.Decides.{nat_tests}
use Rattle.std.proofs.lemmas.Nat.{pow_pos, pow-add, shl-shr, shr-shr, mul-mod_first, mod-pow-add, shr_high, div_below, div-mul-add}
use Rattle.std.proofs.lemmas.Nat.Bits.{same_from_bits_below}
use Rattle.base.specs.declared.operators.Unary.TheVariants as unary
use Rattle.base.specs.declared.operators.Binary.TheVariants as binary
use Rattle.base.specs.Operator.{ones, unary_value, binary_value, ite_value, rotated_left, rotated_right, concat_value}
use Rattle.base.specs.Signed.{signed}
use Rattle.base.specs.Word.{bit, bit_number}
use Rattle.base.proofs.SignedLaws.{half}
use Rattle.base.proofs.ShiftLaws.{sra_high}
use Rattle.base.proofs.ShiftLemmas.{shifted_out_left, shifted_out_right}
use Rattle.base.proofs.RotationLaws.{powers, rotated_left_below, rotated_right_below, ror_bit, ror_rol, rol_ror}
use Rattle.btor2.specs.declared.item.Item.{Item}
use Rattle.fit.proofs.WordLemmas.{alone}
use Rattle.pieces.specs.declared.node.Node.{Node}
use Rattle.pieces.specs.Nodes.{word_of, bits_in, AreNodes, Extends, Makes, MakesWord}
use Rattle.pieces.specs.Fills.{filled_word}
use Rattle.pieces.specs.declared.moves.Move.{Move}
use Rattle.pieces.specs.declared.moves.Move.TheVariants as move
use Rattle.pieces.specs.Moves.{moved_value, entering_value, low_bits, low_value, high_bits, high_value, is_shift}
use Rattle.pieces.proofs.NodeLemmas.{later, extends_twice, makes_same}
use Rattle.pieces.proofs.ListLemmas.{words_fit}
use Rattle.pieces.proofs.SumLemmas.{word_same}
use Rattle.pieces.proofs.WordLemmas.{from_first}

-- ---- by two amounts in turn

-- a word whose sign is 0 is shifted as a whole number
sra_low : (n a b : ℕ) → 1 ≤ n → a < 2 ^ (n - 1) → binary_value binary.Sra n a b ≡ a / 2 ^ b
sra_low n a b h p =
    let under : signed n a ≡ pos a = grind (arith, nat_tests) in
    let whole : a / 2 ^ b % 2 ^ n ≡ a / 2 ^ b = mod-eq_of_lt (omega (arith, div-le_self a (2 ^ b), half n h)) in
    rw (under, whole) refl

sra_again : (n a x y : ℕ) → 1 ≤ n → a < 2 ^ n → binary_value binary.Sra n (binary_value binary.Sra n a x) y ≡ binary_value binary.Sra n a (x + y)
sra_again n a x y h p = elim (cases_lt a (2 ^ (n - 1))) [
  | inl low ↦
      let still : a / 2 ^ x < 2 ^ (n - 1) = omega (arith, div-le_self a (2 ^ x)) in
      rw (sra_low n a x h low, sra_low n a (x + y) h low, sra_low n (a / 2 ^ x) y h still) (shr-shr a x y)
  | inr high ↦
      let rest : (ones n - a) / 2 ^ x ≤ ones n - a = div-le_self (ones n - a) (2 ^ x) in
      let twice = half n h in
      let still : 2 ^ (n - 1) ≤ ones n - (ones n - a) / 2 ^ x = omega arith in
      let within : ones n - (ones n - a) / 2 ^ x < 2 ^ n = omega (arith, pow_pos n) in
      let back : ones n - (ones n - (ones n - a) / 2 ^ x) ≡ (ones n - a) / 2 ^ x = omega arith in
      ap (λ w. binary_value binary.Sra n w y) (sra_high n a x h high p) ∙ sra_high n (ones n - (ones n - a) / 2 ^ x) y h still within
      ∙ ap (λ w. ones n - w / 2 ^ y) back ∙ ap (λ w. ones n - w) (shr-shr (ones n - a) x y) ∙ sym (sra_high n a (x + y) h high p)
]

ror_again : (n a x y : ℕ) → 1 ≤ n → a < 2 ^ n → binary_value binary.Ror n (binary_value binary.Ror n a x) y ≡ binary_value binary.Ror n a (x + y)
ror_again n a x y h p =
    let once : binary_value binary.Ror n a x < 2 ^ n = rotated_right_below n a (x % n) (omega arith) p in
    let twice : binary_value binary.Ror n (binary_value binary.Ror n a x) y < 2 ^ n = rotated_right_below n (binary_value binary.Ror n a x) (y % n) (omega arith) once in
    let whole : binary_value binary.Ror n a (x + y) < 2 ^ n = rotated_right_below n a ((x + y) % n) (omega arith) p in
    same_from_bits_below n (binary_value binary.Ror n (binary_value binary.Ror n a x) y) (binary_value binary.Ror n a (x + y)) twice whole
    (λ i q.
    let inside : (i + y) % n < n = omega arith in
    let place : ((i + y) % n + x) % n ≡ (i + (x + y)) % n = mod-add-mod (i + y) n x ∙ ap (λ k. k % n) (omega arith) in
    ror_bit n (binary_value binary.Ror n a x) y i once q ∙ ror_bit n a x ((i + y) % n) p inside ∙ ap (bit a) place ∙ sym (ror_bit n a (x + y) i p q))

rol_again : (n a x y : ℕ) → 1 ≤ n → a < 2 ^ n → binary_value binary.Rol n (binary_value binary.Rol n a x) y ≡ binary_value binary.Rol n a (x + y)
rol_again n a x y h p =
    let once : binary_value binary.Rol n a x < 2 ^ n = rotated_left_below n a (x % n) (omega arith) p in
    let z = binary_value binary.Rol n (binary_value binary.Rol n a x) y in
    let twice : z < 2 ^ n = rotated_left_below n (binary_value binary.Rol n a x) (y % n) (omega arith) once in
    let same_amount : y + x ≡ x + y = omega arith in
    let back : binary_value binary.Ror n z (x + y) ≡ a =
    ap (binary_value binary.Ror n z) (sym same_amount) ∙ sym (ror_again n z y x h twice) ∙ ap (λ w. binary_value binary.Ror n w x) (ror_rol n (binary_value binary.Rol n a x) y h once) ∙ ror_rol n a x h p
    in
    sym (rol_ror n z (x + y) h twice) ∙ ap (λ w. binary_value binary.Rol n w (x + y)) back

-- moved by one amount and then by another is moved by both
pub moved_again : (by : Move) (n a x y : ℕ) → 1 ≤ n → a < 2 ^ n → moved_value by n (moved_value by n a x) y ≡ moved_value by n a (x + y)
moved_again move.Left n a x y h p =
    mul-mod_first (a * 2 ^ x) (2 ^ y) (2 ^ n) ∙ ap (λ k. k % 2 ^ n) (mul_assoc a (2 ^ x) (2 ^ y) ∙ ap (λ k. a * k) (sym (pow-add 2 x y)))
moved_again move.Right n a x y h p = shr-shr a x y
moved_again move.Signed n a x y h p = sra_again n a x y h p
moved_again move.TurnLeft n a x y h p = rol_again n a x y h p
moved_again move.TurnRight n a x y h p = ror_again n a x y h p

-- by nothing
pub moved_none : (by : Move) (n a : ℕ) → 1 ≤ n → a < 2 ^ n → moved_value by n a 0 ≡ a
moved_none move.Left n a h p = ap (λ k. k % 2 ^ n) (omega arith) ∙ mod-eq_of_lt p
moved_none move.Right n a h p = div-one a
moved_none move.Signed n a h p = elim (cases_lt a (2 ^ (n - 1))) [
  | inl low ↦ sra_low n a 0 h low ∙ div-one a
  | inr high ↦ sra_high n a 0 h high p ∙ ap (λ k. ones n - k) (div-one (ones n - a)) ∙ omega (arith, p)
]
moved_none move.TurnLeft n a h p =
    let none : 0 % n ≡ 0 = mod-eq_of_lt (omega (arith, h)) in
    let whole : n - 0 ≡ n = omega arith in
    ap (rotated_left n a) none ∙ ap₂ (λ (i j : ℕ). i + j) (ap (λ k. k % 2 ^ n) (omega arith) ∙ mod-eq_of_lt p) (ap (λ k. a / 2 ^ k) whole ∙ div-eq_of_lt p) ∙ omega arith
moved_none move.TurnRight n a h p =
    let none : 0 % n ≡ 0 = mod-eq_of_lt (omega (arith, h)) in
    let whole : n - 0 ≡ n = omega arith in
    ap (rotated_right n a) none ∙ ap₂ (λ (i j : ℕ). i + j) (div-one a) (ap (λ k. a * 2 ^ k % 2 ^ n) whole ∙ mul-mod_left a (2 ^ n)) ∙ omega arith

more_bits : (b k : ℕ) → b % 2 ^ (k + 1) ≡ (b / 2 ^ k % 2 ^ 1) * 2 ^ k + b % 2 ^ k
more_bits b k = ap (λ j. b % 2 ^ j) (omega arith) ∙ mod-pow-add b 1 k

-- by one bit of the amount more
pub moved_more : (by : Move) (n a b k : ℕ) → 1 ≤ n → a < 2 ^ n
    → ite_value (b / 2 ^ k % 2 ^ 1) (moved_value by n (moved_value by n a (b % 2 ^ k)) (2 ^ k)) (moved_value by n a (b % 2 ^ k)) ≡ moved_value by n a (b % 2 ^ (k + 1))
moved_more by n a b k h p = of (b / 2 ^ k % 2 ^ 1) refl (mod-lt (b / 2 ^ k) (omega arith))
  where
    of : (d : ℕ) → b / 2 ^ k % 2 ^ 1 ≡ d → d < 2 ^ 1 → ite_value d (moved_value by n (moved_value by n a (b % 2 ^ k)) (2 ^ k)) (moved_value by n a (b % 2 ^ k)) ≡ moved_value by n a (b % 2 ^ (k + 1))
    of zero is small = ap (moved_value by n a) (omega (arith, more_bits b k, ap (λ j. j * 2 ^ k) is))
    of (suc zero) is small = moved_again by n a (b % 2 ^ k) (2 ^ k) h p ∙ ap (moved_value by n a) (omega (arith, more_bits b k, ap (λ j. j * 2 ^ k) is))
    of (suc (suc d)) is small = absurd (omega (arith, small))

-- ---- in two parts

-- a shift of the bits negated
not_shifted : (n a k : ℕ) → k ≤ n → a < 2 ^ n → (ones n - a) / 2 ^ k ≡ 2 ^ (n - k) - 1 - a / 2 ^ k
not_shifted n a k h p =
    let all = powers n k h in
    let high : a / 2 ^ k < 2 ^ (n - k) = div_below a (2 ^ k) (2 ^ (n - k)) (pow_pos k) (omega (arith, all)) in
    let rest : 2 ^ (n - k) - 1 - a / 2 ^ k + 1 + a / 2 ^ k ≡ 2 ^ (n - k) = omega arith in
    let low : 2 ^ k - 1 - a % 2 ^ k < 2 ^ k = omega (arith, pow_pos k) in
    let parts : ones n - a ≡ (2 ^ (n - k) - 1 - a / 2 ^ k) * 2 ^ k + (2 ^ k - 1 - a % 2 ^ k) = omega (arith, ap (λ m. m * 2 ^ k) rest, div-add-mod' a (2 ^ k), mod-lt a (pow_pos k), all) in
    rw parts (shr_high (2 ^ (n - k) - 1 - a / 2 ^ k) k (2 ^ k - 1 - a % 2 ^ k) low)

-- zeros behind what is left of a word
low_zeros : (n a k : ℕ) → k ≤ n → a * 2 ^ k % 2 ^ n ≡ a % 2 ^ (n - k) * 2 ^ k
low_zeros n a k h =
    let parts : n - k + k ≡ n = omega (arith, h) in
    ap (λ m. a * 2 ^ k % 2 ^ m) (sym parts) ∙ mod-pow-add (a * 2 ^ k) (n - k) k ∙ rw (mul-mod_left a (2 ^ k), shl-shr a k) (omega arith)

-- the highest bit
pub sign_low : (n a : ℕ) → a < 2 ^ (n - 1) → a / 2 ^ (n - 1) % 2 ^ 1 ≡ 0
sign_low n a h = ap (λ k. k % 2 ^ 1) (div-eq_of_lt h)

pub sign_high : (n a : ℕ) → 1 ≤ n → 2 ^ (n - 1) ≤ a → a < 2 ^ n → a / 2 ^ (n - 1) % 2 ^ 1 ≡ 1
sign_high n a some h p =
    let rest : a ≡ 1 * 2 ^ (n - 1) + (a - 2 ^ (n - 1)) = omega (arith, h) in
    ap (λ k. k % 2 ^ 1) (ap (λ k. k / 2 ^ (n - 1)) rest ∙ div-mul-add 1 (2 ^ (n - 1)) (a - 2 ^ (n - 1)) (omega (arith, p, half n some)))

high_cut : (n a k : ℕ) → k ≤ n → a < 2 ^ n → a / 2 ^ k % 2 ^ (n - k) ≡ a / 2 ^ k
high_cut n a k h p = mod-eq_of_lt (div_below a (2 ^ k) (2 ^ (n - k)) (pow_pos k) (omega (arith, powers n k h, p)))

pub moved_parts : (by : Move) (n a k : ℕ) → k < n → a < 2 ^ n → concat_value (high_value by n a k) (low_bits by n k) (low_value by n a k) ≡ moved_value by n a k
moved_parts move.Left n a k h p = ap (λ i. concat_value i k 0) (from_first (n - k) a) ∙ omega (arith, low_zeros n a k (omega (arith, h)))
moved_parts move.Right n a k h p = alone (n - k) (a / 2 ^ k % 2 ^ (n - k)) ∙ high_cut n a k (omega (arith, h)) p
moved_parts move.Signed n a k h p =
    let some : 1 ≤ n = omega (arith, h) in
    let most : k ≤ n = omega (arith, h) in
    elim (cases_lt a (2 ^ (n - 1))) [
      | inl low ↦ ap₂ (λ (i j : ℕ). concat_value (ite_value i (ones k) 0) (n - k) j) (sign_low n a low) (high_cut n a k most p) ∙ alone (n - k) (a / 2 ^ k) ∙ sym (sra_low n a k some low)
      | inr high ↦
          let rest : 2 ^ k - 1 + 1 ≡ 2 ^ k = omega (arith, pow_pos k) in
          let below : a / 2 ^ k < 2 ^ (n - k) = div_below a (2 ^ k) (2 ^ (n - k)) (pow_pos k) (omega (arith, powers n k most, p)) in
          let product : (2 ^ k - 1) * 2 ^ (n - k) + 2 ^ (n - k) ≡ 2 ^ n = omega (arith, ap (λ m. m * 2 ^ (n - k)) rest, powers n k most) in
          ap₂ (λ (i j : ℕ). concat_value (ite_value i (ones k) 0) (n - k) j) (sign_high n a some high p) (high_cut n a k most p)
          ∙ omega (arith, product, not_shifted n a k most p, below) ∙ sym (sra_high n a k some high p)
    ]
moved_parts move.TurnLeft n a k h p =
    let small : k % n ≡ k = mod-eq_of_lt h in
    let back : n - (n - k) ≡ k = omega (arith, h) in
    ap₂ (λ (i j : ℕ). concat_value i k j) (from_first (n - k) a) (ap (λ m. a / 2 ^ (n - k) % 2 ^ m) (sym back) ∙ high_cut n a (n - k) (omega arith) p) ∙ omega (arith, low_zeros n a k (omega (arith, h))) ∙ ap (rotated_left n a) (sym small)
moved_parts move.TurnRight n a k h p =
    let small : k % n ≡ k = mod-eq_of_lt h in
    let back : n - (n - k) ≡ k = omega (arith, h) in
    let low : a * 2 ^ (n - k) % 2 ^ n ≡ a % 2 ^ k * 2 ^ (n - k) = rw back at (low_zeros n a (n - k) (omega arith)) in
    ap₂ (λ (i j : ℕ). concat_value i (n - k) j) (from_first k a) (high_cut n a k (omega (arith, h)) p) ∙ omega (arith, low) ∙ ap (rotated_right n a) (sym small)

-- ---- by the width and more

pub moved_out : (by : Move) (n a b : ℕ) → is_shift by ≡ true → 1 ≤ n → n ≤ b → a < 2 ^ n → moved_value by n a b ≡ entering_value by n a n
moved_out move.Left n a b is some far p = shifted_out_left n a b far
moved_out move.Right n a b is some far p = shifted_out_right n a b far p
moved_out move.Signed n a b is some far p = elim (cases_lt a (2 ^ (n - 1))) [
  | inl low ↦ sra_low n a b some low ∙ shifted_out_right n a b far p ∙ sym (ap (λ i. ite_value i (ones n) 0) (sign_low n a low))
  | inr high ↦
      let all : ones n - 0 ≡ ones n = omega arith in
      sra_high n a b some high p ∙ ap (λ w. ones n - w) (shifted_out_right n (ones n - a) b far (omega (arith, pow_pos n))) ∙ all ∙ sym (ap (λ i. ite_value i (ones n) 0) (sign_high n a some high p))
]
moved_out _ n a b is some far p = absurd (true≢false (sym is))

-- ---- by cases

pub either_way : (P : Move → Type 0) (m a b : Move) → (m ≡ a) ⊎ (m ≡ b) → P a → P b → P m
either_way P m a b is x y = ⊎_elim (λ e. subst P (sym e) x) (λ e. subst P (sym e) y) is

pub three_ways : (P : Move → Type 0) (m a b c : Move) → (m ≡ a) ⊎ ((m ≡ b) ⊎ (m ≡ c)) → P a → P b → P c → P m
three_ways P m a b c is x y z = ⊎_elim (λ e. subst P (sym e) x) (λ more. either_way P m b c more y z) is

pub four_ways : (P : Move → Type 0) (m a b c d : Move) → (m ≡ a) ⊎ ((m ≡ b) ⊎ ((m ≡ c) ⊎ (m ≡ d))) → P a → P b → P c → P d → P m
four_ways P m a b c d is w x y z = ⊎_elim (λ e. subst P (sym e) w) (λ more. three_ways P m b c d more x y z) is

-- ---- nodes

pub entered : (now new : List Item) (xs zs : List Node) (n k : ℕ) (sign : Node) → Extends now new → Makes now 1 (λ g. word_of g xs / 2 ^ (n - 1) % 2 ^ 1) sign → MakesWord new k (λ g. filled_word g (Some sign) k) zs
    → MakesWord new k (λ g. entering_value move.Signed n (word_of g xs) k) zs
entered now new xs zs n k sign e h made =
    word_same new k k (λ g. filled_word g (Some sign) k) (λ g. entering_value move.Signed n (word_of g xs) k) zs made refl
    (λ more state input g w states inputs frame. ap (λ (i : ℕ). ite_value i (ones k) 0) (later now new (λ g. g sign.id ≡ word_of g xs / 2 ^ (n - 1) % 2 ^ 1) e h.word more state input g w states inputs frame))

-- the high part before a low part
pub above_low : (by : Move) (m1 new : List Item) (xs low high rs : List Node) (n k m : ℕ) → Extends m1 new → MakesWord m1 m (λ g. high_value by n (word_of g xs) k) high
    → MakesWord new n (λ g. concat_value (word_of g high) (bits_in low) (word_of g low)) rs → MakesWord new n (λ g. concat_value (high_value by n (word_of g xs) k) (bits_in low) (word_of g low)) rs
above_low by m1 new xs low high rs n k m e h made =
    word_same new n n (λ g. concat_value (word_of g high) (bits_in low) (word_of g low)) (λ g. concat_value (high_value by n (word_of g xs) k) (bits_in low) (word_of g low)) rs made refl
    (λ more state input g w states inputs frame. ap (λ (i : ℕ). concat_value i (bits_in low) (word_of g low)) (later m1 new (λ g. word_of g high ≡ high_value by n (word_of g xs) k) e h.word more state input g w states inputs frame))

pub moved_made : (by : Move) (old m1 new : List Item) (xs low rs : List Node) (n k : ℕ) → AreNodes old xs → bits_in xs ≡ n → k < n → Extends old m1 → Extends m1 new → MakesWord m1 (low_bits by n k) (λ g. low_value by n (word_of g xs) k) low
    → MakesWord new n (λ g. concat_value (high_value by n (word_of g xs) k) (bits_in low) (word_of g low)) rs → MakesWord new n (λ g. moved_value by n (word_of g xs) k) rs
moved_made by old m1 new xs low rs n k in_xs is less e0 e1 h made =
    word_same new n n (λ g. concat_value (high_value by n (word_of g xs) k) (bits_in low) (word_of g low)) (λ g. moved_value by n (word_of g xs) k) rs made refl
    (λ more state input g w states inputs frame.
    let fits = later old new (λ g. word_of g xs < 2 ^ bits_in xs) (extends_twice old m1 new e0 e1) (words_fit old xs in_xs) more state input g w states inputs frame in
    ap₂ (λ (i j : ℕ). concat_value (high_value by n (word_of g xs) k) i j) h.wide (later m1 new (λ g. word_of g low ≡ low_value by n (word_of g xs) k) e1 h.word more state input g w states inputs frame)
    ∙ moved_parts by n (word_of g xs) k less (subst (λ (m : ℕ). word_of g xs < 2 ^ m) is fits))

pub bits_of_low : (by : Move) (n k : ℕ) → k ≤ n → high_bits by n k + low_bits by n k ≡ n
bits_of_low move.Left n k h = omega (arith, h)
bits_of_low move.Right n k h = omega (arith, h)
bits_of_low move.Signed n k h = omega (arith, h)
bits_of_low move.TurnLeft n k h = omega (arith, h)
bits_of_low move.TurnRight n k h = omega (arith, h)

-- a choice between what is moved and what is not
pub staged : (by : Move) (m1 new : List Item) (xs ys rs : List Node) (n m k : ℕ) (bit : Node) → m ≡ n → Extends m1 new → MakesWord m1 n (λ g. moved_value by n (word_of g xs) k) ys
    → MakesWord new m (λ g. ite_value (g bit.id) (word_of g ys) (word_of g xs)) rs → MakesWord new n (λ g. ite_value (g bit.id) (moved_value by n (word_of g xs) k) (word_of g xs)) rs
staged by m1 new xs ys rs n m k bit is e h made =
    word_same new m n (λ g. ite_value (g bit.id) (word_of g ys) (word_of g xs)) (λ g. ite_value (g bit.id) (moved_value by n (word_of g xs) k) (word_of g xs)) rs made is
    (λ more state input g w states inputs frame. ap (λ (i : ℕ). ite_value (g bit.id) i (word_of g xs)) (later m1 new (λ g. word_of g ys ≡ moved_value by n (word_of g xs) k) e h.word more state input g w states inputs frame))

-- what was moved by no bits of the amount
pub barrel_none : (by : Move) (items : List Item) (xs ys rs : List Node) → AreNodes items xs → 1 ≤ bits_in xs → rs ≡ xs → MakesWord items (bits_in xs) (λ g. moved_value by (bits_in xs) (word_of g xs) (word_of g ys % 2 ^ 0)) rs
barrel_none by items xs ys rs in_xs some is =
    subst (MakesWord items (bits_in xs) (λ g. moved_value by (bits_in xs) (word_of g xs) (word_of g ys % 2 ^ 0))) (sym is)
    (record {
      nodes = in_xs;
      wide = refl;
      word = λ more state input g w states inputs frame.
          let fits = words_fit items xs in_xs more state input g w states inputs frame in
          let none : word_of g ys % 2 ^ 0 ≡ 0 = mod-one (word_of g ys) in
          sym (ap (moved_value by (bits_in xs) (word_of g xs)) none ∙ moved_none by (bits_in xs) (word_of g xs) some fits);
    })

-- by one bit more
pub barrel_more : (by : Move) (old now m1 new : List Item) (xs ys so rs : List Node) (n m k amount : ℕ) (bit : Node) → AreNodes old xs → bits_in xs ≡ n → 1 ≤ n → m ≡ n → amount ≡ 2 ^ k → Extends old now → Extends now m1 → Extends m1 new
    → MakesWord now n (λ g. moved_value by n (word_of g xs) (word_of g ys % 2 ^ k)) so → Makes m1 1 (λ g. word_of g ys / 2 ^ k % 2 ^ 1) bit
    → MakesWord new m (λ g. ite_value (g bit.id) (moved_value by m (word_of g so) amount) (word_of g so)) rs → MakesWord new n (λ g. moved_value by n (word_of g xs) (word_of g ys % 2 ^ (k + 1))) rs
barrel_more by old now m1 new xs ys so rs n m k amount bit in_xs is some same power e0 e1 e2 h b made =
    let e12 = extends_twice now m1 new e1 e2 in
    word_same new m n (λ g. ite_value (g bit.id) (moved_value by m (word_of g so) amount) (word_of g so)) (λ g. moved_value by n (word_of g xs) (word_of g ys % 2 ^ (k + 1))) rs made same
    (λ more state input g w states inputs frame.
    let fits = later old new (λ g. word_of g xs < 2 ^ bits_in xs) (extends_twice old now new e0 e12) (words_fit old xs in_xs) more state input g w states inputs frame in
    let before = later now new (λ g. word_of g so ≡ moved_value by n (word_of g xs) (word_of g ys % 2 ^ k)) e12 h.word more state input g w states inputs frame in
    let at = later m1 new (λ g. g bit.id ≡ word_of g ys / 2 ^ k % 2 ^ 1) e2 b.word more state input g w states inputs frame in
    ap₂ (λ (i j : ℕ). ite_value (g bit.id) (moved_value by i (word_of g so) j) (word_of g so)) same power
    ∙ ap₂ (λ (i j : ℕ). ite_value i (moved_value by n j (2 ^ k)) j) at before
    ∙ moved_more by n (word_of g xs) (word_of g ys) k some (subst (λ (m : ℕ). word_of g xs < 2 ^ m) is fits))

pub stage_power : (k count n : ℕ) → k < count → 2 ^ count < 2 * n → 2 ^ k < n
stage_power k count n h small =
    let grows : 2 ^ (k + 1) ≤ 2 ^ count = pow-le-pow_right (lit< tt) (omega (arith, h)) in
    omega (arith, grows, small, pow-add 2 k 1)

-- a power of two that fits has a small exponent
pub power_bound : (count power : ℕ) → power ≡ 2 ^ count → power < 2 ^ 63 → count + 1 < 2 ^ 64
power_bound count power is small =
    ⊎_elim (λ h. omega (arith, h)) (λ h. let more : 2 ^ 63 ≤ 2 ^ count = pow-le-pow_right (lit< tt) h in absurd (omega (arith, more, is, small))) (cases_lt count 63)

-- the stages of a barrel go on below the width
pub amount_fits : (k count n amount : ℕ) → k < count → 2 ^ count < 2 * n → n < 2 ^ 63 → amount ≡ 2 ^ k → amount * 2 < 2 ^ 64
amount_fits k count n amount h small few is = omega (arith, stage_power k count n h small, few, is)

pub amount_doubled : (k amount : ℕ) → amount ≡ 2 ^ k → amount * 2 ≡ 2 ^ (k + 1)
amount_doubled k amount is = omega (arith, is, pow-add 2 k 1)

-- where a bit of the amount beyond is 1, the word is moved by its width and more
pub far_or_near : (by : Move) (n a b count : ℕ) → is_shift by ≡ true → 1 ≤ n → n ≤ 2 ^ count → a < 2 ^ n
    → ite_value (unary_value unary.Redor 0 (b / 2 ^ count)) (entering_value by n a n) (moved_value by n a (b % 2 ^ count)) ≡ moved_value by n a b
far_or_near by n a b count is some enough p = of (b / 2 ^ count) refl
  where
    of : (d : ℕ) → b / 2 ^ count ≡ d → ite_value (unary_value unary.Redor 0 d) (entering_value by n a n) (moved_value by n a (b % 2 ^ count)) ≡ moved_value by n a b
    of zero none = ap (moved_value by n a) (omega (arith, div-add-mod' b (2 ^ count), ap (λ j. j * 2 ^ count) none))
    of (suc d) far =
        let beyond : n ≤ b = omega (arith, div-add-mod' b (2 ^ count), ap (λ j. j * 2 ^ count) far, enough) in
        let seen : (suc d == 0) ≡ false = ne_eqb (suc d) 0 (λ e. absurd (omega (arith, e))) in
        ap (λ (t : Bool). ite_value (bit_number (not t)) (entering_value by n a n) (moved_value by n a (b % 2 ^ count))) seen ∙ sym (moved_out by n a b is some beyond p)

-- whether some bit of a word is 1 from a place on
pub some_from : (old m1 new : List Item) (ys hs : List Node) (low n m : ℕ) (r : Node) → AreNodes old ys → bits_in ys ≡ n → low ≤ n → Extends old m1 → Extends m1 new → MakesWord m1 (n - low) (λ g. word_of g ys / 2 ^ low % 2 ^ (n - low)) hs
    → Makes new 1 (λ g. unary_value unary.Redor m (word_of g hs)) r → Makes new 1 (λ g. unary_value unary.Redor (n - low) (word_of g ys / 2 ^ low)) r
some_from old m1 new ys hs low n m r in_ys is below e0 e1 h made =
    makes_same new 1 1 (λ g. unary_value unary.Redor m (word_of g hs)) (λ g. unary_value unary.Redor (n - low) (word_of g ys / 2 ^ low)) r made refl
    (λ more state input g w states inputs frame.
    let fits = later old new (λ g. word_of g ys < 2 ^ bits_in ys) (extends_twice old m1 new e0 e1) (words_fit old ys in_ys) more state input g w states inputs frame in
    let high = later m1 new (λ g. word_of g hs ≡ word_of g ys / 2 ^ low % 2 ^ (n - low)) e1 h.word more state input g w states inputs frame in
    ap (unary_value unary.Redor m) (high ∙ high_cut n (word_of g ys) low below (subst (λ (k : ℕ). word_of g ys < 2 ^ k) is fits)))

-- what is near, or what enters where the amount is far
pub chosen_far : (by : Move) (m1 new : List Item) (xs ns es rs : List Node) (n m : ℕ) (far : Node) → m ≡ n → Extends m1 new → MakesWord m1 n (λ g. entering_value by n (word_of g xs) n) es
    → MakesWord new m (λ g. ite_value (g far.id) (word_of g es) (word_of g ns)) rs → MakesWord new n (λ g. ite_value (g far.id) (entering_value by n (word_of g xs) n) (word_of g ns)) rs
chosen_far by m1 new xs ns es rs n m far is e h made =
    word_same new m n (λ g. ite_value (g far.id) (word_of g es) (word_of g ns)) (λ g. ite_value (g far.id) (entering_value by n (word_of g xs) n) (word_of g ns)) rs made is
    (λ more state input g w states inputs frame. ap (λ (i : ℕ). ite_value (g far.id) i (word_of g ns)) (later m1 new (λ g. word_of g es ≡ entering_value by n (word_of g xs) n) e h.word more state input g w states inputs frame))

pub shifted_far : (by : Move) (old m1 m2 new : List Item) (xs ys ns rs : List Node) (n k count : ℕ) (far : Node) → is_shift by ≡ true → AreNodes old xs → bits_in xs ≡ n → 1 ≤ n → n ≤ 2 ^ count → Extends old m1 → Extends m1 m2 → Extends m2 new
    → Makes m1 1 (λ g. unary_value unary.Redor k (word_of g ys / 2 ^ count)) far → MakesWord m2 n (λ g. moved_value by n (word_of g xs) (word_of g ys % 2 ^ count)) ns
    → MakesWord new n (λ g. ite_value (g far.id) (entering_value by n (word_of g xs) n) (word_of g ns)) rs → MakesWord new n (λ g. moved_value by n (word_of g xs) (word_of g ys)) rs
shifted_far by old m1 m2 new xs ys ns rs n k count far shifts in_xs is some enough e0 e1 e2 h near made =
    word_same new n n (λ g. ite_value (g far.id) (entering_value by n (word_of g xs) n) (word_of g ns)) (λ g. moved_value by n (word_of g xs) (word_of g ys)) rs made refl
    (λ more state input g w states inputs frame.
    let e12 = extends_twice m1 m2 new e1 e2 in
    let fits = later old new (λ g. word_of g xs < 2 ^ bits_in xs) (extends_twice old m1 new e0 e12) (words_fit old xs in_xs) more state input g w states inputs frame in
    let at = later m1 new (λ g. g far.id ≡ unary_value unary.Redor k (word_of g ys / 2 ^ count)) e12 h.word more state input g w states inputs frame in
    let low = later m2 new (λ g. word_of g ns ≡ moved_value by n (word_of g xs) (word_of g ys % 2 ^ count)) e2 near.word more state input g w states inputs frame in
    ap₂ (λ (i j : ℕ). ite_value i (entering_value by n (word_of g xs) n) j) at low ∙ far_or_near by n (word_of g xs) (word_of g ys) count shifts some enough (subst (λ (k : ℕ). word_of g xs < 2 ^ k) is fits))

-- where all bits of the amount were looked at
pub all_bits : (by : Move) (old new : List Item) (xs ys rs : List Node) (n k : ℕ) → AreNodes old ys → bits_in ys ≡ k → Extends old new → MakesWord new n (λ g. moved_value by n (word_of g xs) (word_of g ys % 2 ^ k)) rs
    → MakesWord new n (λ g. moved_value by n (word_of g xs) (word_of g ys)) rs
all_bits by old new xs ys rs n k in_ys is e made =
    word_same new n n (λ g. moved_value by n (word_of g xs) (word_of g ys % 2 ^ k)) (λ g. moved_value by n (word_of g xs) (word_of g ys)) rs made refl
    (λ more state input g w states inputs frame.
    let fits = later old new (λ g. word_of g ys < 2 ^ bits_in ys) e (words_fit old ys in_ys) more state input g w states inputs frame in
    ap (moved_value by n (word_of g xs)) (mod-eq_of_lt (subst (λ (m : ℕ). word_of g ys < 2 ^ m) is fits)))

pub fewer_stages : (many count n : ℕ) → many ≤ count → 2 ^ count < 2 * n → 2 ^ many < 2 * n
fewer_stages many count n h small = let grows : 2 ^ many ≤ 2 ^ count = pow-le-pow_right (lit< tt) h in omega (arith, grows, small)
