-- Words of eight bytes, and the deltas in them.
use Rattle.std.proofs.Common.{◌≡◌, ◌≢◌, ℕ, zero, suc, ◌+◌, ◌-◌, ◌*◌, ◌/◌, ◌%◌, ◌^◌, ◌<◌, ◌≤◌, true, false, nat_lt, List, [], ◌∷◌, ◌++◌, length, drop, get_or, bit_and, bit_or, bit_xor, if◌then◌else◌, w64, refl, sym, ap, ap₂, ◌∙◌, inl, inr, arith}
use Rattle.std.specs.List.{AllByRecursion}
use Rattle.std.specs.Int.{trailing_zeros, bit_at}
use Rattle.std.proofs.lemmas.Bool.{cases_lt}
use Rattle.std.proofs.lemmas.List.{append_assoc, drop_at, length-append}
use Rattle.std.proofs.lemmas.Bool.Decides.{nat_tests}
use Rattle.std.proofs.lemmas.Nat.{pow_pos, pow-add, mul-le, shr-shr, shr_high, mod_low, and_le_r, or_lt, and_block, or_block, xor_block, and_mask, or_comm, or_shifted, shl-shr}
use Rattle.std.proofs.lemmas.Nat.Bits.{bit_at-trailing_zeros, and_pow, and_high}
use lib.Bits.{xor_self, and_self}
use Rattle.deltas.specs.Deltas.{digits_128, delta}
use Rattle.deltas.specs.Pairs.{word_of, ends_of, value_of}
use Rattle.deltas.proofs.BackLemmas.{AreBytes}
use Rattle.deltas.proofs.DigitLemmas.{digits-more, digits-one}

-- ---- bytes

-- eight more bits
eight_more : (k : ℕ) → 2 ^ (8 * suc k) ≡ 256 * 2 ^ (8 * k)
eight_more k =
    let e : 8 * suc k ≡ 8 * k + 8 = omega arith in
    ap (λ n. 2 ^ n) e ∙ pow-add 2 (8 * k) 8 ∙ omega arith

pub word_of-append : (xs ys : List ℕ) → word_of (xs ++ ys) ≡ word_of xs + 2 ^ (8 * length xs) * word_of ys
word_of-append [] ys = omega arith
word_of-append (x ∷ xs) ys = omega (arith, word_of-append xs ys, ap (λ n. n * word_of ys) (eight_more (length xs)))

pub word_of-below : (xs : List ℕ) → AreBytes xs → word_of xs < 2 ^ (8 * length xs)
word_of-below [] bytes = omega arith
word_of-below (x ∷ xs) bytes = omega (arith, bytes.0, word_of-below xs bytes.1, eight_more (length xs))

-- ---- top bits

abbrev pub all_ones : ℕ → ℕ
all_ones zero = 0
all_ones (suc k) = 255 + 256 * all_ones k

abbrev pub all_tops : ℕ → ℕ
all_tops zero = 0
all_tops (suc k) = 128 + 256 * all_tops k

word_fits : (xs : List ℕ) → AreBytes xs → word_of xs ≤ all_ones (length xs)
word_fits [] bytes = omega arith
word_fits (x ∷ xs) bytes = omega (arith, bytes.0, word_fits xs bytes.1)

top_bit : (b : ℕ) → b < 256 → bit_and (255 - b) 128 ≡ if◌then◌else◌ (nat_lt b 128) 128 0
top_bit b small = elim (cases_lt b 128) [
  | inl low ↦ let is : nat_lt b 128 ≡ true = grind (arith, nat_tests) in rw is (and_pow (255 - b) 7 ∙ omega arith)
  | inr high ↦ let is : nat_lt b 128 ≡ false = grind (arith, nat_tests) in rw is (and_pow (255 - b) 7 ∙ omega arith)
]

pub ends-is : (bs : List ℕ) → AreBytes bs → bit_and (all_ones (length bs) - word_of bs) (all_tops (length bs)) ≡ ends_of bs
ends-is [] bytes = refl
ends-is (b ∷ bs) bytes =
    let left : all_ones (suc (length bs)) - (b + 256 * word_of bs) ≡ (all_ones (length bs) - word_of bs) * 2 ^ 8 + (255 - b) = omega (arith, bytes.0, word_fits bs bytes.1) in
    let right : all_tops (suc (length bs)) ≡ all_tops (length bs) * 2 ^ 8 + 128 = omega arith in
    ap₂ bit_and left right
    ∙ and_block 8 (all_ones (length bs) - word_of bs) (all_tops (length bs)) (255 - b) 128 (omega arith) (omega arith)
    ∙ ap₂ (λ x y. x * 2 ^ 8 + y) (ends-is bs bytes.1) (top_bit b bytes.0)
    ∙ omega arith

pub ends-eight : (bs : List ℕ) → length bs ≡ 8 → AreBytes bs → bit_and (18446744073709551615 - word_of bs) 9259542123273814144 ≡ ends_of bs
ends-eight bs eight bytes = ap (λ n. bit_and (all_ones n - word_of bs) (all_tops n)) (sym eight) ∙ ends-is bs bytes

-- ---- the lowest 1

with_lowest : (place rest : ℕ) → 2 ^ place * (2 * rest + 1) ≡ (2 * rest + 1) * 2 ^ place + 0
with_lowest place rest = omega arith

below_lowest : (place rest : ℕ) → 2 ^ place * (2 * rest + 1) - 1 ≡ (2 * rest) * 2 ^ place + (2 ^ place - 1)
below_lowest place rest = omega (arith, pow_pos place)

one_more : (place : ℕ) → 2 ^ (place + 1) ≡ 2 * 2 ^ place
one_more place = pow-add 2 place 1 ∙ omega arith

pub xor-lowest : (place rest : ℕ) → bit_xor (2 ^ place * (2 * rest + 1)) (2 ^ place * (2 * rest + 1) - 1) ≡ 2 ^ (place + 1) - 1
xor-lowest place rest =
    let low : bit_xor (2 * rest + 1) (2 * rest) ≡ 1 =
    (let a : 2 * rest + 1 ≡ rest * 2 ^ 1 + 1 = omega arith in
    let b : 2 * rest ≡ rest * 2 ^ 1 + 0 = omega arith in
    ap₂ bit_xor a b ∙ xor_block 1 rest rest 1 0 (omega arith) (omega arith) ∙ ap (λ n. n * 2 ^ 1 + 1) (xor_self rest)) in
    ap₂ bit_xor (with_lowest place rest) (below_lowest place rest)
    ∙ xor_block place (2 * rest + 1) (2 * rest) 0 (2 ^ place - 1) (pow_pos place) (omega (arith, pow_pos place))
    ∙ ap (λ n. n * 2 ^ place + bit_xor 0 (2 ^ place - 1)) low
    ∙ omega (arith, one_more place, pow_pos place)

pub and-lowest : (place rest : ℕ) → bit_and (2 ^ place * (2 * rest + 1)) (2 ^ place * (2 * rest + 1) - 1) ≡ 2 ^ (place + 1) * rest
and-lowest place rest =
    let low : bit_and (2 * rest + 1) (2 * rest) ≡ 2 * rest =
    (let a : 2 * rest + 1 ≡ rest * 2 ^ 1 + 1 = omega arith in
    let b : 2 * rest ≡ rest * 2 ^ 1 + 0 = omega arith in
    ap₂ bit_and a b ∙ and_block 1 rest rest 1 0 (omega arith) (omega arith) ∙ ap (λ n. n * 2 ^ 1 + 0) (and_self rest) ∙ omega arith) in
    ap₂ bit_and (with_lowest place rest) (below_lowest place rest)
    ∙ and_block place (2 * rest + 1) (2 * rest) 0 (2 ^ place - 1) (pow_pos place) (omega (arith, pow_pos place))
    ∙ ap (λ n. n * 2 ^ place + bit_and 0 (2 ^ place - 1)) low
    ∙ omega (arith, ap (λ n. n * rest) (one_more place))

-- the bits of a word with its lowest 1 at a place
lowest_bit : (place rest : ℕ) → bit_at (2 ^ place * (2 * rest + 1)) place ≡ 1
lowest_bit place rest =
    let turned : 2 ^ place * (2 * rest + 1) ≡ (2 * rest + 1) * 2 ^ place = omega arith in
    ap (λ n. n / 2 ^ place % 2) turned ∙ ap (λ n. n % 2) (shl-shr (2 * rest + 1) place) ∙ omega arith

bits_below : (place rest i : ℕ) → i < place → bit_at (2 ^ place * (2 * rest + 1)) i ≡ 0
bits_below place rest i low =
    let parts : place ≡ suc (place - i - 1) + i = omega arith in
    let twice : 2 ^ suc (place - i - 1) ≡ 2 * 2 ^ (place - i - 1) = eq_two (place - i - 1) in
    let shifted : 2 ^ place * (2 * rest + 1) ≡ (2 * (2 ^ (place - i - 1) * (2 * rest + 1))) * 2 ^ i =
    ap (λ n. n * (2 * rest + 1)) (ap (λ k. 2 ^ k) parts ∙ pow-add 2 (suc (place - i - 1)) i ∙ ap (λ n. n * 2 ^ i) twice) ∙ omega arith in
    ap (λ n. n / 2 ^ i % 2) shifted ∙ ap (λ n. n % 2) (shl-shr (2 * (2 ^ (place - i - 1) * (2 * rest + 1))) i) ∙ omega arith
  where
    eq_two : (k : ℕ) → 2 ^ suc k ≡ 2 * 2 ^ k
    eq_two k = let e : suc k ≡ k + 1 = omega arith in ap (λ n. 2 ^ n) e ∙ one_more k

pub zeros-lowest : (word place rest : ℕ) → 0 < word → word < 2 ^ 64 → word ≡ 2 ^ place * (2 * rest + 1) → trailing_zeros w64 word ≡ place
zeros-lowest word place rest some fits is =
    let z = bit_at-trailing_zeros w64 word some fits in
    let here : bit_at word place ≡ 1 = ap (λ n. bit_at n place) is ∙ lowest_bit place rest in
    elim (cases_lt (trailing_zeros w64 word) place) [
      | inl below ↦ absurd (omega (arith, z.1, ap (λ n. bit_at n (trailing_zeros w64 word)) is, bits_below place rest (trailing_zeros w64 word) below))
      | inr other ↦ elim (cases_lt place (trailing_zeros w64 word)) [
        | inl above ↦ absurd (omega (arith, here, z.2 place above))
        | inr same ↦ omega arith
      ]
    ]

-- ---- numbers to base 128

-- four fields of seven bits each
fields : (a b c d : ℕ) → bit_or (bit_or (bit_or (bit_and a 127) (bit_and b 16256)) (bit_and c 2080768)) (bit_and d 266338304)
    ≡ a % 128 + b / 128 % 128 * 128 + c / 16384 % 128 * 16384 + d / 2097152 % 128 * 2097152
fields a b c d =
    let one : bit_and a 127 ≡ a % 128 = and_mask a 7 in
    let two : bit_and b 16256 ≡ b / 128 % 128 * 2 ^ 7 = and_high b 7 7 in
    let three : bit_and c 2080768 ≡ c / 16384 % 128 * 2 ^ 14 = and_high c 7 14 in
    let four : bit_and d 266338304 ≡ d / 2097152 % 128 * 2 ^ 21 = and_high d 7 21 in
    let first : bit_or (bit_and a 127) (bit_and b 16256) ≡ b / 128 % 128 * 2 ^ 7 + a % 128 =
    ap₂ bit_or one two ∙ or_comm (a % 128) (b / 128 % 128 * 2 ^ 7) ∙ or_shifted (b / 128 % 128) 7 (a % 128) (omega arith) in
    let low : ℕ = b / 128 % 128 * 2 ^ 7 + a % 128 in
    let second : bit_or low (bit_and c 2080768) ≡ c / 16384 % 128 * 2 ^ 14 + low =
    ap (bit_or low) three ∙ or_comm low (c / 16384 % 128 * 2 ^ 14) ∙ or_shifted (c / 16384 % 128) 14 low (omega arith) in
    let lower : ℕ = c / 16384 % 128 * 2 ^ 14 + low in
    let third : bit_or lower (bit_and d 266338304) ≡ d / 2097152 % 128 * 2 ^ 21 + lower =
    ap (bit_or lower) four ∙ or_comm lower (d / 2097152 % 128 * 2 ^ 21) ∙ or_shifted (d / 2097152 % 128) 21 lower (omega arith) in
    ap (λ x. bit_or (bit_or x (bit_and c 2080768)) (bit_and d 266338304)) first ∙ ap (λ x. bit_or x (bit_and d 266338304)) second ∙ third ∙ omega arith

-- both halves of a word
halves : (n mask : ℕ) → mask < 2 ^ 32 → bit_and n (mask * 2 ^ 32 + mask) ≡ bit_and (n / 2 ^ 32) mask * 2 ^ 32 + bit_and (n % 2 ^ 32) mask
halves n mask small =
    let parts : n ≡ n / 2 ^ 32 * 2 ^ 32 + n % 2 ^ 32 = omega arith in
    ap (λ k. bit_and k (mask * 2 ^ 32 + mask)) parts ∙ and_block 32 (n / 2 ^ 32) mask (n % 2 ^ 32) mask (omega arith) small

pub values-is : (word : ℕ) → bit_or (bit_or (bit_or (bit_and word 545460846719) (bit_and (word / 2) 69818988380032)) (bit_and (word / 4) 8936830512644096)) (bit_and (word / 8) 1143914305618444288)
    ≡ value_of (word % 2 ^ 32) + 2 ^ 32 * value_of (word / 2 ^ 32)
values-is word =
    let one : bit_and word 545460846719 ≡ bit_and (word / 2 ^ 32) 127 * 2 ^ 32 + bit_and (word % 2 ^ 32) 127 = halves word 127 (omega arith) in
    let two : bit_and (word / 2) 69818988380032 ≡ bit_and (word / 2 / 2 ^ 32) 16256 * 2 ^ 32 + bit_and (word / 2 % 2 ^ 32) 16256 = halves (word / 2) 16256 (omega arith) in
    let three : bit_and (word / 4) 8936830512644096 ≡ bit_and (word / 4 / 2 ^ 32) 2080768 * 2 ^ 32 + bit_and (word / 4 % 2 ^ 32) 2080768 = halves (word / 4) 2080768 (omega arith) in
    let four : bit_and (word / 8) 1143914305618444288 ≡ bit_and (word / 8 / 2 ^ 32) 266338304 * 2 ^ 32 + bit_and (word / 8 % 2 ^ 32) 266338304 = halves (word / 8) 266338304 (omega arith) in
    let low : (n m : ℕ) → m < 2 ^ 32 → bit_and n m < 2 ^ 32 = λ n m small. omega (arith, and_le_r n m) in
    let joined : (a b r s : ℕ) → r < 2 ^ 32 → s < 2 ^ 32 → bit_or (a * 2 ^ 32 + r) (b * 2 ^ 32 + s) ≡ bit_or a b * 2 ^ 32 + bit_or r s = or_block 32 in
    let h : ℕ = word / 2 ^ 32 in
    let l : ℕ = word % 2 ^ 32 in
    let first = ap₂ bit_or one two ∙ joined (bit_and h 127) (bit_and (word / 2 / 2 ^ 32) 16256) (bit_and l 127) (bit_and (word / 2 % 2 ^ 32) 16256) (low l 127 (omega arith)) (low (word / 2 % 2 ^ 32) 16256 (omega arith)) in
    let high_1 : ℕ = bit_or (bit_and h 127) (bit_and (word / 2 / 2 ^ 32) 16256) in
    let low_1 : ℕ = bit_or (bit_and l 127) (bit_and (word / 2 % 2 ^ 32) 16256) in
    let small_1 : low_1 < 2 ^ 32 = or_lt 32 (bit_and l 127) (bit_and (word / 2 % 2 ^ 32) 16256) (low l 127 (omega arith)) (low (word / 2 % 2 ^ 32) 16256 (omega arith)) in
    let second = ap₂ bit_or first three ∙ joined high_1 (bit_and (word / 4 / 2 ^ 32) 2080768) low_1 (bit_and (word / 4 % 2 ^ 32) 2080768) small_1 (low (word / 4 % 2 ^ 32) 2080768 (omega arith)) in
    let low_2 : ℕ = bit_or low_1 (bit_and (word / 4 % 2 ^ 32) 2080768) in
    let small_2 : low_2 < 2 ^ 32 = or_lt 32 low_1 (bit_and (word / 4 % 2 ^ 32) 2080768) small_1 (low (word / 4 % 2 ^ 32) 2080768 (omega arith)) in
    let third = ap₂ bit_or second four ∙ joined (bit_or high_1 (bit_and (word / 4 / 2 ^ 32) 2080768)) (bit_and (word / 8 / 2 ^ 32) 266338304) low_2 (bit_and (word / 8 % 2 ^ 32) 266338304) small_2 (low (word / 8 % 2 ^ 32) 266338304 (omega arith)) in
    third ∙ ap₂ (λ x y. x * 2 ^ 32 + y) (fields h (word / 2 / 2 ^ 32) (word / 4 / 2 ^ 32) (word / 8 / 2 ^ 32)) (fields l (word / 2 % 2 ^ 32) (word / 4 % 2 ^ 32) (word / 8 % 2 ^ 32))
    ∙ omega arith

-- ---- where a delta ends

-- bytes with the top bit
abbrev pub AreMore : List ℕ → Type 0
AreMore bs = AllByRecursion (λ b. (128 ≤ b) × (b < 256)) bs

-- the first byte without the top bit, those before it and those behind it
pub record FirstEnd (bytes : List ℕ) : Type 0 where
  pub front : List ℕ
  pub last : ℕ
  pub behind : List ℕ
  pub parts : bytes ≡ front ++ (last ∷ behind)
  pub more : AreMore front
  pub small : last < 128
  pub rest : AreBytes behind
  pub is : ends_of bytes ≡ 2 ^ (8 * length front + 7) * (2 * ends_of behind + 1)

pub first_end : (bytes : List ℕ) → AreBytes bytes → 0 < ends_of bytes → FirstEnd bytes
first_end [] are some = absurd (omega arith)
first_end (b ∷ bs) are some = elim (cases_lt b 128) [
  | inl low ↦
      let is : nat_lt b 128 ≡ true = grind (arith, nat_tests) in
      record {
        front = [];
        last = b;
        behind = bs;
        parts = refl;
        more = tt;
        small = low;
        rest = are.1;
        is = ap (λ x. if◌then◌else◌ {A = ℕ} x 128 0 + 256 * ends_of bs) is ∙ omega arith;
      }
  | inr high ↦
      let is : nat_lt b 128 ≡ false = grind (arith, nat_tests) in
      let shifted : ends_of (b ∷ bs) ≡ 256 * ends_of bs = ap (λ x. if◌then◌else◌ {A = ℕ} x 128 0 + 256 * ends_of bs) is ∙ omega arith in
      let f = first_end bs are.1 (omega (arith, shifted)) in
      let place : 2 ^ (8 * suc (length f.front) + 7) ≡ 256 * 2 ^ (8 * length f.front + 7) =
      (let e : 8 * suc (length f.front) + 7 ≡ (8 * length f.front + 7) + 8 = omega arith in ap (λ n. 2 ^ n) e ∙ pow-add 2 (8 * length f.front + 7) 8 ∙ omega arith) in
      record {
        front = b ∷ f.front;
        last = f.last;
        behind = f.behind;
        parts = ap (λ (l : List ℕ). b ∷ l) f.parts;
        more = ((high, are.0), f.more);
        small = f.small;
        rest = f.rest;
        is = shifted ∙ ap (λ n. 256 * n) f.is ∙ omega (arith, ap (λ n. n * (2 * ends_of f.behind + 1)) place);
      }
]

are_bytes : (bs : List ℕ) → AreMore bs → AreBytes bs
are_bytes [] more = tt
are_bytes (b ∷ bs) more = (more.0.1, are_bytes bs more.1)

-- ---- one delta

-- the word of its bytes
abbrev pub delta_word : List ℕ → ℕ → ℕ
delta_word front last = word_of (front ++ (last ∷ []))

pub delta_word-is : (front : List ℕ) (last : ℕ) → delta_word front last ≡ word_of front + 2 ^ (8 * length front) * last
delta_word-is front last = word_of-append front (last ∷ []) ∙ omega arith

-- it has the last byte, and at most four bytes, by its size
pub last_is_some : (front : List ℕ) (last : ℕ) → AreMore front → 2 ^ (8 * length front) ≤ delta_word front last → 0 < last
last_is_some front zero more large = absurd (omega (arith, delta_word-is front 0, word_of-below front (are_bytes front more)))
last_is_some front (suc n) more large = omega arith

pub front_is_short : (front : List ℕ) (last : ℕ) → 2 ^ (8 * length front) ≤ delta_word front last → delta_word front last < 2 ^ 32 → length front ≤ 3
front_is_short front last large small = elim (cases_lt (length front) 4) [
  | inl short ↦ omega arith
  | inr long ↦
      let parts : 8 * length front ≡ 8 * (length front - 4) + 32 = omega arith in
      let big : 2 ^ (8 * length front) ≡ 2 ^ (8 * (length front - 4)) * 2 ^ 32 = ap (λ n. 2 ^ n) parts ∙ pow-add 2 (8 * (length front - 4)) 32 in
      absurd (omega (arith, big, pow_pos (8 * (length front - 4))))
]

delta_more : (more n digit rest : ℕ) (others : List ℕ) → 128 ≤ n → n % 128 + 128 ≡ digit → n / 128 ≡ rest → digits_128 more rest ≡ others → digits_128 (suc more) n ≡ digit ∷ others
delta_more more n digit rest others large is behind more_are =
    digits-more more n large ∙ ap₂ (λ (d : ℕ) (k : ℕ). d ∷ digits_128 more k) is behind ∙ ap (λ (l : List ℕ). digit ∷ l) more_are

pub delta-is : (front : List ℕ) (last : ℕ) → AreMore front → length front ≤ 3 → 0 < last → last < 128 → delta (value_of (delta_word front last)) ≡ front ++ (last ∷ [])
delta-is [] last more short some small =
    let is : value_of (last + 256 * 0) ≡ last = omega arith in
    ap delta is ∙ digits-one 4 last small
delta-is (a ∷ []) last more short some small =
    let is : value_of (a + 256 * (last + 256 * 0)) ≡ (a - 128) + 128 * last = omega (arith, more.0) in
    ap delta is
    ∙ delta_more 3 ((a - 128) + 128 * last) a last (last ∷ []) (omega arith) (omega (arith, more.0)) (omega (arith, more.0)) (digits-one 3 last small)
delta-is (a ∷ b ∷ []) last more short some small =
    let is : value_of (a + 256 * (b + 256 * (last + 256 * 0))) ≡ (a - 128) + 128 * ((b - 128) + 128 * last) = omega (arith, more.0, more.1.0) in
    ap delta is
    ∙ delta_more 3 ((a - 128) + 128 * ((b - 128) + 128 * last)) a ((b - 128) + 128 * last) (b ∷ last ∷ []) (omega arith) (omega (arith, more.0)) (omega (arith, more.0))
    (delta_more 2 ((b - 128) + 128 * last) b last (last ∷ []) (omega arith) (omega (arith, more.1.0)) (omega (arith, more.1.0)) (digits-one 2 last small))
delta-is (a ∷ b ∷ d ∷ []) last more short some small =
    let is : value_of (a + 256 * (b + 256 * (d + 256 * (last + 256 * 0)))) ≡ (a - 128) + 128 * ((b - 128) + 128 * ((d - 128) + 128 * last)) = omega (arith, more.0, more.1.0, more.1.1.0) in
    ap delta is
    ∙ delta_more 3 ((a - 128) + 128 * ((b - 128) + 128 * ((d - 128) + 128 * last))) a ((b - 128) + 128 * ((d - 128) + 128 * last)) (b ∷ d ∷ last ∷ []) (omega arith) (omega (arith, more.0)) (omega (arith, more.0))
    (delta_more 2 ((b - 128) + 128 * ((d - 128) + 128 * last)) b ((d - 128) + 128 * last) (d ∷ last ∷ []) (omega arith) (omega (arith, more.1.0)) (omega (arith, more.1.0))
    (delta_more 1 ((d - 128) + 128 * last) d last (last ∷ []) (omega arith) (omega (arith, more.1.1.0)) (omega (arith, more.1.1.0)) (digits-one 1 last small)))
delta-is (a ∷ b ∷ d ∷ e ∷ front) last more short some small = absurd (omega arith)

-- ---- two deltas

-- a word of two deltas and what stands behind them
two_words : (xs ys zs : List ℕ) (i j : ℕ) → length xs ≡ i → length ys ≡ j → word_of (xs ++ (ys ++ zs)) ≡ (word_of zs * 2 ^ (8 * j) + word_of ys) * 2 ^ (8 * i) + word_of xs
two_words xs ys zs i j is js =
    let a : word_of (xs ++ (ys ++ zs)) ≡ word_of xs + 2 ^ (8 * i) * word_of (ys ++ zs) = word_of-append xs (ys ++ zs) ∙ ap (λ n. word_of xs + 2 ^ (8 * n) * word_of (ys ++ zs)) is in
    let b : word_of (ys ++ zs) ≡ word_of zs * 2 ^ (8 * j) + word_of ys = word_of-append ys zs ∙ ap (λ n. word_of ys + 2 ^ (8 * n) * word_of zs) js ∙ omega arith in
    a ∙ ap (λ n. word_of xs + 2 ^ (8 * i) * n) b ∙ omega arith

-- the last byte of a delta is not 0 where the word is above what the other bytes can be
pub first_large : (i word : ℕ) → (2 ^ (8 * i + 7 + 1) - 1) / 256 < word → 2 ^ (8 * i) ≤ word
first_large i word h =
    let e : 2 ^ (8 * i + 7 + 1) ≡ 256 * 2 ^ (8 * i) = (let s : 8 * i + 7 + 1 ≡ 8 * i + 8 = omega arith in ap (λ n. 2 ^ n) s ∙ pow-add 2 (8 * i) 8 ∙ omega arith) in
    omega (arith, e, pow_pos (8 * i))

pub second_large : (k j high low : ℕ) → low < 2 ^ k → (2 ^ (k + (8 * j + 7) + 1) - 1) / 256 < high * 2 ^ k + low → 2 ^ (8 * j) ≤ high
second_large k j high low small h =
    let e : 2 ^ (k + (8 * j + 7) + 1) ≡ 256 * (2 ^ (8 * j) * 2 ^ k) =
    (let s : k + (8 * j + 7) + 1 ≡ 8 * j + k + 8 = omega arith in ap (λ n. 2 ^ n) s ∙ pow-add 2 (8 * j + k) 8 ∙ ap (λ n. n * 2 ^ 8) (pow-add 2 (8 * j) k) ∙ omega arith) in
    elim (cases_lt high (2 ^ (8 * j))) [
      | inl less ↦
          let most : (high + 1) * 2 ^ k ≤ 2 ^ (8 * j) * 2 ^ k = mul-le (high + 1) (2 ^ k) (2 ^ (8 * j)) (2 ^ k) (omega arith) (omega arith) in
          absurd (omega (arith, e, most, pow_pos k))
      | inr good ↦ good
    ]

-- one word in the lower half and one in the upper half
pub packed : (low high : ℕ) → low < 2 ^ 32 → high < 2 ^ 32 → bit_or low (high * 2 ^ 32 % 2 ^ 64) ≡ high * 2 ^ 32 + low
packed low high l h =
    let whole : high * 2 ^ 32 % 2 ^ 64 ≡ high * 2 ^ 32 = omega arith in
    ap (bit_or low) whole ∙ or_comm low (high * 2 ^ 32) ∙ or_shifted high 32 low l

value_below : (n : ℕ) → value_of n < 2 ^ 32
value_below n = omega arith

pub numbers-are : (numbers low high both_words : ℕ) → low < 2 ^ 32 → both_words ≡ high * 2 ^ 32 + low → numbers ≡ value_of (both_words % 2 ^ 32) + 2 ^ 32 * value_of (both_words / 2 ^ 32)
    → (numbers % 2 ^ 32 ≡ value_of low) × (numbers / 2 ^ 32 ≡ value_of high)
numbers-are numbers low high both_words l is are =
    let a : value_of (both_words % 2 ^ 32) ≡ value_of low = ap value_of (ap (λ n. n % 2 ^ 32) is ∙ mod_low high 32 low l) in
    let b : value_of (both_words / 2 ^ 32) ≡ value_of high = ap value_of (ap (λ n. n / 2 ^ 32) is ∙ shr_high high 32 low l) in
    let whole : numbers ≡ value_of high * 2 ^ 32 + value_of low = are ∙ ap₂ (λ x y. x + 2 ^ 32 * y) a b ∙ omega arith in
    (ap (λ n. n % 2 ^ 32) whole ∙ mod_low (value_of high) 32 (value_of low) (value_below low), ap (λ n. n / 2 ^ 32) whole ∙ shr_high (value_of high) 32 (value_of low) (value_below low))

-- what the words are by which the two are found
pub record AreFound (word one two place both numbers : ℕ) : Type 0 where
  pub first_some : one / 256 < bit_and word one
  pub second_some : two / 256 < bit_and word two
  pub first_small : bit_and word one < 2 ^ 32
  pub second_small : bit_and word two / 2 ^ place / 2 < 2 ^ 32
  pub together : both ≡ bit_or (bit_and word one) (bit_and word two / 2 ^ place / 2 * 2 ^ 32 % 2 ^ 64)
  pub are : numbers ≡ value_of (both % 2 ^ 32) + 2 ^ 32 * value_of (both / 2 ^ 32)

pub places_add : (i j rest : ℕ) → 2 ^ i * (2 ^ j * (2 * rest + 1)) ≡ 2 ^ (i + j) * (2 * rest + 1)
places_add i j rest = omega (arith, ap (λ n. n * (2 * rest + 1)) (pow-add 2 i j))

pub none_times : (p n : ℕ) → n ≡ 0 → p * n ≡ 0
none_times p n none = let z : p * 0 ≡ 0 = omega arith in ap (λ k. p * k) none ∙ z

pub some_left : (n others : ℕ) → others ≢ 0 → (n ≡ 0 → others ≡ 0) → 0 < n
some_left zero others some none = absurd (some (none refl))
some_left (suc n) others some none = omega arith

one_longer : (xs : List ℕ) (x : ℕ) → length (xs ++ (x ∷ [])) ≡ length xs + 1
one_longer xs x = length-append xs (x ∷ [])

pub pair-holds : (bytes rest : List ℕ) (word one two place second_place both numbers : ℕ) → word ≡ word_of bytes → (f : FirstEnd bytes) (s : FirstEnd f.behind)
    → one ≡ 2 ^ (8 * length f.front + 7 + 1) - 1 → two ≡ 2 ^ (8 * length f.front + 7 + 1 + (8 * length s.front + 7) + 1) - 1
    → place ≡ 8 * length f.front + 7 → second_place ≡ 8 * length f.front + 7 + 1 + (8 * length s.front + 7) → AreFound word one two place both numbers
    → bytes ++ rest ≡ delta (numbers % 2 ^ 32) ++ (delta (numbers / 2 ^ 32) ++ drop (second_place / 8 + 1) (bytes ++ rest))
pair-holds bytes rest word one two place second_place both numbers is f s one_is two_is place_is second_is found =
    let xs : List ℕ = f.front ++ (f.last ∷ []) in
    let ys : List ℕ = s.front ++ (s.last ∷ []) in
    let i : ℕ = length f.front in
    let j : ℕ = length s.front in
    let a : ℕ = delta_word f.front f.last in
    let b : ℕ = delta_word s.front s.last in
    let long_x : length xs ≡ i + 1 = one_longer f.front f.last in
    let long_y : length ys ≡ j + 1 = one_longer s.front s.last in
    let parts : bytes ≡ xs ++ (ys ++ s.behind) =
    f.parts ∙ sym (append_assoc f.front (f.last ∷ []) f.behind) ∙ ap (λ (l : List ℕ). xs ++ l) (s.parts ∙ sym (append_assoc s.front (s.last ∷ []) s.behind)) in
    let k : ℕ = 8 * i + 7 + 1 in
    let k_is : 8 * (i + 1) ≡ k = omega arith in
    let m : ℕ = 8 * j + 7 + 1 in
    let m_is : 8 * (j + 1) ≡ m = omega arith in
    let word_is : word ≡ (word_of s.behind * 2 ^ m + b) * 2 ^ k + a =
    is ∙ ap word_of parts ∙ two_words xs ys s.behind (i + 1) (j + 1) long_x long_y ∙ ap₂ (λ p q. (word_of s.behind * 2 ^ p + b) * 2 ^ q + a) m_is k_is in
    let small_a : a < 2 ^ k = omega (arith, word_of-below xs (bytes_with f.front f.last f.more f.small), ap (λ n. 2 ^ n) (ap (λ n. 8 * n) long_x ∙ k_is)) in
    let small_b : b < 2 ^ m = omega (arith, word_of-below ys (bytes_with s.front s.last s.more s.small), ap (λ n. 2 ^ n) (ap (λ n. 8 * n) long_y ∙ m_is)) in
    let low_is : bit_and word one ≡ a = ap (bit_and word) one_is ∙ and_mask word k ∙ ap (λ n. n % 2 ^ k) word_is ∙ mod_low (word_of s.behind * 2 ^ m + b) k a small_a in
    let top : k + (8 * j + 7) + 1 ≡ m + k = omega arith in
    let both_small : b * 2 ^ k + a < 2 ^ (m + k) = omega (arith, mul-le (b + 1) (2 ^ k) (2 ^ m) (2 ^ k) (omega arith) (omega arith), pow-add 2 m k) in
    let word_is' : word ≡ word_of s.behind * 2 ^ (m + k) + (b * 2 ^ k + a) = word_is ∙ omega (arith, ap (λ n. word_of s.behind * n) (pow-add 2 m k)) in
    let both_is : bit_and word two ≡ b * 2 ^ k + a =
    ap (bit_and word) (two_is ∙ ap (λ n. 2 ^ n - 1) top) ∙ and_mask word (m + k) ∙ ap (λ n. n % 2 ^ (m + k)) word_is' ∙ mod_low (word_of s.behind) (m + k) (b * 2 ^ k + a) both_small in
    let high_is : bit_and word two / 2 ^ place / 2 ≡ b =
    ap₂ (λ n p. n / 2 ^ p / 2) both_is place_is ∙ shr-shr (b * 2 ^ k + a) (8 * i + 7) 1 ∙ shr_high b k a small_a in
    let large_a : 2 ^ (8 * i) ≤ a = first_large i a (omega (arith, found.first_some, low_is, ap (λ n. n / 256) one_is)) in
    let large_b : 2 ^ (8 * j) ≤ b = second_large k j b a small_a (omega (arith, found.second_some, both_is, ap (λ n. n / 256) two_is)) in
    let a_fits : a < 2 ^ 32 = omega (arith, found.first_small, low_is) in
    let b_fits : b < 2 ^ 32 = omega (arith, found.second_small, high_is) in
    let packed_is : both ≡ b * 2 ^ 32 + a = found.together ∙ ap₂ (λ x y. bit_or x (y * 2 ^ 32 % 2 ^ 64)) low_is high_is ∙ packed a b a_fits b_fits in
    let n = numbers-are numbers a b both a_fits packed_is found.are in
    let first : delta (numbers % 2 ^ 32) ≡ xs = ap delta n.0 ∙ delta-is f.front f.last f.more (front_is_short f.front f.last large_a a_fits) (last_is_some f.front f.last f.more large_a) f.small in
    let second : delta (numbers / 2 ^ 32) ≡ ys = ap delta n.1 ∙ delta-is s.front s.last s.more (front_is_short s.front s.last large_b b_fits) (last_is_some s.front s.last s.more large_b) s.small in
    let whole : bytes ++ rest ≡ xs ++ (ys ++ (s.behind ++ rest)) =
    ap (λ (l : List ℕ). l ++ rest) parts ∙ append_assoc xs (ys ++ s.behind) rest ∙ ap (λ (l : List ℕ). xs ++ l) (append_assoc ys s.behind rest) in
    let count : second_place / 8 + 1 ≡ length (xs ++ ys) = omega (arith, second_is, length-append xs ys, long_x, long_y) in
    let behind : drop (second_place / 8 + 1) (bytes ++ rest) ≡ s.behind ++ rest =
    ap₂ (λ (n : ℕ) (l : List ℕ). drop n l) count (whole ∙ sym (append_assoc xs ys (s.behind ++ rest))) ∙ drop_at (xs ++ ys) (s.behind ++ rest) (length (xs ++ ys)) refl in
    whole ∙ sym (ap₂ (λ (l r : List ℕ). l ++ r) first (ap₂ (λ (l r : List ℕ). l ++ r) second behind))
  where
    bytes_with : (front : List ℕ) (last : ℕ) → AreMore front → last < 128 → AreBytes (front ++ (last ∷ []))
    bytes_with [] last more small = (omega arith, tt)
    bytes_with (x ∷ xs) last more small = (more.0.1, bytes_with xs last more.1 small)

-- ---- the first eight bytes of a text

pub record EightFirst (text : List ℕ) : Type 0 where
  pub bytes : List ℕ
  pub rest : List ℕ
  pub parts : bytes ++ rest ≡ text
  pub eight : length bytes ≡ 8
  pub are : AreBytes bytes
  pub word : get_or text 0 0 + get_or text 1 0 * 256 + get_or text 2 0 * 65536 + get_or text 3 0 * 16777216 + get_or text 4 0 * 4294967296
      + get_or text 5 0 * 1099511627776 + get_or text 6 0 * 281474976710656 + get_or text 7 0 * 72057594037927936 ≡ word_of bytes

pub eight_first : (text : List ℕ) → 8 ≤ length text → ((i : ℕ) → get_or text i 0 < 256) → EightFirst text
eight_first (b0 ∷ b1 ∷ b2 ∷ b3 ∷ b4 ∷ b5 ∷ b6 ∷ b7 ∷ rest) long small = record {
  bytes = b0 ∷ b1 ∷ b2 ∷ b3 ∷ b4 ∷ b5 ∷ b6 ∷ b7 ∷ [];
  rest = rest;
  parts = refl;
  eight = refl;
  are = (small 0, (small 1, (small 2, (small 3, (small 4, (small 5, (small 6, (small 7, tt))))))));
  word = omega arith;
}
eight_first [] long small = absurd (omega arith)
eight_first (b0 ∷ []) long small = absurd (omega arith)
eight_first (b0 ∷ b1 ∷ []) long small = absurd (omega arith)
eight_first (b0 ∷ b1 ∷ b2 ∷ []) long small = absurd (omega arith)
eight_first (b0 ∷ b1 ∷ b2 ∷ b3 ∷ []) long small = absurd (omega arith)
eight_first (b0 ∷ b1 ∷ b2 ∷ b3 ∷ b4 ∷ []) long small = absurd (omega arith)
eight_first (b0 ∷ b1 ∷ b2 ∷ b3 ∷ b4 ∷ b5 ∷ []) long small = absurd (omega arith)
eight_first (b0 ∷ b1 ∷ b2 ∷ b3 ∷ b4 ∷ b5 ∷ b6 ∷ []) long small = absurd (omega arith)
