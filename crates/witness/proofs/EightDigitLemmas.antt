-- Eight digits of a word, tested and gathered as one number.
use Rattle.std.proofs.Common.{◌≡◌, ℕ, zero, suc, ◌+◌, ◌-◌, ◌*◌, ◌/◌, ◌%◌, ◌<◌, ◌≤◌, ◌^◌, ◌==◌, Bool, true, false, not, cond, ◌&&◌, List, [], ◌∷◌, ◌++◌, map, length, get_or, take, drop, Option, Some, None, MatchOption, append_assoc, length-append, refl, sym, ap, ap₂, subst, ◌∙◌, arith, inl, inr}
use Rattle.std.specs.List.{list_all}
use Rattle.std.proofs.Math.Nat.{pow-suc, pow-le-pow_right}
use Rattle.std.proofs.lemmas.List.{append-nil, length-take, take-append-drop}
use Rattle.std.proofs.lemmas.List.Folds.{list_all-append}
use Rattle.std.specs.Int.{w64, from_le_bytes}
use Rattle.std.specs.Int.RustNames.{bit_xor}
use lib.Bits.{bit_and}
use Rattle.std.proofs.lemmas.Bool.{cases_Bool, and_parts, and_from, eqb-true, eq-eqb, false_from_ne_true, cases_lt}
use Rattle.std.proofs.lemmas.Nat.{and_block, xor_block, xor_of_8}
use Rattle.base.specs.Word.{bit_number}
use Rattle.witness.specs.Admits.{is_bit, is_one_bit}
use Rattle.witness.specs.WordValues.{IsValueOf, digits_word}
use Rattle.witness.proofs.WordValueLemmas.{known_nothing, known_more, bit_most}

-- bytes as one number, the first the lowest
abbrev pub joined : List ℕ → ℕ
joined [] = 0
joined (b ∷ bs) = joined bs * 2 ^ 8 + b

-- each is a byte
abbrev pub AreBytes : List ℕ → Type 0
AreBytes [] = Unit {0}
AreBytes (b ∷ bs) = (b < 256) × AreBytes bs

abbrev always : ℕ → List ℕ → List ℕ
always x bs = map (λ _. x) bs

-- a byte without the bits of a `0`, and those of its bits then that no digit has
abbrev pub bare : ℕ → ℕ
bare b = bit_xor b 48

abbrev pub excess : ℕ → ℕ
excess b = bit_and (bare b) 254

-- ---- a byte has no excess where it is a digit

abbrev tells : ℕ → Bool
tells b = cond (excess b == 0) (is_bit b && (bare b == bit_number (is_one_bit b))) (not (is_bit b))

abbrev all_below : (ℕ → Bool) → ℕ → Bool
all_below p zero = true
all_below p (suc n) = p n && all_below p n

each_below : (p : ℕ → Bool) (n k : ℕ) → all_below p n ≡ true → k < n → p k ≡ true
each_below p zero k h lt = absurd (omega (arith, lt))
each_below p (suc n) k h lt =
    let parts = and_parts (p n) (all_below p n) h in
    elim (cases_lt k n) [
      | inl below ↦ each_below p n k parts.1 below
      | inr above ↦
          let same : n ≡ k = omega (arith, lt, above) in
          subst (λ (m : ℕ). p m ≡ true) same parts.0
    ]

each_tells : (b : ℕ) → b < 256 → tells b ≡ true
each_tells b lt = each_below tells 256 b refl lt

digit_without_excess : (b : ℕ) → b < 256 → excess b ≡ 0 → (is_bit b ≡ true) × (bare b ≡ bit_number (is_one_bit b))
digit_without_excess b lt none =
    let told : (is_bit b && (bare b == bit_number (is_one_bit b))) ≡ true = rw (eq-eqb (excess b) 0 none) at (each_tells b lt) in
    let parts = and_parts (is_bit b) (bare b == bit_number (is_one_bit b)) told in
    (parts.0, eqb-true (bare b) (bit_number (is_one_bit b)) parts.1)

excess_of_digit : (b : ℕ) → b < 256 → is_bit b ≡ true → excess b ≡ 0
excess_of_digit b lt known =
    elim (cases_Bool (excess b == 0)) [
      | inl none ↦ eqb-true (excess b) 0 none
      | inr some ↦
          let told : not (is_bit b) ≡ true = rw some at (each_tells b lt) in
          absurd (cc (rw known at told))
    ]

-- ---- all bytes at once

bare_small : (b : ℕ) → b < 256 → bare b < 2 ^ 8
bare_small b lt = xor_of_8 b 48 (omega (arith, lt)) (omega arith)

bare_joined : (bs : List ℕ) → AreBytes bs → bit_xor (joined bs) (joined (always 48 bs)) ≡ joined (map bare bs)
bare_joined [] are = refl
bare_joined (b ∷ bs) are = xor_block 8 (joined bs) (joined (always 48 bs)) b 48 (omega (arith, are.0)) (omega arith) ∙ ap (λ (n : ℕ). n * 2 ^ 8 + bare b) (bare_joined bs are.1)

excess_joined : (bs : List ℕ) → AreBytes bs → bit_and (joined (map bare bs)) (joined (always 254 bs)) ≡ joined (map excess bs)
excess_joined [] are = refl
excess_joined (b ∷ bs) are = and_block 8 (joined (map bare bs)) (joined (always 254 bs)) (bare b) 254 (bare_small b are.0) (omega arith) ∙ ap (λ (n : ℕ). n * 2 ^ 8 + excess b) (excess_joined bs are.1)

-- the bits that digits write
abbrev pub bits_written : List ℕ → List ℕ
bits_written bs = map (λ b. bit_number (is_one_bit b)) bs

all_digits : (bs : List ℕ) → AreBytes bs → joined (map excess bs) ≡ 0 → (list_all is_bit bs ≡ true) × (map bare bs ≡ bits_written bs)
all_digits [] are none = (refl, refl)
all_digits (b ∷ bs) are none =
    let first : excess b ≡ 0 = omega (arith, none) in
    let others : joined (map excess bs) ≡ 0 = omega (arith, none) in
    let is = digit_without_excess b are.0 first in
    let more = all_digits bs are.1 others in
    (and_from (is_bit b) (list_all is_bit bs) is.0 more.0, ap₂ (λ (d : ℕ) (ds : List ℕ). d ∷ ds) is.1 more.1)

no_excess : (bs : List ℕ) → AreBytes bs → list_all is_bit bs ≡ true → joined (map excess bs) ≡ 0
no_excess [] are known = refl
no_excess (b ∷ bs) are known =
    let parts = and_parts (is_bit b) (list_all is_bit bs) known in
    omega (arith, excess_of_digit b are.0 parts.0, no_excess bs are.1 parts.1)

-- ---- eight of them

-- their bits gathered
gathered : (a b c d e f g h : ℕ) → a ≤ 1 → b ≤ 1 → c ≤ 1 → d ≤ 1 → e ≤ 1 → f ≤ 1 → g ≤ 1 → h ≤ 1
    → (joined (a ∷ b ∷ c ∷ d ∷ e ∷ f ∷ g ∷ h ∷ []) * 9241421688590303745) % 2 ^ 64 / 2 ^ 56 ≡ (((((((0 * 2 + a) * 2 + b) * 2 + c) * 2 + d) * 2 + e) * 2 + f) * 2 + g) * 2 + h
gathered a b c d e f g h la lb lc ld le lf lg lh = omega (arith, la, lb, lc, ld, le, lf, lg, lh)

-- eight bytes as one number, without the bits of eight `0`
abbrev pub bare_word : List ℕ → ℕ
bare_word bytes = bit_xor (from_le_bytes w64 bytes) 3472328296227680304

-- what is told of eight bytes by the bits that no digit has
pub record AreTested (bytes : List ℕ) : Type 0 where
  pub digits : bit_and (bare_word bytes) 18374403900871474942 ≡ 0 → (list_all is_bit bytes ≡ true) × ((bare_word bytes * 9241421688590303745) % 2 ^ 64 / 2 ^ 56 ≡ digits_word 0 bytes)
  pub others : (bit_and (bare_word bytes) 18374403900871474942 ≡ 0 → ⊥) → list_all is_bit bytes ≡ false

bit_least : (b : ℕ) → bit_number (is_one_bit b) ≤ 1
bit_least b = bit_most (bit_number (is_one_bit b)) b refl

eight_tested : (a b c d e f g h : ℕ) → AreBytes (a ∷ b ∷ c ∷ d ∷ e ∷ f ∷ g ∷ h ∷ []) → AreTested (a ∷ b ∷ c ∷ d ∷ e ∷ f ∷ g ∷ h ∷ [])
eight_tested a b c d e f g h are =
    let bytes : List ℕ = a ∷ b ∷ c ∷ d ∷ e ∷ f ∷ g ∷ h ∷ [] in
    let read : from_le_bytes w64 bytes ≡ joined bytes = omega arith in
    let number : bare_word bytes ≡ joined (map bare bytes) = ap (λ (n : ℕ). bit_xor n 3472328296227680304) read ∙ bare_joined bytes are in
    let over : bit_and (bare_word bytes) 18374403900871474942 ≡ joined (map excess bytes) = ap (λ (n : ℕ). bit_and n 18374403900871474942) number ∙ excess_joined bytes are in
    record {
      digits = λ none.
          let all = all_digits bytes are (sym over ∙ none) in
          (all.0, ap (λ (n : ℕ). (n * 9241421688590303745) % 2 ^ 64 / 2 ^ 56) (number ∙ ap joined all.1) ∙ gathered (bit_number (is_one_bit a)) (bit_number (is_one_bit b)) (bit_number (is_one_bit c)) (bit_number (is_one_bit d)) (bit_number (is_one_bit e)) (bit_number (is_one_bit f)) (bit_number (is_one_bit g)) (bit_number (is_one_bit h)) (bit_least a) (bit_least b) (bit_least c) (bit_least d) (bit_least e) (bit_least f) (bit_least g) (bit_least h));
      others = λ some. false_from_ne_true (list_all is_bit bytes) (λ known. some (over ∙ no_excess bytes are known));
    }

pub are_tested : (bytes : List ℕ) → length bytes ≡ 8 → AreBytes bytes → AreTested bytes
are_tested (a ∷ b ∷ c ∷ d ∷ e ∷ f ∷ g ∷ h ∷ []) long are = eight_tested a b c d e f g h are
are_tested _ long are = absurd (omega (arith, long))

pub are_bytes : (bytes : List ℕ) → ((k : ℕ) → get_or bytes k 0 < 256) → AreBytes bytes
are_bytes [] small = tt
are_bytes (b ∷ bytes) small = (small 0, are_bytes bytes (λ k. small (suc k)))

-- ---- the word that they write behind others

pub known_behind : (x : ℕ) (front bytes : List ℕ) → IsValueOf x front → list_all is_bit bytes ≡ true → IsValueOf (digits_word x bytes) (front ++ bytes)
known_behind x front [] h known = subst (IsValueOf x) (sym (append-nil front)) h
known_behind x front (b ∷ bytes) h known =
    let parts = and_parts (is_bit b) (list_all is_bit bytes) known in
    subst (IsValueOf (digits_word (x * 2 + bit_number (is_one_bit b)) bytes)) (append_assoc front (b ∷ []) bytes)
    (known_behind (x * 2 + bit_number (is_one_bit b)) (front ++ b ∷ []) bytes (known_more x (bit_number (is_one_bit b)) front b refl parts.0 h) parts.1)

pub eight_behind : (x : ℕ) (bytes : List ℕ) → length bytes ≡ 8 → digits_word x bytes ≡ x * 256 + digits_word 0 bytes
eight_behind x (a ∷ b ∷ c ∷ d ∷ e ∷ f ∷ g ∷ h ∷ []) long = omega arith
eight_behind x _ long = absurd (omega (arith, long))

-- a digit more
pub digits_more : (x : ℕ) (bytes : List ℕ) (b : ℕ) → digits_word x (bytes ++ b ∷ []) ≡ digits_word x bytes * 2 + bit_number (is_one_bit b)
digits_more x [] b = refl
digits_more x (a ∷ bytes) b = digits_more (x * 2 + bit_number (is_one_bit a)) bytes b

-- digits of a word behind others, of which so many places are left
pub record IsBehind (x n y : ℕ) (bytes : List ℕ) : Type 0 where
  pub known : list_all is_bit bytes ≡ true
  pub word : y ≡ digits_word x bytes
  pub small : y < 2 ^ (n + length bytes)

pub behind_more : (x n word bit : ℕ) (bytes : List ℕ) (b : ℕ) → bit ≡ bit_number (is_one_bit b) → is_bit b ≡ true → IsBehind x n word bytes → IsBehind x n (word * 2 + bit) (bytes ++ b ∷ [])
behind_more x n word bit bytes b is known h =
    let long : n + length (bytes ++ b ∷ []) ≡ suc (n + length bytes) = omega (arith, length-append bytes (b ∷ [])) in
    let double : 2 ^ (n + length (bytes ++ b ∷ [])) ≡ 2 ^ (n + length bytes) * 2 = rw long (pow-suc 2 (n + length bytes)) in
    let below = h.small in
    let was = h.word in
    record {
      known = list_all-append is_bit bytes (b ∷ []) ∙ and_from (list_all is_bit bytes) (is_bit b && true) h.known (and_from (is_bit b) true known refl);
      word = omega (arith, is, was, digits_more x bytes b);
      small = omega (arith, double, bit_most bit b is, below);
    }

-- ---- eight after eight

pub front_room : (x n : ℕ) (front rest bytes : List ℕ) → IsValueOf x front → bytes ≡ front ++ rest → length bytes ≤ 64 → n ≤ length rest → x < 2 ^ (64 - n)
front_room x n front rest bytes h is most few =
    let long : length bytes ≡ length front + length rest = ap length is ∙ length-append front rest in
    let power : 2 ^ length front ≤ 2 ^ (64 - n) = pow-le-pow_right {n = 2} (omega arith) {i = length front} {j = 64 - n} (omega (arith, long, most, few)) in
    omega (arith, power, h.small)

pub eight_long : (eight behind rest : List ℕ) → eight ≡ take 8 rest → length behind + 8 ≡ length rest → length eight ≡ 8
eight_long eight behind rest front many = omega (arith, ap length front, length-take 8 rest, many)

pub eight_small : (bytes : List ℕ) → length bytes ≡ 8 → list_all is_bit bytes ≡ true → digits_word 0 bytes < 256
eight_small bytes long known =
    let all : IsValueOf (digits_word 0 bytes) bytes = known_behind 0 [] bytes known_nothing known in
    subst (λ (n : ℕ). digits_word 0 bytes < 2 ^ n) long all.small

pub eight_more : (x y : ℕ) (front eight behind rest bytes : List ℕ) → IsValueOf x front → bytes ≡ front ++ rest → eight ≡ take 8 rest → behind ≡ drop 8 rest → length eight ≡ 8 → list_all is_bit eight ≡ true → y ≡ digits_word 0 eight
    → (more : List ℕ) × ((bytes ≡ more ++ behind) × IsValueOf (x * 256 + y) more)
eight_more x y front eight behind rest bytes h is first others long known value =
    let split : rest ≡ eight ++ behind = sym (ap₂ (λ (l r : List ℕ). l ++ r) first others ∙ take-append-drop 8 rest) in (
      front ++ eight,
      (
        is ∙ (ap (λ (l : List ℕ). front ++ l) split ∙ sym (append_assoc front eight behind)),
        subst (λ (n : ℕ). IsValueOf n (front ++ eight)) (eight_behind x eight long ∙ ap (λ (n : ℕ). x * 256 + n) (sym value)) (known_behind x front eight h known),
      ),
    )

rest_known : (front rest bytes : List ℕ) → bytes ≡ front ++ rest → list_all is_bit bytes ≡ true → list_all is_bit rest ≡ true
rest_known front rest bytes is all = (and_parts (list_all is_bit front) (list_all is_bit rest) (sym (list_all-append is_bit front rest) ∙ (sym (ap (list_all is_bit) is) ∙ all))).1

pub some_unknown : (front eight rest bytes : List ℕ) → bytes ≡ front ++ rest → eight ≡ take 8 rest → list_all is_bit eight ≡ false → list_all is_bit bytes ≡ false
some_unknown front eight rest bytes is first none =
    false_from_ne_true (list_all is_bit bytes)
    (λ all.
    let split : list_all is_bit (take 8 rest ++ drop 8 rest) ≡ true = ap (list_all is_bit) (take-append-drop 8 rest) ∙ rest_known front rest bytes is all in
    let known : list_all is_bit (take 8 rest) ≡ true = (and_parts (list_all is_bit (take 8 rest)) (list_all is_bit (drop 8 rest)) (sym (list_all-append is_bit (take 8 rest) (drop 8 rest)) ∙ split)).0 in
    cc (none, first, known))

pub known_end : (o : Option ℕ) (x : ℕ) (front rest bytes : List ℕ) → bytes ≡ front ++ rest → IsValueOf x front → MatchOption o (list_all is_bit rest ≡ false) (λ y. (list_all is_bit rest ≡ true) × (y ≡ digits_word x rest))
    → MatchOption o (list_all is_bit bytes ≡ false) (λ y. IsValueOf y bytes)
known_end None x front rest bytes is h none = false_from_ne_true (list_all is_bit bytes) (λ all. cc (none, rest_known front rest bytes is all))
known_end (Some y) x front rest bytes is h told = subst (IsValueOf y) (sym is) (subst (λ (n : ℕ). IsValueOf n (front ++ rest)) (sym told.1) (known_behind x front rest h told.0))
