-- Numbers and ids that are read in their places are what the tokens there spell, and what they spell is read.
use Rattle.std.proofs.Common.{◌≡◌, ℕ, ◌-◌, ◌^◌, ◌<◌, ◌≤◌, nat_le, Bool, true, false, cond, List, [], ◌∷◌, Option, Some, None, Result, Ok, Err, codes, decimal, refl, sym, ap, subst, ◌∙◌, inl, inr, arith}
use Rattle.std.specs.Str.{bytes_eq}
use Rattle.std.proofs.lemmas.Bool.{le-leb}
use Rattle.std.proofs.lemmas.Slice.Eq.{bytes_eq-Decides}
use Rattle.base.specs.Decimals.{number_of}
use Rattle.btor2text.specs.declared.fault.Why.{Why}
use Rattle.btor2text.specs.declared.fault.Why.TheVariants as why
use Rattle.btor2text.specs.Reading.{◌>>=◌, Tokens, some_of, operand_of, plain_number, operand, is_negative, plain_at, kept_id, kept_slice_bit, sort_at, bit_at, operand_at, width_told, pair_at, triple_at}
use Rattle.btor2text.proofs.BoundLemmas.{IsId}
use Rattle.base.proofs.DecimalLemmas.{chosen, number_is_decimal, number_of-decimal}

-- the greatest number that stands for itself alone is below this
abbrev pub most : ℕ
most = 2 ^ 64 - 1

-- ---- steps that did not fail

pub bind_ok : {A B : Type 0} (r : Result A Why) (f : A → Result B Why) (y : B) → (r >>= f) ≡ Ok y → (x : A) × (r ≡ Ok x) × (f x ≡ Ok y)
bind_ok (Ok x) f y e = (x, refl, e)
bind_ok (Err d) f y e = absurd cc

abbrev pub done : {A : Type 0} → A → Result A Why
done x = Ok x

pub ok_is : {A : Type 0} (x y : A) → done x ≡ done y → x ≡ y
ok_is x y e = cc

pub some_is : {A : Type 0} (x y : A) → Some x ≡ Some y → x ≡ y
some_is x y e = cc

pub is_word : (token word : List ℕ) → bytes_eq token word ≡ true → token ≡ word
is_word token word e = (bytes_eq-Decides token word).0 e

-- ---- numbers

pub some_read : {A : Type 0} (o : Option A) (x : A) → some_of o ≡ Ok x → o ≡ Some x
some_read (Some y) x e = ap (λ z. Some z) (ok_is y x e)
some_read None x e = absurd cc

pub plain_takes : (token : List ℕ) (n : ℕ) → plain_number token ≡ Ok n → n < most → token ≡ decimal n
unfolding plain_number
plain_takes token n e lt = number_is_decimal token n (some_read (number_of token) n e) lt

pub plain-decimal : (n : ℕ) → n < 2 ^ 64 → plain_number (decimal n) ≡ Ok n
unfolding plain_number
plain-decimal n lt = rw (number_of-decimal n lt) refl

-- ---- places

pub plain_at_takes : (tokens : Tokens) (x : ℕ × Tokens) → plain_at tokens ≡ Ok x → x.0 < most → tokens ≡ decimal x.0 ∷ x.1
unfolding plain_at
plain_at_takes [] x e = absurd cc
plain_at_takes (token ∷ rest) x e =
    let b = bind_ok (plain_number token) (λ n. Ok (n, rest)) x e in
    subst (λ (p : ℕ × Tokens). p.0 < most → token ∷ rest ≡ decimal p.0 ∷ p.1) (ok_is (b.0, rest) x b.2) (λ lt. ap (λ t. t ∷ rest) (plain_takes token b.0 b.1 lt))

-- a number that is kept as an id is that id
kept_is : (n m : ℕ) → kept_id n ≡ m → IsId m → (n ≡ m) × (m < most)
unfolding kept_id
kept_is n m e h =
    elim (chosen (nat_le n 4294967295) n 0 m e) [
      | inl is ↦ (is.1, omega (arith, h.1))
      | inr none ↦ absurd (omega (arith, none.1, h.0))
    ]

kept-id : (n : ℕ) → IsId n → kept_id n ≡ n
unfolding kept_id
kept-id n h = rw (le-leb n 4294967295 h.1) refl

sort_is : (tokens : Tokens) (n : ℕ) (rest : Tokens) → plain_at tokens ≡ Ok (n, rest) → IsId (kept_id n) → tokens ≡ decimal (kept_id n) ∷ rest
sort_is tokens n rest e h =
    let is = kept_is n (kept_id n) refl h in
    plain_at_takes tokens (kept_id n, rest) (e ∙ ap (λ (m : ℕ). Ok (m, rest)) is.0) is.1

pub sort_at_takes : (tokens : Tokens) (x : ℕ × Tokens) → sort_at tokens ≡ Ok x → IsId x.0 → tokens ≡ decimal x.0 ∷ x.1
unfolding sort_at
sort_at_takes tokens x e =
    let y = bind_ok (plain_at tokens) (λ y. Ok (kept_id y.0, y.1)) x e in
    subst (λ (p : ℕ × Tokens). IsId p.0 → tokens ≡ decimal p.0 ∷ p.1) {x = (kept_id y.0.0, y.0.1)} (ok_is (kept_id y.0.0, y.0.1) x y.2) (sort_is tokens y.0.0 y.0.1 y.1)

-- a number that is kept as a small bit is that bit
kept-bit : (n : ℕ) → kept_slice_bit n ≤ 64 → kept_slice_bit n ≡ n
unfolding kept_slice_bit
kept-bit n le = omega arith

small-bit : (n : ℕ) → n ≤ 64 → kept_slice_bit n ≡ n
unfolding kept_slice_bit
small-bit n le = omega arith

bit_is : (tokens : Tokens) (n : ℕ) (rest : Tokens) → plain_at tokens ≡ Ok (n, rest) → kept_slice_bit n ≤ 64 → tokens ≡ decimal (kept_slice_bit n) ∷ rest
bit_is tokens n rest e le = plain_at_takes tokens (kept_slice_bit n, rest) (e ∙ ap (λ (m : ℕ). Ok (m, rest)) (sym (kept-bit n le))) (omega (arith, le))

pub bit_at_takes : (tokens : Tokens) (x : ℕ × Tokens) → bit_at tokens ≡ Ok x → x.0 ≤ 64 → tokens ≡ decimal x.0 ∷ x.1
unfolding bit_at
bit_at_takes tokens x e =
    let y = bind_ok (plain_at tokens) (λ y. Ok (kept_slice_bit y.0, y.1)) x e in
    subst (λ (p : ℕ × Tokens). p.0 ≤ 64 → tokens ≡ decimal p.0 ∷ p.1) {x = (kept_slice_bit y.0.0, y.0.1)} (ok_is (kept_slice_bit y.0.0, y.0.1) x y.2) (bit_is tokens y.0.0 y.0.1 y.1)

abbrev number : ℕ → Tokens → Result (ℕ × Tokens) Why
number n rest = Ok (n, rest)

-- an operand is read as a sort, where it is a number
operand_is_sort : (tokens : Tokens) (x : ℕ × Tokens) → operand_at tokens ≡ Ok x → sort_at tokens ≡ Ok x
unfolding operand_at sort_at plain_at operand plain_number
operand_is_sort [] x e = absurd cc
operand_is_sort (token ∷ rest) x e = by (is_negative token) (number_of token) e
  where
    by : (negative : Bool) (o : Option ℕ) → (operand_of negative o >>= λ n. number (kept_id n) rest) ≡ Ok x → ((some_of o >>= λ n. number n rest) >>= λ y. number (kept_id y.0) y.1) ≡ Ok x
    by negative (Some n) e = e
    by true None e = absurd cc
    by false None e = absurd cc

pub operand_at_takes : (tokens : Tokens) (x : ℕ × Tokens) → operand_at tokens ≡ Ok x → IsId x.0 → tokens ≡ decimal x.0 ∷ x.1
operand_at_takes tokens x e = sort_at_takes tokens x (operand_is_sort tokens x e)

-- a plain number is read in an operand's place
pub plain_is_operand : (tokens : Tokens) (x : ℕ × Tokens) → plain_at tokens ≡ Ok x → operand_at tokens ≡ Ok (kept_id x.0, x.1)
unfolding operand_at plain_at operand plain_number
plain_is_operand [] x e = absurd cc
plain_is_operand (token ∷ rest) x e = by (is_negative token) (number_of token) e
  where
    by : (negative : Bool) (o : Option ℕ) → (some_of o >>= λ n. number n rest) ≡ Ok x → (operand_of negative o >>= λ n. number (kept_id n) rest) ≡ Ok (kept_id x.0, x.1)
    by negative (Some n) e = ap (λ (y : ℕ × Tokens). Ok (kept_id y.0, y.1)) (ok_is (n, rest) x e)
    by negative None e = absurd cc

pub plain_at-decimal : (n : ℕ) (rest : Tokens) → n < 2 ^ 64 → plain_at (decimal n ∷ rest) ≡ Ok (n, rest)
unfolding plain_at
plain_at-decimal n rest lt = rw (plain-decimal n lt) refl

pub sort_at-decimal : (n : ℕ) (rest : Tokens) → IsId n → sort_at (decimal n ∷ rest) ≡ Ok (n, rest)
unfolding sort_at
sort_at-decimal n rest h = rw (plain_at-decimal n rest (omega (arith, h.1)), kept-id n h) refl

pub bit_at-decimal : (n : ℕ) (rest : Tokens) → n ≤ 64 → bit_at (decimal n ∷ rest) ≡ Ok (n, rest)
unfolding bit_at
bit_at-decimal n rest le = rw (plain_at-decimal n rest (omega (arith, le)), small-bit n le) refl

pub operand_at-decimal : (n : ℕ) (rest : Tokens) → IsId n → operand_at (decimal n ∷ rest) ≡ Ok (n, rest)
operand_at-decimal n rest h =
    plain_is_operand (decimal n ∷ rest) (n, rest) (plain_at-decimal n rest (omega (arith, h.1))) ∙ ap (λ (m : ℕ). Ok (m, rest)) (kept-id n h)

pub width_at_takes : (tokens : Tokens) (x : ℕ × Tokens) → width_told tokens ≡ Ok x → x.0 < most → tokens ≡ codes "bitvec" ∷ decimal x.0 ∷ x.1
unfolding width_told
width_at_takes [] x e lt = absurd cc
width_at_takes (token ∷ rest) x e lt =
    elim (chosen (bytes_eq token (codes "bitvec")) (plain_at rest) (cond (bytes_eq token (codes "array")) (Err why.ArraySort) (Err why.BadToken)) (Ok x) e) [
      | inl h ↦ rw (is_word token (codes "bitvec") h.0, plain_at_takes rest x h.1 lt) refl
      | inr h ↦
          elim (chosen (bytes_eq token (codes "array")) (Err why.ArraySort) (Err why.BadToken) (Ok x) h.1) [
            | inl g ↦ absurd cc
            | inr g ↦ absurd cc
          ]
    ]

pub width_at-again : (n : ℕ) (rest : Tokens) → n < 2 ^ 64 → width_told (codes "bitvec" ∷ decimal n ∷ rest) ≡ Ok (n, rest)
unfolding width_told
width_at-again n rest lt = plain_at-decimal n rest lt

pair_joined : (tokens : Tokens) (s a : ℕ × Tokens) → sort_at tokens ≡ Ok s → operand_at s.1 ≡ Ok a → IsId s.0 → IsId a.0 → tokens ≡ decimal s.0 ∷ decimal a.0 ∷ a.1
pair_joined tokens s a rs ra first second = sort_at_takes tokens s rs first ∙ ap (λ rest. decimal s.0 ∷ rest) (operand_at_takes s.1 a ra second)

pub pair_at_takes : (tokens : Tokens) (x : ℕ × ℕ × Tokens) → pair_at tokens ≡ Ok x → IsId x.0 → IsId x.1 → tokens ≡ decimal x.0 ∷ decimal x.1 ∷ x.2
unfolding pair_at
pair_at_takes tokens x e =
    let s = bind_ok (sort_at tokens) (λ s. operand_at s.1 >>= λ a. Ok (s.0, a.0, a.1)) x e in
    let a = bind_ok (operand_at s.0.1) (λ a. Ok (s.0.0, a.0, a.1)) x s.2 in
    subst (λ (p : ℕ × ℕ × Tokens). IsId p.0 → IsId p.1 → tokens ≡ decimal p.0 ∷ decimal p.1 ∷ p.2) {x = (s.0.0, a.0.0, a.0.1)} (ok_is (s.0.0, a.0.0, a.0.1) x a.2) (pair_joined tokens s.0 a.0 s.1 a.1)

pub pair_at-again : (s a : ℕ) (rest : Tokens) → IsId s → IsId a → pair_at (decimal s ∷ decimal a ∷ rest) ≡ Ok (s, a, rest)
unfolding pair_at
pair_at-again s a rest first second = rw (sort_at-decimal s (decimal a ∷ rest) first, operand_at-decimal a rest second) refl

triple_joined : (tokens : Tokens) (s a b : ℕ × Tokens) → sort_at tokens ≡ Ok s → operand_at s.1 ≡ Ok a → operand_at a.1 ≡ Ok b → IsId s.0 → IsId a.0 → IsId b.0 → tokens ≡ decimal s.0 ∷ decimal a.0 ∷ decimal b.0 ∷ b.1
triple_joined tokens s a b rs ra rb first second third =
    pair_joined tokens s a rs ra first second ∙ ap (λ rest. decimal s.0 ∷ decimal a.0 ∷ rest) (operand_at_takes a.1 b rb third)

pub triple_at_takes : (tokens : Tokens) (x : ℕ × ℕ × ℕ × Tokens) → triple_at tokens ≡ Ok x → IsId x.0 → IsId x.1 → IsId x.2 → tokens ≡ decimal x.0 ∷ decimal x.1 ∷ decimal x.2 ∷ x.3
unfolding triple_at
triple_at_takes tokens x e =
    let s = bind_ok (sort_at tokens) (λ s. operand_at s.1 >>= λ a. operand_at a.1 >>= λ b. Ok (s.0, a.0, b.0, b.1)) x e in
    let a = bind_ok (operand_at s.0.1) (λ a. operand_at a.1 >>= λ b. Ok (s.0.0, a.0, b.0, b.1)) x s.2 in
    let b = bind_ok (operand_at a.0.1) (λ b. Ok (s.0.0, a.0.0, b.0, b.1)) x a.2 in
    subst (λ (p : ℕ × ℕ × ℕ × Tokens). IsId p.0 → IsId p.1 → IsId p.2 → tokens ≡ decimal p.0 ∷ decimal p.1 ∷ decimal p.2 ∷ p.3) {x = (s.0.0, a.0.0, b.0.0, b.0.1)} (ok_is (s.0.0, a.0.0, b.0.0, b.0.1) x b.2) (triple_joined tokens s.0 a.0 b.0 s.1 a.1 b.1)

pub triple_at-again : (s a b : ℕ) (rest : Tokens) → IsId s → IsId a → IsId b → triple_at (decimal s ∷ decimal a ∷ decimal b ∷ rest) ≡ Ok (s, a, b, rest)
unfolding triple_at
triple_at-again s a b rest first second third =
    rw (sort_at-decimal s (decimal a ∷ decimal b ∷ rest) first, operand_at-decimal a (decimal b ∷ rest) second, operand_at-decimal b rest third) refl
