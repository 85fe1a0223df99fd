-- From the delta that is read back to the text.
use Rattle.std.proofs.Common.{◌≡◌, ℕ, zero, suc, ◌+◌, ◌-◌, ◌*◌, ◌/◌, ◌%◌, ◌<◌, ◌≤◌, ◌==◌, nat_lt, List, [], ◌∷◌, ◌++◌, Result, Ok, Err, refl, sym, ap, subst, ◌∙◌, inl, inr, if◌then◌else◌, arith}
use Rattle.std.specs.List.{AllByRecursion}
use Rattle.std.proofs.lemmas.Bool.{eqb-false, ltb-true, ltb-false}
use Rattle.base.proofs.DecimalLemmas.{chosen}
use Rattle.deltas.specs.declared.reading.DeltaFault.{DeltaFault}
use Rattle.deltas.specs.declared.reading.DeltaFault.TheVariants as fault
use Rattle.deltas.specs.Deltas.{digits_128, delta, before_others, more_digits, number_at}
use Rattle.deltas.proofs.DigitLemmas.{digits-more, digits-one}

-- bytes
abbrev pub AreBytes : List ℕ → Type 0
AreBytes text = AllByRecursion (λ b. b < 256) text

-- what a value that was read is
same_read : (x y : ℕ × List ℕ) → ◌≡◌ {A = Result (ℕ × List ℕ) DeltaFault} (Ok x) (Ok y) → x ≡ y
same_read x y e = cc

-- digits at the front of a text
record AreDigits (more : ℕ) (text : List ℕ) (n : ℕ) (rest : List ℕ) : Type 0 where
  parts : text ≡ digits_128 more n ++ rest
  some : 0 < n

last_by : (more b : ℕ) (bs : List ℕ) (n : ℕ) (rest : List ℕ) → b < 128 → if◌then◌else◌ {A = Result (ℕ × List ℕ) DeltaFault} (b == 0) (Err fault.NotShortest) (Ok (b, bs)) ≡ Ok (n, rest) → AreDigits more (b ∷ bs) n rest
last_by more b bs n rest small e =
    elim (chosen (b == 0) (Err fault.NotShortest) (Ok (b, bs)) (Ok (n, rest)) e) [
      | inl wrong ↦ absurd cc
      | inr good ↦
          let is : (b, bs) ≡ (n, rest) = same_read (b, bs) (n, rest) good.1 in
          subst (λ (p : ℕ × List ℕ). AreDigits more (b ∷ bs) p.0 p.1) is
          (record { parts = ap (λ (l : List ℕ). l ++ bs) (sym (digits-one more b small)); some = omega (arith, eqb-false b 0 good.0) })
    ]

-- a digit before others
digit_before : (b m : ℕ) → 128 ≤ b → b < 256 → ((b - 128 + 128 * m) % 128 + 128 ≡ b) × ((b - 128 + 128 * m) / 128 ≡ m)
digit_before b m low high = (omega arith, omega arith)

more_by : (more b : ℕ) (bs : List ℕ) (n : ℕ) (rest : List ℕ) (r : Result (ℕ × List ℕ) DeltaFault) → 128 ≤ b → b < 256 → ((m : ℕ) (rest : List ℕ) → r ≡ Ok (m, rest) → AreDigits more bs m rest)
    → before_others b r ≡ Ok (n, rest) → (b ∷ bs ≡ digits_128 (suc more) n ++ rest) × (0 < n)
more_by more b bs n rest (Err w) low high others e = absurd cc
more_by more b bs n rest (Ok x) low high others e =
    let is : ◌≡◌ {A = ℕ × List ℕ} ((b - 128) + 128 * x.0, x.1) (n, rest) = same_read ((b - 128) + 128 * x.0, x.1) (n, rest) e in
    let o = others x.0 x.1 refl in
    let d = digit_before b x.0 low high in
    let large : 128 ≤ (b - 128) + 128 * x.0 = omega (arith, o.some) in
    let digits : digits_128 (suc more) ((b - 128) + 128 * x.0) ≡ b ∷ digits_128 more x.0 =
    digits-more more ((b - 128) + 128 * x.0) large ∙ ap (λ (k : ℕ). k ∷ digits_128 more (((b - 128) + 128 * x.0) / 128)) d.0 ∙ ap (λ (k : ℕ). b ∷ digits_128 more k) d.1 in
    subst (λ (p : ℕ × List ℕ). (b ∷ bs ≡ digits_128 (suc more) p.0 ++ p.1) × (0 < p.0)) is
    (ap (λ (l : List ℕ). b ∷ l) o.parts ∙ ap (λ (l : List ℕ). l ++ x.1) (sym digits), omega (arith, o.some))

more_digits-back : (more : ℕ) (text : List ℕ) (n : ℕ) (rest : List ℕ) → AreBytes text → more_digits more text ≡ Ok (n, rest) → AreDigits more text n rest
more_digits-back more [] n rest bytes e = absurd cc
more_digits-back zero (b ∷ bs) n rest bytes e =
    elim (chosen (nat_lt b 128) (if◌then◌else◌ {A = Result (ℕ × List ℕ) DeltaFault} (b == 0) (Err fault.NotShortest) (Ok (b, bs))) (Err fault.TooLong) (Ok (n, rest)) e) [
      | inl small ↦ last_by zero b bs n rest (ltb-true b 128 small.0) small.1
      | inr wrong ↦ absurd cc
    ]
more_digits-back (suc more) (b ∷ bs) n rest bytes e =
    elim (chosen (nat_lt b 128) (if◌then◌else◌ {A = Result (ℕ × List ℕ) DeltaFault} (b == 0) (Err fault.NotShortest) (Ok (b, bs))) (before_others b (more_digits more bs)) (Ok (n, rest)) e) [
      | inl small ↦ last_by (suc more) b bs n rest (ltb-true b 128 small.0) small.1
      | inr large ↦
          let p = more_by more b bs n rest (more_digits more bs) (ltb-false b 128 large.0) bytes.0 (λ m after f. more_digits-back more bs m after bytes.1 f) large.1 in
          record { parts = p.0; some = p.1 }
    ]

-- a delta at the front of a text
pub number-back : (text : List ℕ) (n : ℕ) (rest : List ℕ) → AreBytes text → number_at text ≡ Ok (n, rest) → text ≡ delta n ++ rest
unfolding number_at
number-back [] n rest bytes e = absurd cc
number-back (b ∷ bs) n rest bytes e =
    elim (chosen (nat_lt b 128) (Ok (b, bs)) (before_others b (more_digits 3 bs)) (Ok (n, rest)) e) [
      | inl small ↦
          let is : (b, bs) ≡ (n, rest) = same_read (b, bs) (n, rest) small.1 in
          subst (λ (p : ℕ × List ℕ). b ∷ bs ≡ delta p.0 ++ p.1) is (ap (λ (l : List ℕ). l ++ bs) (sym (digits-one 4 b (ltb-true b 128 small.0))))
      | inr large ↦
          (more_by 3 b bs n rest (more_digits 3 bs) (ltb-false b 128 large.0) bytes.0 (λ m after f. more_digits-back 3 bs m after bytes.1 f) large.1).0
    ]
