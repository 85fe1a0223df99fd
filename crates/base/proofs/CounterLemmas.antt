-- The decimal of the number behind one, digit by digit from the end.
use Rattle.std.proofs.Common.{◌≡◌, ℕ, suc, ◌+◌, ◌/◌, ◌%◌, ◌^◌, ◌<◌, ◌≤◌, Bool, true, false, List, [], ◌∷◌, ◌++◌, length, get_or, drop, decimal, inl, inr, refl, sym, ap, ap₂, ◌∙◌, arith, if◌then◌else◌, length-append}
use Rattle.std.proofs.lemmas.Bool.{cases_lt}
use Rattle.std.proofs.lemmas.Fmt.{decimal_digit, decimal_step_wide}

-- lists with one more at their ends
same_last : (xs ys : List ℕ) (x y : ℕ) → xs ++ x ∷ [] ≡ ys ++ y ∷ [] → (xs ≡ ys) × (x ≡ y)
same_last [] [] x y is = (refl, ap (λ (l : List ℕ). get_or l 0 0) is)
same_last [] (b ∷ bs) x y is = absurd (omega (arith, ap length is, length-append bs (y ∷ [])))
same_last (a ∷ rest) [] x y is = absurd (omega (arith, ap length is, length-append rest (x ∷ [])))
same_last (a ∷ rest) (b ∷ bs) x y is =
    let more = same_last rest bs x y (ap (drop 1) is) in
    (ap₂ (λ (h : ℕ) (t : List ℕ). h ∷ t) (ap (λ (l : List ℕ). get_or l 0 0) is) more.0, more.1)

-- the last digit of a decimal, and those in front of it
parted : (n : ℕ) (front : List ℕ) (last : ℕ) → 10 ≤ n → n < 2 ^ 64 → front ++ last ∷ [] ≡ decimal n → (front ≡ decimal (n / 10)) × (last ≡ 48 + n % 10)
parted n front last more small is = same_last front (decimal (n / 10)) last (48 + n % 10) (is ∙ decimal_step_wide n more (omega (arith, small)))

alone : (n : ℕ) (front : List ℕ) (last : ℕ) → n < 10 → front ++ last ∷ [] ≡ decimal n → (front ≡ []) × (last ≡ 48 + n)
alone n front last few is = same_last front [] last (48 + n) (is ∙ decimal_digit n few)

-- a last digit below 9
pub low_digit : (n : ℕ) (front : List ℕ) (last : ℕ) → n < 2 ^ 64 → front ++ last ∷ [] ≡ decimal n → last < 57 → decimal (suc n) ≡ front ++ (last + 1) ∷ []
low_digit n front last small is low =
    elim (cases_lt n 10) [
      | inl few ↦
          let one = alone n front last few is in
          let end : 48 + suc n ≡ last + 1 = omega (arith, one.1) in
          decimal_digit (suc n) (omega (arith, one.1, low)) ∙ (ap (λ (d : ℕ). d ∷ []) end ∙ ap (λ (l : List ℕ). l ++ (last + 1) ∷ []) (sym one.0))
      | inr more ↦
          let two = parted n front last more small is in
          let tens : suc n / 10 ≡ n / 10 = omega (arith, two.1, low) in
          let end : 48 + suc n % 10 ≡ last + 1 = omega (arith, two.1, low) in
          decimal_step_wide (suc n) (omega (arith, more)) (omega (arith, small)) ∙ ap₂ (λ (l : List ℕ) (d : ℕ). l ++ d ∷ []) (ap decimal tens ∙ sym two.0) end
    ]

-- a last digit 9: one more is in front of it
pub high_digit : (n : ℕ) (front raised : List ℕ) (last : ℕ) (full : Bool) → n < 2 ^ 64 → front ++ last ∷ [] ≡ decimal n → 57 ≤ last → (front ≡ [] → (full ≡ true) × (raised ≡ []))
    → ((m : ℕ) → m < 2 ^ 64 → front ≡ decimal m → decimal (suc m) ≡ (if full then 49 ∷ raised else raised)) → decimal (suc n) ≡ (if full then 49 ∷ (raised ++ 48 ∷ []) else raised ++ 48 ∷ [])
high_digit n front raised last full small is high none next =
    elim (cases_lt n 10) [
      | inl few ↦
          let one = alone n front last few is in
          let nine : suc n ≡ 10 = omega (arith, one.1, high, few) in
          let all = none one.0 in
          rw (nine, all.0, all.1) (decimal_step_wide 10 (omega arith) (omega arith) ∙ ap (λ (l : List ℕ). l ++ 48 ∷ []) (decimal_digit 1 (omega arith)))
      | inr more ↦
          let two = parted n front last more small is in
          let tens : suc n / 10 ≡ suc (n / 10) = omega (arith, two.1, high) in
          let end : suc n % 10 ≡ 0 = omega (arith, two.1, high) in
          decimal_step_wide (suc n) (omega (arith, more)) (omega (arith, small)) ∙ (ap₂ (λ (m d : ℕ). decimal m ++ (48 + d) ∷ []) tens end
          ∙ (ap (λ (l : List ℕ). l ++ 48 ∷ []) (next (n / 10) (omega (arith, small)) two.0) ∙ joined full))
    ]
  where
    joined : (b : Bool) → (if b then 49 ∷ raised else raised) ++ 48 ∷ [] ≡ (if b then 49 ∷ (raised ++ 48 ∷ []) else raised ++ 48 ∷ [])
    joined true = refl
    joined false = refl
