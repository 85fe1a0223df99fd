-- Laws of deltas and of their digits.
use Rattle.std.proofs.Common.{◌≡◌, ℕ, zero, suc, ◌+◌, ◌*◌, ◌/◌, ◌%◌, ◌^◌, ◌<◌, ◌≤◌, List, [], ◌∷◌, ◌++◌, length, take, sym, ap, append_assoc, inl, inr, true, false, refl, ◌∙◌, arith, nat_lt}
use Rattle.deltas.specs.Deltas.{digits_128, delta}
use Rattle.std.proofs.lemmas.Bool.{cases_lt}
use Rattle.std.proofs.lemmas.Bool.Decides.{nat_tests}
use Rattle.std.proofs.lemmas.List.{take_more_set, take-set-le, length-set}
use Rattle.std.proofs.lemmas.Grind.{take-set_at}
use Rattle.std.proofs.Math.ListN.{set}

-- a number above one digit is its lowest digit and the others
pub digits-more : (more n : ℕ) → 128 ≤ n → digits_128 (suc more) n ≡ (n % 128 + 128) ∷ digits_128 more (n / 128)
digits-more more n h =
    let large : nat_lt n 128 ≡ false = grind (arith, nat_tests) in
    rw large refl

-- a number of one digit is that digit
pub digits-one : (more n : ℕ) → n < 128 → digits_128 more n ≡ n ∷ []
digits-one zero n h = refl
digits-one (suc more) n h =
    let small : nat_lt n 128 ≡ true = grind (arith, nat_tests) in
    rw small refl

-- one digit less of those that are still to be written, which are so many more than one at most
pub digit_written : (more n : ℕ) (front whole : List ℕ) → 128 ≤ n → n < 128 * 128 ^ more → front ++ digits_128 more n ≡ whole
    → (m : ℕ) × (more ≡ suc m) × ((front ++ (n % 128 + 128) ∷ []) ++ digits_128 m (n / 128) ≡ whole) × (n / 128 < 128 * 128 ^ m)
digit_written zero n front whole large small is = absurd (omega (arith, small, large))
digit_written (suc m) n front whole large small is =
    (m, refl, append_assoc front ((n % 128 + 128) ∷ []) (digits_128 m (n / 128)) ∙ ap (λ (l : List ℕ). front ++ l) (sym (digits-more m n large)) ∙ is, omega (arith, small))

-- three bytes are put into a buffer, and some of them are kept
module _ (xs : List ℕ) (place x y z : ℕ) (room : place + 3 ≤ length xs) where
  first_kept : take (place + 1) (set (set (set xs place x) (place + 1) y) (place + 2) z) ≡ take place xs ++ x ∷ []
  first_kept =
      take-set-le (place + 1) (set (set xs place x) (place + 1) y) (place + 2) z (omega arith) ∙ take-set-le (place + 1) (set xs place x) (place + 1) y (omega arith)
      ∙ take_more_set xs place x (omega (arith, room))

  both : take (place + 2) (set (set xs place x) (place + 1) y) ≡ take place xs ++ x ∷ y ∷ []
  both =
      take-set_at (set xs place x) (place + 1) (place + 2) y (omega arith) (omega (arith, room, length-set {A = ℕ}))
      ∙ ap (λ (l : List ℕ). l ++ y ∷ []) (take_more_set xs place x (omega (arith, room))) ∙ append_assoc (take place xs) (x ∷ []) (y ∷ [])

  two_kept : take (place + 2) (set (set (set xs place x) (place + 1) y) (place + 2) z) ≡ take place xs ++ x ∷ y ∷ []
  two_kept = take-set-le (place + 2) (set (set xs place x) (place + 1) y) (place + 2) z (omega arith) ∙ both

  three_kept : take (place + 3) (set (set (set xs place x) (place + 1) y) (place + 2) z) ≡ take place xs ++ x ∷ y ∷ z ∷ []
  three_kept =
      take-set_at (set (set xs place x) (place + 1) y) (place + 2) (place + 3) z (omega arith) (omega (arith, room, length-set {A = ℕ}))
      ∙ ap (λ (l : List ℕ). l ++ z ∷ []) both ∙ append_assoc (take place xs) (x ∷ y ∷ []) (z ∷ [])

-- the digits of a number of three at most: these are 1 where a second and a third follow, and else 0
module _ (xs : List ℕ) (place n more further end : ℕ) (room : place + 3 ≤ length xs) (most : n < 2097152) (is_end : end ≡ 1 + more + further)
    (second : (128 ≤ n → more ≡ 1) × (n < 128 → more ≡ 0)) (third : (16384 ≤ n → further ≡ 1) × (n < 16384 → further ≡ 0)) where
  abbrev bytes : List ℕ
  bytes = set (set (set xs place (n % 128 + 128 * more)) (place + 1) (n / 128 % 128 + 128 * further)) (place + 2) (n / 16384)

  pub digits_kept : take (place + end) bytes ≡ take place xs ++ delta n
  digits_kept =
      elim (cases_lt n 128) [
        | inl low ↦
            let m : more ≡ 0 = second.1 low in
            let e : place + end ≡ place + 1 = omega (arith, is_end, m, third.1 (omega (arith, low))) in
            let b : n % 128 + 128 * more ≡ n = omega (arith, m, low) in
            ap (λ (k : ℕ). take k bytes) e ∙ first_kept xs place _ _ _ room ∙ ap (λ (l : List ℕ). take place xs ++ l) (ap (λ (k : ℕ). k ∷ []) b ∙ sym (digits-one 4 n low))
        | inr high ↦
            let m : more ≡ 1 = second.0 high in
            let b : n % 128 + 128 * more ≡ n % 128 + 128 = omega (arith, m) in
            elim (cases_lt n 16384) [
              | inl low ↦
                  let f : further ≡ 0 = third.1 low in
                  let e : place + end ≡ place + 2 = omega (arith, is_end, m, f) in
                  let c : n / 128 % 128 + 128 * further ≡ n / 128 = omega (arith, f, low) in
                  ap (λ (k : ℕ). take k bytes) e ∙ two_kept xs place _ _ _ room
                  ∙ ap (λ (l : List ℕ). take place xs ++ l) (ap (λ (k : ℕ). k ∷ (n / 128 % 128 + 128 * further) ∷ []) b ∙ ap (λ (k : ℕ). (n % 128 + 128) ∷ k ∷ []) c
                  ∙ sym (digits-more 3 n high ∙ ap (λ (l : List ℕ). (n % 128 + 128) ∷ l) (digits-one 3 (n / 128) (omega (arith, low)))))
              | inr great ↦
                  let f : further ≡ 1 = third.0 great in
                  let e : place + end ≡ place + 3 = omega (arith, is_end, m, f) in
                  let c : n / 128 % 128 + 128 * further ≡ n / 128 % 128 + 128 = omega (arith, f) in
                  let d : n / 16384 ≡ n / 128 / 128 = omega arith in
                  ap (λ (k : ℕ). take k bytes) e ∙ three_kept xs place _ _ _ room
                  ∙ ap (λ (l : List ℕ). take place xs ++ l) (ap (λ (k : ℕ). k ∷ (n / 128 % 128 + 128 * further) ∷ n / 16384 ∷ []) b ∙ ap (λ (k : ℕ). (n % 128 + 128) ∷ k ∷ n / 16384 ∷ []) c ∙ ap (λ (k : ℕ). (n % 128 + 128) ∷ (n / 128 % 128 + 128) ∷ k ∷ []) d
                  ∙ sym (digits-more 3 n high ∙ ap (λ (l : List ℕ). (n % 128 + 128) ∷ l) (digits-more 2 (n / 128) (omega (arith, great)) ∙ ap (λ (l : List ℕ). (n / 128 % 128 + 128) ∷ l) (digits-one 2 (n / 128 / 128) (omega (arith, most))))))
            ]
      ]
