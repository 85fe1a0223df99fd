-- Numbers and marks of variables by the pages of a table.
use Rattle.std.proofs.Common.{◌≡◌, ℕ, zero, suc, replicate, ◌/◌, ◌%◌, ◌*◌, ◌^◌, ◌<◌, ◌≢◌, Bool, true, false, List, length, Option, None, Some, slice_index_or, slice_set, nat_eq, cond, refl, ap, sym, ◌∙◌, arith, bit_or, w64}
use Rattle.std.proofs.lemmas.Bool.Decides.{nat_tests}
use Rattle.std.proofs.lemmas.List.{get_or-set_same, get_or-set_other}
use Rattle.std.proofs.lemmas.Nat.Bits.{bit_at_set_same, bit_at_set_other, bit_at-zero}
use Rattle.std.specs.Int.{bit_at}
use Rattle.std.specs.Option.{unwrap_or}
use Rattle.aigerlists.specs.VariableNumbers.{in_page}
use Rattle.aigerlists.specs.Definitions.{is_marked}

-- what is read of variables after the page of one was put, in which what is read at its place is new, and nothing else
after_entry : {P V : Type 0} (read : Option P → ℕ → V) (page place : ℕ → ℕ) (old new : ℕ → Option P) (entry : P) (x : ℕ) (w : V)
    → ((v : ℕ) → page x ≡ page v → place x ≡ place v → x ≡ v)
    → ((q : ℕ) → new q ≡ cond (nat_eq (page x) q) (Some entry) (old q))
    → ((i : ℕ) → read (Some entry) i ≡ cond (nat_eq (place x) i) w (read (old (page x)) i))
    → (v : ℕ) → read (new (page v)) (place v) ≡ cond (nat_eq x v) w (read (old (page v)) (place v))
after_entry read page place old new entry x w apart is put v = by (nat_eq (page x) (page v)) refl
  where
    by : (b : Bool) → nat_eq (page x) (page v) ≡ b → read (new (page v)) (place v) ≡ cond (nat_eq x v) w (read (old (page v)) (place v))
    by true e =
        let same : page x ≡ page v = grind (arith, nat_tests) in
        let at : new (page v) ≡ Some entry = is (page v) ∙ ap (λ (b : Bool). cond b (Some entry) (old (page v))) e in
        ap (λ p. read p (place v)) at
        ∙ (put (place v)
        ∙ (ap (λ (b : Bool). cond b w (read (old (page x)) (place v))) (tests (nat_eq x v) refl same)
        ∙ ap (λ (k : ℕ). cond (nat_eq x v) w (read (old k) (place v))) same))
      where
        tests : (b : Bool) → nat_eq x v ≡ b → page x ≡ page v → nat_eq (place x) (place v) ≡ nat_eq x v
        tests true f same =
            let s : x ≡ v = grind (arith, nat_tests) in
            let r : place x ≡ place v = ap place s in
            grind (arith, nat_tests)
        tests false f same = other (nat_eq (place x) (place v)) refl
          where
            other : (b : Bool) → nat_eq (place x) (place v) ≡ b → nat_eq (place x) (place v) ≡ nat_eq x v
            other true g =
                let r : place x ≡ place v = grind (arith, nat_tests) in
                let s : x ≡ v = apart v same r in
                let t : nat_eq x v ≡ true = grind (arith, nat_tests) in
                absurd (cc)
            other false g = g ∙ sym f
    by false e =
        let at : new (page v) ≡ old (page v) = is (page v) ∙ ap (λ (b : Bool). cond b (Some entry) (old (page v))) e in
        ap (λ p. read p (place v)) at ∙ sym (ap (λ (b : Bool). cond b w (read (old (page v)) (place v))) (differ (nat_eq x v) refl))
      where
        differ : (b : Bool) → nat_eq x v ≡ b → nat_eq x v ≡ false
        differ true f =
            let s : x ≡ v = grind (arith, nat_tests) in
            let p : page x ≡ page v = ap page s in
            let t : nat_eq (page x) (page v) ≡ true = grind (arith, nat_tests) in
            absurd (cc)
        differ false f = f

-- ---- numbers

-- a list after a number is put at a place
set_at : (page : List ℕ) (place number i : ℕ) → place < length page → slice_index_or (slice_set page place number) i 0 ≡ cond (nat_eq place i) number (slice_index_or page i 0)
set_at page place number i low = by (nat_eq place i) refl
  where
    by : (b : Bool) → nat_eq place i ≡ b → slice_index_or (slice_set page place number) i 0 ≡ cond b number (slice_index_or page i 0)
    by true e =
        let same : place ≡ i = grind (arith, nat_tests) in
        ap (λ (k : ℕ). slice_index_or (slice_set page place number) k 0) (sym same) ∙ get_or-set_same page place number 0 low
    by false e =
        let other : i ≢ place = λ s. let t : nat_eq place i ≡ true = grind (arith, nat_tests) in absurd (cc) in
        get_or-set_other page place i number 0 other

-- the numbers after a page with one number put there stands in place of the one before
pub after_page : (old new : ℕ → Option (List ℕ)) (page : List ℕ) (variable number : ℕ) → ((q : ℕ) → new q ≡ cond (nat_eq (variable / 16) q) (Some (slice_set page (variable % 16) number)) (old q))
    → ((i : ℕ) → slice_index_or page i 0 ≡ in_page (old (variable / 16)) i) → length page ≡ 16
    → (v : ℕ) → in_page (new (v / 16)) (v % 16) ≡ cond (nat_eq variable v) number (in_page (old (v / 16)) (v % 16))
unfolding in_page
after_page old new page variable number is before size =
    after_entry in_page (λ v. v / 16) (λ v. v % 16) old new (slice_set page (variable % 16) number) variable number (λ v p q. omega (arith, p, q)) is
    (λ i. set_at page (variable % 16) number i (omega (arith, size)) ∙ ap (λ (n : ℕ). cond (nat_eq (variable % 16) i) number n) (before i))

-- a place of a list of zeros has a zero
pub zeros : (n i : ℕ) → ◌≡◌ {A = ℕ} (slice_index_or (replicate n 0) i 0) 0
zeros zero i = refl
zeros (suc n) zero = refl
zeros (suc n) (suc i) = zeros n i

-- ---- marks

-- the bits of a number after one was set
pub set_bit : (bits place i : ℕ) → place < 64 → nat_eq (bit_at (bit_or bits (1 * 2 ^ place % 2 ^ 64)) i) 1 ≡ cond (nat_eq place i) true (nat_eq (bit_at bits i) 1)
set_bit bits place i low = by (nat_eq place i) refl
  where
    by : (b : Bool) → nat_eq place i ≡ b → nat_eq (bit_at (bit_or bits (1 * 2 ^ place % 2 ^ 64)) i) 1 ≡ cond b true (nat_eq (bit_at bits i) 1)
    by true e =
        let same : place ≡ i = grind (arith, nat_tests) in
        ap (λ (k : ℕ). nat_eq (bit_at (bit_or bits (1 * 2 ^ place % 2 ^ 64)) k) 1) (sym same) ∙ ap (λ (n : ℕ). nat_eq n 1) (bit_at_set_same w64 bits place low)
    by false e =
        let other : i ≢ place = λ s. let t : nat_eq place i ≡ true = grind (arith, nat_tests) in absurd (cc) in
        ap (λ (n : ℕ). nat_eq n 1) (bit_at_set_other w64 bits place low i other)

-- the marks after the bits of a page with one more stand in place of those before
pub after_mark : (old new : ℕ → Option ℕ) (bits variable : ℕ) → ((q : ℕ) → new q ≡ cond (nat_eq (variable / 64) q) (Some (bit_or bits (1 * 2 ^ (variable % 64) % 2 ^ 64))) (old q))
    → ((i : ℕ) → nat_eq (bit_at bits i) 1 ≡ is_marked (old (variable / 64)) i)
    → (v : ℕ) → is_marked (new (v / 64)) (v % 64) ≡ cond (nat_eq variable v) true (is_marked (old (v / 64)) (v % 64))
unfolding is_marked
after_mark old new bits variable is before =
    after_entry is_marked (λ v. v / 64) (λ v. v % 64) old new (bit_or bits (1 * 2 ^ (variable % 64) % 2 ^ 64)) variable true (λ v p q. omega (arith, p, q)) is
    (λ i. set_bit bits (variable % 64) i (omega arith) ∙ ap (λ (b : Bool). cond (nat_eq (variable % 64) i) true b) (before i))

-- nothing is marked at first
pub no_mark : (i : ℕ) → nat_eq (bit_at 0 i) 1 ≡ false
no_mark i = ap (λ (n : ℕ). nat_eq n 1) (bit_at-zero i)

-- the marks stay where one word stands for what was at its place
pub after_turn : (old new : ℕ → Option ℕ) (place word : ℕ) → ((q : ℕ) → new q ≡ cond (nat_eq place q) (Some word) (old q)) → ((i : ℕ) → is_marked (Some word) i ≡ is_marked (old place) i)
    → (w i : ℕ) → is_marked (new w) i ≡ is_marked (old w) i
after_turn old new place word is same w i = by (nat_eq place w) refl
  where
    by : (b : Bool) → nat_eq place w ≡ b → is_marked (new w) i ≡ is_marked (old w) i
    by true e =
        let s : place ≡ w = grind (arith, nat_tests) in
        ap (λ (m : Option ℕ). is_marked m i) (is w ∙ ap (λ (b : Bool). cond b (Some word) (old w)) e) ∙ (same i ∙ ap (λ (k : ℕ). is_marked (old k) i) s)
    by false e = ap (λ (m : Option ℕ). is_marked m i) (is w ∙ ap (λ (b : Bool). cond b (Some word) (old w)) e)

-- a word that may be missing is 0 then
pub word_or_zero : (m : Option ℕ) (i : ℕ) → is_marked (Some (unwrap_or m 0)) i ≡ is_marked m i
unfolding is_marked
word_or_zero None i = no_mark i
word_or_zero (Some word) i = refl

-- what stood at a place is of no account behind what stands there now
pub written_over : {X : Type 0} (b : Bool) (now before rest : X) → cond b now rest ≡ cond b now (cond b before rest)
written_over true now before rest = refl
written_over false now before rest = refl
