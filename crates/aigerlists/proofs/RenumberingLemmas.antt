-- What a renumbering keeps: places of variables, values of literals.
use Rattle.std.proofs.Common.{◌≡◌, ℕ, zero, suc, ◌+◌, ◌-◌, ◌*◌, ◌/◌, ◌%◌, ◌<◌, ◌≤◌, Bool, true, false, not, ◌||◌, ◌==◌, List, [], ◌∷◌, ◌++◌, map, length, nat_eq, slice_index_or, cond, refl, ap, sym, ◌∙◌, subst, arith, if◌then◌else◌, length-append, append_assoc, ⊎_elim}
use Rattle.std.proofs.lemmas.Bool.Decides.{nat_tests}
use Rattle.std.proofs.lemmas.Bool.{cases_lt}
use Rattle.std.specs.List.{list_any, position_or_len}
use Rattle.base.specs.Literal.{Valuation, variable, literal_value}
use Rattle.aiger.specs.Net.{bits_from}
use Rattle.aigerlists.specs.Renumbering.{new_literal, has_number}
use Rattle.base.proofs.LiteralLemmas.{literal_value-even, literal_value-odd}

-- the place in a list with one more in front
place_here : (v x : ℕ) (xs : List ℕ) → nat_eq v x ≡ true → position_or_len (nat_eq v) (x ∷ xs) ≡ 0
place_here v x xs e = ap (λ (b : Bool). cond (not b) (1 + position_or_len (nat_eq v) xs) 0) e

place_later : (v x : ℕ) (xs : List ℕ) → nat_eq v x ≡ false → position_or_len (nat_eq v) (x ∷ xs) ≡ suc (position_or_len (nat_eq v) xs)
place_later v x xs e = ap (λ (b : Bool). cond (not b) (1 + position_or_len (nat_eq v) xs) 0) e ∙ omega arith

-- a number that is in a list has a place there
pub found : (v : ℕ) (xs : List ℕ) → list_any (nat_eq v) xs ≡ true → (position_or_len (nat_eq v) xs < length xs) × (slice_index_or xs (position_or_len (nat_eq v) xs) 0 ≡ v)
found v [] t = absurd (cc)
found v (x ∷ xs) t = by (nat_eq v x) refl (λ r. found v xs r)
  where
    by : (b : Bool) → nat_eq v x ≡ b → (list_any (nat_eq v) xs ≡ true → (position_or_len (nat_eq v) xs < length xs) × (slice_index_or xs (position_or_len (nat_eq v) xs) 0 ≡ v))
        → (position_or_len (nat_eq v) (x ∷ xs) < length (x ∷ xs)) × (slice_index_or (x ∷ xs) (position_or_len (nat_eq v) (x ∷ xs)) 0 ≡ v)
    by true e rest =
        let same : v ≡ x = grind (arith, nat_tests) in
        let p : position_or_len (nat_eq v) (x ∷ xs) ≡ 0 = place_here v x xs e in
        (omega (arith, p), ap (λ (k : ℕ). slice_index_or (x ∷ xs) k 0) p ∙ sym same)
    by false e rest =
        let here : list_any (nat_eq v) xs ≡ true = sym (ap (λ (b : Bool). b || list_any (nat_eq v) xs) e) ∙ t in
        let r = rest here in
        let p : position_or_len (nat_eq v) (x ∷ xs) ≡ suc (position_or_len (nat_eq v) xs) = place_later v x xs e in
        (omega (arith, p, r.0), ap (λ (k : ℕ). slice_index_or (x ∷ xs) k 0) p ∙ r.1)

-- where a number is not in a front, its place is behind it
pub place_further : (v : ℕ) (xs ys : List ℕ) → list_any (nat_eq v) xs ≡ false → position_or_len (nat_eq v) (xs ++ ys) ≡ length xs + position_or_len (nat_eq v) ys
place_further v [] ys t = omega arith
place_further v (x ∷ xs) ys t =
    let e : nat_eq v x ≡ false = grind (arith, nat_tests) in
    let r : list_any (nat_eq v) xs ≡ false = grind (arith, nat_tests) in
    place_later v x (xs ++ ys) e ∙ omega (arith, place_further v xs ys r)

pub placed : (v : ℕ) (xs ys : List ℕ) → list_any (nat_eq v) xs ≡ false → position_or_len (nat_eq v) (xs ++ v ∷ ys) ≡ length xs
placed v xs ys t = place_further v xs (v ∷ ys) t ∙ omega (arith, place_here v v ys (grind (arith, nat_tests)))

-- a place in a front stays
pub place_kept : (v : ℕ) (xs ys : List ℕ) → list_any (nat_eq v) xs ≡ true → position_or_len (nat_eq v) (xs ++ ys) ≡ position_or_len (nat_eq v) xs
place_kept v [] ys t = absurd (cc)
place_kept v (x ∷ xs) ys t = by (nat_eq v x) refl (λ r. place_kept v xs ys r)
  where
    by : (b : Bool) → nat_eq v x ≡ b → (list_any (nat_eq v) xs ≡ true → position_or_len (nat_eq v) (xs ++ ys) ≡ position_or_len (nat_eq v) xs) → position_or_len (nat_eq v) ((x ∷ xs) ++ ys) ≡ position_or_len (nat_eq v) (x ∷ xs)
    by true e rest = place_here v x (xs ++ ys) e ∙ sym (place_here v x xs e)
    by false e rest =
        let here : list_any (nat_eq v) xs ≡ true = sym (ap (λ (b : Bool). b || list_any (nat_eq v) xs) e) ∙ t in
        place_later v x (xs ++ ys) e ∙ (ap suc (rest here) ∙ sym (place_later v x xs e))

-- two literals of the same sign say the same where their variables do
same_value : (v w : Valuation) (lit k : ℕ) → (variable lit == 0) ≡ false → 0 < k → w k ≡ v (variable lit) → literal_value w (2 * k + lit % 2) ≡ literal_value v lit
same_value v w lit k e h same =
    let some : 0 < variable lit = grind (arith, nat_tests) in
    ⊎_elim (λ (even : lit % 2 < 1).
    let a : 2 * k + lit % 2 ≡ 2 * k = omega arith in
    let b : 2 * variable lit ≡ lit = omega arith in
    ap (literal_value w) a ∙ (literal_value-even w k h ∙ (same ∙ (sym (literal_value-even v (variable lit) some) ∙ ap (literal_value v) b))))
    (λ (odd : 1 ≤ lit % 2).
    let a : 2 * k + lit % 2 ≡ 2 * k + 1 = omega arith in
    let b : 2 * variable lit + 1 ≡ lit = omega arith in
    ap (literal_value w) a ∙ (literal_value-odd w k h ∙ (ap not same ∙ (sym (literal_value-odd v (variable lit) some) ∙ ap (literal_value v) b))))
    (cases_lt (lit % 2) 1)

-- false and true are the same everywhere
constant_value : (v w : Valuation) (lit : ℕ) → (variable lit == 0) ≡ true → literal_value w lit ≡ literal_value v lit
constant_value v w zero e = refl
constant_value v w (suc zero) e = refl
constant_value v w (suc (suc n)) e = let z : suc (suc n) / 2 ≡ 0 = grind (arith, nat_tests) in absurd (omega arith)

-- a new literal of a constant, and of a variable
pub new_constant : (names : List ℕ) (lit : ℕ) → (variable lit == 0) ≡ true → new_literal names lit ≡ lit
new_constant names lit e = ap (λ (b : Bool). if b then lit else 2 * suc (position_or_len (nat_eq (variable lit)) names) + lit % 2) e

pub new_of_variable : (names : List ℕ) (lit : ℕ) → (variable lit == 0) ≡ false → new_literal names lit ≡ 2 * suc (position_or_len (nat_eq (variable lit)) names) + lit % 2
new_of_variable names lit e = ap (λ (b : Bool). if b then lit else 2 * suc (position_or_len (nat_eq (variable lit)) names) + lit % 2) e

-- what has a number and is no constant is in the list
pub named_from_test : (names : List ℕ) (lit : ℕ) → has_number names lit ≡ true → (variable lit == 0) ≡ false → list_any (nat_eq (variable lit)) names ≡ true
named_from_test names lit t e = sym (ap (λ (b : Bool). b || list_any (nat_eq (variable lit)) names) e) ∙ t

-- a literal that has a number keeps it when more variables have theirs
pub new_literal-kept : (names more : List ℕ) (lit : ℕ) → has_number names lit ≡ true → new_literal (names ++ more) lit ≡ new_literal names lit
new_literal-kept names more lit t = by (variable lit == 0) refl
  where
    by : (b : Bool) → (variable lit == 0) ≡ b → new_literal (names ++ more) lit ≡ new_literal names lit
    by true e = new_constant (names ++ more) lit e ∙ sym (new_constant names lit e)
    by false e = new_of_variable (names ++ more) lit e ∙ (ap (λ (k : ℕ). 2 * suc k + lit % 2) (place_kept (variable lit) names more (named_from_test names lit t e)) ∙ sym (new_of_variable names lit e))

-- a valuation of the file's variables by their numbers
abbrev pub rename : List ℕ → Valuation → Valuation
rename names v = λ k. v (slice_index_or names (k - 1) 0)

-- a literal says the same by its number
pub value_renamed : (names : List ℕ) (v : Valuation) (lit : ℕ) → has_number names lit ≡ true → literal_value (rename names v) (new_literal names lit) ≡ literal_value v lit
value_renamed names v lit t = by (variable lit == 0) refl
  where
    by : (b : Bool) → (variable lit == 0) ≡ b → literal_value (rename names v) (new_literal names lit) ≡ literal_value v lit
    by true e = ap (literal_value (rename names v)) (new_constant names lit e) ∙ constant_value v (rename names v) lit e
    by false e =
        let p : ℕ = position_or_len (nat_eq (variable lit)) names in
        let f = found (variable lit) names (named_from_test names lit t e) in
        let z : suc p - 1 ≡ p = omega arith in
        ap (literal_value (rename names v)) (new_of_variable names lit e) ∙ same_value v (rename names v) lit (suc p) e (omega arith) (ap (λ (k : ℕ). v (slice_index_or names k 0)) z ∙ ap v f.1)

-- a valuation of numbers by the file's variables
abbrev pub unname : List ℕ → Valuation → Valuation
unname names w = λ x. w (suc (position_or_len (nat_eq x) names))

pub value_unnamed : (names : List ℕ) (w : Valuation) (lit : ℕ) → literal_value w (new_literal names lit) ≡ literal_value (unname names w) lit
value_unnamed names w lit = by (variable lit == 0) refl
  where
    by : (b : Bool) → (variable lit == 0) ≡ b → literal_value w (new_literal names lit) ≡ literal_value (unname names w) lit
    by true e = ap (literal_value w) (new_constant names lit e) ∙ constant_value (unname names w) w lit e
    by false e = ap (literal_value w) (new_of_variable names lit e) ∙ same_value (unname names w) w lit (suc (position_or_len (nat_eq (variable lit)) names)) e (omega arith) refl

-- the element behind a front
pub at_middle : (pre ys : List ℕ) (x : ℕ) → slice_index_or (pre ++ x ∷ ys) (length pre) 0 ≡ x
at_middle [] ys x = refl
at_middle (p ∷ pre) ys x = at_middle pre ys x

-- the bits of variables in the middle of a list
pub bits_of_middle : (pre xs post : List ℕ) (v : Valuation) → bits_from (suc (length pre)) (length xs) (rename (pre ++ xs ++ post) v) ≡ map v xs
bits_of_middle pre [] post v = refl
bits_of_middle pre (x ∷ xs) post v =
    let z : suc (length pre) - 1 ≡ length pre = omega arith in
    let a : slice_index_or (pre ++ (x ∷ xs) ++ post) (length pre) 0 ≡ x = ap (λ (ns : List ℕ). slice_index_or ns (length pre) 0) (append_assoc pre (x ∷ xs) post) ∙ at_middle pre (xs ++ post) x in
    let h : rename (pre ++ (x ∷ xs) ++ post) v (suc (length pre)) ≡ v x = ap (λ (k : ℕ). v (slice_index_or (pre ++ (x ∷ xs) ++ post) k 0)) z ∙ ap v a in
    let n : length (pre ++ x ∷ []) ≡ suc (length pre) = omega (arith, length-append pre (x ∷ [])) in
    let m : (pre ++ x ∷ []) ++ xs ++ post ≡ pre ++ (x ∷ xs) ++ post = ap (λ (ns : List ℕ). ns ++ post) (append_assoc pre (x ∷ []) xs) in
    let r = bits_of_middle (pre ++ x ∷ []) xs post v in
    let s : bits_from (suc (suc (length pre))) (length xs) (rename (pre ++ (x ∷ xs) ++ post) v) ≡ map v xs =
    subst (λ (k : ℕ). bits_from (suc k) (length xs) (rename (pre ++ (x ∷ xs) ++ post) v) ≡ map v xs) n (subst (λ (ns : List ℕ). bits_from (suc (length (pre ++ x ∷ []))) (length xs) (rename ns v) ≡ map v xs) m r) in
    cc
