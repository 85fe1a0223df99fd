-- Formulas as bits: what satisfies them, and how bits of their clauses are reckoned.
use Rattle.std.proofs.Common.{◌≡◌, ℕ, zero, suc, Bool, true, false, not, ◌&&◌, ◌||◌, List, [], ◌∷◌, ⊎_elim, refl, ap₂, arith}
use Rattle.std.specs.List.{list_all, list_any}
use Rattle.std.proofs.lemmas.Bool.{cases_Bool, and_parts}
use Rattle.std.proofs.lemmas.List.Folds.{list_any_at}
use Rattle.base.specs.Literal.{Valuation, literal_value}
use Rattle.drup.specs.Formula.{SatisfiesClause, SatisfiesClauses}

-- whether a clause, and each of some clauses, is satisfied
abbrev pub clause_bit : Valuation → List ℕ → Bool
clause_bit a clause = list_any (literal_value a) clause

abbrev pub formula_bit : Valuation → List (List ℕ) → Bool
formula_bit a clauses = list_all (clause_bit a) clauses

-- ---- bits

pub or_right : (b c : Bool) → (b || c) ≡ true → b ≡ false → c ≡ true
or_right true c h e = absurd (cc)
or_right false c h e = h

pub or_not : (b c : Bool) → (not b || not c) ≡ not (b && c)
or_not true c = refl
or_not false c = refl

pub not_or : (b c : Bool) → (b || not c) ≡ not (not b && c)
not_or true c = refl
not_or false c = refl

pub not_or_self : (b : Bool) → (not b || b) ≡ true
not_or_self true = refl
not_or_self false = refl

-- a clause of one literal, of two, of three
abbrev pub one : Bool → Bool
one b = b || false

abbrev pub two : Bool → Bool → Bool
two b c = b || one c

abbrev pub three : Bool → Bool → Bool → Bool
three b c d = b || two c d

pub one_is : (b : Bool) → one b ≡ b
one_is true = refl
one_is false = refl

-- ---- what satisfies a formula

clause_true : (a : Valuation) (clause : List ℕ) → SatisfiesClause a clause → clause_bit a clause ≡ true
clause_true a clause sat = list_any_at (literal_value a) clause sat.0 0 sat.1 sat.2

pub formula_true : (a : Valuation) (clauses : List (List ℕ)) → SatisfiesClauses a clauses → formula_bit a clauses ≡ true
formula_true a [] sat = refl
formula_true a (clause ∷ clauses) sat = ap₂ ◌&&◌ (clause_true a clause (sat 0 (omega arith))) (formula_true a clauses (λ k below. sat (suc k) (omega arith)))

clause_satisfied : (a : Valuation) (clause : List ℕ) → clause_bit a clause ≡ true → SatisfiesClause a clause
clause_satisfied a [] h = absurd (cc)
clause_satisfied a (l ∷ ls) h =
    ⊎_elim
    (λ (on : literal_value a l ≡ true). (0, omega arith, on))
    (λ (off : literal_value a l ≡ false).
    let rest = clause_satisfied a ls (or_right (literal_value a l) (clause_bit a ls) h off) in
    (suc rest.0, omega (arith, rest.1), rest.2))
    (cases_Bool (literal_value a l))

pub formula_satisfied : (a : Valuation) (clauses : List (List ℕ)) → formula_bit a clauses ≡ true → SatisfiesClauses a clauses
formula_satisfied a [] h k below = absurd (omega arith)
formula_satisfied a (clause ∷ clauses) h zero below = clause_satisfied a clause (and_parts (clause_bit a clause) (formula_bit a clauses) h).0
formula_satisfied a (clause ∷ clauses) h (suc k) below = formula_satisfied a clauses (and_parts (clause_bit a clause) (formula_bit a clauses) h).1 k (omega arith)

-- ---- lists of bits

-- none is true where each is false
pub any_false : {A : Type 0} (p : A → Bool) (xs : List A) → ((x : A) → p x ≡ false) → list_any p xs ≡ false
any_false p [] each = refl
any_false p (x ∷ xs) each = ap₂ ◌||◌ (each x) (any_false p xs each)

-- clauses of two literals, of which the first is one and the same
pub two_all : {A : Type 0} (b : Bool) (p : A → Bool) (xs : List A) → list_all (λ x. two b (p x)) xs ≡ (b || list_all p xs)
two_all true p [] = refl
two_all false p [] = refl
two_all true p (x ∷ xs) = two_all true p xs
two_all false p (x ∷ xs) = ap₂ ◌&&◌ (one_is (p x)) (two_all false p xs)
