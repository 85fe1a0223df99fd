-- Literals and their negations, and what they say in a valuation.
use Rattle.std.proofs.Common.{◌≡◌, ◌≢◌, ℕ, ◌+◌, ◌-◌, ◌*◌, ◌%◌, ◌/◌, ◌<◌, not, ⊎_elim, ap, ◌∙◌, arith}
use Rattle.std.proofs.lemmas.Bool.{cases_eq}
use Rattle.std.proofs.lemmas.Bool.Decides.{nat_tests}
use Rattle.base.specs.Literal.{Valuation, variable, negation, literal_value}

-- a literal and its negation are of one variable
pub variable-negation : (l : ℕ) → variable (negation l) ≡ variable l
variable-negation l = grind (arith, nat_tests)

-- a negation says the opposite
pub literal_value-negation : (v : Valuation) (l : ℕ) → literal_value v (negation l) ≡ not (literal_value v l)
literal_value-negation v l = grind (arith, nat_tests)

-- an even literal says what its variable says
pub literal_value-even : (v : Valuation) (k : ℕ) → 0 < k → literal_value v (2 * k) ≡ v k
literal_value-even v k h =
    let e : 2 * k / 2 ≡ k = omega arith in
    let f : 2 * k % 2 ≡ 0 = omega arith in
    grind (arith, nat_tests)

-- an odd literal says the opposite of its variable
pub literal_value-odd : (v : Valuation) (k : ℕ) → 0 < k → literal_value v (2 * k + 1) ≡ not (v k)
literal_value-odd v k h =
    let e : (2 * k + 1) / 2 ≡ k = omega arith in
    let f : (2 * k + 1) % 2 ≡ 1 = omega arith in
    grind (arith, nat_tests)

-- ---- the numbers of negations

pub negation-even : (l : ℕ) → l % 2 ≡ 0 → negation l ≡ l + 1
negation-even l e = grind (arith, nat_tests)

pub negation-odd : (l : ℕ) → l % 2 ≢ 0 → negation l ≡ l - 1
negation-odd l e = let is : negation l ≡ 2 * (l / 2) = grind (arith, nat_tests) in is ∙ omega arith

pub negation-negation : (l : ℕ) → negation (negation l) ≡ l
negation-negation l =
    ⊎_elim
    (λ (e : l % 2 ≡ 0). let one : (l + 1) % 2 ≢ 0 = omega arith in ap negation (negation-even l e) ∙ negation-odd (l + 1) one ∙ omega arith)
    (λ (ne : l % 2 ≢ 0). let one : (l - 1) % 2 ≡ 0 = omega arith in ap negation (negation-odd l ne) ∙ negation-even (l - 1) one ∙ omega arith)
    (cases_eq (l % 2) 0)

pub negation-other : (l : ℕ) → negation l ≢ l
negation-other l e =
    ⊎_elim
    (λ (even : l % 2 ≡ 0). omega (arith, negation-even l even, e))
    (λ (odd : l % 2 ≢ 0). omega (arith, negation-odd l odd, e))
    (cases_eq (l % 2) 0)

pub negation-inside : (l n : ℕ) → n % 2 ≡ 0 → l < n → negation l < n
negation-inside l n even h =
    ⊎_elim
    (λ (e : l % 2 ≡ 0). let n' : negation l ≡ l + 1 = negation-even l e in omega arith)
    (λ (ne : l % 2 ≢ 0). let n' : negation l ≡ l - 1 = negation-odd l ne in omega arith)
    (cases_eq (l % 2) 0)

pub half-negation : (l : ℕ) → negation l / 2 ≡ l / 2
half-negation l =
    ⊎_elim
    (λ (e : l % 2 ≡ 0). let n' : negation l ≡ l + 1 = negation-even l e in omega arith)
    (λ (ne : l % 2 ≢ 0). let n' : negation l ≡ l - 1 = negation-odd l ne in omega arith)
    (cases_eq (l % 2) 0)
