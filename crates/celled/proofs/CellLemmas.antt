-- The words that cells make.
use Rattle.std.proofs.Common.{◌≡◌, ℕ, zero, suc, ◌+◌, ◌*◌, ◌/◌, ◌%◌, ◌^◌, ◌<◌, List, ◌∷◌, ◌++◌, sym, ap, ap₂, subst, ◌∙◌, arith}
use Rattle.std.specs.List.{AllByRecursion}
use Rattle.std.proofs.lemmas.Nat.{shr-shr, mod-pow-add}
use Rattle.base.specs.Operator.{concat_value}
use Rattle.btor2.specs.Trace.{Frame}
use Rattle.full.specs.Cells.{read_value}
use Rattle.full.proofs.CellLemmas.{join_assoc}
use Rattle.fit.specs.Fitting.{pieces_word, pieces_width}
use Rattle.celled.specs.Spots.{ids_from}

-- the numbers from one on, in two parts
pub ids_joined : (first a b : ℕ) → ids_from first (a + b) ≡ ids_from first a ++ ids_from (first + a) b
ids_joined first zero b = ap₂ ids_from (omega arith) (omega arith)
ids_joined first (suc a) b =
    let e : suc a + b ≡ suc (a + b) = omega arith in
    let d : suc first + a ≡ first + suc a = omega arith in
    ap (ids_from first) e ∙ ap (λ (l : List ℕ). first ∷ l) (ids_joined (suc first) a b) ∙ ap (λ (n : ℕ). first ∷ ids_from (suc first) a ++ ids_from n b) d

-- what holds of each holds of all
pub all_ids_from : (P : ℕ → Type 0) (first count : ℕ) → ((i : ℕ) → i < count → P (first + i)) → AllByRecursion P (ids_from first count)
all_ids_from P first zero h = tt
all_ids_from P first (suc n) h = (
  subst P (omega arith) (h 0 (omega arith)),
  all_ids_from P (suc first) n (λ i less. subst P (omega arith) (h (suc i) (omega (arith, less)))),
)

-- and back
pub at_ids_from : (P : ℕ → Type 0) (first count i : ℕ) → AllByRecursion P (ids_from first count) → i < count → P (first + i)
at_ids_from P first zero i h less = absurd (omega (arith, less))
at_ids_from P first (suc n) zero h less = subst P (omega arith) h.0
at_ids_from P first (suc n) (suc i) h less = subst P (omega arith) (at_ids_from P (suc first) n i h.1 (omega (arith, less)))

pub width_from : (size first count : ℕ) → pieces_width (λ p. size) (ids_from first count) ≡ count * size
width_from size first zero = omega arith
width_from size first (suc n) = let rest = width_from size (suc first) n in omega (arith, rest)

before_nothing : (w : ℕ) → w ≡ concat_value w 0 0
before_nothing w = omega arith

by_one : (w : ℕ) → w % 2 ^ 0 ≡ 0
by_one w = omega arith

pub no_bits : (w n : ℕ) → n ≡ 0 → 0 ≡ w % 2 ^ n
no_bits w n e = sym (ap (λ (k : ℕ). w % 2 ^ k) e ∙ by_one w)

-- the word of pieces of one width by two parts
pub word_joined : (size : ℕ) (g : Frame) (first a b : ℕ) → pieces_word (λ p. size) g (ids_from first (a + b)) ≡ concat_value (pieces_word (λ p. size) g (ids_from (first + a) b)) (a * size) (pieces_word (λ p. size) g (ids_from first a))
word_joined size g first zero b =
    let e : zero + b ≡ b = omega arith in
    let d : first ≡ first + zero = omega arith in
    let none : zero * size ≡ 0 = omega arith in
    ap (λ (n : ℕ). pieces_word (λ p. size) g (ids_from first n)) e ∙ ap (λ (k : ℕ). pieces_word (λ p. size) g (ids_from k b)) d
    ∙ before_nothing (pieces_word (λ p. size) g (ids_from (first + zero) b)) ∙ ap (λ (n : ℕ). concat_value (pieces_word (λ p. size) g (ids_from (first + zero) b)) n 0) (sym none)
word_joined size g first (suc a) b =
    let e : suc a + b ≡ suc (a + b) = omega arith in
    let d : suc first + a ≡ first + suc a = omega arith in
    let w : a * size + size ≡ suc a * size = omega arith in
    ap (λ (n : ℕ). pieces_word (λ p. size) g (ids_from first n)) e
    ∙ ap (λ (h : ℕ). concat_value h size (g first)) (word_joined size g (suc first) a b)
    ∙ join_assoc (pieces_word (λ p. size) g (ids_from (suc first + a) b)) (a * size) (pieces_word (λ p. size) g (ids_from (suc first) a)) size (g first)
    ∙ ap₂ (λ (k n : ℕ). concat_value (pieces_word (λ p. size) g (ids_from k b)) n (pieces_word (λ p. size) g (ids_from first (suc a)))) d w

-- pieces with the words of the cells of a number make so many bits of it
pub word_of_cells : (size n : ℕ) (g : Frame) (first k count : ℕ) → ((i : ℕ) → i < count → g (first + i) ≡ read_value size n (k + i))
    → pieces_word (λ p. size) g (ids_from first count) ≡ n / 2 ^ (size * k) % 2 ^ (count * size)
word_of_cells size n g first k zero h = no_bits (n / 2 ^ (size * k)) (zero * size) (omega arith)
word_of_cells size n g first k (suc c) h =
    let rest = word_of_cells size n g (suc first) (suc k) c (λ i less. ap g (omega arith) ∙ h (suc i) (omega (arith, less)) ∙ ap (read_value size n) (omega arith)) in
    let own : g first ≡ read_value size n k = ap g (omega arith) ∙ h 0 (omega arith) ∙ ap (read_value size n) (omega arith) in
    let w : c * size + size ≡ suc c * size = omega arith in
    let up : n / 2 ^ (size * suc k) ≡ n / 2 ^ (size * k) / 2 ^ size = ap (λ (j : ℕ). n / 2 ^ j) (grind arith) ∙ sym (shr-shr n (size * k) size) in
    ap₂ (λ (hi lo : ℕ). concat_value hi size lo) (rest ∙ ap (λ (j : ℕ). j % 2 ^ (c * size)) up) own ∙ sym (mod-pow-add (n / 2 ^ (size * k)) (c * size) size) ∙ ap (λ (j : ℕ). n / 2 ^ (size * k) % 2 ^ j) w
