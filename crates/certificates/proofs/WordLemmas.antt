-- The words of a line, names and cubes.
use Rattle.std.proofs.Common.{◌≡◌, ℕ, zero, suc, min, ◌+◌, ◌<◌, ◌≤◌, Bool, true, false, ◌&&◌, ◌||◌, ◌==◌, nat_eq, nat_lt, List, [], ◌∷◌, ◌++◌, length, get_or, set, drop, replicate, if◌then◌else◌, None, ⊎_elim, refl, sym, ap, ap₂, ◌∙◌, arith}
use Rattle.std.specs.List.{list_any}
use Rattle.std.proofs.lemmas.Bool.{cases_lt, cases_Bool, and_parts}
use Rattle.std.proofs.lemmas.Bool.Decides.{nat_tests}
use Rattle.std.proofs.lemmas.List.{drop_more, length-drop, length-set, length-replicate, get_or-replicate}
use Rattle.std.proofs.lemmas.List.Folds.{list_any-append}
use Rattle.base.specs.Lines.{HasNone, onto_first}
use Rattle.certificates.specs.Reader.{has_zero, Marks}
use Rattle.certificates.specs.Reading.{line_words, sole, without_zeros, part_of, cube_of}
use Rattle.certificates.proofs.PutLemmas.{drop_end}

-- ---- words

pub words_other : (b : ℕ) (bs : List ℕ) → (b == 32) ≡ false → line_words (b ∷ bs) ≡ onto_first b (line_words bs)
words_other b bs e = ap (λ (x : Bool). if x then [] ∷ line_words bs else onto_first b (line_words bs)) e

-- a line without a blank is one word
pub words-none : (line : List ℕ) → HasNone 32 line → line_words line ≡ line ∷ []
words-none [] none = refl
words-none (b ∷ bs) none =
    ⊎_elim
    (λ (on : (b == 32) ≡ true). absurd (let h : (true || list_any (λ c. c == 32) bs) ≡ false = ap (λ (x : Bool). x || list_any (λ c. c == 32) bs) (sym on) ∙ none in cc))
    (λ (off : (b == 32) ≡ false).
    let rest : HasNone 32 bs = ap (λ (x : Bool). x || list_any (λ c. c == 32) bs) (sym off) ∙ none in
    words_other b bs off ∙ ap (onto_first b) (words-none bs rest))
    (cases_Bool (b == 32))

-- a word, a blank, and what stands behind it
pub words-blank : (front behind : List ℕ) → HasNone 32 front → line_words (front ++ 32 ∷ behind) ≡ front ∷ line_words behind
words-blank [] behind none = refl
words-blank (b ∷ bs) behind none =
    ⊎_elim
    (λ (on : (b == 32) ≡ true). absurd (let h : (true || list_any (λ c. c == 32) bs) ≡ false = ap (λ (x : Bool). x || list_any (λ c. c == 32) bs) (sym on) ∙ none in cc))
    (λ (off : (b == 32) ≡ false).
    let rest : HasNone 32 bs = ap (λ (x : Bool). x || list_any (λ c. c == 32) bs) (sym off) ∙ none in
    words_other b (bs ++ 32 ∷ behind) off ∙ ap (onto_first b) (words-blank bs behind rest))
    (cases_Bool (b == 32))

pub words-some : (line : List ℕ) → (word : List ℕ) × (more : List (List ℕ)) × (line_words line ≡ word ∷ more)
words-some [] = ([], [], refl)
words-some (b ∷ bs) =
    ⊎_elim
    (λ (on : (b == 32) ≡ true). ([], line_words bs, ap (λ (x : Bool). if x then [] ∷ line_words bs else onto_first b (line_words bs)) on))
    (λ (off : (b == 32) ≡ false). let rest = words-some bs in (b ∷ rest.0, rest.1, words_other b bs off ∙ ap (onto_first b) rest.2))
    (cases_Bool (b == 32))

-- no one word where there is a blank
pub sole-blank : (front behind : List ℕ) → HasNone 32 front → sole (line_words (front ++ 32 ∷ behind)) ≡ None
sole-blank front behind none =
    let rest = words-some behind in
    ap sole (words-blank front behind none ∙ ap (λ (ws : List (List ℕ)). front ∷ ws) rest.2)

-- ---- zeros in front

zero_first : (b c : ℕ) (more : List ℕ) → (b == 48) ≡ true → without_zeros (b ∷ c ∷ more) ≡ without_zeros (c ∷ more)
zero_first b c more on = ap (λ (x : Bool). if x then without_zeros (c ∷ more) else b ∷ c ∷ more) on

-- ---- names

set_mark : (marks : List Bool) (k j : ℕ) → k < length marks → get_or (set marks k true) j false ≡ ((j == k) || get_or marks j false)
set_mark [] k j h = absurd (omega arith)
set_mark (m ∷ marks) zero zero h = refl
set_mark (m ∷ marks) zero (suc j) h = ap (λ (b : Bool). b || get_or marks j false) (sym (not_zero j))
  where
    not_zero : (j : ℕ) → (suc j == 0) ≡ false
    not_zero j = grind (arith, nat_tests)
set_mark (m ∷ marks) (suc k) zero h = ap (λ (b : Bool). b || m) (sym (not_zero k))
  where
    not_zero : (k : ℕ) → (0 == suc k) ≡ false
    not_zero k = grind (arith, nat_tests)
set_mark (m ∷ marks) (suc k) (suc j) h = set_mark marks k j (omega arith) ∙ ap (λ (b : Bool). b || get_or marks j false) (same j k)
  where
    same : (j k : ℕ) → (j == k) ≡ (suc j == suc k)
    same j k = grind (arith, nat_tests)

same_number : (j k : ℕ) → (j == k) ≡ nat_eq j k
same_number j k = refl

-- the marks with one more
pub marked : (latches : ℕ) (marks : List Bool) (named : List ℕ) (k : ℕ) → Marks latches marks named → k < latches → Marks latches (set marks k true) (named ++ k ∷ [])
marked latches marks named k m h =
    record {
      many = length-set marks k true ∙ m.many;
      says = λ j below.
          set_mark marks k j (omega (arith, m.many, h))
          ∙ (ap (λ (b : Bool). nat_eq j k || b) (m.says j below) ∙ (swap (nat_eq j k) (list_any (nat_eq j) named) ∙ sym (list_any-append (nat_eq j) named (k ∷ []))));
    }
  where
    swap : (x y : Bool) → (x || y) ≡ (y || (x || false))
    swap true true = refl
    swap true false = refl
    swap false true = refl
    swap false false = refl

-- ---- cubes

pub cube_end : (named parts : List ℕ) (k : ℕ) → min (length named) (length parts) ≤ k → cube_of (drop k named) (drop k parts) ≡ []
cube_end named parts k h =
    ⊎_elim
    (λ (l : k < length named). let none : drop k parts ≡ [] = drop_end parts k (omega (arith, l, h)) in ap (cube_of (drop k named)) none ∙ cube_none (drop k named))
    (λ (g : length named ≤ k). ap (λ (ks : List ℕ). cube_of ks (drop k parts)) (drop_end named k g))
    (cases_lt k (length named))
  where
    cube_none : (named : List ℕ) → cube_of named [] ≡ []
    cube_none [] = refl
    cube_none (k ∷ named) = refl
