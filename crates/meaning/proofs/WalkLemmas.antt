-- Steps of a binary proof, number by number.
use Rattle.std.proofs.Common.{◌≡◌, ◌≢◌, ℕ, suc, ◌+◌, ◌*◌, ◌<◌, ◌==◌, nat_lt, Bool, true, false, List, [], ◌∷◌, ◌++◌, length, length-append, codes, refl, ap, ◌∙◌, inl, inr, ◌⊎◌, arith}
use Rattle.std.specs.Str.{bytes_eq}
use Rattle.std.proofs.lemmas.Bool.{cases_Bool}
use Rattle.std.proofs.lemmas.Bool.Decides.{nat_tests}
use Rattle.drup.specs.declared.why.Why.{Why}
use Rattle.drup.specs.declared.why.Why.TheVariants as why
use Rattle.drup.specs.Proofs.{literal, faulty, most_proof_lines, Ended, ended, ProofReading, step_of, refused, reading_from}
use Rattle.drup.specs.BinaryProofs.{coded_number, last_byte, number_said, step_marks}
use Rattle.meaning.specs.BinaryProofs.{IsWholeNumber}
use Rattle.meaning.proofs.MarkLemmas.{with_steps, steps_twice}

-- between steps, or within one with what stands so far, by its number
pub data Stand : Type 0 where
  between : ℕ → Stand
  within : ℕ → Bool → List ℕ → Stand

abbrev pub step_number : Stand → ℕ
step_number (between n) = n
step_number (within n deleting clause) = n

-- what numbers read as from there
abbrev pub reads_from : ℕ → Stand → List (List ℕ) → ProofReading
reads_from variables (between n) ps = reading_from 0 false [] (step_marks variables n false ps)
reads_from variables (within n deleting clause) ps = reading_from 0 deleting clause (step_marks variables n true ps)

-- a number that goes on, or is refused
pub record Moves (variables : ℕ) (s : Stand) (p : List ℕ) : Type 0 where
  pub steps : List Ended
  pub next : Stand
  pub is : (tail : List (List ℕ)) → reads_from variables s (p ∷ tail) ≡ with_steps steps (reads_from variables next tail)
  pub count : step_number next ≡ step_number s + length steps

pub record IsRefusedNumber (variables : ℕ) (s : Stand) (p : List ℕ) : Type 0 where
  pub because : Why
  pub is : (tail : List (List ℕ)) → reads_from variables s (p ∷ tail) ≡ refused (step_number s) because
  pub not_cut : IsWholeNumber p → because ≢ why.CutOff

bad_word : why.BadWord ≢ why.CutOff
bad_word e = cc

bad_variable : why.BadVariable ≢ why.CutOff
bad_variable e = cc

too_long : why.TooLong ≢ why.CutOff
too_long e = cc

-- a number where a literal is to stand
abbrev Says : ℕ → List ℕ → Type 0
Says variables p = ((l : ℕ) × (number_said variables p ≡ literal l)) ⊎ ((w : Why) × (number_said variables p ≡ faulty w) × (IsWholeNumber p → w ≢ why.CutOff))

last_of : (front : List ℕ) (b last : ℕ) → last_byte b (front ++ last ∷ []) ≡ last
last_of [] b last = refl
last_of (c ∷ front) b last = last_of front c last

whole_last : (p : List ℕ) → IsWholeNumber p → last_byte 0 p < 128
whole_last p is = let e : last_byte 0 p ≡ is.last = ap (last_byte 0) is.whole ∙ last_of is.front 0 is.last in omega (arith, e, is.ends)

says : (variables : ℕ) (p : List ℕ) → Says variables p
says variables p =
    elim (cases_Bool (nat_lt 127 (last_byte 0 p))) [
      | inl cut ↦ inr (why.CutOff, rw cut refl, λ is. absurd (never (last_byte 0 p) (whole_last p is) cut))
      | inr whole ↦
          elim (cases_Bool (last_byte 0 p == 0)) [
            | inl needless ↦ inr (why.BadWord, rw (whole, needless) refl, λ is. bad_word)
            | inr good ↦
                elim (cases_Bool (nat_lt (coded_number p) 2)) [
                  | inl small ↦ inr (why.BadWord, rw (whole, good, small) refl, λ is. bad_word)
                  | inr some ↦
                      elim (cases_Bool (nat_lt (2 * variables + 1) (coded_number p))) [
                        | inl large ↦ inr (why.BadVariable, rw (whole, good, some, large) refl, λ is. bad_variable)
                        | inr fits ↦ inl (coded_number p, rw (whole, good, some, fits) refl)
                      ]
                ]
          ]
    ]
  where
    never : (n : ℕ) → n < 128 → nat_lt 127 n ≡ true → ⊥
    never n low high = grind (arith, nat_tests)

move : (variables : ℕ) (s : Stand) (p : List ℕ) → Moves variables s p ⊎ IsRefusedNumber variables s p
move variables (between n) p =
    elim (cases_Bool (nat_lt most_proof_lines n)) [
      | inl long ↦ inr (record { because = why.TooLong; is = λ tail. rw long refl; not_cut = λ is. too_long })
      | inr short ↦
          elim (cases_Bool (bytes_eq p (codes "a"))) [
            | inl adds ↦ inl (record { steps = []; next = within n false []; is = λ tail. rw (short, adds) refl; count = omega arith })
            | inr other ↦
                elim (cases_Bool (bytes_eq p (codes "d"))) [
                  | inl takes ↦ inl (record { steps = []; next = within n true []; is = λ tail. rw (short, other, takes) refl; count = omega arith })
                  | inr none ↦ inr (record { because = why.BadWord; is = λ tail. rw (short, other, none) refl; not_cut = λ is. bad_word })
                ]
          ]
    ]
move variables (within n deleting clause) p =
    elim (cases_Bool (bytes_eq p (0 ∷ []))) [
      | inl end ↦ inl (record { steps = ended n (step_of deleting clause) ∷ []; next = between (suc n); is = λ tail. rw end refl; count = omega arith })
      | inr other ↦
          elim (says variables p) [
            | inl l ↦ inl (record { steps = []; next = within n deleting (clause ++ l.0 ∷ []); is = λ tail. rw (other, l.1) refl; count = omega arith })
            | inr w ↦ inr (record { because = w.0; is = λ tail. rw (other, w.1) refl; not_cut = w.2 })
          ]
    ]

-- ---- numbers in turn

pub record Walks (variables : ℕ) (s : Stand) (ps : List (List ℕ)) : Type 0 where
  pub steps : List Ended
  pub next : Stand
  pub is : (tail : List (List ℕ)) → reads_from variables s (ps ++ tail) ≡ with_steps steps (reads_from variables next tail)
  pub count : step_number next ≡ step_number s + length steps

pub record HaltsAt (variables : ℕ) (s : Stand) (ps : List (List ℕ)) : Type 0 where
  pub before : List (List ℕ)
  pub piece : List ℕ
  pub behind : List (List ℕ)
  pub parts : ps ≡ before ++ piece ∷ behind
  pub walks : Walks variables s before
  pub refuses : IsRefusedNumber variables walks.next piece

pub walks_first : (variables : ℕ) (s : Stand) (p : List ℕ) (ps : List (List ℕ)) (m : Moves variables s p) → Walks variables m.next ps → Walks variables s (p ∷ ps)
walks_first variables s p ps m w =
    record {
      steps = m.steps ++ w.steps;
      next = w.next;
      is = λ tail. m.is (ps ++ tail) ∙ ap (with_steps m.steps) (w.is tail) ∙ steps_twice m.steps w.steps (reads_from variables w.next tail);
      count = omega (arith, m.count, w.count, length-append m.steps w.steps);
    }

pub walk : (variables : ℕ) (s : Stand) (ps : List (List ℕ)) → Walks variables s ps ⊎ HaltsAt variables s ps
unfolding walks_first
walk variables s [] = inl (record { steps = []; next = s; is = λ tail. refl; count = omega arith })
walk variables s (p ∷ ps) =
    elim (move variables s p) [
      | inr r ↦ inr (record { before = []; piece = p; behind = ps; parts = refl; walks = record { steps = []; next = s; is = λ tail. refl; count = omega arith }; refuses = r })
      | inl m ↦
          elim (walk variables m.next ps) [
            | inl w ↦ inl (walks_first variables s p ps m w)
            | inr h ↦ inr (record { before = p ∷ h.before; piece = h.piece; behind = h.behind; parts = ap (λ (l : List (List ℕ)). p ∷ l) h.parts; walks = walks_first variables s p h.before m h.walks; refuses = h.refuses })
          ]
    ]
