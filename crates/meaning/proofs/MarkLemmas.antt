-- Marks of a proof, read one after the other: they go on to what follows, or halt at a fault.
use Rattle.std.proofs.Common.{◌≡◌, ◌≢◌, ℕ, Bool, true, false, List, [], ◌∷◌, ◌++◌, Some, refl, sym, ap, ◌∙◌, append_assoc, inl, inr, ◌⊎◌}
use Rattle.std.proofs.lemmas.Bool.{cases_Bool}
use Rattle.drup.specs.declared.why.Why.{Why}
use Rattle.drup.specs.declared.why.Why.TheVariants as why
use Rattle.drup.specs.Proofs.{Token, ends, deletes, literal, faulty, Mark, mark, Ended, ended, ProofFault, ProofReading, step_of, has_begun, refused, reading_from}

-- steps before what is read
abbrev pub with_steps : List Ended → ProofReading → ProofReading
with_steps steps r = record r { steps = steps ++ r.steps }

pub steps_twice : (xs ys : List Ended) (r : ProofReading) → with_steps xs (with_steps ys r) ≡ with_steps (xs ++ ys) r
steps_twice xs ys r = ap (λ (s : List Ended). record r { steps = s }) (sym (append_assoc xs ys r.steps))

-- the numbers of marks
abbrev pub AreOf : ℕ → List Mark → Type 0
AreOf n [] = Unit {0}
AreOf n (mark m t ∷ marks) = (m ≡ n) × AreOf n marks

-- a fault that is told by a mark
abbrev pub IsNotCut : Token → Type 0
IsNotCut (faulty w) = w ≢ why.CutOff
IsNotCut t = Unit {0}

abbrev pub AreNotCut : List Mark → Type 0
AreNotCut [] = Unit {0}
AreNotCut (mark m t ∷ marks) = IsNotCut t × AreNotCut marks

-- marks that go on, to within a step or behind one
pub record Goes (deleting : Bool) (clause : List ℕ) (marks : List Mark) : Type 0 where
  pub steps : List Ended
  pub deleting' : Bool
  pub clause' : List ℕ
  pub is : (last : ℕ) (back : List Mark) → reading_from last deleting clause (marks ++ back) ≡ with_steps steps (reading_from last deleting' clause' back)

-- marks of which one halts
pub record Halts (deleting : Bool) (clause : List ℕ) (marks : List Mark) : Type 0 where
  pub steps : List Ended
  pub fault : ProofFault
  pub is : (last : ℕ) (back : List Mark) → reading_from last deleting clause (marks ++ back) ≡ record { steps = steps; fault = Some fault }
  pub number : (n : ℕ) → AreOf n marks → fault.line ≡ n
  pub not_cut : AreNotCut marks → fault.why ≢ why.CutOff

abbrev pub MarksView : Bool → List ℕ → List Mark → Type 0
MarksView deleting clause marks = Goes deleting clause marks ⊎ Halts deleting clause marks

bad_word : why.BadWord ≢ why.CutOff
bad_word e = cc

-- a mark that halts
halts_here : (deleting : Bool) (clause : List ℕ) (n : ℕ) (t : Token) (marks : List Mark) (w : Why) → ((last : ℕ) (back : List Mark) → reading_from last deleting clause (mark n t ∷ back) ≡ refused n w) → (IsNotCut t → w ≢ why.CutOff) → Halts deleting clause (mark n t ∷ marks)
halts_here deleting clause n t marks w is not_cut =
    record { steps = []; fault = record { line = n; why = w }; is = λ last back. is last (marks ++ back); number = λ m of. of.0; not_cut = λ none. not_cut none.0 }

-- a mark that goes on
module _ (deleting : Bool) (clause : List ℕ) (n : ℕ) (t : Token) (marks : List Mark) (d : Bool) (c : List ℕ) (steps : List Ended) (step : (last : ℕ) (back : List Mark) → reading_from last deleting clause (mark n t ∷ back) ≡ with_steps steps (reading_from last d c back)) where
  on : MarksView d c marks → MarksView deleting clause (mark n t ∷ marks)
  on (inl g) =
      inl (
      record {
        steps = steps ++ g.steps;
        deleting' = g.deleting';
        clause' = g.clause';
        is = λ last back. step last (marks ++ back) ∙ ap (with_steps steps) (g.is last back) ∙ steps_twice steps g.steps (reading_from last g.deleting' g.clause' back);
      }
      )
  on (inr h) =
      inr (
      record {
        steps = steps ++ h.steps;
        fault = h.fault;
        is = λ last back. step last (marks ++ back) ∙ ap (with_steps steps) (h.is last back);
        number = λ m of. h.number m of.1;
        not_cut = λ none. h.not_cut none.1;
      }
      )

pub marks_view : (deleting : Bool) (clause : List ℕ) (marks : List Mark) → MarksView deleting clause marks
marks_view deleting clause [] = inl (record { steps = []; deleting' = deleting; clause' = clause; is = λ last back. refl })
marks_view deleting clause (mark n ends ∷ marks) = on deleting clause n ends marks false [] (ended n (step_of deleting clause) ∷ []) (λ last back. refl) (marks_view false [] marks)
marks_view deleting clause (mark n deletes ∷ marks) =
    elim (cases_Bool (has_begun deleting clause)) [
      | inl begun ↦ inr (halts_here deleting clause n deletes marks why.BadWord (λ last back. rw begun refl) (λ u. bad_word))
      | inr none ↦ on deleting clause n deletes marks true [] [] (λ last back. rw none refl) (marks_view true [] marks)
    ]
marks_view deleting clause (mark n (literal l) ∷ marks) = on deleting clause n (literal l) marks deleting (clause ++ l ∷ []) [] (λ last back. refl) (marks_view deleting (clause ++ l ∷ []) marks)
marks_view deleting clause (mark n (faulty w) ∷ marks) = inr (halts_here deleting clause n (faulty w) marks w (λ last back. refl) (λ not. not))
