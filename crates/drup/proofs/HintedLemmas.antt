-- Judges of steps with hints.
use Rattle.std.proofs.Common.{◌≡◌, ℕ, suc, ◌+◌, Bool, true, false, List, [], ◌∷◌, ◌++◌, length, refl, sym, ap, subst, ◌∙◌, arith, length-append}
use Rattle.std.specs.Prelude.{◌==◌, ◌||◌, nat_lt, if◌then◌else◌, Option, Some, None}
use Rattle.std.specs.List.{list_any}
use Rattle.std.specs.Option.{is_some}
use Rattle.std.proofs.lemmas.Bool.Decides.{nat_tests}
use Rattle.base.specs.Decimals.{is_nothing}
use Rattle.drup.specs.declared.hints.Finding.{Finding}
use Rattle.drup.specs.declared.hints.Finding.TheVariants as finding
use Rattle.drup.specs.declared.judgement.Judgement.{Judgement}
use Rattle.drup.specs.declared.judgement.Judgement.TheVariants as judgement
use Rattle.drup.specs.declared.why.Why.TheVariants as why
use Rattle.drup.specs.Formula.{Formula}
use Rattle.drup.specs.Proofs.{ProofFault}
use Rattle.drup.specs.Named.{clause_of}
use Rattle.drup.specs.Hints.{Named, named_from, with_clause, without_clause, negated, follow, by_finding, addition, deletion, HintedEnded, ended, judge_named, judge_hinted}
use Rattle.drup.specs.HintedJudges.{HintedJudge, continued, StandsForHinted, HasJudgedHinted, LeadsHinted, BeginsHintedAt, BeginsHinted}

one_more : (steps rest : List HintedEnded) (e : HintedEnded) → (steps ++ e ∷ []) ++ rest ≡ steps ++ e ∷ rest
one_more [] rest e = refl
one_more (x ∷ xs) rest e = ap (λ (ys : List HintedEnded). x ∷ ys) (one_more xs rest e)

pub stands_step : (f : Formula) (steps : List HintedEnded) (e : HintedEnded) (old new : HintedJudge) → LeadsHinted old e new → StandsForHinted f steps old → StandsForHinted f (steps ++ e ∷ []) new
stands_step f steps e old new leads s ok fault rest =
    ap (λ (xs : List HintedEnded). judge_hinted f (record { steps = xs; fault = fault })) (one_more steps rest e)
    ∙ s (leads ok).0 fault (e ∷ rest)
    ∙ (leads ok).1 fault rest

found_over : (judge : HintedJudge) (found : Option Judgement) (e : HintedEnded) (fault : Option ProofFault) (rest : List HintedEnded) → is_some found ≡ true → continued judge found fault (e ∷ rest) ≡ continued judge found fault rest
found_over judge None e fault rest never = absurd (cc)
found_over judge (Some j) e fault rest is = refl

-- what was found stays
pub leads_found : (judge : HintedJudge) (e : HintedEnded) → is_some judge.found ≡ true → LeadsHinted judge e judge
leads_found judge e is ok = (ok, λ fault rest. found_over judge judge.found e fault rest is)

open_still : (judge : HintedJudge) (found : Option Judgement) (fault : Option ProofFault) (steps : List HintedEnded) → is_some found ≡ false → continued judge found fault steps ≡ judge_named fault steps (clause_of judge.named) judge.last
open_still judge None fault steps is = refl
open_still judge (Some j) fault steps never = absurd (cc)

-- a step whose id is not above all before is refused
pub leads_bad_id : (old : HintedJudge) (id line : ℕ) (clause hints : List ℕ) → is_some old.found ≡ false → nat_lt old.last id ≡ false → LeadsHinted old (ended line (addition id clause hints)) (record old { found = Some (judgement.Malformed line why.BadId) })
leads_bad_id old id line clause hints is low ok = (
  ok,
  λ fault rest. open_still old old.found fault (ended line (addition id clause hints) ∷ rest) is
      ∙ ap (λ (b : Bool). if b then by_finding line clause (judge_named fault rest (with_clause (clause_of old.named) id clause) id) (follow (clause_of old.named) (negated clause) hints) else judgement.Malformed line why.BadId) low,
)

-- what a step is judged as whose id is above all before
by_id : (old : HintedJudge) (id line : ℕ) (clause hints : List ℕ) (found : Finding) → is_some old.found ≡ false → nat_lt old.last id ≡ true → follow (clause_of old.named) (negated clause) hints ≡ found → (fault : Option ProofFault) (rest : List HintedEnded)
    → continued old old.found fault (ended line (addition id clause hints) ∷ rest) ≡ by_finding line clause (judge_named fault rest (with_clause (clause_of old.named) id clause) id) found
by_id old id line clause hints found is low shown fault rest =
    open_still old old.found fault (ended line (addition id clause hints) ∷ rest) is
    ∙ ap (λ (b : Bool). if b then by_finding line clause (judge_named fault rest (with_clause (clause_of old.named) id clause) id) (follow (clause_of old.named) (negated clause) hints) else judgement.Malformed line why.BadId) low
    ∙ ap (by_finding line clause (judge_named fault rest (with_clause (clause_of old.named) id clause) id)) shown

pub leads_unnamed : (old : HintedJudge) (id line : ℕ) (clause hints : List ℕ) → is_some old.found ≡ false → nat_lt old.last id ≡ true → follow (clause_of old.named) (negated clause) hints ≡ finding.Unnamed
    → LeadsHinted old (ended line (addition id clause hints)) (record old { found = Some (judgement.Malformed line why.NoClause) })
leads_unnamed old id line clause hints is low shown ok = (ok, λ fault rest. by_id old id line clause hints finding.Unnamed is low shown fault rest)

pub leads_unshown : (old : HintedJudge) (id line : ℕ) (clause hints : List ℕ) → is_some old.found ≡ false → nat_lt old.last id ≡ true → follow (clause_of old.named) (negated clause) hints ≡ finding.Unshown
    → LeadsHinted old (ended line (addition id clause hints)) (record old { found = Some (judgement.NotImplied line) })
leads_unshown old id line clause hints is low shown ok = (ok, λ fault rest. by_id old id line clause hints finding.Unshown is low shown fault rest)

-- a clause that is shown refutes where it has no literals
pub leads_derived : (old : HintedJudge) (id line : ℕ) (clause hints : List ℕ) → is_some old.found ≡ false → nat_lt old.last id ≡ true → follow (clause_of old.named) (negated clause) hints ≡ finding.Falsified → is_nothing clause ≡ true
    → LeadsHinted old (ended line (addition id clause hints)) (record old { found = Some (judgement.Derived line) })
leads_derived old id line clause hints is low shown empty ok = (
  ok,
  λ fault rest. by_id old id line clause hints finding.Falsified is low shown fault rest
      ∙ ap (λ (b : Bool). if b then judgement.Derived line else judge_named fault rest (with_clause (clause_of old.named) id clause) id) empty,
)

-- and is kept else
pub leads_kept : (old new : HintedJudge) (id line : ℕ) (clause hints : List ℕ) → is_some old.found ≡ false → nat_lt old.last id ≡ true → follow (clause_of old.named) (negated clause) hints ≡ finding.Falsified → is_nothing clause ≡ false
    → (new.failed ≡ false → (old.failed ≡ false) × ((i : ℕ) → clause_of new.named i ≡ with_clause (clause_of old.named) id clause i)) → new.last ≡ id → new.found ≡ old.found
    → LeadsHinted old (ended line (addition id clause hints)) new
leads_kept old new id line clause hints is low shown some kept last found ok = (
  (kept ok).0,
  λ fault rest. by_id old id line clause hints finding.Falsified is low shown fault rest
      ∙ ap (λ (b : Bool). if b then judgement.Derived line else judge_named fault rest (with_clause (clause_of old.named) id clause) id) some
      ∙ ap (λ (n : Named). judge_named fault rest n id) (λ i k. sym ((kept ok).1 k) i)
      ∙ ap (λ (n : ℕ). judge_named fault rest (clause_of new.named) n) (sym last)
      ∙ sym (open_still new new.found fault rest (ap is_some found ∙ is)),
)

pub leads_deleted : (old new : HintedJudge) (id line : ℕ) → is_some old.found ≡ false → (new.failed ≡ false → old.failed ≡ false) → ((i : ℕ) → clause_of new.named i ≡ without_clause (clause_of old.named) id i) → new.last ≡ old.last → new.found ≡ old.found
    → LeadsHinted old (ended line (deletion id)) new
leads_deleted old new id line is failed gone last found ok = (
  failed ok,
  λ fault rest. open_still old old.found fault (ended line (deletion id) ∷ rest) is
      ∙ ap (λ (n : Named). judge_named fault rest n old.last) (λ i k. sym (gone k) i)
      ∙ ap (λ (n : ℕ). judge_named fault rest (clause_of new.named) n) (sym last)
      ∙ sym (open_still new new.found fault rest (ap is_some found ∙ is)),
)

no_more : (steps : List HintedEnded) → steps ++ [] ≡ steps
no_more [] = refl
no_more (x ∷ xs) = ap (λ (ys : List HintedEnded). x ∷ ys) (no_more xs)

-- the judgement where the steps have ended
pub judged_end : (f : Formula) (steps : List HintedEnded) (fault : Option ProofFault) (judge : HintedJudge) → judge.failed ≡ false → StandsForHinted f steps judge → judge_hinted f (record { steps = steps; fault = fault }) ≡ continued judge judge.found fault []
judged_end f steps fault judge ok s = ap (λ (xs : List HintedEnded). judge_hinted f (record { steps = xs; fault = fault })) (sym (no_more steps)) ∙ s ok fault []

pub refused_open : (f : Formula) (steps : List HintedEnded) (fault : ProofFault) (old : HintedJudge) → is_some old.found ≡ false → StandsForHinted f steps old → HasJudgedHinted f steps fault (record old { found = Some (judgement.Malformed fault.line fault.why) })
refused_open f steps fault old is s ok = ap (λ (j : Judgement). Some j) (sym (judged_end f steps (Some fault) old ok s ∙ open_still old old.found (Some fault) [] is))

found_is : (judge : HintedJudge) (found : Option Judgement) (fault : Option ProofFault) → is_some found ≡ true → found ≡ Some (continued judge found fault [])
found_is judge None fault never = absurd (cc)
found_is judge (Some j) fault is = refl

pub refused_found : (f : Formula) (steps : List HintedEnded) (fault : ProofFault) (old : HintedJudge) → is_some old.found ≡ true → StandsForHinted f steps old → HasJudgedHinted f steps fault old
refused_found f steps fault old is s ok = found_is old old.found (Some fault) is ∙ ap (λ (j : Judgement). Some j) (sym (judged_end f steps (Some fault) old ok s))

-- ---- the formula's clauses

named_more : (n : ℕ) (clauses : List (List ℕ)) (clause : List ℕ) (i : ℕ) → with_clause (named_from n clauses) (n + length clauses) clause i ≡ named_from n (clauses ++ clause ∷ []) i
named_more n [] clause i = ap (λ (k : ℕ). if i == k then Some clause else None) (omega arith)
named_more n (c ∷ cs) clause i = by n c cs clause i (named_more (suc n) cs clause i) (i == n) refl
  where
    apart : (n i : ℕ) (c : List ℕ) (cs : List (List ℕ)) → (i == n) ≡ true → (i == n + length (c ∷ cs)) ≡ false
    apart n i c cs e = grind (arith, nat_tests, e)

    by : (n : ℕ) (c : List ℕ) (cs : List (List ℕ)) (clause : List ℕ) (i : ℕ) → with_clause (named_from (suc n) cs) (suc n + length cs) clause i ≡ named_from (suc n) (cs ++ clause ∷ []) i → (b : Bool) → (i == n) ≡ b → (if i == n + length (c ∷ cs) then Some clause else (if b then Some c else named_from (suc n) cs i)) ≡ (if b then Some c else named_from (suc n) (cs ++ clause ∷ []) i)
    by n c cs clause i rest true e = ap (λ (t : Bool). if t then Some clause else Some c) (apart n i c cs e)
    by n c cs clause i rest false e = ap (λ (k : ℕ). if i == k then Some clause else named_from (suc n) cs i) (omega arith) ∙ rest

or_none : (b : Bool) → (b || false) ≡ b
or_none true = refl
or_none false = refl

none_more : (b x y r : Bool) → (b || x) ≡ false → (x ≡ false → y ≡ r) → (b || y) ≡ r
none_more true x y r never h = absurd (cc)
none_more false x y r none h = h none

some_more : (b x y : Bool) → (b || x) ≡ true → (x ≡ true → y ≡ true) → (b || y) ≡ true
some_more true x y some h = refl
some_more false x y some h = h some

any_more : (clauses : List (List ℕ)) (clause : List ℕ) → list_any is_nothing clauses ≡ false → list_any is_nothing (clauses ++ clause ∷ []) ≡ is_nothing clause
any_more [] clause none = or_none (is_nothing clause)
any_more (c ∷ cs) clause none = none_more (is_nothing c) (list_any is_nothing cs) (list_any is_nothing (cs ++ clause ∷ [])) (is_nothing clause) none (any_more cs clause)

any_still : (clauses : List (List ℕ)) (clause : List ℕ) → list_any is_nothing clauses ≡ true → list_any is_nothing (clauses ++ clause ∷ []) ≡ true
any_still [] clause never = absurd (cc)
any_still (c ∷ cs) clause some = some_more (is_nothing c) (list_any is_nothing cs) (list_any is_nothing (cs ++ clause ∷ [])) some (any_still cs clause)

-- the judge took a clause more
pub begins_found : (f : Formula) (clause : List ℕ) (judge : HintedJudge) → is_some judge.found ≡ true → BeginsHinted f judge → BeginsHinted (record f { clauses = f.clauses ++ clause ∷ [] }) judge
begins_found f clause judge is b ok = at judge.found is (b ok)
  where
    at : (found : Option Judgement) → is_some found ≡ true → BeginsHintedAt f judge found → BeginsHintedAt (record f { clauses = f.clauses ++ clause ∷ [] }) judge found
    at None never h = absurd (cc)
    at (Some j) is h = (h.0, any_still f.clauses clause h.1)

at_none : (f : Formula) (judge : HintedJudge) (found : Option Judgement) → is_some found ≡ false → BeginsHintedAt f judge found → BeginsHintedAt f judge None
at_none f judge None is h = h
at_none f judge (Some j) never h = absurd (cc)

none_is : (found : Option Judgement) → is_some found ≡ false → found ≡ None
none_is None is = refl
none_is (Some j) never = absurd (cc)

pub begins_derived : (f : Formula) (clause : List ℕ) (old : HintedJudge) → is_some old.found ≡ false → is_nothing clause ≡ true → BeginsHinted f old → BeginsHinted (record f { clauses = f.clauses ++ clause ∷ [] }) (record old { found = Some (judgement.Derived 0) })
begins_derived f clause old is empty b ok = (refl, any_more f.clauses clause (at_none f old old.found is (b ok)).2 ∙ empty)

pub begins_kept : (f : Formula) (clause : List ℕ) (old new : HintedJudge) → is_some old.found ≡ false → is_nothing clause ≡ false → new.found ≡ old.found → (new.failed ≡ false → (old.failed ≡ false) × ((i : ℕ) → clause_of new.named i ≡ with_clause (clause_of old.named) (old.last + 1) clause i) × (new.last ≡ old.last + 1))
    → BeginsHinted f old → BeginsHinted (record f { clauses = f.clauses ++ clause ∷ [] }) new
begins_kept f clause old new is some found kept b ok =
    let was : BeginsHintedAt f old None = at_none f old old.found is (b (kept ok).0) in
    subst (BeginsHintedAt (record f { clauses = f.clauses ++ clause ∷ [] }) new) (sym (found ∙ none_is old.found is)) (
      λ i. (kept ok).1 i
          ∙ ap (λ (n : Named). with_clause n (old.last + 1) clause i) (λ j k. was.0 k j)
          ∙ ap (λ (n : ℕ). with_clause (named_from 1 f.clauses) n clause i) (omega (arith, was.1))
          ∙ named_more 1 f.clauses clause i,
      (kept ok).2 ∙ omega (arith, was.1, length-append f.clauses (clause ∷ [])),
      any_more f.clauses clause was.2 ∙ some,
    )
