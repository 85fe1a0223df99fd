-- Judges of steps.
use Rattle.std.proofs.Common.{◌≡◌, ℕ, arith, length-append, Bool, true, false, List, [], ◌∷◌, ◌++◌, inl, inr, refl, sym, ap, subst, ◌∙◌}
use Rattle.std.specs.Prelude.{Option, Some, None}
use Rattle.std.specs.Option.{is_some}
use Rattle.std.proofs.lemmas.List.{append-nil, get_or_append_left}
use Rattle.drup.specs.declared.judgement.Judgement.{Judgement}
use Rattle.drup.specs.declared.judgement.Judgement.TheVariants as judgement
use Rattle.drup.specs.Formula.{Formula}
use Rattle.drup.specs.Propagation.{Literals, no_literal, AllNegated, Holds, IsClosedUnder, IsClosed, IsClosure, MeetsConflict, Implied, Conflict}
use Rattle.drup.specs.Propagation.Conflict.{opposite, falsified}
use Rattle.drup.specs.Proofs.{addition, deletion, Ended, ended, ProofFault}
use Rattle.drup.specs.Without.{IsWithout}
use Rattle.drup.specs.Judgements.{JudgesSteps, JudgesReading}
use Rattle.drup.specs.Propagator.{State, Extended, in_list}
use Rattle.drup.specs.StepJudges.{StepJudge, Continues, StandsForSteps, HasJudged, LeadsOver, BeginsAt, BeginsSteps}

pub leads_derived : (old : State) (clause : List ℕ) (line : ℕ) → Implied old.clauses (in_list old.followed) clause → MeetsConflict (old.clauses ++ clause ∷ []) (in_list old.followed) → LeadsOver old clause line old (Some (judgement.Derived line))
leads_derived old clause line i met fault rest j e = inr (i, inl (met, e))

pub leads_on : (old : State) (clause : List ℕ) (line : ℕ) (new : State) → Implied old.clauses (in_list old.followed) clause → Extended old clause new → LeadsOver old clause line new None
leads_on old clause line new i x fault rest j h =
    let closure : IsClosure (old.clauses ++ clause ∷ []) (in_list old.followed) (in_list new.followed) = subst (λ (cs : List (List ℕ)). IsClosure cs (in_list old.followed) (in_list new.followed)) x.clauses x.closure in
    let free : MeetsConflict (old.clauses ++ clause ∷ []) (in_list old.followed) → ⊥ = λ met. x.free (subst (λ (cs : List (List ℕ)). Conflict cs (in_list new.followed)) (sym x.clauses) (met (in_list new.followed) closure.closed closure.holds)) in
    inr (i, inr (free, (in_list new.followed, (closure, subst (λ (cs : List (List ℕ)). JudgesSteps fault rest cs (in_list new.followed) j) x.clauses h))))

one_more : (steps rest : List Ended) (e : Ended) → (steps ++ e ∷ []) ++ rest ≡ steps ++ e ∷ rest
one_more [] rest e = refl
one_more (x ∷ xs) rest e = ap (λ (ys : List Ended). x ∷ ys) (one_more xs rest e)

stands_with : (f : Formula) (steps : List Ended) (e : Ended) (old new : StepJudge) → StandsForSteps f steps old → (new.failed ≡ false → old.failed ≡ false)
    → (new.failed ≡ false → (fault : Option ProofFault) (rest : List Ended) (j : Judgement) → Continues new.propagator new.found fault rest j → Continues old.propagator old.found fault (e ∷ rest) j)
    → StandsForSteps f (steps ++ e ∷ []) new
stands_with f steps e old new s was over ok fault rest j h =
    subst (λ (xs : List Ended). JudgesReading f (record { steps = xs; fault = fault }) j) (sym (one_more steps rest e)) (s (was ok) fault (e ∷ rest) j (over ok fault rest j h))

-- what was found stays
found_over : (state : State) (found : Option Judgement) → is_some found ≡ true → (fault : Option ProofFault) (e : Ended) (rest : List Ended) (j : Judgement) → Continues state found fault rest j → Continues state found fault (e ∷ rest) j
found_over state None no_one fault e rest j h = absurd (cc)
found_over state (Some d) is fault e rest j h = h

pub stands_found : (f : Formula) (steps : List Ended) (e : Ended) (judge : StepJudge) → is_some judge.found ≡ true → StandsForSteps f steps judge → StandsForSteps f (steps ++ e ∷ []) judge
stands_found f steps e judge is s = stands_with f steps e judge judge s (λ ok. ok) (λ ok fault rest j h. found_over judge.propagator judge.found is fault e rest j h)

deleted_over : (old new : State) (clause : List ℕ) (line : ℕ) (found : Option Judgement) → is_some found ≡ false → IsWithout old.clauses clause new.clauses → new.followed ≡ old.followed
    → (fault : Option ProofFault) (rest : List Ended) (j : Judgement) → Continues new found fault rest j → Continues old found fault (ended line (deletion clause) ∷ rest) j
deleted_over old new clause line (Some d) no_one w e fault rest j h = absurd (cc)
deleted_over old new clause line None is w e fault rest j h = (new.clauses, (w, subst (λ (m : List Bool). JudgesSteps fault rest new.clauses (in_list m) j) e h))

pub stands_deleted : (f : Formula) (steps : List Ended) (clause : List ℕ) (line : ℕ) (old : StepJudge) (new : State) → is_some old.found ≡ false → IsWithout old.propagator.clauses clause new.clauses → new.followed ≡ old.propagator.followed
    → StandsForSteps f steps old → StandsForSteps f (steps ++ ended line (deletion clause) ∷ []) (record { propagator = new; found = old.found; failed = old.failed })
stands_deleted f steps clause line old new is w e s =
    stands_with f steps (ended line (deletion clause)) old (record { propagator = new; found = old.found; failed = old.failed }) s (λ ok. ok) (λ ok fault rest j h. deleted_over old.propagator new clause line old.found is w e fault rest j h)

added_over : (old new : State) (clause : List ℕ) (line : ℕ) (before found : Option Judgement) → is_some before ≡ false → LeadsOver old clause line new found
    → (fault : Option ProofFault) (rest : List Ended) (j : Judgement) → Continues new found fault rest j → Continues old before fault (ended line (addition clause) ∷ rest) j
added_over old new clause line (Some d) found no_one l fault rest j h = absurd (cc)
added_over old new clause line None found is l fault rest j h = l fault rest j h

pub stands_added : (f : Formula) (steps : List Ended) (clause : List ℕ) (line : ℕ) (old : StepJudge) (new : State) (found : Option Judgement) → is_some old.found ≡ false → LeadsOver old.propagator clause line new found
    → StandsForSteps f steps old → StandsForSteps f (steps ++ ended line (addition clause) ∷ []) (record { propagator = new; found = found; failed = old.failed })
stands_added f steps clause line old new found is l s =
    stands_with f steps (ended line (addition clause)) old (record { propagator = new; found = found; failed = old.failed }) s (λ ok. ok) (λ ok fault rest j h. added_over old.propagator new clause line old.found found is l fault rest j h)

ends : (f : Formula) (steps : List Ended) (judge : StepJudge) (j : Judgement) → StandsForSteps f steps judge → judge.failed ≡ false → Continues judge.propagator judge.found None [] j → JudgesReading f (record { steps = steps; fault = None }) j
ends f steps judge j s ok h = subst (λ (xs : List Ended). JudgesReading f (record { steps = xs; fault = None }) j) (append-nil steps) (s ok None [] j h)

pub ends_found : (f : Formula) (steps : List Ended) (judge : StepJudge) (d : Judgement) → StandsForSteps f steps judge → judge.failed ≡ false → judge.found ≡ Some d → JudgesReading f (record { steps = steps; fault = None }) d
ends_found f steps judge d s ok is = ends f steps judge d s ok (subst (λ (o : Option Judgement). Continues judge.propagator o None [] d) (sym is) refl)

pub ends_without : (f : Formula) (steps : List Ended) (judge : StepJudge) → StandsForSteps f steps judge → judge.failed ≡ false → judge.found ≡ None → JudgesReading f (record { steps = steps; fault = None }) judgement.NotDerived
ends_without f steps judge s ok is = ends f steps judge judgement.NotDerived s ok (subst (λ (o : Option Judgement). Continues judge.propagator o None [] judgement.NotDerived) (sym is) refl)

-- ---- a fault behind the steps

with_fault : (f : Formula) (steps : List Ended) (fault : ProofFault) (judge : StepJudge) (j : Judgement) → StandsForSteps f steps judge → judge.failed ≡ false → Continues judge.propagator judge.found (Some fault) [] j
    → JudgesReading f (record { steps = steps; fault = Some fault }) j
with_fault f steps fault judge j s ok h = subst (λ (xs : List Ended). JudgesReading f (record { steps = xs; fault = Some fault }) j) (append-nil steps) (s ok (Some fault) [] j h)

pub judged_found : (f : Formula) (steps : List Ended) (fault : ProofFault) (judge : StepJudge) → is_some judge.found ≡ true → StandsForSteps f steps judge → HasJudged f steps fault judge
judged_found f steps fault judge is s ok = at judge.found refl is
  where
    at : (found : Option Judgement) → judge.found ≡ found → is_some found ≡ true → (d : Judgement) × ((judge.found ≡ Some d) × JudgesReading f (record { steps = steps; fault = Some fault }) d)
    at None e no_one = absurd (cc)
    at (Some d) e one = (d, (e, with_fault f steps fault judge d s ok (subst (λ (o : Option Judgement). Continues judge.propagator o (Some fault) [] d) (sym e) refl)))

pub judged_fault : (f : Formula) (steps : List Ended) (fault : ProofFault) (judge : StepJudge) → is_some judge.found ≡ false → StandsForSteps f steps judge
    → HasJudged f steps fault (record { propagator = judge.propagator; found = Some (judgement.Malformed fault.line fault.why); failed = judge.failed })
judged_fault f steps fault judge is s ok = (judgement.Malformed fault.line fault.why, (refl, with_fault f steps fault judge (judgement.Malformed fault.line fault.why) s ok (at judge.found is)))
  where
    at : (found : Option Judgement) → is_some found ≡ false → Continues judge.propagator found (Some fault) [] (judgement.Malformed fault.line fault.why)
    at (Some d) no_one = absurd (cc)
    at None none = refl

pub fault_found : (f : Formula) (steps : List Ended) (fault : ProofFault) (judge : StepJudge) (d : Judgement) → HasJudged f steps fault judge → judge.failed ≡ false → judge.found ≡ Some d → JudgesReading f (record { steps = steps; fault = Some fault }) d
fault_found f steps fault judge d h ok is = let own = h ok in let same : own.0 ≡ d = cc (sym own.1.0 ∙ is) in subst (JudgesReading f (record { steps = steps; fault = Some fault })) same own.1.1

pub fault_without : (f : Formula) (steps : List Ended) (fault : ProofFault) (judge : StepJudge) (P : Type 0) → HasJudged f steps fault judge → judge.failed ≡ false → judge.found ≡ None → P
fault_without f steps fault judge P h ok is = let own = h ok in let no : Some own.0 ≡ None = sym own.1.0 ∙ is in absurd (cc (no))

-- ---- before any step

pub stands_begun : (f : Formula) (judge : StepJudge) → BeginsSteps f judge → StandsForSteps f [] judge
stands_begun f judge b ok fault rest j h = begun f judge.propagator judge.found (b ok) fault rest j h
  where
    begun : (f : Formula) (state : State) (found : Option Judgement) → BeginsAt f state found → (fault : Option ProofFault) (rest : List Ended) (j : Judgement) → Continues state found fault rest j → JudgesReading f (record { steps = rest; fault = fault }) j
    begun f state (Some d) b fault rest j h = inl (b.1, h ∙ b.0)
    begun f state None b fault rest j h = inr (b.2, (in_list state.followed, (b.1, subst (λ (cs : List (List ℕ)). JudgesSteps fault rest cs (in_list state.followed) j) b.0 h)))

nothing_holds : (s : Literals) → Holds no_literal s
nothing_holds s l on = absurd (cc)

closed_front : (clauses : List (List ℕ)) (clause : List ℕ) (s : Literals) → IsClosed (clauses ++ clause ∷ []) s → IsClosed clauses s
closed_front clauses clause s closed k h = subst (λ (c : List ℕ). IsClosedUnder c s) (get_or_append_left clauses (clause ∷ []) [] k h) (closed k (omega (arith, h, length-append clauses (clause ∷ []))))

wider : (clauses : List (List ℕ)) (clause : List ℕ) (s : Literals) → Conflict clauses s → Conflict (clauses ++ clause ∷ []) s
wider clauses clause s (opposite l on also) = opposite l on also
wider clauses clause s (falsified k h all) = falsified k (omega (arith, h, length-append clauses (clause ∷ []))) (subst (λ (c : List ℕ). AllNegated c s) (sym (get_or_append_left clauses (clause ∷ []) [] k h)) all)

meets_wider : (clauses : List (List ℕ)) (clause : List ℕ) (given : Literals) → MeetsConflict clauses given → MeetsConflict (clauses ++ clause ∷ []) given
meets_wider clauses clause given met s closed holds = wider clauses clause s (met s (closed_front clauses clause s closed) holds)

no_start : IsClosure [] no_literal no_literal
no_start = record { holds = λ l on. on; closed = λ k h. absurd (omega (arith, h)); least = λ t closed holds. holds }

free_start : MeetsConflict [] no_literal → ⊥
free_start met = no_clause (met no_literal no_start.closed (λ l on. on))
  where
    no_clause : Conflict [] no_literal → ⊥
    no_clause (opposite l on also) = cc
    no_clause (falsified k h all) = omega (arith, h)

pub begins_empty : (variables : ℕ) (state : State) (failed : Bool) → state.clauses ≡ [] → ((l : ℕ) → in_list state.followed l ≡ false) → BeginsSteps (record { variables = variables; clauses = [] }) (record { propagator = state; found = None; failed = failed })
begins_empty variables state failed e off ok = (
  e,
  record { holds = nothing_holds (in_list state.followed); closed = λ k h. absurd (omega (arith, h)); least = λ t closed holds l on. absurd (off_on (in_list state.followed l) on (off l)) },
  free_start,
)
  where
    off_on : (b : Bool) → b ≡ true → b ≡ false → ⊥
    off_on true on off = cc
    off_on false on off = cc

given_found : (f : Formula) (clause : List ℕ) (state : State) (found : Option Judgement) → is_some found ≡ true → BeginsAt f state found → BeginsAt (record f { clauses = f.clauses ++ clause ∷ [] }) state found
given_found f clause state None no_one b = absurd (cc)
given_found f clause state (Some d) is b = (b.0, meets_wider f.clauses clause no_literal b.1)

pub begins_found : (f : Formula) (clause : List ℕ) (judge : StepJudge) → is_some judge.found ≡ true → BeginsSteps f judge → BeginsSteps (record f { clauses = f.clauses ++ clause ∷ [] }) judge
begins_found f clause judge is b ok = given_found f clause judge.propagator judge.found is (b ok)

given_met : (f : Formula) (clause : List ℕ) (old : State) (found : Option Judgement) → is_some found ≡ false → BeginsAt f old found → MeetsConflict (old.clauses ++ clause ∷ []) (in_list old.followed) → MeetsConflict (f.clauses ++ clause ∷ []) no_literal
given_met f clause old (Some d) no_one b met = absurd (cc)
given_met f clause old None is b met = λ s closed holds.
    (subst (λ (cs : List (List ℕ)). MeetsConflict (cs ++ clause ∷ []) (in_list old.followed)) b.0 met) s closed (b.1.least s (closed_front f.clauses clause s closed) holds)

pub begins_met : (f : Formula) (clause : List ℕ) (old : StepJudge) (new : State) (failed : Bool) → is_some old.found ≡ false → (failed ≡ false → old.failed ≡ false) → MeetsConflict (old.propagator.clauses ++ clause ∷ []) (in_list old.propagator.followed) → BeginsSteps f old
    → BeginsSteps (record f { clauses = f.clauses ++ clause ∷ [] }) (record { propagator = new; found = Some (judgement.Derived 0); failed = failed })
begins_met f clause old new failed is was met b ok = (refl, given_met f clause old.propagator old.found is (b (was ok)) met)

given_on : (f : Formula) (clause : List ℕ) (old new : State) (found : Option Judgement) → is_some found ≡ false → BeginsAt f old found → Extended old clause new → BeginsAt (record f { clauses = f.clauses ++ clause ∷ [] }) new found
given_on f clause old new (Some d) no_one b x = absurd (cc)
given_on f clause old new None is b x =
    let same : new.clauses ≡ f.clauses ++ clause ∷ [] = x.clauses ∙ ap (λ (cs : List (List ℕ)). cs ++ clause ∷ []) b.0 in
    let step : IsClosure (f.clauses ++ clause ∷ []) (in_list old.followed) (in_list new.followed) = subst (λ (cs : List (List ℕ)). IsClosure cs (in_list old.followed) (in_list new.followed)) same x.closure in
    let closure : IsClosure (f.clauses ++ clause ∷ []) no_literal (in_list new.followed) = record {
      holds = nothing_holds (in_list new.followed);
      closed = step.closed;
      least = λ t closed holds. step.least t closed (b.1.least t (closed_front f.clauses clause t closed) holds);
    } in
    (same, closure, λ met. x.free (subst (λ (cs : List (List ℕ)). Conflict cs (in_list new.followed)) (sym same) (met (in_list new.followed) closure.closed closure.holds)))

pub begins_on : (f : Formula) (clause : List ℕ) (old : StepJudge) (new : State) → is_some old.found ≡ false → Extended old.propagator clause new → BeginsSteps f old
    → BeginsSteps (record f { clauses = f.clauses ++ clause ∷ [] }) (record { propagator = new; found = old.found; failed = old.failed })
begins_on f clause old new is x b ok = given_on f clause old.propagator new old.found is (b ok) x
