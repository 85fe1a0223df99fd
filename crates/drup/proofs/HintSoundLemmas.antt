-- What hints show is so: where a proof with hints is accepted, nothing satisfies the formula.
use Rattle.std.proofs.Common.{◌≡◌, ℕ, zero, suc, ◌<◌, Bool, true, false, ◌⊎◌, inl, inr, ⊎_elim, List, [], ◌∷◌, length, get_or, refl, ap, subst, ◌∙◌, arith}
use Rattle.std.specs.Prelude.{◌==◌, ◌||◌, not, nat_lt, if◌then◌else◌, fold, Option, Some, None}
use Rattle.std.specs.List.{list_any}
use Rattle.std.proofs.lemmas.Bool.Decides.{nat_tests}
use Rattle.base.specs.Decimals.{is_nothing}
use Rattle.base.specs.Literal.{negation, Valuation, literal_value}
use Rattle.base.proofs.LiteralLemmas.{literal_value-negation}
use Rattle.drup.specs.declared.hints.Open.{Open}
use Rattle.drup.specs.declared.hints.Open.TheVariants as opening
use Rattle.drup.specs.declared.hints.Finding.{Finding}
use Rattle.drup.specs.declared.hints.Finding.TheVariants as finding
use Rattle.drup.specs.declared.judgement.Judgement.{Judgement}
use Rattle.drup.specs.declared.judgement.Judgement.TheVariants as judgement
use Rattle.drup.specs.declared.why.Why.TheVariants as why
use Rattle.drup.specs.Formula.{Formula, SatisfiesClause, SatisfiesClauses, IsUnsatisfiable}
use Rattle.drup.specs.Proofs.{ProofFault}
use Rattle.drup.specs.Propagation.{Literals, no_literal}
use Rattle.drup.specs.Judgements.{at_end}
use Rattle.drup.specs.Hints.{Named, named_from, with_clause, without_clause, with_marked, with_negation, negated, and_open, with_seen, open_in, by_open, by_clause, follow, addition, deletion, HintedEnded, ended, by_finding, judge_named, HintedReading, judge_hinted}

-- ---- what is open

abbrev Covered : Literals → Open → ℕ → Type 0
Covered s opening.Nothing k = s (negation k) ≡ true
Covered s (opening.Only l) k = (s (negation k) ≡ true) ⊎ (k ≡ l)
Covered s opening.More k = Unit {0}

and_keeps : (s : Literals) (o : Open) (x k : ℕ) → Covered s o k → Covered s (and_open o x) k
and_keeps s opening.Nothing x k c = inl c
and_keeps s (opening.Only l) x k c = pick (l == x)
  where
    pick : (t : Bool) → Covered s (if t then opening.Only l else opening.More) k
    pick true = c
    pick false = tt
and_keeps s opening.More x k c = tt

seen_keeps : (s : Literals) (o : Open) (x k : ℕ) → Covered s o k → Covered s (with_seen s o x) k
seen_keeps s o x k c = pick (s (negation x))
  where
    pick : (t : Bool) → Covered s (if t then o else and_open o x) k
    pick true = c
    pick false = and_keeps s o x k c

and_covers : (s : Literals) (o : Open) (x : ℕ) → Covered s (and_open o x) x
and_covers s opening.Nothing x = inr refl
and_covers s (opening.Only l) x = pick (l == x) refl
  where
    pick : (t : Bool) → (l == x) ≡ t → Covered s (if t then opening.Only l else opening.More) x
    pick true e = inr (grind (arith, nat_tests, e))
    pick false e = tt
and_covers s opening.More x = tt

marked_covers : (s : Literals) (o : Open) (x : ℕ) → s (negation x) ≡ true → Covered s o x
marked_covers s opening.Nothing x on = on
marked_covers s (opening.Only l) x on = inl on
marked_covers s opening.More x on = tt

seen_covers : (s : Literals) (o : Open) (x : ℕ) → Covered s (with_seen s o x) x
seen_covers s o x = pick (s (negation x)) refl
  where
    pick : (t : Bool) → s (negation x) ≡ t → Covered s (if t then o else and_open o x) x
    pick true e = marked_covers s o x e
    pick false e = and_covers s o x

fold_keeps : (s : Literals) (o : Open) (xs : List ℕ) (k : ℕ) → Covered s o k → Covered s (fold (with_seen s) o xs) k
fold_keeps s o [] k c = c
fold_keeps s o (x ∷ xs) k c = fold_keeps s (with_seen s o x) xs k (seen_keeps s o x k c)

covers : (s : Literals) (o : Open) (xs : List ℕ) (i : ℕ) → i < length xs → Covered s (fold (with_seen s) o xs) (get_or xs i 0)
covers s o [] i h = absurd (omega (arith, h))
covers s o (x ∷ xs) zero h = fold_keeps s (with_seen s o x) xs x (seen_covers s o x)
covers s o (x ∷ xs) (suc i) h = covers s (with_seen s o x) xs i (omega (arith, h))

-- ---- hints

abbrev AreTrue : Valuation → Literals → Type 0
AreTrue a s = (l : ℕ) → s l ≡ true → literal_value a l ≡ true

abbrev SatisfiesAny : Valuation → Option (List ℕ) → Type 0
SatisfiesAny a None = Unit {0}
SatisfiesAny a (Some clause) = SatisfiesClause a clause

abbrev SatisfiesNamed : Valuation → Named → Type 0
SatisfiesNamed a named = (id : ℕ) → SatisfiesAny a (named id)

abbrev is_falsified : Finding → Bool
is_falsified finding.Falsified = true
is_falsified finding.Unnamed = false
is_falsified finding.Unshown = false

both : (a : Valuation) (l : ℕ) → literal_value a l ≡ true → literal_value a (negation l) ≡ true → ⊥
both a l on also = let off : literal_value a (negation l) ≡ false = literal_value-negation a l ∙ ap not on in cc

more_true : (a : Valuation) (s : Literals) (l : ℕ) → AreTrue a s → literal_value a l ≡ true → AreTrue a (with_marked s l)
more_true a s l all on k = pick (k == l) refl
  where
    pick : (t : Bool) → (k == l) ≡ t → (t || s k) ≡ true → literal_value a k ≡ true
    pick true e h = let same : l ≡ k = grind (arith, nat_tests, e) in subst (λ (n : ℕ). literal_value a n ≡ true) same on
    pick false e h = all k h

-- a clause that is satisfied is not falsified, and what is given of it is true
open_sound : (a : Valuation) (s : Literals) (rest : Literals → Finding) (o : Open) (k : ℕ) → AreTrue a s → literal_value a k ≡ true → Covered s o k → ((t : Literals) → AreTrue a t → is_falsified (rest t) ≡ true → ⊥) → is_falsified (by_open rest s o) ≡ true → ⊥
open_sound a s rest opening.Nothing k all on c sound h = both a k on (all (negation k) c)
open_sound a s rest (opening.Only l) k all on c sound h =
    sound (with_marked s l)
    (more_true a s l all (⊎_elim (λ (e : s (negation k) ≡ true). absurd (both a k on (all (negation k) e))) (λ (e : k ≡ l). subst (λ (n : ℕ). literal_value a n ≡ true) e on) c)) h
open_sound a s rest opening.More k all on c sound h = absurd (cc)

clause_sound : (a : Valuation) (s : Literals) (rest : Literals → Finding) (o : Option (List ℕ)) → AreTrue a s → SatisfiesAny a o → ((t : Literals) → AreTrue a t → is_falsified (rest t) ≡ true → ⊥) → is_falsified (by_clause rest s o) ≡ true → ⊥
clause_sound a s rest None all sat sound h = absurd (cc)
clause_sound a s rest (Some clause) all sat sound h = open_sound a s rest (open_in s clause) (get_or clause sat.0 0) all sat.2 (covers s opening.Nothing clause sat.0 sat.1) sound h

follow_sound : (a : Valuation) (named : Named) (s : Literals) (hints : List ℕ) → SatisfiesNamed a named → AreTrue a s → is_falsified (follow named s hints) ≡ true → ⊥
follow_sound a named s [] sat all h = absurd (cc)
follow_sound a named s (hint ∷ hints) sat all h = clause_sound a s (λ t. follow named t hints) (named hint) all (sat hint) (λ t own. follow_sound a named t hints sat own) h

-- ---- a step

negated_true : (a : Valuation) (s : Literals) (clause : List ℕ) → AreTrue a s → ((i : ℕ) → i < length clause → literal_value a (get_or clause i 0) ≡ false) → AreTrue a (fold with_negation s clause)
negated_true a s [] all off = all
negated_true a s (x ∷ xs) all off =
    negated_true a (with_negation s x) xs (more_true a s (negation x) all (literal_value-negation a x ∙ ap not (off 0 (omega arith)))) (λ i low. off (suc i) (omega (arith, low)))

no_literal_true : (a : Valuation) → AreTrue a no_literal
no_literal_true a l never = absurd (cc)

some_true : (a : Valuation) (clause : List ℕ) → SatisfiesClause a clause ⊎ ((i : ℕ) → i < length clause → literal_value a (get_or clause i 0) ≡ false)
some_true a [] = inr (λ i low. absurd (omega (arith, low)))
some_true a (x ∷ xs) = by a x xs (some_true a xs) (literal_value a x) refl
  where
    all_off : (a : Valuation) (x : ℕ) (xs : List ℕ) → literal_value a x ≡ false → ((i : ℕ) → i < length xs → literal_value a (get_or xs i 0) ≡ false) → (i : ℕ) → i < length (x ∷ xs) → literal_value a (get_or (x ∷ xs) i 0) ≡ false
    all_off a x xs e off zero low = e
    all_off a x xs e off (suc i) low = off i (omega (arith, low))

    by : (a : Valuation) (x : ℕ) (xs : List ℕ) → SatisfiesClause a xs ⊎ ((i : ℕ) → i < length xs → literal_value a (get_or xs i 0) ≡ false) → (b : Bool) → literal_value a x ≡ b → SatisfiesClause a (x ∷ xs) ⊎ ((i : ℕ) → i < length (x ∷ xs) → literal_value a (get_or (x ∷ xs) i 0) ≡ false)
    by a x xs rest true e = inl (0, omega arith, e)
    by a x xs (inl sat) false e = inl (suc sat.0, omega (arith, sat.1), sat.2)
    by a x xs (inr off) false e = inr (all_off a x xs e off)

pub shown_satisfied : (a : Valuation) (named : Named) (clause hints : List ℕ) → SatisfiesNamed a named → is_falsified (follow named (negated clause) hints) ≡ true → SatisfiesClause a clause
shown_satisfied a named clause hints sat h =
    ⊎_elim
    (λ (own : SatisfiesClause a clause). own)
    (λ (off : (i : ℕ) → i < length clause → literal_value a (get_or clause i 0) ≡ false). absurd (follow_sound a named (negated clause) hints sat (negated_true a no_literal clause (no_literal_true a) off) h))
    (some_true a clause)

-- ---- steps

abbrev is_derived : Judgement → Bool
is_derived (judgement.Derived line) = true
is_derived (judgement.NotImplied line) = false
is_derived (judgement.Malformed line w) = false
is_derived judgement.NotDerived = false

with_satisfied : (a : Valuation) (named : Named) (id : ℕ) (clause : List ℕ) → SatisfiesNamed a named → SatisfiesClause a clause → SatisfiesNamed a (with_clause named id clause)
with_satisfied a named id clause sat own i = pick (i == id)
  where
    pick : (t : Bool) → SatisfiesAny a (if t then Some clause else named i)
    pick true = own
    pick false = sat i

without_satisfied : (a : Valuation) (named : Named) (id : ℕ) → SatisfiesNamed a named → SatisfiesNamed a (without_clause named id)
without_satisfied a named id sat i = pick (i == id)
  where
    pick : (t : Bool) → SatisfiesAny a (if t then None else named i)
    pick true = tt
    pick false = sat i

end_sound : (fault : Option ProofFault) → is_derived (at_end fault) ≡ true → ⊥
end_sound None never = absurd (cc)
end_sound (Some f) never = absurd (cc)

kept_sound : (a : Valuation) (n : ℕ) (clause : List ℕ) (rest : Judgement) → SatisfiesClause a clause → (is_derived rest ≡ true → ⊥) → is_derived (if is_nothing clause then judgement.Derived n else rest) ≡ true → ⊥
kept_sound a n [] rest sat sound h = omega (arith, sat.1)
kept_sound a n (x ∷ xs) rest sat sound h = sound h

finding_sound : (a : Valuation) (n : ℕ) (clause : List ℕ) (rest : Judgement) (f : Finding) → (is_falsified f ≡ true → SatisfiesClause a clause) → (SatisfiesClause a clause → is_derived rest ≡ true → ⊥) → is_derived (by_finding n clause rest f) ≡ true → ⊥
finding_sound a n clause rest finding.Falsified shown sound h = kept_sound a n clause rest (shown refl) (sound (shown refl)) h
finding_sound a n clause rest finding.Unnamed shown sound h = absurd (cc)
finding_sound a n clause rest finding.Unshown shown sound h = absurd (cc)

id_sound : (n : ℕ) (b : Bool) (j : Judgement) → (is_derived j ≡ true → ⊥) → is_derived (if b then j else judgement.Malformed n why.BadId) ≡ true → ⊥
id_sound n true j sound h = sound h
id_sound n false j sound h = absurd (cc)

steps_sound : (a : Valuation) (fault : Option ProofFault) (steps : List HintedEnded) (named : Named) (last : ℕ) → SatisfiesNamed a named → is_derived (judge_named fault steps named last) ≡ true → ⊥
steps_sound a fault [] named last sat h = end_sound fault h
steps_sound a fault (ended n (addition id clause hints) ∷ steps) named last sat h =
    id_sound n (nat_lt last id) (by_finding n clause (judge_named fault steps (with_clause named id clause) id) (follow named (negated clause) hints))
    (finding_sound a n clause (judge_named fault steps (with_clause named id clause) id) (follow named (negated clause) hints) (shown_satisfied a named clause hints sat)
    (λ own. steps_sound a fault steps (with_clause named id clause) id (with_satisfied a named id clause sat own))) h
steps_sound a fault (ended n (deletion id) ∷ steps) named last sat h = steps_sound a fault steps (without_clause named id) last (without_satisfied a named id sat) h

named_satisfied : (a : Valuation) (n : ℕ) (clauses : List (List ℕ)) → SatisfiesClauses a clauses → SatisfiesNamed a (named_from n clauses)
named_satisfied a n [] sat i = tt
named_satisfied a n (clause ∷ clauses) sat i = pick (sat 0 (omega arith)) (named_satisfied a (suc n) clauses (λ k low. sat (suc k) (omega (arith, low))) i) (i == n)
  where
    pick : SatisfiesClause a clause → SatisfiesAny a (named_from (suc n) clauses i) → (t : Bool) → SatisfiesAny a (if t then Some clause else named_from (suc n) clauses i)
    pick own rest true = own
    pick own rest false = rest

empty_unsatisfied : (a : Valuation) (clauses : List (List ℕ)) → list_any is_nothing clauses ≡ true → SatisfiesClauses a clauses → ⊥
empty_unsatisfied a [] never sat = absurd (cc)
empty_unsatisfied a ([] ∷ clauses) some sat = omega (arith, (sat 0 (omega arith)).1)
empty_unsatisfied a ((x ∷ xs) ∷ clauses) some sat = empty_unsatisfied a clauses some (λ k low. sat (suc k) (omega (arith, low)))

pub hinted_sound : (f : Formula) (reading : HintedReading) (line : ℕ) → judge_hinted f reading ≡ judgement.Derived line → IsUnsatisfiable f
hinted_sound f reading line is a sat = pick (list_any is_nothing f.clauses) refl (ap is_derived is)
  where
    pick : (t : Bool) → list_any is_nothing f.clauses ≡ t → is_derived (if t then judgement.Derived 0 else judge_named reading.fault reading.steps (named_from 1 f.clauses) (length f.clauses)) ≡ true → ⊥
    pick true e h = empty_unsatisfied a f.clauses e sat
    pick false e h = steps_sound a reading.fault reading.steps (named_from 1 f.clauses) (length f.clauses) (named_satisfied a 1 f.clauses sat) h
