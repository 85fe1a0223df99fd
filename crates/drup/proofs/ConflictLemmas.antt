-- Assumptions, and conflicts that unit propagation meets from them.
use Rattle.std.proofs.Common.{◌≡◌, ◌≢◌, ℕ, ◌+◌, ◌<◌, Bool, true, false, List, [], ◌∷◌, length, get_or, ⊎_elim, refl, sym, ap, subst, ◌∙◌, arith, length-append}
use Rattle.std.proofs.lemmas.Bool.{cases_eq}
use Rattle.std.proofs.lemmas.List.{length-set, get_or_append_left}
use Rattle.drup.specs.Flat.{standing}
use Rattle.drup.proofs.StandingLemmas.{stands, stood, closed_standing, closed_places}
use Rattle.base.proofs.LiteralLemmas.{negation-negation}
use Rattle.drup.proofs.PassLemmas.{with_literal, with_literal-within, with_literal-consistent, with_literal-kept, with_literal-on}
use Rattle.std.specs.Prelude.{IsTrue, ◌↔◌}
use Rattle.base.specs.Literal.{negation}
use Rattle.drup.specs.Propagation.{Literals, AllNegated, IsClosed, Conflict, Implied}
use Rattle.drup.specs.Propagation.Conflict.{opposite, falsified}
use Rattle.drup.specs.Marked.{Marked, set_of, IsConsistent}
use Rattle.drup.specs.Growth.{Assumes, AssumesAll, AssumedOne, Contradicts, AreSettled, Finished}

pub AssumesAll-begin : (clause : List ℕ) (m : Marked) → IsConsistent m → AssumesAll clause 0 m m
AssumesAll-begin clause m c = record { follows = λ s within negated. within; consistent = c; as_many = refl; longer = omega arith; kept = λ l on. on; prefix = λ j h. refl; negated = λ j h. absurd (omega arith) }

module _ (clause : List ℕ) (i l : ℕ) (old now new : Marked) (a : AssumesAll clause i old now) (h : i < length clause) (is : l ≡ get_or clause i 0) where
  own_negated : (s : Literals) → AllNegated clause s → s (negation l) ≡ true
  own_negated s negated = ap (λ (x : ℕ). s (negation x)) is ∙ negated i h

  pub AssumesAll-more : AssumedOne l now new false → AssumesAll clause (i + 1) old new
  AssumesAll-more b = record {
    follows = λ s within negated. b.follows s (a.follows s within negated) (own_negated s negated);
    consistent = b.consistent;
    as_many = b.as_many ∙ a.as_many;
    longer = omega (arith, a.longer, b.longer);
    kept = λ l on. b.kept l (a.kept l on);
    prefix = λ j below. b.prefix j (omega (arith, a.longer)) ∙ a.prefix j below;
    negated = λ j below.
        ⊎_elim
        (λ (e : j ≡ i). ap (λ (x : ℕ). set_of new (negation x)) (ap (λ (k : ℕ). get_or clause k 0) e ∙ sym is) ∙ b.negated)
        (λ (ne : j ≢ i). b.kept (negation (get_or clause j 0)) (a.negated j (omega arith)))
        (cases_eq j i);
  }

  pub contradicts : set_of now l ≡ true → Contradicts clause old
  contradicts on s within negated = (l, a.follows s within negated l on, own_negated s negated)

pub implied_by_contradiction : (clauses : List (List ℕ)) (clause : List ℕ) (old : Marked) → Contradicts clause old → Implied clauses (set_of old) clause
implied_by_contradiction clauses clause old c s closed within negated = let both = c s within negated in opposite both.0 both.1 both.2

-- a clause at a place that is falsified is one of those that stand
pub falsified_standing : (clauses : List (List ℕ)) (s : Literals) (k : ℕ) → 0 < length (get_or clauses k []) → AllNegated (get_or clauses k []) s → Conflict (standing clauses) s
falsified_standing clauses s k some all = let own = stands clauses k some in falsified own.0 own.1 (subst (λ (c : List ℕ). AllNegated c s) (sym own.2) all)

implied_by_falsified : (clauses : List (List ℕ)) (clause : List ℕ) (old between new : Marked) → AssumesAll clause (length clause) old between → Finished clauses between new true → Implied (standing clauses) (set_of old) clause
implied_by_falsified clauses clause old between new a f s closed within negated =
    let within' = f.0.follows s (closed_places clauses s closed) (a.follows s within negated) in
    falsified_standing clauses s f.1.0 f.1.1 (λ i h. within' _ (f.1.2 i h))

pub no_conflict : (clauses : List (List ℕ)) (m : Marked) → IsConsistent m → AreSettled clauses m → Conflict (standing clauses) (set_of m) → ⊥
no_conflict clauses m c settled (opposite l on also) = c l on also
no_conflict clauses m c settled (falsified j h all) = let own = stood clauses j h in (settled own.0 own.1).open_still (subst (λ (clause : List ℕ). AllNegated clause (set_of m)) (sym own.2) all)

pub settled_closed : (clauses : List (List ℕ)) (m : Marked) → AreSettled clauses m → IsClosed (standing clauses) (set_of m)
settled_closed clauses m settled = closed_standing clauses (set_of m) (λ k h i below others. (settled k (omega (arith, below))).closed i below others)

implies_none : (clauses : List (List ℕ)) (clause : List ℕ) (old between new : Marked) → AssumesAll clause (length clause) old between → Finished clauses between new false → Implied (standing clauses) (set_of old) clause → ⊥
implies_none clauses clause old between new a f implied =
    no_conflict clauses new f.0.consistent f.1 (implied (set_of new) (settled_closed clauses new f.1) (λ l on. f.0.kept l (a.kept l on)) (λ i h. f.0.kept _ (a.negated i h)))

pub implied_exactly : (clauses : List (List ℕ)) (clause : List ℕ) (old between new : Marked) (met : Bool) → AssumesAll clause (length clause) old between → Finished clauses between new met → IsTrue met ↔ Implied (standing clauses) (set_of old) clause
implied_exactly clauses clause old between new true a f = (λ _. implied_by_falsified clauses clause old between new a f, λ _. refl)
implied_exactly clauses clause old between new false a f = (λ no. absurd (cc), λ implied. absurd (implies_none clauses clause old between new a f implied))

pub assumes_literal : (m new : Marked) (l o : ℕ) → o ≡ negation l → new ≡ with_literal m o → IsConsistent m → set_of m l ≡ false → o < length m.marks → Assumes l m new
assumes_literal m new l o e is c off inside =
    rw is (record {
      follows = λ s within on. with_literal-within m o s within (ap s e ∙ on);
      consistent = with_literal-consistent m o c (ap (set_of m) (ap negation e ∙ negation-negation l) ∙ off);
      as_many = length-set m.marks o true;
      longer = omega (arith, length-append m.order (o ∷ []));
      kept = with_literal-kept m o inside;
      prefix = λ j h. get_or_append_left m.order (o ∷ []) 0 j h;
      negated = ap (λ (x : ℕ). set_of (with_literal m o) x) (sym e) ∙ with_literal-on m (with_literal m o) o refl inside;
    })
