-- Steps of unit propagation, clause by clause.
use Rattle.std.proofs.Common.{◌≡◌, ◌≢◌, ℕ, ◌<◌, true, false, List, [], ◌∷◌, ◌++◌, length, get_or, set, ⊎_elim, refl, sym, ap, subst, ◌∙◌, arith, length-append}
use Rattle.std.proofs.lemmas.Bool.{cases_eq}
use Rattle.std.proofs.lemmas.List.{length-set, get_or-set_same, get_or-set_other, get_or_append_left}
use Rattle.std.proofs.lemmas.List.Elements.{All-contains}
use Rattle.std.proofs.lemmas.Grind.{get_or_default_zero}
use Rattle.std.specs.Prelude.{Contains, All}
use Rattle.base.specs.Literal.{negation}
use Rattle.drup.specs.Propagation.{Literals, OthersNegated, IsClosedUnder}
use Rattle.drup.specs.Marked.{Marked, set_of, IsConsistent, IsWithin, IsKept}
use Rattle.drup.specs.Growth.{IsOpen, GrowsBy, GrowsMarked}
use Rattle.base.proofs.LiteralLemmas.{negation-negation, negation-other}

-- A literal more.

abbrev pub with_literal : Marked → ℕ → Marked
with_literal m l = record { marks = set m.marks l true; order = m.order ++ l ∷ [] }

pub others_within : (clause : List ℕ) (l : ℕ) (m : Marked) (s : Literals) → OthersNegated clause l (set_of m) → IsWithin m s → OthersNegated clause l s
others_within clause l m s others within i h ne = within (negation (get_or clause i 0)) (others i h ne)

pub gives : (clause : List ℕ) (l : ℕ) (s : Literals) → IsClosedUnder clause s → Contains clause l → OthersNegated clause l s → s l ≡ true
gives clause l s closed there others =
    let at : get_or clause there.0 0 ≡ l = sym (get_or_default_zero clause there.0 l there.1) ∙ there.2 in
    subst (λ (x : ℕ). s x ≡ true) at (closed there.0 there.1 (subst (λ (x : ℕ). OthersNegated clause x s) (sym at) others))

pub with_literal-within : (m : Marked) (l : ℕ) (s : Literals) → IsWithin m s → s l ≡ true → IsWithin (with_literal m l) s
with_literal-within m l s within own x on =
    ⊎_elim
    (λ (e : x ≡ l). ap s e ∙ own)
    (λ (ne : x ≢ l). within x (sym (get_or-set_other m.marks l x true false ne) ∙ on))
    (cases_eq x l)

pub with_literal-consistent : (m : Marked) (l : ℕ) → IsConsistent m → set_of m (negation l) ≡ false → IsConsistent (with_literal m l)
with_literal-consistent m l c off x on opposite =
    ⊎_elim
    (λ (e : x ≡ l).
    let ne : negation x ≢ l = λ f. negation-other l (sym (ap negation e) ∙ f) in
    let on' : set_of m (negation x) ≡ true = sym (get_or-set_other m.marks l (negation x) true false ne) ∙ opposite in
    let off' : set_of m (negation x) ≡ false = ap (λ (y : ℕ). set_of m (negation y)) e ∙ off in
    absurd (cc))
    (λ (ne : x ≢ l).
    let on' : set_of m x ≡ true = sym (get_or-set_other m.marks l x true false ne) ∙ on in
    ⊎_elim
    (λ (f : negation x ≡ l).
    let off' : set_of m x ≡ false = ap (set_of m) (sym (negation-negation x) ∙ ap negation f) ∙ off in
    absurd (cc))
    (λ (nf : negation x ≢ l). c x on' (sym (get_or-set_other m.marks l (negation x) true false nf) ∙ opposite))
    (cases_eq (negation x) l))
    (cases_eq x l)

pub with_literal-kept : (m : Marked) (l : ℕ) → l < length m.marks → IsKept m (with_literal m l)
with_literal-kept m l inside x on =
    ⊎_elim
    (λ (e : x ≡ l). ap (λ (y : ℕ). get_or (set m.marks l true) y false) e ∙ get_or-set_same m.marks l true false inside)
    (λ (ne : x ≢ l). get_or-set_other m.marks l x true false ne ∙ on)
    (cases_eq x l)

pub with_literal-on : (m new : Marked) (l : ℕ) → new ≡ with_literal m l → l < length m.marks → set_of new l ≡ true
with_literal-on m new l is inside = ap (λ (m : Marked). set_of m l) is ∙ get_or-set_same m.marks l true false inside

pub takes_literal : (clause : List ℕ) (m new : Marked) (l : ℕ) → new ≡ with_literal m l → IsConsistent m → IsOpen clause l (set_of m) → OthersNegated clause l (set_of m) → l < length m.marks → GrowsBy clause m new
takes_literal clause m new l is c opened others inside =
    rw is (record {
      follows = λ s closed within. with_literal-within m l s within (gives clause l s closed opened.0 (others_within clause l m s others within));
      consistent = with_literal-consistent m l c opened.1;
      as_many = length-set m.marks l true;
      longer = omega (arith, length-append m.order (l ∷ []));
      kept = with_literal-kept m l inside;
      prefix = λ j h. get_or_append_left m.order (l ∷ []) 0 j h;
    })

pub contained_inside : (n : ℕ) (clause : List ℕ) (l : ℕ) → All (λ l. l < n) clause → Contains clause l → l < n
contained_inside n clause l all there = All-contains (λ l. l < n) clause l all there

-- Marks that have grown.

pub Grows-begin : (clauses : List (List ℕ)) (m : Marked) → IsConsistent m → GrowsMarked clauses m m
Grows-begin clauses m c = record { follows = λ s closed within. within; consistent = c; as_many = refl; longer = omega arith; kept = λ l on. on; prefix = λ j h. refl }

pub Grows-more : (clauses : List (List ℕ)) (old now new : Marked) → GrowsMarked clauses old now → GrowsMarked clauses now new → GrowsMarked clauses old new
Grows-more clauses old now new g h = record {
  follows = λ s closed within. h.follows s closed (g.follows s closed within);
  consistent = h.consistent;
  as_many = h.as_many ∙ g.as_many;
  longer = omega (arith, g.longer, h.longer);
  kept = λ l on. h.kept l (g.kept l on);
  prefix = λ j below. h.prefix j (omega (arith, g.longer)) ∙ g.prefix j below;
}

pub Grows-by : (clauses : List (List ℕ)) (k : ℕ) (clause : List ℕ) (old new : Marked) → k < length clauses → clause ≡ get_or clauses k [] → GrowsBy clause old new → GrowsMarked clauses old new
Grows-by clauses k clause old new h is g = record {
  follows = λ s closed within. g.follows s (subst (λ (c : List ℕ). IsClosedUnder c s) (sym is) (closed k h)) within;
  consistent = g.consistent;
  as_many = g.as_many;
  longer = g.longer;
  kept = g.kept;
  prefix = g.prefix;
}
