-- An obligation is a formula over its variables.
use Rattle.std.proofs.Common.{◌≡◌, ◌≢◌, ℕ, zero, suc, ◌+◌, ◌-◌, ◌*◌, ◌/◌, ◌%◌, ◌<◌, ◌≤◌, List, [], ◌∷◌, ◌++◌, length, map, get_or, All, ⊎_elim, sym, subst, arith}
use Rattle.std.proofs.lemmas.Bool.{cases_eq}
use Rattle.std.proofs.lemmas.Bool.Decides.{nat_tests}
use Rattle.std.proofs.lemmas.List.Elements.{All-nil, All-cons, All-head, All-tail, All-append}
use Rattle.aiger.specs.declared.circuit.Gate.{Gate}
use Rattle.aiger.specs.declared.circuit.Latch.{Latch}
use Rattle.aiger.specs.Net.{IsDefined, AreOrderedFrom}
use Rattle.aiger.specs.Circuit.{Circuit, IsCircuit, net}
use Rattle.base.specs.Literal.{negation}
use Rattle.drup.specs.Formula.{IsLiteral, IsFormula}
use Rattle.certificates.specs.Invariants.{AreOver, bad_literal}
use Rattle.certificates.specs.Obligation.{truth_variable, rise_variable, cube_variable, over, gate_clauses, gates_clauses, outside_clause, taken_literal, next_literal, next_clauses, nexts_clauses, fails_clause, now_clauses, failing_clauses, obligation}
use Rattle.certificates.proofs.ClauseLemmas.{next_even, next_odd, literals_from, from_more}

-- a clause of a formula of so many variables, and clauses
abbrev pub IsClause : ℕ → List ℕ → Type 0
IsClause n clause = All (IsLiteral n) clause

abbrev pub AreClauses : ℕ → List (List ℕ) → Type 0
AreClauses n clauses = All (IsClause n) clauses

-- ---- literals

pub positive : (n v : ℕ) → 0 < v → v ≤ n → IsLiteral n (2 * v)
positive n v low high = (omega arith, omega arith)

pub negative : (n v : ℕ) → 0 < v → v ≤ n → IsLiteral n (2 * v + 1)
negative n v low high = (omega arith, omega arith)

pub negated : (n l : ℕ) → IsLiteral n l → IsLiteral n (negation l)
negated n l h =
    let low : 2 ≤ l = h.0 in
    let high : l < 2 * n + 2 = h.1 in
    (grind (arith, nat_tests), grind (arith, nat_tests))

-- a defined literal is one of the formula
pub over_is : (n truth l : ℕ) → 0 < truth → truth ≤ n → l < 2 * truth → IsLiteral n (over truth l)
over_is n truth zero low high h = negative n truth low high
over_is n truth (suc zero) low high h = positive n truth low high
over_is n truth (suc (suc l)) low high h =
    let is : over truth (suc (suc l)) ≡ suc (suc l) = grind (arith, nat_tests) in
    subst (IsLiteral n) (sym is) (omega arith, omega arith)

-- ---- clauses

one_of : (n l : ℕ) → IsLiteral n l → IsClause n (l ∷ [])
one_of n l h = All-cons (IsLiteral n) l [] h (All-nil (IsLiteral n))

two_of : (n l m : ℕ) → IsLiteral n l → IsLiteral n m → IsClause n (l ∷ m ∷ [])
two_of n l m h g = All-cons (IsLiteral n) l (m ∷ []) h (one_of n m g)

pub gate_are : (n truth v : ℕ) (g : Gate) → 0 < truth → truth ≤ n → 0 < v → v < truth → g.rhs0 < 2 * v → g.rhs1 ≤ g.rhs0 → AreClauses n (gate_clauses truth v g)
gate_are n truth v g low high one below o p =
    let first : IsLiteral n (over truth g.rhs0) = over_is n truth g.rhs0 low high (omega arith) in
    let second : IsLiteral n (over truth g.rhs1) = over_is n truth g.rhs1 low high (omega arith) in
    let off : IsLiteral n (2 * v + 1) = negative n v one (omega arith) in
    let on : IsLiteral n (2 * v) = positive n v one (omega arith) in
    let last : List ℕ = (2 * v) ∷ negation (over truth g.rhs0) ∷ negation (over truth g.rhs1) ∷ [] in
    All-cons (IsClause n) ((2 * v + 1) ∷ over truth g.rhs0 ∷ []) (((2 * v + 1) ∷ over truth g.rhs1 ∷ []) ∷ last ∷ []) (two_of n (2 * v + 1) (over truth g.rhs0) off first)
    (All-cons (IsClause n) ((2 * v + 1) ∷ over truth g.rhs1 ∷ []) (last ∷ []) (two_of n (2 * v + 1) (over truth g.rhs1) off second)
    (All-cons (IsClause n) last []
    (All-cons (IsLiteral n) (2 * v) (negation (over truth g.rhs0) ∷ negation (over truth g.rhs1) ∷ []) on
    (two_of n (negation (over truth g.rhs0)) (negation (over truth g.rhs1)) (negated n (over truth g.rhs0) first) (negated n (over truth g.rhs1) second)))
    (All-nil (IsClause n))))

gates_are : (n truth v : ℕ) (gs : List Gate) → 0 < truth → truth ≤ n → 0 < v → v + length gs ≤ truth → AreOrderedFrom v gs → AreClauses n (gates_clauses truth v gs)
gates_are n truth v [] low high one below o = All-nil (IsClause n)
gates_are n truth v (g ∷ gs) low high one below o =
    All-append (IsClause n) (gate_clauses truth v g) (gates_clauses truth (suc v) gs) (gate_are n truth v g low high one (omega arith) o.0 o.1) (gates_are n truth (suc v) gs low high (omega arith) (omega arith) o.2)

pub now_is : (d : Circuit) (n l : ℕ) → truth_variable d ≤ n → IsLiteral (length d.latches) l → IsLiteral n (negation (2 * d.inputs + l))
now_is d n l high h = negated n (2 * d.inputs + l) (omega (arith, h.0), omega (arith, h.1))

pub outside_is : (d : Circuit) (n : ℕ) (cube : List ℕ) → truth_variable d ≤ n → All (IsLiteral (length d.latches)) cube → IsClause n (outside_clause d cube)
outside_is d n [] high all = All-nil (IsLiteral n)
outside_is d n (l ∷ ls) high all =
    All-cons (IsLiteral n) (negation (2 * d.inputs + l)) (outside_clause d ls) (now_is d n l high (All-head (IsLiteral (length d.latches)) l ls all))
    (outside_is d n ls high (All-tail (IsLiteral (length d.latches)) l ls all))

outsides_are : (d : Circuit) (n : ℕ) (cubes : List (List ℕ)) → truth_variable d ≤ n → AreOver (length d.latches) cubes → AreClauses n (map (outside_clause d) cubes)
outsides_are d n [] high all = All-nil (IsClause n)
outsides_are d n (cube ∷ cubes) high all =
    All-cons (IsClause n) (outside_clause d cube) (map (outside_clause d) cubes) (outside_is d n cube high (All-head (All (IsLiteral (length d.latches))) cube cubes all))
    (outsides_are d n cubes high (All-tail (All (IsLiteral (length d.latches))) cube cubes all))

taken_below : (d : Circuit) (ls : List Latch) (k : ℕ) → All (λ latch. IsDefined (net d) latch.next) ls → get_or (map (λ latch. latch.next) ls) k 0 < 2 * truth_variable d
taken_below d [] k all = omega arith
taken_below d (l ∷ ls) zero all = let h : IsDefined (net d) l.next = All-head (λ (latch : Latch). IsDefined (net d) latch.next) l ls all in omega (arith, h)
taken_below d (l ∷ ls) (suc k) all = taken_below d ls k (All-tail (λ (latch : Latch). IsDefined (net d) latch.next) l ls all)

pub next_is : (d : Circuit) (n l : ℕ) → truth_variable d ≤ n → IsCircuit d → IsLiteral n (next_literal d l)
next_is d n l high valid =
    let taken : IsLiteral n (over (truth_variable d) (taken_literal d (l / 2 - 1))) =
    over_is n (truth_variable d) (taken_literal d (l / 2 - 1)) (omega arith) high (taken_below d d.latches (l / 2 - 1) valid.defined.nexts) in
    ⊎_elim
    (λ (e : l % 2 ≡ 0). subst (IsLiteral n) (sym (next_even d l e)) taken)
    (λ (ne : l % 2 ≢ 0). subst (IsLiteral n) (sym (next_odd d l ne)) (negated n (over (truth_variable d) (taken_literal d (l / 2 - 1))) taken))
    (cases_eq (l % 2) 0)

nexts_of : (d : Circuit) (n v : ℕ) (cube : List ℕ) → truth_variable d ≤ n → IsCircuit d → 0 < v → v ≤ n → AreClauses n (next_clauses d v cube)
nexts_of d n v [] high valid low below = All-nil (IsClause n)
nexts_of d n v (l ∷ ls) high valid low below =
    All-cons (IsClause n) ((2 * v + 1) ∷ next_literal d l ∷ []) (next_clauses d v ls) (two_of n (2 * v + 1) (next_literal d l) (negative n v low below) (next_is d n l high valid))
    (nexts_of d n v ls high valid low below)

nexts_are : (d : Circuit) (n v : ℕ) (cubes : List (List ℕ)) → truth_variable d ≤ n → IsCircuit d → 0 < v → v + length cubes ≤ suc n → AreClauses n (nexts_clauses d v cubes)
nexts_are d n v [] high valid low below = All-nil (IsClause n)
nexts_are d n v (cube ∷ cubes) high valid low below =
    All-append (IsClause n) (next_clauses d v cube) (nexts_clauses d (suc v) cubes) (nexts_of d n v cube high valid low (omega arith)) (nexts_are d n (suc v) cubes high valid (omega arith) (omega arith))

literals_are : (n v count : ℕ) → 0 < v → v + count ≤ suc n → IsClause n (literals_from v count)
literals_are n v zero low high = All-nil (IsLiteral n)
literals_are n v (suc count) low high =
    subst (IsClause n) (sym (from_more v count)) (All-cons (IsLiteral n) (2 * v) (literals_from (suc v) count) (positive n v low (omega arith)) (literals_are n (suc v) count (omega arith) (omega arith)))

bad_below : (d : Circuit) (bads : List ℕ) → All (IsDefined (net d)) bads → get_or bads 0 0 < 2 * truth_variable d
bad_below d [] all = omega arith
bad_below d (b ∷ bads) all = let h : IsDefined (net d) b = All-head (IsDefined (net d)) b bads all in omega (arith, h)

now_are : (d : Circuit) (n : ℕ) (cubes : List (List ℕ)) → truth_variable d ≤ n → IsCircuit d → AreOver (length d.latches) cubes → AreClauses n (now_clauses d cubes)
now_are d n cubes high valid inside =
    let gates : List (List ℕ) = gates_clauses (truth_variable d) (suc (d.inputs + length d.latches)) d.gates in
    let outs : List (List ℕ) = map (outside_clause d) cubes in
    All-cons (IsClause n) ((2 * truth_variable d) ∷ []) (gates ++ outs) (one_of n (2 * truth_variable d) (positive n (truth_variable d) (omega arith) high))
    (All-append (IsClause n) gates outs (gates_are n (truth_variable d) (suc (d.inputs + length d.latches)) d.gates (omega arith) high (omega arith) (omega arith) valid.ordered)
    (outsides_are d n cubes high inside))

failing_are : (d : Circuit) (n : ℕ) (cubes : List (List ℕ)) → rise_variable d + length cubes ≤ n → IsCircuit d → AreClauses n (failing_clauses d cubes)
failing_are d n cubes high valid =
    let nexts : List (List ℕ) = nexts_clauses d (cube_variable d) cubes in
    let last : List (List ℕ) = fails_clause d (length cubes) ∷ [] in
    All-cons (IsClause n) ((2 * rise_variable d + 1) ∷ over (truth_variable d) (bad_literal d) ∷ []) (nexts ++ last)
    (two_of n (2 * rise_variable d + 1) (over (truth_variable d) (bad_literal d)) (negative n (rise_variable d) (omega arith) (omega arith)) (over_is n (truth_variable d) (bad_literal d) (omega arith) (omega arith) (bad_below d d.bads valid.defined.bads)))
    (All-append (IsClause n) nexts last (nexts_are d n (cube_variable d) cubes (omega arith) valid (omega arith) (omega arith))
    (All-cons (IsClause n) (fails_clause d (length cubes)) []
    (All-cons (IsLiteral n) (2 * rise_variable d) (literals_from (cube_variable d) (length cubes)) (positive n (rise_variable d) (omega arith) (omega arith)) (literals_are n (cube_variable d) (length cubes) (omega arith) (omega arith)))
    (All-nil (IsClause n))))

pub is_formula : (d : Circuit) (cubes : List (List ℕ)) → IsCircuit d → AreOver (length d.latches) cubes → IsFormula (obligation d cubes)
is_formula d cubes valid inside =
    let n : ℕ = rise_variable d + length cubes in
    All-append (IsClause n) (now_clauses d cubes) (failing_clauses d cubes) (now_are d n cubes (omega arith) valid inside) (failing_are d n cubes (omega arith) valid)
