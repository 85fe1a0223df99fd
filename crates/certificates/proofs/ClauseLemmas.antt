-- What the parts of an obligation say in an assignment.
use Rattle.std.proofs.Common.{◌≡◌, ◌≢◌, ℕ, zero, suc, ◌+◌, ◌-◌, ◌*◌, ◌/◌, ◌%◌, ◌<◌, Bool, true, false, not, ◌&&◌, ◌||◌, List, [], ◌∷◌, length, map, get_or, All, ⊎_elim, refl, sym, ap, ap₂, ◌∙◌, arith}
use Rattle.std.specs.List.{list_all, range_with_len}
use Rattle.std.proofs.lemmas.Bool.{cases_eq, and_parts}
use Rattle.std.proofs.lemmas.Bool.Decides.{nat_tests}
use Rattle.std.proofs.lemmas.List.Folds.{list_all-append}
use Rattle.std.proofs.lemmas.List.Elements.{All-head, All-tail}
use Rattle.aiger.specs.declared.circuit.Gate.{Gate}
use Rattle.aiger.specs.declared.circuit.Latch.{Latch}
use Rattle.base.specs.Literal.{Valuation, literal_value, negation}
use Rattle.aiger.specs.Net.{SatisfiesFrom, bits_from, latch_bits}
use Rattle.aiger.specs.Circuit.{Circuit, net}
use Rattle.aiger.specs.Trace.{next_latch_bits}
use Rattle.base.proofs.LiteralLemmas.{literal_value-negation, literal_value-even, literal_value-odd}
use Rattle.drup.specs.Formula.{IsLiteral}
use Rattle.certificates.specs.Invariants.{AreOver, state_bit, is_in_cube, is_outside}
use Rattle.certificates.specs.Obligation.{over, gate_clauses, gates_clauses, outside_clause, taken_literal, truth_variable, next_literal, next_clauses, nexts_clauses}
use Rattle.certificates.proofs.BitLemmas.{formula_bit, clause_bit, or_not, not_or, not_or_self, two, three, two_all}

-- ---- literals

-- a literal of the circuit keeps its value, where the one variable is true
pub over-value : (a : Valuation) (truth l : ℕ) → 0 < truth → a truth ≡ true → literal_value a (over truth l) ≡ literal_value a l
over-value a truth zero h on = literal_value-odd a truth h ∙ ap not on
over-value a truth (suc zero) h on = literal_value-even a truth h ∙ on
over-value a truth (suc (suc l)) h on = let is : over truth (suc (suc l)) ≡ suc (suc l) = grind (arith, nat_tests) in ap (literal_value a) is

not-over : (a : Valuation) (truth l : ℕ) → 0 < truth → a truth ≡ true → literal_value a (negation (over truth l)) ≡ not (literal_value a l)
not-over a truth l h on = literal_value-negation a (over truth l) ∙ ap not (over-value a truth l h on)

-- ---- gates

-- the three clauses of a gate, by the bits of its variable and its operands
abbrev gate_test : Bool → Bool → Bool → Bool
gate_test v x y = two (not v) x && (two (not v) y && (three v (not x) (not y) && true))

gate_holds : (v x y : Bool) → gate_test v x y ≡ true → v ≡ (x && y)
gate_holds true true true h = refl
gate_holds true true false h = absurd (cc)
gate_holds true false y h = absurd (cc)
gate_holds false true true h = absurd (cc)
gate_holds false true false h = refl
gate_holds false false y h = refl

gate_passes : (x y : Bool) → gate_test (x && y) x y ≡ true
gate_passes true true = refl
gate_passes true false = refl
gate_passes false y = refl

gate_bits : (a : Valuation) (truth v : ℕ) (g : Gate) → 0 < truth → 0 < v → a truth ≡ true
    → formula_bit a (gate_clauses truth v g) ≡ gate_test (a v) (literal_value a g.rhs0) (literal_value a g.rhs1)
gate_bits a truth v g t h on =
    let off : literal_value a (2 * v + 1) ≡ not (a v) = literal_value-odd a v h in
    let is : literal_value a (2 * v) ≡ a v = literal_value-even a v h in
    ap₂ ◌&&◌ (ap₂ two off (over-value a truth g.rhs0 t on))
    (ap₂ ◌&&◌ (ap₂ two off (over-value a truth g.rhs1 t on))
    (ap₂ ◌&&◌ (ap₂ ◌||◌ is (ap₂ two (not-over a truth g.rhs0 t on) (not-over a truth g.rhs1 t on))) refl))

pub gates_hold : (a : Valuation) (truth v : ℕ) (gs : List Gate) → 0 < truth → 0 < v → a truth ≡ true → formula_bit a (gates_clauses truth v gs) ≡ true → SatisfiesFrom v gs a
gates_hold a truth v [] t h on all = tt
gates_hold a truth v (g ∷ gs) t h on all =
    let parts = and_parts (formula_bit a (gate_clauses truth v g)) (formula_bit a (gates_clauses truth (suc v) gs))
    (sym (list_all-append (clause_bit a) (gate_clauses truth v g) (gates_clauses truth (suc v) gs)) ∙ all) in
    (gate_holds (a v) (literal_value a g.rhs0) (literal_value a g.rhs1) (sym (gate_bits a truth v g t h on) ∙ parts.0), gates_hold a truth (suc v) gs t (omega arith) on parts.1)

pub gates_pass : (a : Valuation) (truth v : ℕ) (gs : List Gate) → 0 < truth → 0 < v → a truth ≡ true → SatisfiesFrom v gs a → formula_bit a (gates_clauses truth v gs) ≡ true
gates_pass a truth v [] t h on all = refl
gates_pass a truth v (g ∷ gs) t h on all =
    let own : formula_bit a (gate_clauses truth v g) ≡ true =
    gate_bits a truth v g t h on ∙ (ap (λ (b : Bool). gate_test b (literal_value a g.rhs0) (literal_value a g.rhs1)) all.0 ∙ gate_passes (literal_value a g.rhs0) (literal_value a g.rhs1)) in
    list_all-append (clause_bit a) (gate_clauses truth v g) (gates_clauses truth (suc v) gs) ∙ ap₂ ◌&&◌ own (gates_pass a truth (suc v) gs t (omega arith) on all.1)

-- ---- the present state

get_or-bits_from : (first count : ℕ) (v : Valuation) (k : ℕ) → k < count → get_or (bits_from first count v) k false ≡ v (first + k)
get_or-bits_from first zero v k h = absurd (omega arith)
get_or-bits_from first (suc count) v zero h = ap v (omega arith)
get_or-bits_from first (suc count) v (suc k) h = get_or-bits_from (suc first) count v k (omega arith) ∙ ap v (omega arith)

-- what a literal over latches says, by its kind
pub state_even : (state : List Bool) (l : ℕ) → l % 2 ≡ 0 → state_bit state l ≡ get_or state (l / 2 - 1) false
state_even state l e = grind (arith, nat_tests)

state_odd : (state : List Bool) (l : ℕ) → l % 2 ≢ 0 → state_bit state l ≡ not (get_or state (l / 2 - 1) false)
state_odd state l e = grind (arith, nat_tests)

-- a literal over latches says of a state what its literal of the circuit says
pub now_bit : (d : Circuit) (a : Valuation) (l : ℕ) → IsLiteral (length d.latches) l → literal_value a (2 * d.inputs + l) ≡ state_bit (latch_bits (net d) a) l
now_bit d a l h =
    let at : get_or (latch_bits (net d) a) (l / 2 - 1) false ≡ a (suc d.inputs + (l / 2 - 1)) = get_or-bits_from (suc d.inputs) (length d.latches) a (l / 2 - 1) (omega (arith, h.0, h.1)) in
    ⊎_elim
    (λ (e : l % 2 ≡ 0).
    let is : 2 * d.inputs + l ≡ 2 * (suc d.inputs + (l / 2 - 1)) = omega (arith, h.0) in
    ap (literal_value a) is ∙ (literal_value-even a (suc d.inputs + (l / 2 - 1)) (omega arith) ∙ (sym at ∙ sym (state_even (latch_bits (net d) a) l e))))
    (λ (ne : l % 2 ≢ 0).
    let is : 2 * d.inputs + l ≡ 2 * (suc d.inputs + (l / 2 - 1)) + 1 = omega (arith, h.0) in
    ap (literal_value a) is ∙ (literal_value-odd a (suc d.inputs + (l / 2 - 1)) (omega arith) ∙ (ap not (sym at) ∙ sym (state_odd (latch_bits (net d) a) l ne))))
    (cases_eq (l % 2) 0)

outside_bit : (d : Circuit) (a : Valuation) (cube : List ℕ) → All (IsLiteral (length d.latches)) cube → clause_bit a (outside_clause d cube) ≡ not (is_in_cube (latch_bits (net d) a) cube)
outside_bit d a [] all = refl
outside_bit d a (l ∷ ls) all =
    let own : literal_value a (negation (2 * d.inputs + l)) ≡ not (state_bit (latch_bits (net d) a) l) =
    literal_value-negation a (2 * d.inputs + l) ∙ ap not (now_bit d a l (All-head (IsLiteral (length d.latches)) l ls all)) in
    ap₂ ◌||◌ own (outside_bit d a ls (All-tail (IsLiteral (length d.latches)) l ls all))
    ∙ or_not (state_bit (latch_bits (net d) a) l) (is_in_cube (latch_bits (net d) a) ls)

-- the state is in no cube
pub outside_bits : (d : Circuit) (a : Valuation) (cubes : List (List ℕ)) → AreOver (length d.latches) cubes → formula_bit a (map (outside_clause d) cubes) ≡ is_outside (latch_bits (net d) a) cubes
outside_bits d a [] all = refl
outside_bits d a (cube ∷ cubes) all =
    ap₂ ◌&&◌ (outside_bit d a cube (All-head (All (IsLiteral (length d.latches))) cube cubes all))
    (outside_bits d a cubes (All-tail (All (IsLiteral (length d.latches))) cube cubes all))

-- ---- the next state

taken_bit : (a : Valuation) (ls : List Latch) (k : ℕ) → literal_value a (get_or (map (λ latch. latch.next) ls) k 0) ≡ get_or (map (λ latch. literal_value a latch.next) ls) k false
taken_bit a [] k = refl
taken_bit a (l ∷ ls) zero = refl
taken_bit a (l ∷ ls) (suc k) = taken_bit a ls k

pub next_even : (d : Circuit) (l : ℕ) → l % 2 ≡ 0 → next_literal d l ≡ over (truth_variable d) (taken_literal d (l / 2 - 1))
next_even d l e = grind (arith, nat_tests)

pub next_odd : (d : Circuit) (l : ℕ) → l % 2 ≢ 0 → next_literal d l ≡ negation (over (truth_variable d) (taken_literal d (l / 2 - 1)))
next_odd d l e = grind (arith, nat_tests)

next_bit : (d : Circuit) (a : Valuation) (l : ℕ) → a (truth_variable d) ≡ true → literal_value a (next_literal d l) ≡ state_bit (next_latch_bits d a) l
next_bit d a l on =
    let taken : literal_value a (taken_literal d (l / 2 - 1)) ≡ get_or (next_latch_bits d a) (l / 2 - 1) false = taken_bit a d.latches (l / 2 - 1) in
    ⊎_elim
    (λ (e : l % 2 ≡ 0).
    ap (literal_value a) (next_even d l e) ∙ (over-value a (truth_variable d) (taken_literal d (l / 2 - 1)) (omega arith) on ∙ (taken ∙ sym (state_even (next_latch_bits d a) l e))))
    (λ (ne : l % 2 ≢ 0).
    ap (literal_value a) (next_odd d l ne) ∙ (not-over a (truth_variable d) (taken_literal d (l / 2 - 1)) (omega arith) on ∙ (ap not taken ∙ sym (state_odd (next_latch_bits d a) l ne))))
    (cases_eq (l % 2) 0)

-- where the variable is true, the next state is in the cube
next_bits : (d : Circuit) (a : Valuation) (v : ℕ) (cube : List ℕ) → 0 < v → a (truth_variable d) ≡ true → formula_bit a (next_clauses d v cube) ≡ (not (a v) || is_in_cube (next_latch_bits d a) cube)
next_bits d a v cube h on = by cube ∙ two_all (not (a v)) (state_bit (next_latch_bits d a)) cube
  where
    by : (ls : List ℕ) → formula_bit a (next_clauses d v ls) ≡ list_all (λ l. two (not (a v)) (state_bit (next_latch_bits d a) l)) ls
    by [] = refl
    by (l ∷ ls) = ap₂ ◌&&◌ (ap₂ two (literal_value-odd a v h) (next_bit d a l on)) (by ls)

nexts_split : (d : Circuit) (a : Valuation) (v : ℕ) (cube : List ℕ) (cubes : List (List ℕ)) → 0 < v → a (truth_variable d) ≡ true
    → formula_bit a (nexts_clauses d v (cube ∷ cubes)) ≡ ((not (a v) || is_in_cube (next_latch_bits d a) cube) && formula_bit a (nexts_clauses d (suc v) cubes))
nexts_split d a v cube cubes h on =
    list_all-append (clause_bit a) (next_clauses d v cube) (nexts_clauses d (suc v) cubes)
    ∙ ap (λ (b : Bool). b && formula_bit a (nexts_clauses d (suc v) cubes)) (next_bits d a v cube h on)

-- the literals of variables from one on
abbrev pub literals_from : ℕ → ℕ → List ℕ
literals_from v count = map (λ k. 2 * k) (range_with_len v count)

pub from_more : (v count : ℕ) → literals_from v (suc count) ≡ (2 * v) ∷ literals_from (suc v) count
from_more v count = let e : v + 1 ≡ suc v = omega arith in ap (λ (k : ℕ). (2 * v) ∷ literals_from k count) e

-- where the next state is in no cube, none of the variables is true
pub nexts_hold : (d : Circuit) (a : Valuation) (v : ℕ) (cubes : List (List ℕ)) → 0 < v → a (truth_variable d) ≡ true → formula_bit a (nexts_clauses d v cubes) ≡ true
    → is_outside (next_latch_bits d a) cubes ≡ true → clause_bit a (literals_from v (length cubes)) ≡ false
nexts_hold d a v [] h on all out = refl
nexts_hold d a v (cube ∷ cubes) h on all out =
    let parts = and_parts (not (a v) || is_in_cube (next_latch_bits d a) cube) (formula_bit a (nexts_clauses d (suc v) cubes)) (sym (nexts_split d a v cube cubes h on) ∙ all) in
    let outs = and_parts (not (is_in_cube (next_latch_bits d a) cube)) (is_outside (next_latch_bits d a) cubes) out in
    let off : a v ≡ false = none_of (a v) (is_in_cube (next_latch_bits d a) cube) parts.0 outs.0 in
    ap (clause_bit a) (from_more v (length cubes)) ∙ ap₂ ◌||◌ (literal_value-even a v h ∙ off) (nexts_hold d a (suc v) cubes (omega arith) on parts.1 outs.1)
  where
    none_of : (b c : Bool) → (not b || c) ≡ true → not c ≡ true → b ≡ false
    none_of true true h out = absurd (cc)
    none_of true false h out = absurd (cc)
    none_of false c h out = refl

-- each variable says whether the next state is in its cube
abbrev pub TellNext : Circuit → Valuation → ℕ → List (List ℕ) → Type 0
TellNext d a v cubes = (i : ℕ) → i < length cubes → a (v + i) ≡ is_in_cube (next_latch_bits d a) (get_or cubes i [])

tell_first : (d : Circuit) (a : Valuation) (v : ℕ) (cube : List ℕ) (cubes : List (List ℕ)) → TellNext d a v (cube ∷ cubes) → a v ≡ is_in_cube (next_latch_bits d a) cube
tell_first d a v cube cubes tell = let e : v ≡ v + 0 = omega arith in ap a e ∙ tell 0 (omega arith)

tell_rest : (d : Circuit) (a : Valuation) (v : ℕ) (cube : List ℕ) (cubes : List (List ℕ)) → TellNext d a v (cube ∷ cubes) → TellNext d a (suc v) cubes
tell_rest d a v cube cubes tell i h = let e : suc v + i ≡ v + suc i = omega arith in ap a e ∙ tell (suc i) (omega arith)

pub nexts_pass : (d : Circuit) (a : Valuation) (v : ℕ) (cubes : List (List ℕ)) → 0 < v → a (truth_variable d) ≡ true → TellNext d a v cubes → formula_bit a (nexts_clauses d v cubes) ≡ true
nexts_pass d a v [] h on tell = refl
nexts_pass d a v (cube ∷ cubes) h on tell =
    let own : (not (a v) || is_in_cube (next_latch_bits d a) cube) ≡ true =
    ap (λ (b : Bool). not b || is_in_cube (next_latch_bits d a) cube) (tell_first d a v cube cubes tell) ∙ not_or_self (is_in_cube (next_latch_bits d a) cube) in
    nexts_split d a v cube cubes h on ∙ ap₂ ◌&&◌ own (nexts_pass d a (suc v) cubes (omega arith) on (tell_rest d a v cube cubes tell))

pub some_next : (d : Circuit) (a : Valuation) (v : ℕ) (cubes : List (List ℕ)) → 0 < v → TellNext d a v cubes → clause_bit a (literals_from v (length cubes)) ≡ not (is_outside (next_latch_bits d a) cubes)
some_next d a v [] h tell = refl
some_next d a v (cube ∷ cubes) h tell =
    ap (clause_bit a) (from_more v (length cubes))
    ∙ (ap₂ ◌||◌ (literal_value-even a v h ∙ tell_first d a v cube cubes tell) (some_next d a (suc v) cubes (omega arith) (tell_rest d a v cube cubes tell))
    ∙ not_or (is_in_cube (next_latch_bits d a) cube) (is_outside (next_latch_bits d a) cubes))
