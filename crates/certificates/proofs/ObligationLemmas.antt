-- An obligation is unsatisfiable exactly where its cubes are an invariant.
use Rattle.std.proofs.Common.{◌≡◌, ℕ, suc, ◌+◌, ◌-◌, ◌*◌, ◌<◌, ◌≤◌, Bool, true, false, not, ◌&&◌, ◌||◌, ◌==◌, nat_lt, List, [], ◌∷◌, ◌++◌, length, map, get_or, All, if◌then◌else◌, refl, sym, ap, ap₂, ◌∙◌, arith}
use Rattle.std.proofs.lemmas.Bool.{and_parts, true≢false}
use Rattle.std.proofs.lemmas.Bool.Decides.{nat_tests}
use Rattle.std.proofs.lemmas.List.Folds.{list_all-append}
use Rattle.std.proofs.lemmas.List.Elements.{All-nil, All-cons, All-head, All-tail}
use Rattle.aiger.specs.declared.circuit.Gate.{Gate}
use Rattle.aiger.specs.declared.circuit.Latch.{Latch}
use Rattle.base.specs.Literal.{Valuation, literal_value}
use Rattle.aiger.specs.Net.{Satisfies, SatisfiesFrom, AreOrderedFrom, IsDefined, net_input_bits, latch_bits}
use Rattle.aiger.specs.Circuit.{Circuit, IsCircuit, net}
use Rattle.aiger.specs.Trace.{IsCircuitFrame, next_latch_bits}
use Rattle.base.proofs.LiteralLemmas.{literal_value-even, literal_value-odd}
use Rattle.aiger.proofs.TraceLemmas.{AgreeBelow, literal_value-agree, bits_from-agree}
use Rattle.drup.specs.Formula.{IsUnsatisfiable}
use Rattle.certificates.specs.Invariants.{AreOver, is_in_cube, is_outside, bad_literal, KeepsCubes, IsInductive}
use Rattle.certificates.specs.Obligation.{truth_variable, rise_variable, cube_variable, over, gates_clauses, outside_clause, nexts_clauses, fails_clause, now_clauses, failing_clauses, obligation}
use Rattle.certificates.proofs.BitLemmas.{formula_bit, clause_bit, formula_true, formula_satisfied, two, one_is, not_or_self}
use Rattle.certificates.proofs.ClauseLemmas.{over-value, gates_hold, gates_pass, outside_bits, literals_from, nexts_hold, TellNext, nexts_pass, some_next}

-- the parts of an obligation
record Parts (d : Circuit) (cubes : List (List ℕ)) (a : Valuation) : Type 0 where
  truth : a (truth_variable d) ≡ true
  gates : formula_bit a (gates_clauses (truth_variable d) (suc (d.inputs + length d.latches)) d.gates) ≡ true
  outside : formula_bit a (map (outside_clause d) cubes) ≡ true
  rise : clause_bit a ((2 * rise_variable d + 1) ∷ over (truth_variable d) (bad_literal d) ∷ []) ≡ true
  nexts : formula_bit a (nexts_clauses d (cube_variable d) cubes) ≡ true
  fails : clause_bit a (fails_clause d (length cubes)) ≡ true

truth_bit : (d : Circuit) (a : Valuation) → clause_bit a ((2 * truth_variable d) ∷ []) ≡ a (truth_variable d)
truth_bit d a = one_is (literal_value a (2 * truth_variable d)) ∙ literal_value-even a (truth_variable d) (omega arith)

parted : (d : Circuit) (cubes : List (List ℕ)) (a : Valuation) → formula_bit a (now_clauses d cubes ++ failing_clauses d cubes) ≡ true → Parts d cubes a
parted d cubes a all =
    let gates : List (List ℕ) = gates_clauses (truth_variable d) (suc (d.inputs + length d.latches)) d.gates in
    let outs : List (List ℕ) = map (outside_clause d) cubes in
    let nexts : List (List ℕ) = nexts_clauses d (cube_variable d) cubes in
    let last : List (List ℕ) = fails_clause d (length cubes) ∷ [] in
    let both = and_parts (formula_bit a (now_clauses d cubes)) (formula_bit a (failing_clauses d cubes)) (sym (list_all-append (clause_bit a) (now_clauses d cubes) (failing_clauses d cubes)) ∙ all) in
    let first = and_parts (clause_bit a ((2 * truth_variable d) ∷ [])) (formula_bit a (gates ++ outs)) both.0 in
    let second = and_parts (formula_bit a gates) (formula_bit a outs) (sym (list_all-append (clause_bit a) gates outs) ∙ first.1) in
    let third = and_parts (clause_bit a ((2 * rise_variable d + 1) ∷ over (truth_variable d) (bad_literal d) ∷ [])) (formula_bit a (nexts ++ last)) both.1 in
    let fourth = and_parts (formula_bit a nexts) (formula_bit a last) (sym (list_all-append (clause_bit a) nexts last) ∙ third.1) in
    record {
      truth = sym (truth_bit d a) ∙ first.0;
      gates = second.0;
      outside = second.1;
      rise = third.0;
      nexts = fourth.0;
      fails = (and_parts (clause_bit a (fails_clause d (length cubes))) true fourth.1).0;
    }

joined : (d : Circuit) (cubes : List (List ℕ)) (a : Valuation) → Parts d cubes a → formula_bit a (now_clauses d cubes ++ failing_clauses d cubes) ≡ true
joined d cubes a p =
    let gates : List (List ℕ) = gates_clauses (truth_variable d) (suc (d.inputs + length d.latches)) d.gates in
    let outs : List (List ℕ) = map (outside_clause d) cubes in
    let nexts : List (List ℕ) = nexts_clauses d (cube_variable d) cubes in
    let last : List (List ℕ) = fails_clause d (length cubes) ∷ [] in
    let now : formula_bit a (now_clauses d cubes) ≡ true = ap₂ ◌&&◌ (truth_bit d a ∙ p.truth) (list_all-append (clause_bit a) gates outs ∙ ap₂ ◌&&◌ p.gates p.outside) in
    let failing : formula_bit a (failing_clauses d cubes) ≡ true = ap₂ ◌&&◌ p.rise (list_all-append (clause_bit a) nexts last ∙ ap₂ ◌&&◌ p.nexts (ap₂ ◌&&◌ p.fails refl)) in
    list_all-append (clause_bit a) (now_clauses d cubes) (failing_clauses d cubes) ∙ ap₂ ◌&&◌ now failing

-- what the clause of the bad property says
rise_bit : (d : Circuit) (a : Valuation) → a (truth_variable d) ≡ true → clause_bit a ((2 * rise_variable d + 1) ∷ over (truth_variable d) (bad_literal d) ∷ []) ≡ (not (a (rise_variable d)) || literal_value a (bad_literal d))
rise_bit d a on =
    ap₂ two (literal_value-odd a (rise_variable d) (omega arith)) (over-value a (truth_variable d) (bad_literal d) (omega arith) on)
    ∙ ap (λ (b : Bool). not (a (rise_variable d)) || b) (one_is (literal_value a (bad_literal d)))

fails_bit : (d : Circuit) (count : ℕ) (a : Valuation) → clause_bit a (fails_clause d count) ≡ (a (rise_variable d) || clause_bit a (literals_from (cube_variable d) count))
fails_bit d count a = ap (λ (b : Bool). b || clause_bit a (literals_from (cube_variable d) count)) (literal_value-even a (rise_variable d) (omega arith))

-- ---- what satisfies it is a step that leaves the invariant

none_rises : (b c : Bool) → (not b || c) ≡ true → c ≡ false → b ≡ false
none_rises true c h e = absurd (cc)
none_rises false c h e = refl

pub refuted : (d : Circuit) (cubes : List (List ℕ)) → AreOver (length d.latches) cubes → IsInductive d cubes → IsUnsatisfiable (obligation d cubes)
refuted d cubes over inductive a sat =
    let p = parted d cubes a (formula_true a (now_clauses d cubes ++ failing_clauses d cubes) sat) in
    let frame : IsCircuitFrame d (latch_bits (net d) a) (net_input_bits (net d) a) a =
    record { gates = gates_hold a (truth_variable d) (suc (d.inputs + length d.latches)) d.gates (omega arith) (omega arith) p.truth p.gates; inputs = refl; latches = refl } in
    let keeps : KeepsCubes d cubes a = inductive (latch_bits (net d) a) (net_input_bits (net d) a) a frame (sym (outside_bits d a cubes over) ∙ p.outside) in
    let rise : a (rise_variable d) ≡ false = none_rises (a (rise_variable d)) (literal_value a (bad_literal d)) (sym (rise_bit d a p.truth) ∙ p.rise) keeps.safe in
    let none : clause_bit a (literals_from (cube_variable d) (length cubes)) ≡ false = nexts_hold d a (cube_variable d) cubes (omega arith) p.truth p.nexts keeps.outside in
    true≢false (sym p.fails ∙ (fails_bit d (length cubes) a ∙ ap₂ ◌||◌ rise none))

-- ---- a step that leaves the invariant satisfies it

-- what satisfies gates up to a variable does so whatever is above it
satisfied_agree : (first : ℕ) (gs : List Gate) (v w : Valuation) → 1 ≤ first → AreOrderedFrom first gs → AgreeBelow (first + length gs) v w → SatisfiesFrom first gs v → SatisfiesFrom first gs w
satisfied_agree first [] v w low o a s = tt
satisfied_agree first (g ∷ gs) v w low o a s =
    let below : AgreeBelow first v w = λ k one high. a k one (omega arith) in
    let l : literal_value v g.rhs0 ≡ literal_value w g.rhs0 = literal_value-agree first v w g.rhs0 below o.0 in
    let r : literal_value v g.rhs1 ≡ literal_value w g.rhs1 = literal_value-agree first v w g.rhs1 below (omega (arith, o.0, o.1)) in
    let h : v first ≡ w first = a first low (omega arith) in
    (sym h ∙ (s.0 ∙ ap₂ ◌&&◌ l r), satisfied_agree (suc first) gs v w (omega arith) o.2 (λ k one high. a k one (omega arith)) s.1)

-- the assignment of a frame: its valuation, then true, whether the bad property rises, and for each cube whether the next state is in it
abbrev assigned : Circuit → List (List ℕ) → Valuation → Valuation
assigned d cubes v k =
    if nat_lt k (truth_variable d) then v k
    else (if k == truth_variable d then true
    else (if k == rise_variable d then literal_value v (bad_literal d)
    else is_in_cube (next_latch_bits d v) (get_or cubes (k - cube_variable d) [])))

assigned-below : (d : Circuit) (cubes : List (List ℕ)) (v : Valuation) (k : ℕ) → k < truth_variable d → v k ≡ assigned d cubes v k
assigned-below d cubes v k h = grind (arith, nat_tests)

assigned-truth : (d : Circuit) (cubes : List (List ℕ)) (v : Valuation) → assigned d cubes v (truth_variable d) ≡ true
assigned-truth d cubes v = grind (arith, nat_tests)

assigned-rise : (d : Circuit) (cubes : List (List ℕ)) (v : Valuation) → assigned d cubes v (rise_variable d) ≡ literal_value v (bad_literal d)
assigned-rise d cubes v = grind (arith, nat_tests)

assigned-cube : (d : Circuit) (cubes : List (List ℕ)) (v : Valuation) (i : ℕ) → assigned d cubes v (cube_variable d + i) ≡ is_in_cube (next_latch_bits d v) (get_or cubes i [])
assigned-cube d cubes v i =
    let e : cube_variable d + i - cube_variable d ≡ i = omega arith in
    let f : assigned d cubes v (cube_variable d + i) ≡ is_in_cube (next_latch_bits d v) (get_or cubes (cube_variable d + i - cube_variable d) []) = grind (arith, nat_tests) in
    f ∙ ap (λ (k : ℕ). is_in_cube (next_latch_bits d v) (get_or cubes k [])) e

-- latches take the same bits where their literals say the same
taken_alike : (bound : ℕ) (v w : Valuation) (ls : List Latch) → AgreeBelow bound v w → All (λ latch. latch.next < 2 * bound) ls
    → map (λ latch. literal_value v latch.next) ls ≡ map (λ latch. literal_value w latch.next) ls
taken_alike bound v w [] a all = refl
taken_alike bound v w (l ∷ ls) a all =
    ap₂ ◌∷◌ (literal_value-agree bound v w l.next a (All-head (λ (latch : Latch). latch.next < 2 * bound) l ls all)) (taken_alike bound v w ls a (All-tail (λ (latch : Latch). latch.next < 2 * bound) l ls all))

defined_below : (d : Circuit) (ls : List Latch) → All (λ latch. IsDefined (net d) latch.next) ls → All (λ latch. latch.next < 2 * truth_variable d) ls
defined_below d [] all = All-nil (λ (latch : Latch). latch.next < 2 * truth_variable d)
defined_below d (l ∷ ls) all =
    All-cons (λ (latch : Latch). latch.next < 2 * truth_variable d) l ls
    (let h : IsDefined (net d) l.next = All-head (λ (latch : Latch). IsDefined (net d) latch.next) l ls all in omega (arith, h))
    (defined_below d ls (All-tail (λ (latch : Latch). IsDefined (net d) latch.next) l ls all))

bad_below : (d : Circuit) (bads : List ℕ) → All (IsDefined (net d)) bads → get_or bads 0 0 < 2 * truth_variable d
bad_below d [] all = omega arith
bad_below d (b ∷ bads) all = let h : IsDefined (net d) b = All-head (IsDefined (net d)) b bads all in omega (arith, h)

-- everything of the obligation but its last clause holds of a frame from a state in no cube, and the last one says whether the invariant is left
framed : (d : Circuit) (cubes : List (List ℕ)) (state input : List Bool) (v : Valuation) → IsCircuit d → AreOver (length d.latches) cubes → IsCircuitFrame d state input v → is_outside state cubes ≡ true
    → (literal_value v (bad_literal d) || not (is_outside (next_latch_bits d v) cubes)) ≡ true → formula_bit (assigned d cubes v) (now_clauses d cubes ++ failing_clauses d cubes) ≡ true
framed d cubes state input v valid over frame out leaves =
    let a : Valuation = assigned d cubes v in
    let agree : AgreeBelow (truth_variable d) v a = λ k low high. assigned-below d cubes v k high in
    let on : a (truth_variable d) ≡ true = assigned-truth d cubes v in
    let gates : Satisfies (net d) a = satisfied_agree (suc (d.inputs + length d.latches)) d.gates v a (omega arith) valid.ordered (λ k low high. agree k low (omega arith)) frame.gates in
    let bits : latch_bits (net d) a ≡ state = sym (bits_from-agree (suc d.inputs) (length d.latches) v a (λ k low high. agree k (omega arith) (omega arith))) ∙ frame.latches in
    let next : next_latch_bits d v ≡ next_latch_bits d a = taken_alike (truth_variable d) v a d.latches agree (defined_below d d.latches valid.defined.nexts) in
    let bad : literal_value v (bad_literal d) ≡ literal_value a (bad_literal d) = literal_value-agree (truth_variable d) v a (bad_literal d) agree (bad_below d d.bads valid.defined.bads) in
    let tell : TellNext d a (cube_variable d) cubes = λ i h. assigned-cube d cubes v i ∙ ap (λ (s : List Bool). is_in_cube s (get_or cubes i [])) next in
    let rise : a (rise_variable d) ≡ literal_value a (bad_literal d) = assigned-rise d cubes v ∙ bad in
    joined d cubes a (record {
      truth = on;
      gates = gates_pass a (truth_variable d) (suc (d.inputs + length d.latches)) d.gates (omega arith) (omega arith) on gates;
      outside = outside_bits d a cubes over ∙ (ap (λ (s : List Bool). is_outside s cubes) bits ∙ out);
      rise = rise_bit d a on ∙ (ap (λ (b : Bool). not b || literal_value a (bad_literal d)) rise ∙ not_or_self (literal_value a (bad_literal d)));
      nexts = nexts_pass d a (cube_variable d) cubes (omega arith) on tell;
      fails =
          fails_bit d (length cubes) a
          ∙ (ap₂ ◌||◌ (assigned-rise d cubes v) (some_next d a (cube_variable d) cubes (omega arith) tell ∙ ap (λ (s : List Bool). not (is_outside s cubes)) (sym next))
          ∙ leaves);
    })

pub proved : (d : Circuit) (cubes : List (List ℕ)) → IsCircuit d → AreOver (length d.latches) cubes → IsUnsatisfiable (obligation d cubes) → IsInductive d cubes
proved d cubes valid over unsat state input v frame out = by (literal_value v (bad_literal d)) (is_outside (next_latch_bits d v) cubes) refl refl
  where
    left : (literal_value v (bad_literal d) || not (is_outside (next_latch_bits d v) cubes)) ≡ true → ⊥
    left leaves = unsat (assigned d cubes v) (formula_satisfied (assigned d cubes v) (now_clauses d cubes ++ failing_clauses d cubes) (framed d cubes state input v valid over frame out leaves))

    by : (b m : Bool) → literal_value v (bad_literal d) ≡ b → is_outside (next_latch_bits d v) cubes ≡ m → KeepsCubes d cubes v
    by true m e f = absurd (left (ap (λ (x : Bool). x || not (is_outside (next_latch_bits d v) cubes)) e))
    by false true e f = record { safe = e; outside = f }
    by false false e f = absurd (left (ap₂ (λ (x y : Bool). x || not y) e f))
