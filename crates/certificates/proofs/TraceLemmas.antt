-- Under an invariant the bad property rises in no frame of a trace from latches that are 0.
use Rattle.std.proofs.Common.{◌≡◌, ◌≢◌, ℕ, zero, suc, ◌-◌, ◌/◌, ◌%◌, Bool, true, false, not, ◌&&◌, ◌||◌, ◌==◌, List, [], ◌∷◌, length, map, get_or, replicate, All, unwrap_or, ⊎_elim, refl, sym, ap, ap₂, subst, ◌∙◌, arith}
use Rattle.std.specs.Prelude.{slice_get}
use Rattle.std.specs.List.{list_all}
use Rattle.std.proofs.lemmas.Bool.{cases_eq, and_parts, true≢false}
use Rattle.std.proofs.lemmas.Bool.Decides.{nat_tests}
use Rattle.std.proofs.lemmas.List.Elements.{All-nil, All-cons, All-head, All-tail}
use Rattle.aiger.specs.declared.circuit.Latch.{Latch}
use Rattle.aiger.specs.declared.circuit.Reset.{Reset}
use Rattle.aiger.specs.declared.circuit.Reset.TheVariants.{Zero}
use Rattle.base.specs.Literal.{Valuation, literal_value}
use Rattle.aiger.specs.Circuit.{Circuit, IsCircuit}
use Rattle.aiger.specs.Trace.{AgreesWithReset, AreInitial, IsCircuitTrace, next_latch_bits}
use Rattle.base.specs.Shown.{rises_within}
use Rattle.aiger.specs.Reachability.{circuit_shows, CanRiseInCircuit}
use Rattle.drup.specs.Formula.{IsUnsatisfiable}
use Rattle.certificates.specs.Invariants.{AreOver, state_bit, is_in_cube, is_outside, asks_one, bad_literal, IsInductive}
use Rattle.certificates.specs.Obligation.{obligation}
use Rattle.certificates.proofs.ClauseLemmas.{state_even}
use Rattle.certificates.proofs.ObligationLemmas.{proved}

-- ---- the start

zero_at : (n k : ℕ) → get_or (replicate n false) k false ≡ false
zero_at zero k = refl
zero_at (suc n) zero = refl
zero_at (suc n) (suc k) = zero_at n k

asked_odd : (l : ℕ) → l % 2 ≢ 0 → (l % 2 == 0) ≡ false
asked_odd l e = grind (arith, nat_tests)

and_none : (b : Bool) → (b && false) ≡ false
and_none true = refl
and_none false = refl

-- a cube that asks for a 1 does not hold where all latches are 0
not_at_start : (n : ℕ) (cube : List ℕ) → asks_one cube ≡ true → is_in_cube (replicate n false) cube ≡ false
not_at_start n [] h = absurd (cc)
not_at_start n (l ∷ ls) h =
    ⊎_elim
    (λ (e : l % 2 ≡ 0). ap (λ (b : Bool). b && is_in_cube (replicate n false) ls) (state_even (replicate n false) l e ∙ zero_at n (l / 2 - 1)))
    (λ (ne : l % 2 ≢ 0).
    let rest : asks_one ls ≡ true = ap (λ (b : Bool). b || asks_one ls) (sym (asked_odd l ne)) ∙ h in
    ap (λ (b : Bool). state_bit (replicate n false) l && b) (not_at_start n ls rest) ∙ and_none (state_bit (replicate n false) l))
    (cases_eq (l % 2) 0)

outside_at_start : (n : ℕ) (cubes : List (List ℕ)) → list_all asks_one cubes ≡ true → is_outside (replicate n false) cubes ≡ true
outside_at_start n [] h = refl
outside_at_start n (cube ∷ cubes) h =
    let parts = and_parts (asks_one cube) (list_all asks_one cubes) h in
    ap₂ ◌&&◌ (ap not (not_at_start n cube parts.0)) (outside_at_start n cubes parts.1)

-- ---- traces

kept_safe : (d : Circuit) (cubes : List (List ℕ)) → IsInductive d cubes → (state : List Bool) (inputs : List (List Bool)) (vs : List Valuation) → is_outside state cubes ≡ true → IsCircuitTrace d state inputs vs
    → All (λ v. literal_value v (bad_literal d) ≡ false) vs
kept_safe d cubes inductive state [] [] out t = All-nil (λ (v : Valuation). literal_value v (bad_literal d) ≡ false)
kept_safe d cubes inductive state [] (v ∷ vs) out t = absurd t
kept_safe d cubes inductive state (input ∷ inputs) [] out t = absurd t
kept_safe d cubes inductive state (input ∷ inputs) (v ∷ vs) out t =
    let keeps = inductive state input v t.0 out in
    All-cons (λ (w : Valuation). literal_value w (bad_literal d) ≡ false) v vs keeps.safe (kept_safe d cubes inductive (next_latch_bits d v) inputs vs keeps.outside t.1)

pub safe_frames : (d : Circuit) (cubes : List (List ℕ)) → IsCircuit d → AreOver (length d.latches) cubes → list_all asks_one cubes ≡ true → IsUnsatisfiable (obligation d cubes)
    → (inputs : List (List Bool)) (vs : List Valuation) → IsCircuitTrace d (replicate (length d.latches) false) inputs vs → All (λ v. literal_value v (bad_literal d) ≡ false) vs
safe_frames d cubes valid over ask unsat inputs vs t =
    kept_safe d cubes (proved d cubes valid over unsat) (replicate (length d.latches) false) inputs vs (outside_at_start (length d.latches) cubes ask) t

-- ---- what can rise

shown_bad : (v : Valuation) (bads : List ℕ) → unwrap_or (slice_get (map (literal_value v) bads) 0) false ≡ literal_value v (get_or bads 0 0)
shown_bad v [] = refl
shown_bad v (b ∷ bads) = refl

never_rises : (d : Circuit) (vs : List Valuation) → All (λ v. literal_value v (bad_literal d) ≡ false) vs → rises_within 0 (map (circuit_shows d) vs) ≡ false
never_rises d [] all = refl
never_rises d (v ∷ vs) all =
    let own : unwrap_or (slice_get (map (literal_value v) d.bads) 0) false ≡ false = shown_bad v d.bads ∙ All-head (λ (w : Valuation). literal_value w (bad_literal d) ≡ false) v vs all in
    let rest : rises_within 0 (map (circuit_shows d) vs) ≡ false = never_rises d vs (All-tail (λ (w : Valuation). literal_value w (bad_literal d) ≡ false) v vs all) in
    let hold : Bool = list_all (λ holds. holds) (map (literal_value v) d.constraints) in
    ap₂ (λ (x y : Bool). hold && (x || y)) own rest ∙ and_none hold

initial_zeros : (ls : List Latch) (bs : List Bool) → All (λ latch. latch.reset ≡ Zero) ls → AreInitial ls bs → bs ≡ replicate (length ls) false
initial_zeros [] [] all h = refl
initial_zeros [] (b ∷ bs) all h = absurd h
initial_zeros (l ∷ ls) [] all h = absurd h
initial_zeros (l ∷ ls) (b ∷ bs) all h =
    ap₂ ◌∷◌
    (subst (λ (r : Reset). AgreesWithReset r b) (All-head (λ (latch : Latch). latch.reset ≡ Zero) l ls all) h.0)
    (initial_zeros ls bs (All-tail (λ (latch : Latch). latch.reset ≡ Zero) l ls all) h.1)

pub cannot_rise : (d : Circuit) (cubes : List (List ℕ)) → IsCircuit d → AreOver (length d.latches) cubes → list_all asks_one cubes ≡ true → IsUnsatisfiable (obligation d cubes)
    → All (λ latch. latch.reset ≡ Zero) d.latches → CanRiseInCircuit d 0 → ⊥
cannot_rise d cubes valid over ask unsat zeros rise =
    let start : rise.state ≡ replicate (length d.latches) false = initial_zeros d.latches rise.state zeros rise.initial in
    let trace : IsCircuitTrace d (replicate (length d.latches) false) rise.inputs rise.frames = subst (λ (s : List Bool). IsCircuitTrace d s rise.inputs rise.frames) start rise.trace in
    true≢false (sym rise.rises ∙ never_rises d rise.frames (safe_frames d cubes valid over ask unsat rise.inputs rise.frames trace))

pub zero_resets : (ls : List Latch) (n : ℕ) → map (λ latch. latch.reset) ls ≡ replicate n Zero → All (λ latch. latch.reset ≡ Zero) ls
zero_resets [] n e = All-nil (λ (latch : Latch). latch.reset ≡ Zero)
zero_resets (l ∷ ls) zero e = absurd (cc)
zero_resets (l ∷ ls) (suc n) e =
    let own : l.reset ≡ Zero = cc in
    let rest : map (λ latch. latch.reset) ls ≡ replicate n Zero = cc in
    All-cons (λ (latch : Latch). latch.reset ≡ Zero) l ls own (zero_resets ls n rest)
