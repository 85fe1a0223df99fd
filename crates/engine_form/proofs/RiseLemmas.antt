-- What rises in a circuit and in its engine form.
use Rattle.std.proofs.Common.{◌≡◌, ℕ, zero, suc, ◌+◌, ◌-◌, ◌≤◌, Bool, true, false, List, [], ◌∷◌, ◌++◌, length, map, take, drop, replicate, All, Option, Some, None, ◌&&◌, ◌||◌, unwrap_or, refl, sym, ap, ap₂, subst, ◌∙◌, length-append, arith}
use Rattle.std.specs.Prelude.{slice_get}
use Rattle.std.specs.List.{list_all}
use Rattle.std.specs.Option.{option_map}
use Rattle.std.proofs.Math.Seq.{take-append_seam, drop-append_seam}
use Rattle.std.proofs.lemmas.Option.{slice_get-map}
use Rattle.std.proofs.lemmas.List.{length-replicate, length-take-le}
use Rattle.std.proofs.lemmas.List.Folds.{list_all-map}
use Rattle.std.proofs.lemmas.List.Sums.{sum_by-cons}
use Rattle.std.proofs.lemmas.List.Elements.{All-nil, All-cons, All-head, All-tail}
use Rattle.aiger.specs.declared.circuit.Latch.{Latch}
use Rattle.aiger.specs.declared.circuit.Reset.{Reset}
use Rattle.aiger.specs.declared.circuit.Reset.TheVariants as reset
use Rattle.base.specs.Literal.{Valuation, literal_value}
use Rattle.aiger.specs.Circuit.{Circuit}
use Rattle.aiger.specs.Trace.{AgreesWithReset, AreInitial, IsCircuitTrace, next_latch_bits}
use Rattle.base.specs.Shown.{rises_within}
use Rattle.aiger.specs.Reachability.{circuit_shows, CanRiseInCircuit}
use Rattle.aiger.proofs.NetLemmas.{length-bits_from}
use Rattle.aiger.proofs.TraceLemmas.{trace_inputs}
use Rattle.engine_form.specs.EngineForm.{taken_bits, free_count, first_bit, first_bits, begins, input_count, chosen, all_hold, GoTogether, IsEngineFormOf}

-- ---- initial bits

-- a bit put before others where a reset is free
abbrev give : Reset → Bool → List Bool → List Bool
give reset.Zero b rest = rest
give reset.One b rest = rest
give reset.Free b rest = b ∷ rest

-- the bits of the latches without an initial value
abbrev free_bits : List Latch → List Bool → List Bool
free_bits [] bs = []
free_bits (l ∷ ls) [] = []
free_bits (l ∷ ls) (b ∷ bs) = give l.reset b (free_bits ls bs)

first_again : (ls : List Latch) (bs pad : List Bool) → AreInitial ls bs → first_bits ls (free_bits ls bs ++ pad) ≡ bs
first_again [] [] pad h = refl
first_again [] (b ∷ bs) pad h = absurd h
first_again (l ∷ ls) [] pad h = absurd h
first_again (l ∷ ls) (b ∷ bs) pad h = by l.reset h.0 (first_again ls bs pad h.1)
  where
    by : (r : Reset) → AgreesWithReset r b → first_bits ls (free_bits ls bs ++ pad) ≡ bs
        → first_bit r (give r b (free_bits ls bs) ++ pad) ∷ first_bits ls (drop (taken_bits r) (give r b (free_bits ls bs) ++ pad)) ≡ b ∷ bs
    by reset.Zero a rest = ap₂ ◌∷◌ (sym a) rest
    by reset.One a rest = ap₂ ◌∷◌ (sym a) rest
    by reset.Free a rest = ap (λ (l : List Bool). b ∷ l) rest

free_length : (ls : List Latch) (bs : List Bool) → AreInitial ls bs → length (free_bits ls bs) ≡ free_count ls
free_length [] [] h = refl
free_length [] (b ∷ bs) h = absurd h
free_length (l ∷ ls) [] h = absurd h
free_length (l ∷ ls) (b ∷ bs) h = by l.reset (free_length ls bs h.1) ∙ sym (sum_by-cons (λ (latch : Latch). taken_bits latch.reset) l ls)
  where
    by : (r : Reset) → length (free_bits ls bs) ≡ free_count ls → length (give r b (free_bits ls bs)) ≡ taken_bits r + free_count ls
    by reset.Zero e = omega arith
    by reset.One e = omega arith
    by reset.Free e = omega arith

first_length : (ls : List Latch) (given : List Bool) → length (first_bits ls given) ≡ length ls
first_length [] given = refl
first_length (l ∷ ls) given = ap suc (first_length ls (drop (taken_bits l.reset) given))

first_initial : (ls : List Latch) (given : List Bool) → AreInitial ls (first_bits ls given)
first_initial [] given = tt
first_initial (l ∷ ls) given = (by l.reset, first_initial ls (drop (taken_bits l.reset) given))
  where
    by : (r : Reset) → AgreesWithReset r (first_bit r given)
    by reset.Zero = refl
    by reset.One = refl
    by reset.Free = tt

-- latches that begin with 0
zeros_initial : (ls : List Latch) (n : ℕ) → map (λ latch. latch.reset) ls ≡ replicate n reset.Zero → AreInitial ls (replicate (length ls) false)
zeros_initial [] n e = tt
zeros_initial (l ∷ ls) zero e = absurd (cc)
zeros_initial (l ∷ ls) (suc n) e =
    let own : l.reset ≡ reset.Zero = cc in
    let rest : map (λ latch. latch.reset) ls ≡ replicate n reset.Zero = cc in
    (subst (λ (r : Reset). AgreesWithReset r false) (sym own) refl, zeros_initial ls n rest)

initial_zeros : (ls : List Latch) (n : ℕ) (bs : List Bool) → map (λ latch. latch.reset) ls ≡ replicate n reset.Zero → AreInitial ls bs → bs ≡ replicate (length ls) false
initial_zeros [] n [] e h = refl
initial_zeros [] n (b ∷ bs) e h = absurd h
initial_zeros (l ∷ ls) n [] e h = absurd h
initial_zeros (l ∷ ls) zero (b ∷ bs) e h = absurd (cc)
initial_zeros (l ∷ ls) (suc n) (b ∷ bs) e h =
    let own : l.reset ≡ reset.Zero = cc in
    let rest : map (λ latch. latch.reset) ls ≡ replicate n reset.Zero = cc in
    ap₂ ◌∷◌ (subst (λ (r : Reset). AgreesWithReset r b) own h.0) (initial_zeros ls n bs rest h.1)

-- ---- inputs

-- input frames with bits behind, and without
abbrev with_more : List Bool → List (List Bool) → List (List Bool)
with_more more inputs = map (λ input. input ++ more) inputs

taken_again : (n : ℕ) (more : List Bool) (inputs : List (List Bool)) → All (λ input. length input ≡ n) inputs → map (take n) (with_more more inputs) ≡ inputs
taken_again n more [] all = refl
taken_again n more (input ∷ inputs) all =
    ap₂ ◌∷◌
    (subst (λ (k : ℕ). take k (input ++ more) ≡ input) (All-head (λ (i : List Bool). length i ≡ n) input inputs all) (take-append_seam input more))
    (taken_again n more inputs (All-tail (λ (i : List Bool). length i ≡ n) input inputs all))

more_lengths : (n m : ℕ) (more : List Bool) (inputs : List (List Bool)) → n + length more ≡ m → All (λ input. length input ≡ n) inputs → All (λ input. length input ≡ m) (with_more more inputs)
more_lengths n m more [] e all = All-nil (λ (i : List Bool). length i ≡ m)
more_lengths n m more (input ∷ inputs) e all =
    All-cons (λ (i : List Bool). length i ≡ m) (input ++ more) (with_more more inputs)
    (length-append input more ∙ ap (λ k. k + length more) (All-head (λ (i : List Bool). length i ≡ n) input inputs all) ∙ e)
    (more_lengths n m more inputs e (All-tail (λ (i : List Bool). length i ≡ n) input inputs all))

take_lengths : (n m : ℕ) (given : List (List Bool)) → n ≤ m → All (λ input. length input ≡ m) given → All (λ input. length input ≡ n) (map (take n) given)
take_lengths n m [] le all = All-nil (λ (i : List Bool). length i ≡ n)
take_lengths n m (input ∷ given) le all =
    let own : length input ≡ m = All-head (λ (i : List Bool). length i ≡ m) input given all in
    All-cons (λ (i : List Bool). length i ≡ n) (take n input) (map (take n) given) (length-take-le n input (omega arith)) (take_lengths n m given le (All-tail (λ (i : List Bool). length i ≡ m) input given all))

-- ---- what rises

rises_step : (met hold bad rest : Bool) → (true && ((bad && (met && hold)) || ((met && hold) && rest))) ≡ (met && (hold && (bad || rest)))
rises_step true true true rest = refl
rises_step true true false rest = refl
rises_step true false true rest = refl
rises_step true false false rest = refl
rises_step false true true rest = refl
rises_step false true false rest = refl
rises_step false false true rest = refl
rises_step false false false rest = refl

-- a property of the one stands at a place, and one of the other
shown_bit : (f g : ℕ → Bool) (b : Bool) (o : Option ℕ) → ((l : ℕ) → g l ≡ (f l && b)) → unwrap_or (option_map g o) false ≡ (unwrap_or (option_map f o) false && b)
shown_bit f g b None e = refl
shown_bit f g b (Some l) e = e l

pub rises_alike : (c : Circuit) (choice : Option ℕ) (d : Circuit) (first met : Bool) (k j : ℕ) (vs ws : List Valuation)
    → d.constraints ≡ [] → slice_get (chosen choice c.bads) j ≡ slice_get c.bads k → GoTogether c choice d first met vs ws
    → rises_within j (map (circuit_shows d) ws) ≡ (met && rises_within k (map (circuit_shows c) vs))
rises_alike c choice d first met k j [] [] none same h = no met
  where
    no : (b : Bool) → false ≡ (b && false)
    no true = refl
    no false = refl
rises_alike c choice d first met k j [] (w ∷ ws) none same h = absurd h
rises_alike c choice d first met k j (v ∷ vs) [] none same h = absurd h
rises_alike c choice d first met k j (v ∷ vs) (w ∷ ws) none same h =
    let rest = rises_alike c choice d false (met && all_hold c v) k j vs ws none same h.1 in
    let f : ℕ → Bool = literal_value v in
    let g : ℕ → Bool = λ l. literal_value v l && (met && all_hold c v) in
    let all : list_all (λ holds. holds) (map (literal_value w) d.constraints) ≡ true = rw none refl in
    let holds : list_all (λ holds. holds) (map f c.constraints) ≡ all_hold c v = list_all-map (λ holds. holds) f c.constraints in
    let own : unwrap_or (slice_get (map f c.bads) k) false ≡ unwrap_or (option_map f (slice_get c.bads k)) false = ap (λ (o : Option Bool). unwrap_or o false) (slice_get-map f c.bads k) in
    let bad : unwrap_or (slice_get (map (literal_value w) d.bads) j) false ≡ (unwrap_or (slice_get (map f c.bads) k) false && (met && all_hold c v)) =
    ap (λ (bs : List Bool). unwrap_or (slice_get bs j) false) h.0.bads
    ∙ ap (λ (o : Option Bool). unwrap_or o false) (slice_get-map g (chosen choice c.bads) j)
    ∙ ap (λ (o : Option ℕ). unwrap_or (option_map g o) false) same
    ∙ shown_bit f g (met && all_hold c v) (slice_get c.bads k) (λ l. refl)
    ∙ ap (λ (b : Bool). b && (met && all_hold c v)) (sym own) in
    rw (all, bad, rest, holds) (rises_step met (all_hold c v) (unwrap_or (slice_get (map f c.bads) k) false) (rises_within k (map (circuit_shows c) vs)))

-- ---- from one to the other

-- there is a trace of a circuit
abbrev pub Exists : Circuit → Type 0
Exists c = (state : List Bool) (inputs : List (List Bool)) → length state ≡ length c.latches → All (λ input. length input ≡ c.inputs) inputs → (vs : List Valuation) × IsCircuitTrace c state inputs vs

-- the bits behind a circuit's own inputs
abbrev more_bits : Circuit → List Bool → List Bool
more_bits c state = free_bits c.latches state ++ replicate (input_count c - (c.inputs + free_count c.latches)) false

more_count : (c : Circuit) (state : List Bool) → AreInitial c.latches state → c.inputs + length (more_bits c state) ≡ input_count c
more_count c state h =
    let n = free_length c.latches state h in
    let r = length-replicate (input_count c - (c.inputs + free_count c.latches)) false in
    let a = length-append (free_bits c.latches state) (replicate (input_count c - (c.inputs + free_count c.latches)) false) in
    let le : c.inputs + free_count c.latches ≤ input_count c = omega arith in
    omega arith

-- no frame, no rise: else the circuit begins as it should
begins_again : (c : Circuit) (state input : List Bool) (inputs : List (List Bool)) → AreInitial c.latches state → length input ≡ c.inputs → begins c (with_more (more_bits c state) (input ∷ inputs)) ≡ state
begins_again c state input inputs h e =
    ap (first_bits c.latches) (subst (λ (n : ℕ). drop n (input ++ more_bits c state) ≡ more_bits c state) e (drop-append_seam input (more_bits c state)))
    ∙ first_again c.latches state (replicate (input_count c - (c.inputs + free_count c.latches)) false) h

-- what a trace of a circuit from a first frame is in its engine form: input frames and frames that go together with it
abbrev pub FormTrace : (c : Circuit) (choice : Option ℕ) (d : Circuit) (state : List Bool) (inputs : List (List Bool)) (vs : List Valuation) → Type 0
FormTrace c choice d state inputs vs =
    (given : List (List Bool)) × (ws : List Valuation) × (begins c given ≡ state) × (map (take c.inputs) given ≡ inputs) × IsCircuitTrace d (replicate (length d.latches) false) given ws × GoTogether c choice d true true vs ws

pub form_trace : (c : Circuit) (choice : Option ℕ) (d : Circuit) → IsEngineFormOf c choice d → Exists d → (state input : List Bool) (inputs : List (List Bool)) (vs : List Valuation)
    → AreInitial c.latches state → IsCircuitTrace c state (input ∷ inputs) vs → FormTrace c choice d state (input ∷ inputs) vs
form_trace c choice d form exists state input inputs vs initial t =
    let wide = trace_inputs c state (input ∷ inputs) vs t in
    let more : List Bool = more_bits c state in
    let given : List (List Bool) = with_more more (input ∷ inputs) in
    let begin : begins c given ≡ state = begins_again c state input inputs initial (All-head (λ (i : List Bool). length i ≡ c.inputs) input inputs wide) in
    let own : map (take c.inputs) given ≡ input ∷ inputs = taken_again c.inputs more (input ∷ inputs) wide in
    let count : c.inputs + length more ≡ d.inputs = more_count c state initial ∙ sym form.inputs in
    let there = exists (replicate (length d.latches) false) given (length-replicate (length d.latches) false) (more_lengths c.inputs d.inputs more (input ∷ inputs) count wide) in
    let trace : IsCircuitTrace c (begins c given) (map (take c.inputs) given) vs =
    subst (λ (s : List Bool). IsCircuitTrace c s (map (take c.inputs) given) vs) (sym begin) (subst (λ (i : List (List Bool)). IsCircuitTrace c state i vs) (sym own) t) in
    (given, there.0, begin, own, there.1, form.frames given vs there.0 trace there.1)

go_on_as_long : (c : Circuit) (choice : Option ℕ) (d : Circuit) (first met : Bool) (vs ws : List Valuation) → GoTogether c choice d first met vs ws → length ws ≡ length vs
go_on_as_long c choice d first met [] [] h = refl
go_on_as_long c choice d first met [] (w ∷ ws) h = absurd h
go_on_as_long c choice d first met (v ∷ vs) [] h = absurd h
go_on_as_long c choice d first met (v ∷ vs) (w ∷ ws) h = ap suc (go_on_as_long c choice d false (met && all_hold c v) vs ws h.1)

pub rises_in_form : (c : Circuit) (choice : Option ℕ) (d : Circuit) (k j : ℕ) → IsEngineFormOf c choice d → slice_get (chosen choice c.bads) j ≡ slice_get c.bads k → Exists d → (h : CanRiseInCircuit c k) → (g : CanRiseInCircuit d j) × (length g.frames ≡ length h.frames)
rises_in_form c choice d k j form same exists h = by h.inputs h.frames h.trace h.rises
  where
    by : (inputs : List (List Bool)) (vs : List Valuation) → IsCircuitTrace c h.state inputs vs → rises_within k (map (circuit_shows c) vs) ≡ true → (g : CanRiseInCircuit d j) × (length g.frames ≡ length vs)
    by [] [] t r = absurd (cc)
    by [] (v ∷ vs) t r = absurd t
    by (input ∷ inputs) vs t r =
        let f = form_trace c choice d form exists h.state input inputs vs h.initial t in (
          record {
            state = replicate (length d.latches) false;
            inputs = f.0;
            frames = f.1;
            initial = zeros_initial d.latches _ form.resets;
            trace = f.4;
            rises = rises_alike c choice d true true k j vs f.1 form.no_constraints same f.5 ∙ r;
          },
          go_on_as_long c choice d true true vs f.1 f.5,
        )

begins_length : (c : Circuit) (given : List (List Bool)) → length (begins c given) ≡ length c.latches
begins_length c [] = first_length c.latches []
begins_length c (input ∷ given) = first_length c.latches (drop c.inputs input)

begins_initial : (c : Circuit) (given : List (List Bool)) → AreInitial c.latches (begins c given)
begins_initial c [] = first_initial c.latches []
begins_initial c (input ∷ given) = first_initial c.latches (drop c.inputs input)

-- what input frames and frames of an engine form are in its circuit: initial bits, and a trace that goes together with them
abbrev pub CircuitTrace : (c : Circuit) (choice : Option ℕ) (d : Circuit) (given : List (List Bool)) (ws : List Valuation) → Type 0
CircuitTrace c choice d given ws =
    AreInitial c.latches (begins c given) × (vs : List Valuation) × IsCircuitTrace c (begins c given) (map (take c.inputs) given) vs × GoTogether c choice d true true vs ws

pub circuit_trace : (c : Circuit) (choice : Option ℕ) (d : Circuit) → IsEngineFormOf c choice d → Exists c → (given : List (List Bool)) (ws : List Valuation)
    → IsCircuitTrace d (replicate (length d.latches) false) given ws → CircuitTrace c choice d given ws
circuit_trace c choice d form exists given ws t =
    let wide = trace_inputs d (replicate (length d.latches) false) given ws t in
    let le : c.inputs ≤ d.inputs = (let e = form.inputs in omega arith) in
    let there = exists (begins c given) (map (take c.inputs) given) (begins_length c given) (take_lengths c.inputs d.inputs given le wide) in
    (begins_initial c given, there.0, there.1, form.frames given there.0 ws there.1 t)

pub rises_in_circuit : (c : Circuit) (choice : Option ℕ) (d : Circuit) (k j : ℕ) → IsEngineFormOf c choice d → slice_get (chosen choice c.bads) j ≡ slice_get c.bads k → Exists c → (h : CanRiseInCircuit d j) → (g : CanRiseInCircuit c k) × (length g.frames ≡ length h.frames)
rises_in_circuit c choice d k j form same exists h =
    let zeros : h.state ≡ replicate (length d.latches) false = initial_zeros d.latches _ h.state form.resets h.initial in
    let f = circuit_trace c choice d form exists h.inputs h.frames (subst (λ (s : List Bool). IsCircuitTrace d s h.inputs h.frames) zeros h.trace) in (
      record {
        state = begins c h.inputs;
        inputs = map (take c.inputs) h.inputs;
        frames = f.1;
        initial = f.0;
        trace = f.2;
        rises = sym (rises_alike c choice d true true k j f.1 h.frames form.no_constraints same f.3) ∙ h.rises;
      },
      sym (go_on_as_long c choice d true true f.1 h.frames f.3),
    )

-- the chosen property is the first one
pub chosen_first : (k : ℕ) (bads : List ℕ) → slice_get (chosen (Some k) bads) 0 ≡ slice_get bads k
chosen_first zero [] = refl
chosen_first (suc k) [] = refl
chosen_first zero (b ∷ bs) = refl
chosen_first (suc k) (b ∷ bs) = chosen_first k bs
