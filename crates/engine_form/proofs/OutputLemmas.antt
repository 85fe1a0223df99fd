-- What a circuit shows whose outputs are bad properties.
use Rattle.std.proofs.Common.{◌≡◌, ◌≢◌, ℕ, zero, suc, ◌+◌, ◌-◌, ◌<◌, ◌≤◌, Bool, false, ◌&&◌, ◌||◌, List, [], ◌∷◌, ◌++◌, length, map, unwrap_or, refl, sym, ap, ap₂, subst, ◌∙◌, length-append, ⊎_elim, arith}
use Rattle.std.specs.Prelude.{slice_get}
use Rattle.std.specs.List.{list_all}
use Rattle.std.proofs.lemmas.List.{map-append, length-map}
use Rattle.std.proofs.lemmas.Bool.{cases_lt}
use Rattle.std.proofs.lemmas.List.Folds.{list_all-map}
use Rattle.aiger.specs.declared.circuit.Latch.{Latch}
use Rattle.aiger.specs.declared.circuit.Gate.{Gate}
use Rattle.base.specs.Literal.{Valuation, literal_value}
use Rattle.aiger.specs.Net.{Net, Satisfies, net_input_bits, latch_bits}
use Rattle.aiger.specs.declared.circuit.Section.{Section}
use Rattle.aiger.specs.declared.circuit.Section.TheVariants as section
use Rattle.aiger.specs.Circuit.{Circuit, IsCircuit, NameMap, net, section_count, name_of}
use Rattle.aiger.proofs.SectionNameLemmas.{name_of-outside, same_names}
use Rattle.engine_form.specs.Moves.{unnamed}
use Rattle.aiger.specs.Trace.{AreInitial, IsCircuitTrace, next_latch_bits}
use Rattle.base.specs.Shown.{Shown, rises_within}
use Rattle.aiger.specs.Reachability.{circuit_shows, CanRiseInCircuit}
use Rattle.engine_form.specs.Outputs.{HasOutputsAsBads, is_one_within, OutputCanBeOne}

-- both have the same gates over the same inputs and latches
same_net : (c d : Circuit) → HasOutputsAsBads c d → net d ≡ net c
same_net c d h =
    ap (λ (k : ℕ). record { inputs = k; latches = length d.latches; gates = d.gates }) h.inputs
    ∙ ap₂ (λ (ls : List Latch) (gs : List Gate). record { inputs = c.inputs; latches = length ls; gates = gs }) h.latches h.gates

-- a trace of gates and latches is one of the same gates and latches
trace_by : (c d : Circuit) (state : List Bool) (inputs : List (List Bool)) (vs : List Valuation) → net d ≡ net c → d.latches ≡ c.latches → IsCircuitTrace c state inputs vs → IsCircuitTrace d state inputs vs
trace_by c d state [] [] same latches t = tt
trace_by c d state [] (v ∷ vs) same latches t = t
trace_by c d state (input ∷ inputs) [] same latches t = t
trace_by c d state (input ∷ inputs) (v ∷ vs) same latches t =
    let next : next_latch_bits c v ≡ next_latch_bits d v = ap (map (λ (latch : Latch). literal_value v latch.next)) (sym latches) in (
      record {
        gates = subst (λ (n : Net). Satisfies n v) (sym same) t.0.gates;
        inputs = subst (λ (n : Net). net_input_bits n v ≡ input) (sym same) t.0.inputs;
        latches = subst (λ (n : Net). latch_bits n v ≡ state) (sym same) t.0.latches;
      },
      trace_by c d (next_latch_bits d v) inputs vs same latches (subst (λ (s : List Bool). IsCircuitTrace c s inputs vs) next t.1),
    )

pub trace_after : (c d : Circuit) (state : List Bool) (inputs : List (List Bool)) (vs : List Valuation) → HasOutputsAsBads c d → IsCircuitTrace c state inputs vs → IsCircuitTrace d state inputs vs
trace_after c d state inputs vs h t = trace_by c d state inputs vs (same_net c d h) h.latches t

pub trace_before : (c d : Circuit) (state : List Bool) (inputs : List (List Bool)) (vs : List Valuation) → HasOutputsAsBads c d → IsCircuitTrace d state inputs vs → IsCircuitTrace c state inputs vs
trace_before c d state inputs vs h t = trace_by d c state inputs vs (sym (same_net c d h)) (sym h.latches) t

pub initial_after : (c d : Circuit) (state : List Bool) → HasOutputsAsBads c d → AreInitial c.latches state → AreInitial d.latches state
initial_after c d state h i = subst (λ (ls : List Latch). AreInitial ls state) (sym h.latches) i

pub initial_before : (c d : Circuit) (state : List Bool) → HasOutputsAsBads c d → AreInitial d.latches state → AreInitial c.latches state
initial_before c d state h i = subst (λ (ls : List Latch). AreInitial ls state) h.latches i

-- ---- what a frame shows

pub shows : (c d : Circuit) (v : Valuation) → HasOutputsAsBads c d
    → circuit_shows d v ≡ record { bads = map (literal_value v) c.bads ++ map (literal_value v) c.outputs; constraints = map (literal_value v) c.constraints }
shows c d v h =
    ap₂ (λ (bs cs : List Bool). record { bads = bs; constraints = cs }) (ap (map (literal_value v)) h.bads ∙ map-append (literal_value v) c.bads c.outputs) (ap (map (literal_value v)) h.constraints)

in_front : {A : Type 0} (xs ys : List A) (k : ℕ) → k < length xs → slice_get (xs ++ ys) k ≡ slice_get xs k
in_front [] ys k inside = absurd (omega arith)
in_front (x ∷ xs) ys zero inside = refl
in_front (x ∷ xs) ys (suc k) inside = in_front xs ys k (omega arith)

behind : {A : Type 0} (xs ys : List A) (k j : ℕ) → j ≡ length xs + k → slice_get (xs ++ ys) j ≡ slice_get ys k
behind [] ys k j e = ap (slice_get ys) (omega arith)
behind (x ∷ xs) ys k zero e = absurd (omega arith)
behind (x ∷ xs) ys k (suc j) e = behind xs ys k j (omega arith)

pub bad_bit : (c d : Circuit) (v : Valuation) (b : ℕ) → HasOutputsAsBads c d → b < length c.bads → slice_get (circuit_shows d v).bads b ≡ slice_get (circuit_shows c v).bads b
bad_bit c d v b h inside =
    ap (λ (s : Shown). slice_get s.bads b) (shows c d v h) ∙ in_front (map (literal_value v) c.bads) (map (literal_value v) c.outputs) b (let e = length-map c.bads (literal_value v) in omega arith)

pub output_shown : (c d : Circuit) (v : Valuation) (k : ℕ) → HasOutputsAsBads c d → slice_get (circuit_shows d v).bads (length c.bads + k) ≡ slice_get (map (literal_value v) c.outputs) k
output_shown c d v k h =
    ap (λ (s : Shown). slice_get s.bads (length c.bads + k)) (shows c d v h)
    ∙ behind (map (literal_value v) c.bads) (map (literal_value v) c.outputs) k (length c.bads + k) (let e = length-map c.bads (literal_value v) in omega arith)

-- ---- what rises

pub bad_within : (c d : Circuit) (b : ℕ) (vs : List Valuation) → HasOutputsAsBads c d → b < length c.bads → rises_within b (map (circuit_shows d) vs) ≡ rises_within b (map (circuit_shows c) vs)
bad_within c d b [] h inside = refl
bad_within c d b (v ∷ vs) h inside =
    ap₂ ◌&&◌ (ap (λ (s : Shown). list_all (λ holds. holds) s.constraints) (shows c d v h))
    (ap₂ ◌||◌ (ap (λ o. unwrap_or o false) (bad_bit c d v b h inside)) (bad_within c d b vs h inside))

pub output_within : (c d : Circuit) (k : ℕ) (vs : List Valuation) → HasOutputsAsBads c d → rises_within (length c.bads + k) (map (circuit_shows d) vs) ≡ is_one_within c k vs
output_within c d k [] h = refl
output_within c d k (v ∷ vs) h =
    ap₂ ◌&&◌ (ap (λ (s : Shown). list_all (λ holds. holds) s.constraints) (shows c d v h) ∙ list_all-map (λ holds. holds) (literal_value v) c.constraints)
    (ap₂ ◌||◌ (ap (λ o. unwrap_or o false) (output_shown c d v k h)) (output_within c d k vs h))

pub bad_rises_before : (c d : Circuit) (b : ℕ) → HasOutputsAsBads c d → b < length c.bads → CanRiseInCircuit d b → CanRiseInCircuit c b
bad_rises_before c d b h inside r =
    record {
      state = r.state;
      inputs = r.inputs;
      frames = r.frames;
      initial = initial_before c d r.state h r.initial;
      trace = trace_before c d r.state r.inputs r.frames h r.trace;
      rises = sym (bad_within c d b r.frames h inside) ∙ r.rises;
    }

pub bad_rises_after : (c d : Circuit) (b : ℕ) → HasOutputsAsBads c d → b < length c.bads → CanRiseInCircuit c b → CanRiseInCircuit d b
bad_rises_after c d b h inside r =
    record {
      state = r.state;
      inputs = r.inputs;
      frames = r.frames;
      initial = initial_after c d r.state h r.initial;
      trace = trace_after c d r.state r.inputs r.frames h r.trace;
      rises = bad_within c d b r.frames h inside ∙ r.rises;
    }

pub output_rises_before : (c d : Circuit) (k : ℕ) → HasOutputsAsBads c d → CanRiseInCircuit d (length c.bads + k) → OutputCanBeOne c k
output_rises_before c d k h r =
    record {
      state = r.state;
      inputs = r.inputs;
      frames = r.frames;
      initial = initial_before c d r.state h r.initial;
      trace = trace_before c d r.state r.inputs r.frames h r.trace;
      one = sym (output_within c d k r.frames h) ∙ r.rises;
    }

pub output_rises_after : (c d : Circuit) (k : ℕ) → HasOutputsAsBads c d → OutputCanBeOne c k → CanRiseInCircuit d (length c.bads + k)
output_rises_after c d k h o =
    record {
      state = o.state;
      inputs = o.inputs;
      frames = o.frames;
      initial = initial_after c d o.state h o.initial;
      trace = trace_after c d o.state o.inputs o.frames h o.trace;
      rises = output_within c d k o.frames h ∙ o.one;
    }

-- ---- there is one such circuit

-- all but the names
lists_are : (c d : Circuit) → HasOutputsAsBads c d → d ≡ record (unnamed c) { names = d.names }
lists_are c d h =
    ap (λ (x : ℕ). record d { inputs = x }) h.inputs
    ∙ ap (λ (x : List Latch). record d { inputs = c.inputs; latches = x }) h.latches
    ∙ ap (λ (x : List Gate). record d { inputs = c.inputs; latches = c.latches; gates = x }) h.gates
    ∙ ap (λ (x : List ℕ). record d { inputs = c.inputs; latches = c.latches; gates = c.gates; constraints = x }) h.constraints
    ∙ ap (λ (x : List (List ℕ)). record d { inputs = c.inputs; latches = c.latches; gates = c.gates; constraints = c.constraints; justice = x }) h.justice
    ∙ ap (λ (x : List ℕ). record d { inputs = c.inputs; latches = c.latches; gates = c.gates; constraints = c.constraints; justice = c.justice; fair = x }) h.fair
    ∙ ap₂ (λ (bs os : List ℕ). record (unnamed c) { bads = bs; outputs = os; names = d.names }) h.bads h.no_outputs

counted : (c d : Circuit) (s : Section) → HasOutputsAsBads c d → section_count s d ≡ section_count s (unnamed c)
counted c d s h = ap (section_count s) (lists_are c d h) ∙ same s
  where
    same : (s : Section) → section_count s (record (unnamed c) { names = d.names }) ≡ section_count s (unnamed c)
    same section.Input = refl
    same section.Latch = refl
    same section.Output = refl
    same section.Bad = refl
    same section.Constraint = refl
    same section.Justice = refl
    same section.Fair = refl

-- names are found alike in both
names_alike : (c d e : Circuit) → HasOutputsAsBads c d → HasOutputsAsBads c e → (s : Section) (k : ℕ) → name_of d s k ≡ name_of e s k
names_alike c d e h g s k = by s
  where
    none : (s : Section) → section_count s (unnamed c) ≤ k → name_of d s k ≡ name_of e s k
    none s out =
        let m = counted c d s h in
        let n = counted c e s g in
        name_of-outside d s k h.circuit (omega arith) ∙ sym (name_of-outside e s k g.circuit (omega arith))

    kept : (s : Section) → s ≢ section.Output → section_count s (unnamed c) ≡ section_count s c → name_of d s k ≡ name_of e s k
    kept s apart same =
        ⊎_elim (λ (inside : k < section_count s c). h.names s k apart inside ∙ sym (g.names s k apart inside)) (λ (out : section_count s c ≤ k). none s (omega arith)) (cases_lt k (section_count s c))

    bad : name_of d section.Bad k ≡ name_of e section.Bad k
    bad =
        ⊎_elim (λ (inside : k < length c.bads). h.names section.Bad k (λ q. cc) inside ∙ sym (g.names section.Bad k (λ q. cc) inside))
        (λ (behind : length c.bads ≤ k). ⊎_elim
        (λ (inside : k - length c.bads < length c.outputs).
        let at : length c.bads + (k - length c.bads) ≡ k = omega arith in
        subst (λ (j : ℕ). name_of d section.Bad j ≡ name_of e section.Bad j) at (h.output_names (k - length c.bads) inside ∙ sym (g.output_names (k - length c.bads) inside)))
        (λ (out : length c.outputs ≤ k - length c.bads). none section.Bad (let m = length-append c.bads c.outputs in omega arith))
        (cases_lt (k - length c.bads) (length c.outputs)))
        (cases_lt k (length c.bads))

    by : (s : Section) → name_of d s k ≡ name_of e s k
    by section.Input = kept section.Input (λ q. cc) refl
    by section.Latch = kept section.Latch (λ q. cc) refl
    by section.Output = none section.Output (omega arith)
    by section.Bad = bad
    by section.Constraint = kept section.Constraint (λ q. cc) refl
    by section.Justice = kept section.Justice (λ q. cc) refl
    by section.Fair = kept section.Fair (λ q. cc) refl

pub one_only : (c d e : Circuit) → HasOutputsAsBads c d → HasOutputsAsBads c e → d ≡ e
one_only c d e h g =
    let first = lists_are c d h in
    let second = lists_are c e g in
    let other : record e { names = d.names } ≡ d = ap (λ (x : Circuit). record x { names = d.names }) second ∙ sym first in
    let names : d.names ≡ e.names = same_names e d.names g.circuit (subst IsCircuit (sym other) h.circuit) (names_alike c d e h g) in
    first ∙ ap (λ (x : NameMap). record (unnamed c) { names = x }) names ∙ sym second
