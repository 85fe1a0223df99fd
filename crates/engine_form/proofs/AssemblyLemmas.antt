-- An engine form from its parts.
use Rattle.std.proofs.Common.{◌≡◌, ℕ, suc, ◌-◌, ◌<◌, ◌≤◌, Bool, true, false, not, List, [], ◌∷◌, ◌++◌, ◌==◌, length, map, drop, replicate, Option, Some, None, if◌then◌else◌, nat_lt, refl, sym, ap, ap₂, subst, ◌∙◌, arith}
use Rattle.std.specs.Prelude.{slice_set}
use Rattle.std.proofs.lemmas.Bool.Decides.{nat_tests}
use Rattle.std.proofs.lemmas.List.{length-map, length-replicate}
use Rattle.aiger.specs.declared.circuit.Latch.{Latch}
use Rattle.aiger.specs.declared.circuit.Reset.{Reset}
use Rattle.aiger.specs.declared.circuit.Reset.TheVariants.{Zero}
use Rattle.aiger.specs.Limits.{greatest_count}
use Rattle.base.specs.Literal.{negation}
use Rattle.aiger.specs.Net.{Net}
use Rattle.aiger.specs.Circuit.{Circuit, IsCircuit, net, fresh_latch, with_latch}
use Rattle.gates.specs.Made.{gates_only}
use Rattle.engine_form.specs.declared.fault.EngineFault.{EngineFault}
use Rattle.engine_form.specs.declared.fault.EngineFault.TheVariants as fault
use Rattle.engine_form.specs.EngineForm.{free_count, with_own, latch_count, has_chosen, IsEngineFormOf}
use Rattle.engine_form.specs.Reads.{kept_latch, form_latches, FormMade}
use Rattle.engine_form.specs.Refusal.{engine_bound, engine_refusal}
use Rattle.engine_form.proofs.LatchLemmas.{own_set}
use Rattle.engine_form.proofs.FormLemmas.{map_own, same_own, made_shows_same}

-- nothing speaks against the engine form of a circuit
pub record IsAccepted (c : Circuit) (choice : Option ℕ) : Type 0 where
  pub no_justice : c.justice ≡ []
  pub no_fair : c.fair ≡ []
  pub has_bad : has_chosen choice c.bads ≡ true

some_there : (n : ℕ) → nat_lt 0 (suc n) ≡ true
some_there n = grind (arith, nat_tests)

pub accepted_given : (c : Circuit) (choice : Option ℕ) → engine_refusal c choice ≡ None → IsAccepted c choice × (engine_bound c ≤ greatest_count)
accepted_given c choice e = by c.justice c.fair (length c.bads == 0) (has_chosen choice c.bads) (nat_lt greatest_count (engine_bound c)) refl refl refl refl e
  where
    by : (j : List (List ℕ)) (f : List ℕ) (none b large : Bool) → c.justice ≡ j → c.fair ≡ f → has_chosen choice c.bads ≡ b → nat_lt greatest_count (engine_bound c) ≡ large
        → (if nat_lt 0 (length j) then Some fault.Justice
        else (if nat_lt 0 (length f) then Some fault.Fair
        else (if none then Some fault.NoBad
        else (if not b then Some fault.NoSuchBad
        else (if large then Some fault.TooBig else None))))) ≡ None → IsAccepted c choice × (engine_bound c ≤ greatest_count)
    by (x ∷ j) f none b large p q r s e = let h = rw (some_there (length j)) at e in absurd (cc)
    by [] (x ∷ f) none b large p q r s e = let h = rw (some_there (length f)) at e in absurd (cc)
    by [] [] true b large p q r s e = absurd (cc)
    by [] [] false false large p q r s e = absurd (cc)
    by [] [] false true true p q r s e = absurd (cc)
    by [] [] false true false p q r s e = (record { no_justice = p; no_fair = q; has_bad = r }, grind (arith, nat_tests))

-- and it has a bad property
pub some_bad : (c : Circuit) (choice : Option ℕ) → engine_refusal c choice ≡ None → 0 < length c.bads
some_bad c choice e = by c.justice c.fair c.bads (if not (has_chosen choice c.bads) then Some fault.NoSuchBad else (if nat_lt greatest_count (engine_bound c) then Some fault.TooBig else None)) e
  where
    by : (j : List (List ℕ)) (f bads : List ℕ) (rest : Option EngineFault)
        → (if nat_lt 0 (length j) then Some fault.Justice else (if nat_lt 0 (length f) then Some fault.Fair else (if length bads == 0 then Some fault.NoBad else rest))) ≡ None → 0 < length bads
    by (x ∷ j) f bads rest e = let h = rw (some_there (length j)) at e in absurd (cc)
    by [] (x ∷ f) bads rest e = let h = rw (some_there (length f)) at e in absurd (cc)
    by [] [] [] rest e = absurd (cc)
    by [] [] (b ∷ bads) rest e = omega arith

-- the latches of a form begin with 0
kept_resets : (table : List ℕ) (ls : List Latch) → map (λ (latch : Latch). latch.reset) (map (kept_latch table) ls) ≡ replicate (length ls) Zero
kept_resets table [] = refl
kept_resets table (l ∷ ls) = ap (λ (rs : List Reset). Zero ∷ rs) (kept_resets table ls)

form_resets : (c : Circuit) (table : List ℕ) (met : ℕ) → map (λ (latch : Latch). latch.reset) (form_latches c table met) ≡ replicate (latch_count c) Zero
form_resets c table met =
    map_own (λ (latch : Latch). latch.reset) c fresh_latch (map (kept_latch table) c.latches) (record { next = 1; reset = Zero }) (record { next = negation met; reset = Zero })
    ∙ ap (λ (kept : List Reset). with_own c Zero kept Zero Zero) (kept_resets table c.latches)
    ∙ same_own c Zero

-- and are as many as they should be
pub form_length : (c : Circuit) (table : List ℕ) (met : ℕ) → length (form_latches c table met) ≡ latch_count c
form_length c table met =
    sym (length-map (form_latches c table met) (λ (latch : Latch). latch.reset)) ∙ ap length (form_resets c table met) ∙ length-replicate (latch_count c) Zero

-- a circuit of nothing but what was made for a form is one
pub assembled : (c : Circuit) (choice : Option ℕ) (d : Circuit) (table : List ℕ) (met : ℕ) → IsCircuit c → IsAccepted c choice → IsCircuit d
    → FormMade c choice (net d) table met d.bads → d.latches ≡ form_latches c table met → d ≡ record (gates_only (net d)) { latches = d.latches; bads = d.bads }
    → IsEngineFormOf c choice d
assembled c choice d table met valid accepted circuit made latches whole =
    record {
      original = valid;
      no_justice_before = accepted.no_justice;
      no_fair_before = accepted.no_fair;
      has_bad = accepted.has_bad;
      circuit = circuit;
      inputs = made.inputs;
      resets = ap (map (λ (latch : Latch). latch.reset)) latches ∙ form_resets c table met;
      no_outputs = ap (λ (x : Circuit). x.outputs) whole;
      no_constraints = ap (λ (x : Circuit). x.constraints) whole;
      no_justice = ap (λ (x : Circuit). x.justice) whole;
      no_fair = ap (λ (x : Circuit). x.fair) whole;
      no_names = ap (λ (x : Circuit). x.names) whole;
      few_gates = made.few_gates;
      frames = made_shows_same c d choice table met valid made latches;
    }

-- the bare circuit of gates has their net, and latches that are not set
pub net_of_bare : (n : Net) (form : Circuit) → form ≡ gates_only n → net form ≡ n
net_of_bare n form is = ap net is ∙ ap (λ (k : ℕ). record n { latches = k }) (length-replicate n.latches fresh_latch)

pub bare_by_net : (n : Net) (form : Circuit) → form ≡ gates_only n → form ≡ gates_only (net form)
bare_by_net n form is = is ∙ ap gates_only (sym (net_of_bare n form is))

-- a circuit with a latch set where that is wanted
with_if : (b : Bool) (c : Circuit) (k : ℕ) (latch : Latch) → (if b then with_latch c k latch else c) ≡ record c { latches = if b then slice_set c.latches k latch else c.latches }
with_if true c k latch = refl
with_if false c k latch = refl

-- latches set in turn are those of a form
pub latches_set : (c : Circuit) (table : List ℕ) (met next place last : ℕ) (has_free has_some : Bool) (ls : List Latch) (form first second third : Circuit)
    → form.latches ≡ replicate (latch_count c) fresh_latch → ls ≡ c.latches → next ≡ negation met → place ≡ length c.latches → last ≡ latch_count c - 1
    → has_free ≡ nat_lt 0 (free_count c.latches) → has_some ≡ nat_lt 0 (length c.constraints)
    → first ≡ record form { latches = map (kept_latch table) ls ++ drop (length ls) form.latches }
    → second ≡ (if has_free then with_latch first place (record { next = 1; reset = Zero }) else first)
    → third ≡ (if has_some then with_latch second last (record { next = next; reset = Zero }) else second)
    → third ≡ record form { latches = form_latches c table met }
latches_set c table met next place last has_free has_some ls form first second third fresh is_ls is_next is_place is_last is_free is_some a b d =
    let y : Latch = record { next = 1; reset = Zero } in
    let z : Latch = record { next = negation met; reset = Zero } in
    let some_free : Bool = nat_lt 0 (free_count c.latches) in
    let some : Bool = nat_lt 0 (length c.constraints) in
    let f : first.latches ≡ map (kept_latch table) c.latches ++ drop (length c.latches) form.latches =
    ap (λ (x : Circuit). x.latches) a ∙ ap (λ (l : List Latch). map (kept_latch table) l ++ drop (length l) form.latches) is_ls in
    let s : second ≡ record first { latches = if some_free then slice_set first.latches (length c.latches) y else first.latches } =
    b ∙ ap₂ (λ (t : Bool) (k : ℕ). if t then with_latch first k y else first) is_free is_place ∙ with_if some_free first (length c.latches) y in
    let t : third ≡ record second { latches = if some then slice_set second.latches (latch_count c - 1) z else second.latches } =
    d ∙ ap (λ (n : ℕ). if has_some then with_latch second last (record { next = n; reset = Zero }) else second) is_next
    ∙ ap₂ (λ (t : Bool) (k : ℕ). if t then with_latch second k z else second) is_some is_last ∙ with_if some second (latch_count c - 1) z in
    let own : third.latches ≡ form_latches c table met =
    own_set c (kept_latch table) y z form.latches first.latches second.latches third.latches fresh f (ap (λ (x : Circuit). x.latches) s) (ap (λ (x : Circuit). x.latches) t) in
    let all : List Latch = if some then slice_set second.latches (latch_count c - 1) z else second.latches in
    t ∙ ap (λ (x : Circuit). record x { latches = all }) (s ∙ ap (λ (x : Circuit). record x { latches = if some_free then slice_set first.latches (length c.latches) y else first.latches }) a)
    ∙ ap (λ (l : List Latch). record form { latches = l }) (sym (ap (λ (x : Circuit). x.latches) t) ∙ own)

-- setting latches leaves the net
pub net_of_set : (c : Circuit) (choice : Option ℕ) (form set : Circuit) (table : List ℕ) (met : ℕ) (bads : List ℕ) → FormMade c choice (net form) table met bads
    → set ≡ record form { latches = form_latches c table met } → net set ≡ net form
net_of_set c choice form set table met bads made is = ap net is ∙ ap (λ (k : ℕ). record (net form) { latches = k }) (form_length c table met ∙ sym made.latches)

-- the circuit whose latches are set and whose bad properties are put in is a form
pub completed : (c : Circuit) (choice : Option ℕ) (form set d : Circuit) (table : List ℕ) (met : ℕ) (bads : List ℕ) → IsCircuit c → IsAccepted c choice → IsCircuit d
    → form ≡ gates_only (net form) → FormMade c choice (net form) table met bads
    → set ≡ record form { latches = form_latches c table met } → d ≡ record set { bads = set.bads ++ bads }
    → IsEngineFormOf c choice d
completed c choice form set d table met bads valid accepted circuit bare made is_set is =
    let none : set.bads ≡ [] = ap (λ (x : Circuit). x.bads) is_set ∙ ap (λ (x : Circuit). x.bads) bare in
    let latches : d.latches ≡ form_latches c table met = ap (λ (x : Circuit). x.latches) is ∙ ap (λ (x : Circuit). x.latches) is_set in
    let own : d.bads ≡ bads = ap (λ (x : Circuit). x.bads) is ∙ ap (λ (l : List ℕ). l ++ bads) none in
    let same : net d ≡ net form = ap net is ∙ net_of_set c choice form set table met bads made is_set in
    let made_d : FormMade c choice (net d) table met d.bads = subst (λ (n : Net). FormMade c choice n table met d.bads) (sym same) (subst (λ (b : List ℕ). FormMade c choice (net form) table met b) (sym own) made) in
    let whole : d ≡ record (gates_only (net d)) { latches = d.latches; bads = d.bads } =
    is ∙ ap (λ (x : Circuit). record x { bads = set.bads ++ bads }) (is_set ∙ ap (λ (x : Circuit). record x { latches = form_latches c table met }) bare)
    ∙ ap₂ (λ (l : List Latch) (b : List ℕ). record (gates_only (net form)) { latches = l; bads = b }) (sym latches) (ap (λ (l : List ℕ). l ++ bads) none ∙ sym own)
    ∙ ap (λ (n : Net). record (gates_only n) { latches = d.latches; bads = d.bads }) (sym same) in
    assembled c choice d table met valid accepted circuit made_d latches whole
