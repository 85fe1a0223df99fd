-- The parts of a lowering, put together.
use Rattle.std.proofs.Common.{◌≡◌, ℕ, ◌+◌, ◌≤◌, Bool, true, false, List, [], ◌∷◌, ◌++◌, length, replicate, nat_lt, Option, Some, None, is_some, if◌then◌else◌, ◌&&◌, refl, sym, ap, ◌∙◌, subst, arith}
use Rattle.std.proofs.lemmas.List.{length-map, length-replicate}
use Rattle.std.specs.Option.{option_or}
use Rattle.std.proofs.lemmas.Bool.Decides.{nat_tests}
use Rattle.base.proofs.BitLemmas.{length-bits}
use Rattle.btor2.specs.declared.item.Item.{Item}
use Rattle.btor2.specs.Items.{is_state, is_free, is_carried_state, names_state, next_value, init_word}
use Rattle.btor2.specs.Check.{IsWellFormed}
use Rattle.btor2.specs.Trace.{bits_of}
use Rattle.btor2.proofs.TraceLemmas.{next_state_fits}
use Rattle.aiger.specs.Limits.{greatest_count}
use Rattle.aiger.specs.Net.{Net}
use Rattle.aiger.specs.declared.circuit.Gate.{Gate}
use Rattle.aiger.specs.Circuit.{Circuit, IsCircuit, net, fresh_latch}
use Rattle.gates.specs.Made.{gates_only}
use Rattle.blast.specs.declared.fault.LowerFault.TheVariants as fault
use Rattle.blast.specs.Cost.{bound, given_width, carried_width}
use Rattle.blast.specs.Leaves.{given_by_kind, leaf_resets, resets_of_word, reset_of_bit}
use Rattle.blast.specs.Lowering.{Lowers}
use Rattle.blast.specs.Properties.{TakesProperties}
use Rattle.blast.specs.Sections.{TakesNames}
use Rattle.blast.specs.Reads.{leaves_only, LowersNodes, RowsRead, LatchesRead, OutputsRead, BadsRead, ConstraintsRead}
use Rattle.btor2.specs.declared.item.Body.{Body}
use Rattle.btor2.specs.declared.item.Body.TheVariants as body
use Rattle.btor2.specs.Lists.{has_init_without_next, first_init_without_next}
use Rattle.btor2.specs.Leaves.{kind_width}
use Rattle.blast.specs.declared.fault.LowerFault.{LowerFault}
use Rattle.blast.specs.Refusal.{IsOfProfile, line_refusal, first_refusal, form_refusal, lowering_refusal, too_big}
use Rattle.blast.proofs.WidthLemmas.{leaves_width}
use Rattle.blast.proofs.LowerLemmas.{Observes, show_same}
use Rattle.blast.proofs.KindBlocks.{length-of_kind}
use Rattle.btor2.proofs.NextLemmas.{has_next}
use Rattle.btor2.proofs.IdLemmas.{state_item}

-- where nothing speaks against some items, none of them is a state with an init line alone
no_lacking : (items : List Item) (id : ℕ) (b : Body) → line_refusal items id b ≡ None → (is_state b && has_init_without_next items id) ≡ false
no_lacking items id (body.State s) h = by (has_init_without_next items id) h
  where
    by : (t : Bool) → (if t then Some (fault.NoNext id) else None) ≡ None → t ≡ false
    by true h = absurd (cc)
    by false h = refl
no_lacking items id _ h = refl

none_of_two : (o p : Option LowerFault) → option_or o p ≡ None → (o ≡ None) × (p ≡ None)
none_of_two None p h = (refl, h)
none_of_two (Some e) p h = absurd (cc)

none_lacking : (items xs : List Item) → first_refusal items xs ≡ None → first_init_without_next items xs ≡ None
none_lacking items [] h = refl
none_lacking items (x ∷ xs) h =
    let parts = none_of_two (line_refusal items x.id x.body) (first_refusal items xs) h in
    ap (λ (t : Bool). if t then Some x.id else first_init_without_next items xs) (no_lacking items x.id x.body parts.0) ∙ none_lacking items xs parts.1

-- in a model of the profile no state has an init line alone
pub nexts_given : (items : List Item) → IsOfProfile items → first_init_without_next items items ≡ None
nexts_given items e = none_lacking items items e

-- a model that is not refused is of the profile
pub profile_given : (items : List Item) → lowering_refusal items ≡ None → IsOfProfile items
profile_given items e = by (form_refusal items) e
  where
    by : (o : Option LowerFault) → option_or o (too_big items) ≡ None → o ≡ None
    by None e = refl
    by (Some f) e = absurd (cc)

-- and its bound is small enough
pub bound_given : (items : List Item) → lowering_refusal items ≡ None → bound items ≤ greatest_count
bound_given items e =
    let small : too_big items ≡ None = rw (profile_given items e) at e in
    by_test (nat_lt greatest_count (bound items)) refl small
  where
    by_test : (b : Bool) → nat_lt greatest_count (bound items) ≡ b → (if b then Some fault.TooBig else None) ≡ None → bound items ≤ greatest_count
    by_test true is none = absurd (cc)
    by_test false is none = grind (arith, nat_tests)

-- so are the bits that are given and those that are carried
pub leaves_given : (items : List Item) → lowering_refusal items ≡ None → given_width items + carried_width items ≤ greatest_count
leaves_given items e = omega (arith, bound_given items e, leaves_width items)

-- each state that is not free has a next line, by ids
pub nexts_by_id : (items : List Item) → first_init_without_next items items ≡ None → (id : ℕ) → names_state items id ≡ true → is_free items id ≡ false → is_some (next_value items id) ≡ true
nexts_by_id items none id names carried =
    let y = state_item items id names in
    let whole : first_init_without_next items (y.1.before ++ y.0 ∷ y.1.after) ≡ None = subst (λ (l : List Item). first_init_without_next items l ≡ None) y.1.splits none in
    subst (λ (k : ℕ). is_some (next_value items k) ≡ true) (sym y.2) (has_next items y.1.before y.1.after y.0 whole y.3 (subst (λ (k : ℕ). is_free items k ≡ false) y.2 carried))

-- as many resets as bits
pub length-resets : (w : ℕ) (o : Option ℕ) → length (resets_of_word w o) ≡ w
length-resets w None = length-replicate w _
length-resets w (Some x) = length-map _ reset_of_bit ∙ length-bits w x

-- the states' resets are as many as their bits
pub length-state_resets : (items xs : List Item) → length (given_by_kind (is_carried_state items) (leaf_resets items) xs) ≡ kind_width items (is_carried_state items) xs
length-state_resets items xs = length-of_kind items (is_carried_state items) (leaf_resets items) xs (λ x. length-resets (bits_of items x.id) (init_word items x.id))

-- latches that read as the states are as many as the bits that are carried
latch_count : (items : List Item) (n : Net) (c : Circuit) → LatchesRead items n items c.latches → length c.latches ≡ carried_width items
latch_count items n c reads =
    sym (length-map c.latches (λ latch. latch.reset)) ∙ ap length reads.resets ∙ length-state_resets items items

net_same : (i j k l : ℕ) (g h : List Gate) → i ≡ j → k ≡ l → g ≡ h → (let m : Net = record { inputs = i; latches = k; gates = g } in m) ≡ record { inputs = j; latches = l; gates = h }
net_same i j k l g h p q r = rw (p, q, r) refl

-- the bare circuit of some gates has these
net_of_bare : (n : Net) → net (gates_only n) ≡ n
net_of_bare n = net_same n.inputs n.inputs (length (replicate n.latches fresh_latch)) n.latches n.gates n.gates refl (length-replicate n.latches fresh_latch) refl

pub bare_by_net : (n : Net) (c : Circuit) → c ≡ gates_only n → c ≡ gates_only (net c)
bare_by_net n c is = is ∙ ap gates_only (sym (net_of_bare n) ∙ ap net (sym is))

pub nodes_by_net : (items : List Item) (n : Net) (c : Circuit) (rows : List (List ℕ)) → c ≡ gates_only n → LowersNodes items (leaves_only items) n rows → LowersNodes items (leaves_only items) (net c) rows
nodes_by_net items n c rows is nodes = subst (λ (m : Net). LowersNodes items (leaves_only items) m rows) (sym (net_of_bare n) ∙ ap net (sym is)) nodes

-- the parts of a lowering make one
pub assemble : (items : List Item) (n : Net) (rows : List (List ℕ)) (c1 c2 c3 c4 : Circuit)
    → IsWellFormed items → IsOfProfile items → IsCircuit c4
    → LowersNodes items (leaves_only items) n rows → c1 ≡ gates_only n
    → LatchesRead items (net c1) items c2.latches → c2 ≡ record c1 { latches = c2.latches }
    → TakesNames items c2 c3
    → TakesProperties items c3 c4
    → Lowers items c4
assemble items n rows c1 c2 c3 c4 well profile circuit nodes is1 latches is2 named takes =
    let is3 = named.rest in
    let is4 = takes.rest in
    let inputs1 : c1.inputs ≡ n.inputs = ap (λ (c : Circuit). c.inputs) is1 in
    let inputs2 : c2.inputs ≡ c1.inputs = ap (λ (c : Circuit). c.inputs) is2 in
    let inputs4 : c4.inputs ≡ c2.inputs = ap (λ (c : Circuit). c.inputs) is4 ∙ ap (λ (c : Circuit). c.inputs) is3 in
    let gates1 : c1.gates ≡ n.gates = ap (λ (c : Circuit). c.gates) is1 in
    let gates2 : c2.gates ≡ c1.gates = ap (λ (c : Circuit). c.gates) is2 in
    let gates4 : c4.gates ≡ c2.gates = ap (λ (c : Circuit). c.gates) is4 ∙ ap (λ (c : Circuit). c.gates) is3 in
    let latches4 : c4.latches ≡ c2.latches = ap (λ (c : Circuit). c.latches) is4 ∙ ap (λ (c : Circuit). c.latches) is3 in
    let count1 : length c1.latches ≡ n.latches = ap (λ (c : Circuit). length c.latches) is1 ∙ length-replicate n.latches fresh_latch in
    let count2 : length c2.latches ≡ carried_width items = latch_count items (net c1) c2 latches in
    let net2 : net c2 ≡ net c1 = net_same c2.inputs c1.inputs (length c2.latches) (length c1.latches) c2.gates c1.gates inputs2 (count2 ∙ sym nodes.grows.latches ∙ sym count1) gates2 in
    let net3 : net c3 ≡ net c2 = ap net is3 in
    let net4 : net c4 ≡ net c3 = ap net is4 in
    let observes : Observes items c4 = record {
      latches = subst (λ (m : Net). LatchesRead items m items c4.latches) (sym (net4 ∙ net3 ∙ net2)) (rw latches4 latches);
      outputs = subst (λ (m : Net). OutputsRead items m items c4.outputs) (sym net4) takes.outputs;
      bads = subst (λ (m : Net). BadsRead items m items c4.bads) (sym net4) takes.bads;
      constraints = subst (λ (m : Net). ConstraintsRead items m items c4.constraints) (sym net4) takes.constraints;
      stays = λ state input f fits in_fits frame. next_state_fits items state input f well fits in_fits frame (nexts_by_id items (nexts_given items profile));
    } in
    let more = nodes.grows.gates in
    record {
      well_formed = well;
      of_profile = profile;
      circuit = circuit;
      inputs = inputs4 ∙ inputs2 ∙ inputs1 ∙ nodes.grows.inputs;
      input_names = takes.input_names ∙ named.inputs;
      latch_names = takes.latch_names ∙ named.latches;
      resets = rw latches4 latches.resets;
      output_names = takes.output_names;
      bad_names = takes.bad_names;
      constraint_names = takes.constraint_names;
      no_justice = ap (λ (c : Circuit). c.justice) is4 ∙ ap (λ (c : Circuit). c.justice) is3 ∙ ap (λ (c : Circuit). c.justice) is2 ∙ ap (λ (c : Circuit). c.justice) is1;
      no_fair = ap (λ (c : Circuit). c.fair) is4 ∙ ap (λ (c : Circuit). c.fair) is3 ∙ ap (λ (c : Circuit). c.fair) is2 ∙ ap (λ (c : Circuit). c.fair) is1;
      few_gates = rw (gates4, gates2, gates1, more.1) more.2;
      frames = λ state inputs initial in_fit fs t vs u. show_same items c4 observes state inputs fs vs initial.fits in_fit t u;
    }

-- what names are given to: it has none yet, and as many positions as the model gives
pub record IsUnnamedYet (items : List Item) (c : Circuit) : Type 0 where
  pub names : c.names ≡ []
  pub inputs : c.inputs ≡ given_width items
  pub latches : length c.latches ≡ carried_width items

pub unnamed_yet : (items : List Item) (n : Net) (rows : List (List ℕ)) (c1 c2 : Circuit) → LowersNodes items (leaves_only items) n rows → c1 ≡ gates_only n
    → LatchesRead items (net c1) items c2.latches → c2 ≡ record c1 { latches = c2.latches } → IsUnnamedYet items c2
unnamed_yet items n rows c1 c2 nodes is1 latches is2 =
    record {
      names = ap (λ (c : Circuit). c.names) is2 ∙ ap (λ (c : Circuit). c.names) is1;
      inputs = ap (λ (c : Circuit). c.inputs) is2 ∙ ap (λ (c : Circuit). c.inputs) is1 ∙ nodes.grows.inputs;
      latches = latch_count items (net c1) c2 latches;
    }

-- what properties are added to: it has none yet, and the rows read as before once the latches are set and the leaves named
pub record IsUnobservedYet (items : List Item) (rows : List (List ℕ)) (c : Circuit) : Type 0 where
  pub reads : RowsRead items (net c) rows
  pub outputs : c.outputs ≡ []
  pub bads : c.bads ≡ []
  pub constraints : c.constraints ≡ []

pub unobserved_yet : (items : List Item) (n : Net) (rows : List (List ℕ)) (c1 c2 c3 : Circuit) → LowersNodes items (leaves_only items) n rows → c1 ≡ gates_only n
    → LatchesRead items (net c1) items c2.latches → c2 ≡ record c1 { latches = c2.latches } → TakesNames items c2 c3 → IsUnobservedYet items rows c3
unobserved_yet items n rows c1 c2 c3 nodes is1 latches is2 named =
    let inputs2 : c2.inputs ≡ n.inputs = ap (λ (c : Circuit). c.inputs) is2 ∙ ap (λ (c : Circuit). c.inputs) is1 in
    let gates2 : c2.gates ≡ n.gates = ap (λ (c : Circuit). c.gates) is2 ∙ ap (λ (c : Circuit). c.gates) is1 in
    let same : net c2 ≡ n = net_same c2.inputs n.inputs (length c2.latches) n.latches c2.gates n.gates inputs2 (latch_count items (net c1) c2 latches ∙ sym nodes.grows.latches) gates2 in
    record {
      reads = subst (λ (m : Net). RowsRead items m rows) (sym (ap net named.rest ∙ same)) nodes.reads;
      outputs = ap (λ (c : Circuit). c.outputs) named.rest ∙ ap (λ (c : Circuit). c.outputs) is2 ∙ ap (λ (c : Circuit). c.outputs) is1;
      bads = ap (λ (c : Circuit). c.bads) named.rest ∙ ap (λ (c : Circuit). c.bads) is2 ∙ ap (λ (c : Circuit). c.bads) is1;
      constraints = ap (λ (c : Circuit). c.constraints) named.rest ∙ ap (λ (c : Circuit). c.constraints) is2 ∙ ap (λ (c : Circuit). c.constraints) is1;
    }
