-- What numbering the lists of a file comes to: a circuit, or a gate that leads to a cycle.
use Rattle.std.proofs.Common.{◌≡◌, ℕ, zero, suc, ◌+◌, ◌*◌, ◌<◌, ◌≤◌, Bool, true, false, not, ◌&&◌, ◌||◌, ◌==◌, List, [], ◌∷◌, ◌++◌, map, length, replicate, All, ◌⊎◌, inl, inr, nat_eq, nat_lt, slice_index_or, slice_set, cond, refl, ap, sym, ◌∙◌, subst, arith, if◌then◌else◌, length-append, append_assoc, append-nil, ⊎_elim}
use Rattle.std.proofs.lemmas.Bool.Decides.{nat_tests}
use Rattle.std.proofs.lemmas.Bool.{cases_lt, cases_order, or_parts}
use Rattle.std.proofs.lemmas.List.{length-map, length-set, get_or-set_other, length-replicate}
use Rattle.std.proofs.lemmas.List.Elements.{All-weaker, All-map}
use Rattle.std.proofs.lemmas.List.Folds.{list_any-append}
use Rattle.std.proofs.lemmas.List.Sums.{sum_by-set, sum_by-cons}
use Rattle.std.specs.List.{list_any, position_or_len, count_by, sum_by}
use Rattle.aiger.specs.declared.circuit.Gate.{Gate}
use Rattle.aiger.specs.declared.circuit.Latch.{Latch}
use Rattle.aiger.specs.declared.circuit.Section.{Section}
use Rattle.aiger.specs.declared.circuit.Section.TheVariants as section
use Rattle.aigerlists.specs.declared.loose.LatchLine.{LatchLine}
use Rattle.base.specs.Literal.{variable}
use Rattle.aiger.specs.Net.{IsDefined, AreOrderedFrom, variables}
use Rattle.aiger.specs.Circuit.{Circuit, IsCircuit, net, section_count, NameMap}
use Rattle.aigerlists.specs.Loose.{Loose, IsLoose, sections_of, latch_of, latch_variable}
use Rattle.aigerlists.specs.Renumbering.{gate_line, gate_name, variables_numbered, has_number, is_ready, AreInTurn, IsOrder, Uses, LeadsAlong, DependsOn, LeadsToCycle, IsFirstCyclic, new_literal, ordered_gate, new_gate, renumbered, circuit_by}
use Rattle.aiger.proofs.CircuitLemmas.{names_kept}
use Rattle.aigerlists.proofs.RenumberingLemmas.{found, place_kept, named_from_test, new_of_variable, new_constant}
use Rattle.aigerlists.proofs.OrderLemmas.{numbered-append, has_number-append, ready_parts, any_map, no_cycle, unnumbered_operand, number_from_known, AreGates, AreGates-push, gate_from_name, gate_is_variable}
use Rattle.aigerlists.proofs.KnownLemmas.{All-unmap, IsKnown, AllKnown}
use Rattle.aigerlists.specs.Readiness.{slot_at, waits_for_nothing, awaited, may_be_next, AreFirst}
use Rattle.aigerlists.proofs.ReadinessLemmas.{any_suc}

-- a gate that has no number uses one that has none, where none is ready
uses_unnumbered : (l : Loose) (order : List ℕ) (j : ℕ) → AllKnown l → is_ready l order j ≡ false → j < length l.gates → list_any (nat_eq j) order ≡ false → (i : ℕ) × (Uses l j i × (list_any (nat_eq i) order ≡ false))
uses_unnumbered l order j known stuck low new =
    by (has_number (variables_numbered l order) (gate_line l j).rhs0) (has_number (variables_numbered l order) (gate_line l j).rhs1) refl refl
  where
    both : IsKnown l (gate_line l j).rhs0 × IsKnown l (gate_line l j).rhs1
    both = known.operands j (record { lhs = 0; rhs0 = 0; rhs1 = 0 }) low

    by : (x y : Bool) → has_number (variables_numbered l order) (gate_line l j).rhs0 ≡ x → has_number (variables_numbered l order) (gate_line l j).rhs1 ≡ y → (i : ℕ) × (Uses l j i × (list_any (nat_eq i) order ≡ false))
    by false y e f =
        let r = unnumbered_operand l order (gate_line l j).rhs0 both.0 e in
        (r.0, (record { user = low; used = r.1.0; operand = inl r.1.1 }, r.1.2))
    by true false e f =
        let r = unnumbered_operand l order (gate_line l j).rhs1 both.1 f in
        (r.0, (record { user = low; used = r.1.0; operand = inr r.1.1 }, r.1.2))
    by true true e f =
        let a : nat_lt j (length l.gates) ≡ true = grind (arith, nat_tests) in
        let b : is_ready l order j ≡ true = ap (λ (x : Bool). x && (not (list_any (nat_eq j) order) && (has_number (variables_numbered l order) (gate_line l j).rhs0 && has_number (variables_numbered l order) (gate_line l j).rhs1))) a
        ∙ (ap (λ (x : Bool). not x && (has_number (variables_numbered l order) (gate_line l j).rhs0 && has_number (variables_numbered l order) (gate_line l j).rhs1)) new
        ∙ (ap (λ (x : Bool). x && has_number (variables_numbered l order) (gate_line l j).rhs1) e ∙ f)) in
        absurd (let z : true ≡ false = sym b ∙ stuck in cc)

-- one step more along operands
leads_further : (l : Loose) (i j k : ℕ) (through : List ℕ) → LeadsAlong l i through j → Uses l j k → LeadsAlong l i (through ++ j ∷ []) k
leads_further l i j k [] a u = (a, u)
leads_further l i j k (x ∷ xs) a u = (a.0, leads_further l x j k xs a.1 u)

-- a gate that is on the way to another one, or it
abbrev Reaches : Loose → ℕ → ℕ → Type 0
Reaches l i j = (i ≡ j) ⊎ DependsOn l i j

-- a step to a gate that the way came from closes a cycle
walk_back : (l : Loose) (j k : ℕ) → Uses l j k → Reaches l k j → LeadsToCycle l j
walk_back l j k u r =
    let around : DependsOn l j j = ⊎_elim (λ (e : k ≡ j). let same : Uses l j j = subst (λ (x : ℕ). Uses l j x) e u in ([], same)) (λ (d : DependsOn l k j). (k ∷ d.0, (u, d.1))) r in
    (j, (inl refl, around))

-- what uses a gate that leads to a cycle leads there
walk_on : (l : Loose) (j k : ℕ) → Uses l j k → LeadsToCycle l k → LeadsToCycle l j
walk_on l j k u (i, (r, around)) =
    let on : DependsOn l j i = ⊎_elim (λ (e : k ≡ i). let same : Uses l j i = subst (λ (x : ℕ). Uses l j x) e u in ([], same)) (λ (d : DependsOn l k i). (k ∷ d.0, (u, d.1))) r in
    (i, (inr on, around))

-- one mark more
mark_more : (marks : List Bool) (k : ℕ) → k < length marks → slice_index_or marks k false ≡ false → count_by not (slice_set marks k true) + 1 ≡ count_by not marks
mark_more marks k low t =
    let s : count_by not (slice_set marks k true) + cond (not (slice_index_or marks k false)) 1 0 ≡ count_by not marks + 0 = sum_by-set (λ (b : Bool). cond (not b) 1 0) marks k true false low in
    let u : ◌≡◌ {A = ℕ} (cond (not (slice_index_or marks k false)) 1 0) 1 = ap (λ (b : Bool). cond (not b) 1 0) t in
    omega (arith, s, u)

-- what is marked reaches the next gate too
reach_more : (l : Loose) (marks : List Bool) (j k : ℕ) → k < length marks → Uses l j k → ((i : ℕ) → slice_index_or marks i false ≡ true → Reaches l i j) → (i : ℕ) → slice_index_or (slice_set marks k true) i false ≡ true → Reaches l i k
reach_more l marks j k low u reach i t =
    ⊎_elim (λ (same : i ≡ k). inl same)
    (λ (o : (i < k) ⊎ (k < i)).
    let other : i ≡ k → ⊥ = λ x. ⊎_elim (λ (h : i < k). omega arith) (λ (h : k < i). omega arith) o in
    let before : slice_index_or marks i false ≡ true = sym (get_or-set_other marks k i true false other) ∙ t in
    ⊎_elim (λ (e : i ≡ j). let same : Uses l i k = subst (λ (x : ℕ). Uses l x k) (sym e) u in inr ([], same)) (λ (d : DependsOn l i j). inr (d.0 ++ j ∷ [], leads_further l i j k d.0 d.1 u)) (reach i before))
    (cases_order i k)

-- a walk along gates without numbers comes back to one of those that it marked
walk : (l : Loose) (order : List ℕ) → AllKnown l → ((j : ℕ) → is_ready l order j ≡ false) → (fuel : ℕ) (marks : List Bool) (j : ℕ) → count_by not marks ≤ fuel → length marks ≡ length l.gates → j < length l.gates → list_any (nat_eq j) order ≡ false
    → ((i : ℕ) → slice_index_or marks i false ≡ true → Reaches l i j) → LeadsToCycle l j
walk l order known stuck zero marks j few count low new reach =
    let next = uses_unnumbered l order j known (stuck j) low new in
    by next.0 next.1.0 (slice_index_or marks next.0 false) refl
  where
    by : (k : ℕ) → Uses l j k → (b : Bool) → slice_index_or marks k false ≡ b → LeadsToCycle l j
    by k u true t = walk_back l j k u (reach k t)
    by k u false t = absurd (omega (arith, mark_more marks k (omega (arith, count, u.used)) t))
walk l order known stuck (suc fuel) marks j few count low new reach =
    let next = uses_unnumbered l order j known (stuck j) low new in
    by next.0 next.1.0 (slice_index_or marks next.0 false) refl (λ t. walk l order known stuck fuel (slice_set marks next.0 true) next.0 (omega (arith, mark_more marks next.0 (omega (arith, count, next.1.0.used)) t)) (length-set marks next.0 true ∙ count) next.1.0.used next.1.1 (reach_more l marks j next.0 (omega (arith, count, next.1.0.used)) next.1.0 reach))
  where
    by : (k : ℕ) → Uses l j k → (b : Bool) → slice_index_or marks k false ≡ b → (slice_index_or marks k false ≡ false → LeadsToCycle l k) → LeadsToCycle l j
    by k u true t rest = walk_back l j k u (reach k t)
    by k u false t rest = walk_on l j k u (rest t)

-- at first none is marked
none_marked : (n i : ℕ) → slice_index_or (replicate n false) i false ≡ false
none_marked zero i = refl
none_marked (suc n) zero = refl
none_marked (suc n) (suc i) = none_marked n i

-- a gate without a number, where none is ready, leads to a cycle
pub leads_to_cycle : (l : Loose) (order : List ℕ) (j : ℕ) → AllKnown l → ((i : ℕ) → is_ready l order i ≡ false) → j < length l.gates → list_any (nat_eq j) order ≡ false → LeadsToCycle l j
leads_to_cycle l order j known stuck low new =
    let marks : List Bool = replicate (length l.gates) false in
    let reach : (i : ℕ) → slice_index_or marks i false ≡ true → Reaches l i j = λ i t. absurd (let z : true ≡ false = sym t ∙ none_marked (length l.gates) i in cc) in
    walk l order known stuck (count_by not marks) marks j (omega arith) (length-replicate (length l.gates) false) low new reach

-- the first gate without a number is the first that leads to a cycle
pub first_cyclic : (l : Loose) (order : List ℕ) (g : ℕ) → IsLoose l → AllKnown l → AreInTurn l [] order → ((i : ℕ) → is_ready l order i ≡ false) → g < length l.gates → list_any (nat_eq g) order ≡ false → ((i : ℕ) → i < g → list_any (nat_eq i) order ≡ true) → IsFirstCyclic l g
first_cyclic l order g valid known turn stuck low new before =
    record {
      leads = leads_to_cycle l order g known stuck low new;
      first = λ i h. no_cycle l order i valid turn (before i h);
    }

-- a new literal is below the next number after those that its variable needs
new_literal-below : (pre more : List ℕ) (lit : ℕ) → has_number pre lit ≡ true → new_literal (pre ++ more) lit < 2 * suc (length pre)
new_literal-below pre more lit t = by (variable lit == 0) refl
  where
    by : (b : Bool) → (variable lit == 0) ≡ b → new_literal (pre ++ more) lit < 2 * suc (length pre)
    by true e =
        let z : variable lit ≡ 0 = grind (arith, nat_tests) in
        omega (arith, new_constant (pre ++ more) lit e, z)
    by false e =
        let named : list_any (nat_eq (variable lit)) pre ≡ true = named_from_test pre lit t e in
        let p : position_or_len (nat_eq (variable lit)) (pre ++ more) ≡ position_or_len (nat_eq (variable lit)) pre = place_kept (variable lit) pre more named in
        let f = found (variable lit) pre named in
        omega (arith, new_of_variable (pre ++ more) lit e, p, f.0)

-- the operands of an ordered gate
ordered_below : (a b bound : ℕ) → a < bound → b < bound → ((ordered_gate a b).rhs0 < bound) × ((ordered_gate a b).rhs1 ≤ (ordered_gate a b).rhs0)
ordered_below a b bound h k = by (nat_lt a b) refl
  where
    by : (t : Bool) → nat_lt a b ≡ t → let g : Gate = if t then record { rhs0 = b; rhs1 = a } else record { rhs0 = a; rhs1 = b } in (g.rhs0 < bound) × (g.rhs1 ≤ g.rhs0)
    by true e = (k, grind (arith, nat_tests))
    by false e = (h, grind (arith, nat_tests))

-- gates in turn are in the order of a circuit
are_ordered : (l : Loose) (done js order : List ℕ) → AreInTurn l done js → order ≡ done ++ js → AreOrderedFrom (suc (length (variables_numbered l done))) (map (λ j. new_gate (variables_numbered l order) (gate_line l j)) js)
are_ordered l done [] order turn e = tt
are_ordered l done (j ∷ js) order turn e =
    let r = ready_parts l done j turn.0.ready in
    let names : List ℕ = variables_numbered l order in
    let split : names ≡ variables_numbered l done ++ map (gate_name l) (j ∷ js) = ap (variables_numbered l) e ∙ numbered-append l done (j ∷ js) in
    let below : (lit : ℕ) → has_number (variables_numbered l done) lit ≡ true → new_literal names lit < 2 * suc (length (variables_numbered l done)) = λ lit t. subst (λ (ns : List ℕ). new_literal ns lit < 2 * suc (length (variables_numbered l done))) (sym split) (new_literal-below (variables_numbered l done) (map (gate_name l) (j ∷ js)) lit t) in
    let o = ordered_below (new_literal names (gate_line l j).rhs0) (new_literal names (gate_line l j).rhs1) (2 * suc (length (variables_numbered l done))) (below (gate_line l j).rhs0 r.2) (below (gate_line l j).rhs1 r.3) in
    let n : length (variables_numbered l (done ++ j ∷ [])) ≡ suc (length (variables_numbered l done)) = ap length (numbered-append l done (j ∷ [])) ∙ omega (arith, length-append (variables_numbered l done) (gate_name l j ∷ [])) in
    let rest = are_ordered l (done ++ j ∷ []) js order turn.1 (e ∙ sym (append_assoc done (j ∷ []) js)) in
    (o.0, o.1, subst (λ (k : ℕ). AreOrderedFrom (suc k) (map (λ (i : ℕ). new_gate names (gate_line l i)) js)) n rest)

-- how many variables have numbers
length_numbered : (l : Loose) (order : List ℕ) → length (variables_numbered l order) ≡ length l.inputs + length l.latches + length order
length_numbered l order =
    omega (arith, length-append (map variable l.inputs ++ map latch_variable l.latches) (map (gate_name l) order), length-append (map variable l.inputs) (map latch_variable l.latches), length-map l.inputs variable, length-map l.latches latch_variable, length-map order (gate_name l))

-- a latch by the number of its next literal
abbrev pub new_latch : List ℕ → LatchLine → Latch
new_latch names line = record { next = new_literal names line.next; reset = line.reset }

-- how many variables the circuit has
variables_renumbered : (l : Loose) (order : List ℕ) → variables (net (renumbered l order)) ≡ length (variables_numbered l order)
variables_renumbered l order =
    omega (arith, length_numbered l order, length-map l.latches (new_latch (variables_numbered l order)), length-map order (λ (j : ℕ). new_gate (variables_numbered l order) (gate_line l j)))

-- a literal that has a number is defined in the circuit
defined_renumbered : (l : Loose) (order : List ℕ) (lit : ℕ) → has_number (variables_numbered l order) lit ≡ true → IsDefined (net (renumbered l order)) (new_literal (variables_numbered l order) lit)
defined_renumbered l order lit t =
    let below : new_literal (variables_numbered l order) lit < 2 * suc (length (variables_numbered l order)) = subst (λ (ns : List ℕ). new_literal ns lit < 2 * suc (length (variables_numbered l order))) (append-nil (variables_numbered l order)) (new_literal-below (variables_numbered l order) [] lit t) in
    omega (arith, below, variables_renumbered l order)

section_renumbered : (l : Loose) (order lits : List ℕ) → ((j : ℕ) → j < length l.gates → list_any (nat_eq j) order ≡ true) → All (IsKnown l) lits → All (IsDefined (net (renumbered l order))) (map (new_literal (variables_numbered l order)) lits)
section_renumbered l order lits all known =
    All-map (IsDefined (net (renumbered l order))) (new_literal (variables_numbered l order)) lits (All-weaker (IsKnown l) (λ (lit : ℕ). IsDefined (net (renumbered l order)) (new_literal (variables_numbered l order) lit)) (λ lit t. defined_renumbered l order lit (number_from_known l order lit all t)) lits known)

-- as many positions
counts_renumbered : (l : Loose) (order : List ℕ) (s : Section) → section_count s (renumbered l order) ≡ section_count s (sections_of l)
counts_renumbered l order section.Input = refl
counts_renumbered l order section.Latch = length-map l.latches (new_latch (variables_numbered l order)) ∙ sym (length-map l.latches latch_of)
counts_renumbered l order section.Output = length-map l.outputs (new_literal (variables_numbered l order))
counts_renumbered l order section.Bad = length-map l.bads (new_literal (variables_numbered l order))
counts_renumbered l order section.Constraint = length-map l.constraints (new_literal (variables_numbered l order))
counts_renumbered l order section.Justice = length-map l.justice (map (new_literal (variables_numbered l order)))
counts_renumbered l order section.Fair = length-map l.fair (new_literal (variables_numbered l order))

-- as many literals in all lists
sizes_kept : (f : ℕ → ℕ) (lists : List (List ℕ)) → sum_by length (map (map f) lists) ≡ sum_by length lists
sizes_kept f [] = refl
sizes_kept f (x ∷ xs) =
    sum_by-cons length (map f x) (map (map f) xs) ∙ (omega (arith, length-map x f, sizes_kept f xs) ∙ sym (sum_by-cons length x xs))

-- the renumbered circuit is one
pub IsCircuit-renumbered : (l : Loose) (order : List ℕ) → IsLoose l → AllKnown l → IsOrder l order → length order ≤ length l.gates → IsCircuit (renumbered l order)
IsCircuit-renumbered l order valid known is few =
    let names : List ℕ = variables_numbered l order in
    let c : Circuit = renumbered l order in
    let many = counts_renumbered l order in
    let u = valid.few.sections in
    let k = known.sections in
    let first : length (variables_numbered l []) ≡ length l.inputs + length c.latches = omega (arith, length_numbered l [], length-map l.latches (new_latch names)) in
    let defined = λ (lits : List ℕ) (t : All (IsKnown l) lits). section_renumbered l order lits is.all t in
    record {
      small = omega (arith, variables_renumbered l order, length_numbered l order, valid.few.defined);
      few = record { outputs = omega (arith, many section.Output, u.outputs); bads = omega (arith, many section.Bad, u.bads); constraints = omega (arith, many section.Constraint, u.constraints); justice = omega (arith, many section.Justice, u.justice); justice_literals = omega (arith, sizes_kept (new_literal names) l.justice, u.justice_literals); fair = omega (arith, many section.Fair, u.fair) };
      ordered = subst (λ (k : ℕ). AreOrderedFrom (suc k) c.gates) first (are_ordered l [] order order is.in_turn refl);
      defined = record {
        nexts = All-map (λ (x : Latch). IsDefined (net c) x.next) (new_latch names) l.latches (All-weaker (λ (line : LatchLine). IsKnown l line.next) (λ (line : LatchLine). IsDefined (net c) (new_literal names line.next)) (λ line t. defined_renumbered l order line.next (number_from_known l order line.next is.all t)) l.latches (All-unmap (λ (x : Latch). IsKnown l x.next) latch_of l.latches k.nexts));
        outputs = defined l.outputs k.outputs;
        bads = defined l.bads k.bads;
        constraints = defined l.constraints k.constraints;
        justice = All-map (All (IsDefined (net c))) (map (new_literal names)) l.justice (All-weaker (All (IsKnown l)) (λ (lits : List ℕ). All (IsDefined (net c)) (map (new_literal names) lits)) defined l.justice k.justice);
        fair = defined l.fair k.fair;
      };
      names = names_kept (sections_of l) c valid.names refl (λ s. omega (arith, many s));
    }

-- a slot says what a literal waits for
pub record IsSlotOf (l : Loose) (lit slot : ℕ) : Type 0 where
  pub leaf : slot ≡ 0 → has_number (variables_numbered l []) lit ≡ true
  pub gate : (g : ℕ) → slot ≡ suc g → (g < length l.gates) × (variable lit ≡ gate_name l g)

-- two slots for each gate of a file, for its operands in their order
pub record AreSlotsOf (l : Loose) (slots : List ℕ) : Type 0 where
  pub first : (j : ℕ) → j < length l.gates → IsSlotOf l (gate_line l j).rhs0 (slot_at slots (2 * j))
  pub second : (j : ℕ) → j < length l.gates → IsSlotOf l (gate_line l j).rhs1 (slot_at slots (2 * j + 1))

-- a slot waits for nothing where its literal has a number
slot_free : (l : Loose) (slots done : List ℕ) (s lit : ℕ) → IsLoose l → AreGates l done → IsSlotOf l lit (slot_at slots s) → waits_for_nothing slots done s ≡ has_number (variables_numbered l done) lit
slot_free l slots done s lit valid within is = by (slot_at slots s) refl
  where
    by : (slot : ℕ) → slot_at slots s ≡ slot → waits_for_nothing slots done s ≡ has_number (variables_numbered l done) lit
    by zero e =
        let t : nat_eq (slot_at slots s) 0 ≡ true = grind (arith, nat_tests) in
        let n : has_number (variables_numbered l done) lit ≡ true = subst (λ (ns : List ℕ). has_number ns lit ≡ true) (sym (numbered-append l [] done)) (has_number-append (variables_numbered l []) (map (gate_name l) done) lit (is.leaf e)) in
        ap (λ (b : Bool). b || list_any (λ g. nat_eq (slot_at slots s) (suc g)) done) t ∙ sym n
    by (suc g) e =
        let r = is.gate g e in
        let a : nat_eq (slot_at slots s) 0 ≡ false = grind (arith, nat_tests) in
        let b : list_any (λ h. nat_eq (slot_at slots s) (suc h)) done ≡ list_any (nat_eq g) done = any_suc (slot_at slots s) g done e in
        let z : (variable lit == 0) ≡ false = gate_is_variable l g lit valid r.0 r.1 in
        let m : list_any (nat_eq (variable lit)) (variables_numbered l done) ≡ list_any (nat_eq g) done = same_test (list_any (nat_eq (variable lit)) (variables_numbered l done)) (list_any (nat_eq g) done)
        (λ t. gate_from_name l done g valid within r.0 (subst (λ (v : ℕ). list_any (nat_eq v) (variables_numbered l done) ≡ true) r.1 t))
        (λ t. let x : list_any (nat_eq (gate_name l g)) (map (gate_name l) done) ≡ true = any_map (gate_name l) g done t in
        let y = list_any-append (nat_eq (gate_name l g)) (map variable l.inputs ++ map latch_variable l.latches) (map (gate_name l) done) in
        let w : list_any (nat_eq (gate_name l g)) (variables_numbered l done) ≡ true = grind (arith, nat_tests, x, y) in
        subst (λ (v : ℕ). list_any (nat_eq v) (variables_numbered l done) ≡ true) (sym r.1) w) in
        let n : has_number (variables_numbered l done) lit ≡ list_any (nat_eq g) done = ap (λ (x : Bool). x || list_any (nat_eq (variable lit)) (variables_numbered l done)) z ∙ m in
        ap (λ (x : Bool). x || list_any (λ h. nat_eq (slot_at slots s) (suc h)) done) a ∙ (b ∙ sym n)
      where
        same_test : (x y : Bool) → (x ≡ true → y ≡ true) → (y ≡ true → x ≡ true) → x ≡ y
        same_test true true f g = refl
        same_test true false f g = sym (f refl)
        same_test false true f g = g refl
        same_test false false f g = refl

-- a gate may be next by its slots exactly where it is ready
pub next_is_ready : (l : Loose) (slots done : List ℕ) → IsLoose l → AreGates l done → AreSlotsOf l slots → (j : ℕ) → may_be_next slots (length l.gates) done j ≡ is_ready l done j
next_is_ready l slots done valid within are j =
    ⊎_elim
    (λ (low : j < length l.gates).
    let a = slot_free l slots done (2 * j) (gate_line l j).rhs0 valid within (are.first j low) in
    let b = slot_free l slots done (2 * j + 1) (gate_line l j).rhs1 valid within (are.second j low) in
    ap (λ (x : Bool). nat_lt j (length l.gates) && (not (list_any (nat_eq j) done) && x)) (both (waits_for_nothing slots done (2 * j)) (waits_for_nothing slots done (2 * j + 1)) refl refl ∙ (ap (λ (x : Bool). x && waits_for_nothing slots done (2 * j + 1)) a ∙ ap (λ (x : Bool). has_number (variables_numbered l done) (gate_line l j).rhs0 && x) b)))
    (λ (high : length l.gates ≤ j).
    let t : nat_lt j (length l.gates) ≡ false = grind (arith, nat_tests) in
    ap (λ (x : Bool). x && (not (list_any (nat_eq j) done) && nat_eq (awaited slots done j) 0)) t ∙ sym (ap (λ (x : Bool). x && (not (list_any (nat_eq j) done) && (has_number (variables_numbered l done) (gate_line l j).rhs0 && has_number (variables_numbered l done) (gate_line l j).rhs1))) t))
    (cases_lt j (length l.gates))
  where
    names : (s : ℕ) → waits_for_nothing slots done s ≡ false → nat_eq (slot_at slots s) 0 ≡ false
    names s e = (or_parts (nat_eq (slot_at slots s) 0) (list_any (λ g. nat_eq (slot_at slots s) (suc g)) done) e).0

    both : (x y : Bool) → waits_for_nothing slots done (2 * j) ≡ x → waits_for_nothing slots done (2 * j + 1) ≡ y → nat_eq (if x then (if y then 0 else slot_at slots (2 * j + 1)) else slot_at slots (2 * j)) 0 ≡ (x && y)
    both true true e f = refl
    both true false e f = names (2 * j + 1) f
    both false y e f = names (2 * j) e

-- gates in turn by their slots are in turn
pub in_turn_from_slots : (l : Loose) (slots done js : List ℕ) → IsLoose l → AreGates l done → AreSlotsOf l slots → AreFirst (may_be_next slots (length l.gates)) done js → AreInTurn l done js
in_turn_from_slots l slots done [] valid within are turn = tt
in_turn_from_slots l slots done (j ∷ js) valid within are turn =
    let e = next_is_ready l slots done valid within are in
    let ready : is_ready l done j ≡ true = sym (e j) ∙ turn.0.ready in
    let low = (ready_parts l done j ready).0 in
    (record { ready = ready; first = λ i h. sym (e i) ∙ turn.0.first i h }, in_turn_from_slots l slots (done ++ j ∷ []) js valid (AreGates-push l done j within low) are turn.1)

-- the circuit from its lists
pub are_by_numbers : (l : Loose) (names : List ℕ) (inputs : ℕ) (latches : List Latch) (gates : List Gate) (outputs bads constraints : List ℕ) (justice : List (List ℕ)) (fair : List ℕ) (entries : NameMap)
    → inputs ≡ length l.inputs → latches ≡ map (new_latch names) l.latches
    → outputs ≡ map (new_literal names) l.outputs → bads ≡ map (new_literal names) l.bads → constraints ≡ map (new_literal names) l.constraints
    → justice ≡ map (map (new_literal names)) l.justice → fair ≡ map (new_literal names) l.fair → entries ≡ l.names
    → record { inputs = inputs; latches = latches; gates = gates; outputs = outputs; bads = bads; constraints = constraints; justice = justice; fair = fair; names = entries } ≡ circuit_by l names gates
are_by_numbers l names inputs latches gates outputs bads constraints justice fair entries a b d e f g h i = rw (a, b, d, e, f, g, h, i) refl
