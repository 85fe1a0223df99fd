-- A circuit's own lists are lists of a file, and the circuit is these lists as numbered.
use Rattle.std.proofs.Common.{◌≡◌, ℕ, zero, suc, ◌+◌, ◌-◌, ◌*◌, ◌/◌, ◌%◌, ◌<◌, ◌≤◌, ◌==◌, Bool, true, false, List, [], ◌∷◌, ◌++◌, map, length, All, None, nat_eq, nat_lt, cond, refl, ap, sym, ◌∙◌, subst, arith, if◌then◌else◌}
use Rattle.std.proofs.lemmas.Bool.Decides.{nat_tests}
use Rattle.std.proofs.lemmas.Bool.{or_from}
use Rattle.std.proofs.lemmas.List.Elements.{All-weaker, All-nil, All-cons, All-head, All-tail, All-append}
use Rattle.std.proofs.lemmas.List.Folds.{list_any-append, map_fixed}
use Rattle.std.proofs.lemmas.List.FromFn.{length-range_with_len}
use Rattle.std.proofs.lemmas.List.Sums.{sum_by-cons}
use Rattle.std.specs.List.{list_any, list_all, count_by, concat, position_or_len, range_with_len}
use Rattle.aiger.specs.declared.circuit.Gate.{Gate}
use Rattle.aiger.specs.declared.circuit.Latch.{Latch}
use Rattle.aiger.specs.declared.circuit.Section.{Section}
use Rattle.aiger.specs.declared.circuit.Section.TheVariants as section
use Rattle.aigerlists.specs.declared.loose.GateLine.{GateLine}
use Rattle.aigerlists.specs.declared.loose.LatchLine.{LatchLine}
use Rattle.aiger.specs.Limits.{greatest_count}
use Rattle.base.specs.Literal.{variable}
use Rattle.aiger.specs.Net.{Net, variables, IsDefined, AreOrderedFrom}
use Rattle.aiger.specs.Circuit.{Circuit, IsCircuit, net, section_count}
use Rattle.aigerlists.specs.Loose.{IsLoose, IsDefining, IsSmall, sections_of, latch_of, latch_variable, gate_variable, defined_count, defined_variables}
use Rattle.aigerlists.specs.Numbering.{WaitForEarlier, is_unknown, line_in, slot_of}
use Rattle.aigerlists.specs.Renumbering.{IsRenumbered, IsNumberingOf, variables_numbered, alone, is_known, used_lines, first_undefined, has_number, new_literal, new_gate, renumbered}
use Rattle.aigerlists.specs.OwnLists.{own_input_lines, own_latches, own_gates, own_lists}
use Rattle.aiger.proofs.CircuitLemmas.{AllLiterals-weaker, names_kept}
use Rattle.aigerlists.proofs.InOrderLemmas.{as_they_stand, is_order, by_places, numbered_as_they_stand}
use Rattle.aigerlists.proofs.KnownLemmas.{all_known}
use Rattle.aigerlists.proofs.LooseLemmas.{count_none}
use Rattle.aigerlists.proofs.PlacesLemmas.{leaf_count}
use Rattle.aigerlists.proofs.RangeLemmas.{in_range, place_in_range, range_joined}
use Rattle.aigerlists.proofs.UndefinedLemmas.{none_passes, none_unknown}

-- ---- they are in order

even : (n : ℕ) → (2 * n) / 2 ≡ n
even n = omega arith

inputs_in_turn : (first n : ℕ) → map variable (own_input_lines first n) ≡ range_with_len first n
inputs_in_turn first zero = refl
inputs_in_turn first (suc n) =
    let z : suc first ≡ first + 1 = omega arith in
    ap (λ (k : ℕ). k ∷ map variable (own_input_lines (suc first) n)) (even first) ∙ ap (λ (ks : List ℕ). first ∷ ks) (inputs_in_turn (suc first) n ∙ ap (λ (k : ℕ). range_with_len k n) z)

latches_in_turn : (first : ℕ) (ls : List Latch) → map latch_variable (own_latches first ls) ≡ range_with_len first (length ls)
latches_in_turn first [] = refl
latches_in_turn first (l ∷ ls) =
    let z : suc first ≡ first + 1 = omega arith in
    ap (λ (k : ℕ). k ∷ map latch_variable (own_latches (suc first) ls)) (even first) ∙ ap (λ (ks : List ℕ). first ∷ ks) (latches_in_turn (suc first) ls ∙ ap (λ (k : ℕ). range_with_len k (length ls)) z)

gates_in_turn : (first : ℕ) (gs : List Gate) → map gate_variable (own_gates first gs) ≡ range_with_len first (length gs)
gates_in_turn first [] = refl
gates_in_turn first (g ∷ gs) =
    let z : suc first ≡ first + 1 = omega arith in
    ap (λ (k : ℕ). k ∷ map gate_variable (own_gates (suc first) gs)) (even first) ∙ ap (λ (ks : List ℕ). first ∷ ks) (gates_in_turn (suc first) gs ∙ ap (λ (k : ℕ). range_with_len k (length gs)) z)

many_inputs : (first n : ℕ) → length (own_input_lines first n) ≡ n
many_inputs first zero = refl
many_inputs first (suc n) = ap suc (many_inputs (suc first) n)

many_latches : (first : ℕ) (ls : List Latch) → length (own_latches first ls) ≡ length ls
many_latches first [] = refl
many_latches first (l ∷ ls) = ap suc (many_latches (suc first) ls)

many_gates : (first : ℕ) (gs : List Gate) → length (own_gates first gs) ≡ length gs
many_gates first [] = refl
many_gates first (g ∷ gs) = ap suc (many_gates (suc first) gs)

pub as_many : (c : Circuit) → (length (own_lists c).inputs ≡ c.inputs) × (length (own_lists c).latches ≡ length c.latches) × (length (own_lists c).gates ≡ length c.gates)
as_many c = (many_inputs 1 c.inputs, many_latches (suc c.inputs) c.latches, many_gates (suc (c.inputs + length c.latches)) c.gates)

-- ---- they define variables, each once

record IsOwn (lit : ℕ) : Type 0 where
  defining : IsDefining lit
  small : IsSmall lit

own_literal : (first : ℕ) → 1 ≤ first → first ≤ greatest_count → IsOwn (2 * first)
own_literal first some few = record { defining = record { even = omega arith; least = omega (arith, some) }; small = omega (arith, few) }

inputs_own : (first n : ℕ) → 1 ≤ first → first + n ≤ suc greatest_count → All IsOwn (own_input_lines first n)
inputs_own first zero some few = All-nil IsOwn
inputs_own first (suc n) some few = All-cons IsOwn (2 * first) (own_input_lines (suc first) n) (own_literal first some (omega (arith, few))) (inputs_own (suc first) n (omega arith) (omega (arith, few)))

latches_own : (first : ℕ) (ls : List Latch) → 1 ≤ first → first + length ls ≤ suc greatest_count → All (λ line. IsOwn line.current) (own_latches first ls)
latches_own first [] some few = All-nil (λ line. IsOwn line.current)
latches_own first (l ∷ ls) some few =
    All-cons (λ line. IsOwn line.current) (record { current = 2 * first; next = l.next; reset = l.reset }) (own_latches (suc first) ls) (own_literal first some (omega (arith, few))) (latches_own (suc first) ls (omega arith) (omega (arith, few)))

gates_own : (first : ℕ) (gs : List Gate) → 1 ≤ first → first + length gs ≤ suc greatest_count → All (λ line. IsOwn line.lhs) (own_gates first gs)
gates_own first [] some few = All-nil (λ line. IsOwn line.lhs)
gates_own first (g ∷ gs) some few =
    All-cons (λ line. IsOwn line.lhs) (record { lhs = 2 * first; rhs0 = g.rhs0; rhs1 = g.rhs1 }) (own_gates (suc first) gs) (own_literal first some (omega (arith, few))) (gates_own (suc first) gs (omega arith) (omega (arith, few)))

-- numbers in turn stand once
once_in_range : (v a n : ℕ) → count_by (nat_eq v) (range_with_len a n) ≤ 1
once_in_range v a zero = omega arith
once_in_range v a (suc n) = by (nat_eq v a) refl (once_in_range v (a + 1) n)
  where
    counts : count_by (nat_eq v) (range_with_len a (suc n)) ≡ cond (nat_eq v a) 1 0 + count_by (nat_eq v) (range_with_len (a + 1) n)
    counts = sum_by-cons (λ (y : ℕ). cond (nat_eq v y) 1 0) a (range_with_len (a + 1) n)

    by : (b : Bool) → nat_eq v a ≡ b → count_by (nat_eq v) (range_with_len (a + 1) n) ≤ 1 → count_by (nat_eq v) (range_with_len a (suc n)) ≤ 1
    by true e rest =
        let r = in_range v (a + 1) n in
        let none : list_any (nat_eq v) (range_with_len (a + 1) n) ≡ false = grind (arith, nat_tests, r, e) in
        let o : ◌≡◌ {A = ℕ} (cond (nat_eq v a) 1 0) 1 = ap (λ (b : Bool). cond b 1 0) e in
        omega (arith, counts, o, count_none (nat_eq v) (range_with_len (a + 1) n) none)
    by false e rest =
        let o : ◌≡◌ {A = ℕ} (cond (nat_eq v a) 1 0) 0 = ap (λ (b : Bool). cond b 1 0) e in
        omega (arith, counts, o, rest)

-- ---- their literals are small, and each is known

small_below : (n : Net) (lit : ℕ) → variables n ≤ greatest_count → IsDefined n lit → IsSmall lit
small_below n lit few h = omega (arith, few, h)

-- their latches without their own literals
same_sections : (first : ℕ) (ls : List Latch) → map latch_of (own_latches first ls) ≡ ls
same_sections first [] = refl
same_sections first (l ∷ ls) = ap (λ (xs : List Latch). l ∷ xs) (same_sections (suc first) ls)

nexts_hold : (P : ℕ → Type 0) (first : ℕ) (ls : List Latch) → All (λ l. P l.next) ls → All (λ line. P line.next) (own_latches first ls)
nexts_hold P first [] h = All-nil (λ line. P line.next)
nexts_hold P first (l ∷ ls) h =
    All-cons (λ line. P line.next) (record { current = 2 * first; next = l.next; reset = l.reset }) (own_latches (suc first) ls) (All-head (λ (l : Latch). P l.next) l ls h) (nexts_hold P (suc first) ls (All-tail (λ (l : Latch). P l.next) l ls h))

operands_defined : (n : Net) (first : ℕ) (gs : List Gate) → AreOrderedFrom first gs → first + length gs ≤ suc (variables n) → All (λ line. IsDefined n line.rhs0 × IsDefined n line.rhs1) (own_gates first gs)
operands_defined n first [] h few = All-nil (λ line. IsDefined n line.rhs0 × IsDefined n line.rhs1)
operands_defined n first (g ∷ gs) h few =
    All-cons (λ line. IsDefined n line.rhs0 × IsDefined n line.rhs1) (record { lhs = 2 * first; rhs0 = g.rhs0; rhs1 = g.rhs1 }) (own_gates (suc first) gs) (omega (arith, h.0, few), omega (arith, h.0, h.1, few)) (operands_defined n (suc first) gs h.2 (omega (arith, few)))

all_concat : (P : ℕ → Type 0) (lists : List (List ℕ)) → All (All P) lists → All P (concat lists)
all_concat P [] h = All-nil P
all_concat P (ls ∷ lists) h = All-append P ls (concat lists) (All-head (All P) ls lists h) (all_concat P lists (All-tail (All P) ls lists h))

none_of_both : (p : List ℕ → Bool) (xs ys : List (List ℕ)) → list_any p xs ≡ false → list_any p ys ≡ false → list_any p (xs ++ ys) ≡ false
none_of_both p xs ys h k = list_any-append p xs ys ∙ or_from _ _ h k

-- ---- numbers in turn leave them as they are

-- a literal has a number where its variable is at most the greatest, and keeps it
has_number_in_turn : (lit n : ℕ) → variable lit ≤ n → has_number (range_with_len 1 n) lit ≡ true
has_number_in_turn lit n h = let r = in_range (variable lit) 1 n in grind (arith, nat_tests, r)

same_literal : (lit n : ℕ) → variable lit ≤ n → new_literal (range_with_len 1 n) lit ≡ lit
same_literal lit n h = by (variable lit == 0) refl
  where
    by : (b : Bool) → (variable lit == 0) ≡ b → new_literal (range_with_len 1 n) lit ≡ lit
    by true e = ap (λ (b : Bool). if b then lit else 2 * suc (position_or_len (nat_eq (variable lit)) (range_with_len 1 n)) + lit % 2) e
    by false e =
        let some : 1 ≤ variable lit = grind (arith, nat_tests) in
        let p = place_in_range (variable lit) 1 n some (omega (arith, h)) in
        ap (λ (b : Bool). if b then lit else 2 * suc (position_or_len (nat_eq (variable lit)) (range_with_len 1 n)) + lit % 2) e ∙ omega (arith, p)

same_latches : (n first : ℕ) (ls : List Latch) → All (λ l. variable l.next ≤ n) ls → map (λ line. record { next = new_literal (range_with_len 1 n) line.next; reset = line.reset }) (own_latches first ls) ≡ ls
same_latches n first [] h = refl
same_latches n first (l ∷ ls) h =
    ap (λ (next : ℕ). record { next = next; reset = l.reset } ∷ map (λ line. record { next = new_literal (range_with_len 1 n) line.next; reset = line.reset }) (own_latches (suc first) ls)) (same_literal l.next n (All-head (λ (l : Latch). variable l.next ≤ n) l ls h))
    ∙ ap (λ (xs : List Latch). l ∷ xs) (same_latches n (suc first) ls (All-tail (λ (l : Latch). variable l.next ≤ n) l ls h))

same_gates : (n first : ℕ) (gs : List Gate) → AreOrderedFrom first gs → first + length gs ≤ suc n → map (new_gate (range_with_len 1 n)) (own_gates first gs) ≡ gs
same_gates n first [] h few = refl
same_gates n first (g ∷ gs) h few =
    let least : g.rhs1 ≤ g.rhs0 = h.1 in
    let in_order : nat_lt g.rhs0 g.rhs1 ≡ false = grind (arith, nat_tests) in
    rw (same_literal g.rhs0 n (omega (arith, h.0, few)), same_literal g.rhs1 n (omega (arith, h.0, least, few)), in_order, same_gates n (suc first) gs h.2 (omega (arith, few))) refl

-- a literal below a gate waits for no later one
slot_in_turn : (lit n leaves k : ℕ) → variable lit ≤ leaves + k → variable lit ≤ n → slot_of (range_with_len 1 n) leaves lit ≤ k
slot_in_turn lit n leaves k low h = by (variable lit == 0) refl
  where
    by : (b : Bool) → (variable lit == 0) ≡ b → slot_of (range_with_len 1 n) leaves lit ≤ k
    by true e = let z : slot_of (range_with_len 1 n) leaves lit ≡ 0 = ap (λ (b : Bool). if b then 0 else suc (position_or_len (nat_eq (variable lit)) (range_with_len 1 n)) - leaves) e in omega (arith, z)
    by false e =
        let some : 1 ≤ variable lit = grind (arith, nat_tests) in
        let p = place_in_range (variable lit) 1 n some (omega (arith, h)) in
        let z : slot_of (range_with_len 1 n) leaves lit ≡ suc (position_or_len (nat_eq (variable lit)) (range_with_len 1 n)) - leaves = ap (λ (b : Bool). if b then 0 else suc (position_or_len (nat_eq (variable lit)) (range_with_len 1 n)) - leaves) e in
        omega (arith, z, p, low)

gates_wait : (n leaves first k : ℕ) (gs : List Gate) → first ≡ suc (leaves + k) → AreOrderedFrom first gs → first + length gs ≤ suc n
    → (j i : ℕ) → i ≡ k + j → j < length (own_gates first gs) → (slot_of (range_with_len 1 n) leaves (line_in (own_gates first gs) j).rhs0 ≤ i) × (slot_of (range_with_len 1 n) leaves (line_in (own_gates first gs) j).rhs1 ≤ i)
gates_wait n leaves first k [] is h few j i e low = absurd (omega arith)
gates_wait n leaves first k (g ∷ gs) is h few zero i e low = (slot_in_turn g.rhs0 n leaves i (omega (arith, h.0, is, e)) (omega (arith, h.0, few)), slot_in_turn g.rhs1 n leaves i (omega (arith, h.0, h.1, is, e)) (omega (arith, h.0, h.1, few)))
gates_wait n leaves first k (g ∷ gs) is h few (suc j) i e low = gates_wait n leaves (suc first) (suc k) gs (omega (arith, is)) h.2 (omega (arith, few)) j i (omega (arith, e)) (omega arith)

module _ (c : Circuit) (valid : IsCircuit c) where
  names : defined_variables (own_lists c) ≡ range_with_len 1 (variables (net c))
  names =
      let x : suc c.inputs ≡ 1 + c.inputs = omega arith in
      let y : suc (c.inputs + length c.latches) ≡ 1 + (c.inputs + length c.latches) = omega arith in
      let l = latches_in_turn (suc c.inputs) c.latches ∙ ap (λ (k : ℕ). range_with_len k (length c.latches)) x in
      let g = gates_in_turn (suc (c.inputs + length c.latches)) c.gates ∙ ap (λ (k : ℕ). range_with_len k (length c.gates)) y in
      rw (inputs_in_turn 1 c.inputs, l, g)
      (ap (λ (xs : List ℕ). xs ++ range_with_len (1 + (c.inputs + length c.latches)) (length c.gates)) (range_joined 1 c.inputs (length c.latches)) ∙ range_joined 1 (c.inputs + length c.latches) (length c.gates))

  count_is : defined_count (own_lists c) ≡ variables (net c)
  count_is = omega (arith, many_inputs 1 c.inputs, many_latches (suc c.inputs) c.latches, many_gates (suc (c.inputs + length c.latches)) c.gates)

  operands : All (λ line. IsDefined (net c) line.rhs0 × IsDefined (net c) line.rhs1) (own_lists c).gates
  operands = operands_defined (net c) (suc (c.inputs + length c.latches)) c.gates valid.ordered (omega arith)

  same_count : (s : Section) → section_count s c ≡ section_count s (sections_of (own_lists c))
  same_count section.Input = sym (many_inputs 1 c.inputs)
  same_count section.Latch = ap length (sym (same_sections (suc c.inputs) c.latches))
  same_count section.Output = refl
  same_count section.Bad = refl
  same_count section.Constraint = refl
  same_count section.Justice = refl
  same_count section.Fair = refl

  pub own_valid : IsLoose (own_lists c)
  own_valid =
      let few : variables (net c) ≤ greatest_count = valid.small in
      let i = inputs_own 1 c.inputs (omega arith) (omega (arith, few)) in
      let l = latches_own (suc c.inputs) c.latches (omega arith) (omega (arith, few)) in
      let g = gates_own (suc (c.inputs + length c.latches)) c.gates (omega arith) (omega (arith, few)) in
      let all = AllLiterals-weaker (IsDefined (net c)) IsSmall (λ lit d. small_below (net c) lit few d) c valid.defined in
      record {
        definitions = record {
          inputs = All-weaker IsOwn IsDefining (λ n o. o.defining) (own_lists c).inputs i;
          latches = All-weaker (λ line. IsOwn line.current) (λ line. IsDefining line.current) (λ line o. o.defining) (own_lists c).latches l;
          gates = All-weaker (λ line. IsOwn line.lhs) (λ line. IsDefining line.lhs) (λ line o. o.defining) (own_lists c).gates g;
          once = λ v. subst (λ (names : List ℕ). count_by (nat_eq v) names ≤ 1) (sym names) (once_in_range v 1 (variables (net c)));
        };
        small = record {
          inputs = All-weaker IsOwn IsSmall (λ n o. o.small) (own_lists c).inputs i;
          latches = All-weaker (λ line. IsOwn line.current) (λ line. IsSmall line.current) (λ line o. o.small) (own_lists c).latches l;
          gates = All-weaker (λ line. IsOwn line.lhs) (λ line. IsSmall line.lhs) (λ line o. o.small) (own_lists c).gates g;
          first_operands = All-weaker (λ line. IsDefined (net c) line.rhs0 × IsDefined (net c) line.rhs1) (λ line. IsSmall line.rhs0) (λ line d. small_below (net c) line.rhs0 few d.0) (own_lists c).gates operands;
          second_operands = All-weaker (λ line. IsDefined (net c) line.rhs0 × IsDefined (net c) line.rhs1) (λ line. IsSmall line.rhs1) (λ line d. small_below (net c) line.rhs1 few d.1) (own_lists c).gates operands;
          sections = record { nexts = subst (All (λ (l : Latch). IsSmall l.next)) (sym (same_sections (suc c.inputs) c.latches)) all.nexts; outputs = all.outputs; bads = all.bads; constraints = all.constraints; justice = all.justice; fair = all.fair };
        };
        few = record { defined = omega (arith, count_is, few); sections = record { outputs = valid.few.outputs; bads = valid.few.bads; constraints = valid.few.constraints; justice = valid.few.justice; justice_literals = valid.few.justice_literals; fair = valid.few.fair } };
        names = names_kept c (sections_of (own_lists c)) valid.names refl (λ s. omega (arith, same_count s));
      }

  known : (lit : ℕ) → IsDefined (net c) lit → is_known (own_lists c) lit ≡ true
  known lit d = ap (λ (ns : List ℕ). has_number ns lit) names ∙ has_number_in_turn lit (variables (net c)) d

  one_known : (lit : ℕ) → IsDefined (net c) lit → list_all (is_known (own_lists c)) (alone lit) ≡ true
  one_known lit d = rw (known lit d) refl

  uses_known : (ls : List ℕ) → All (IsDefined (net c)) ls → list_any (is_unknown (own_lists c)) (map alone ls) ≡ false
  uses_known ls h = none_unknown (own_lists c) alone (IsDefined (net c)) one_known ls h

  all_defined : first_undefined (own_lists c) ≡ None
  all_defined =
      let p : List ℕ → Bool = is_unknown (own_lists c) in
      let nexts = none_unknown (own_lists c) (λ (line : LatchLine). line.next ∷ []) (λ line. IsDefined (net c) line.next) (λ line d. one_known line.next d) (own_lists c).latches (nexts_hold (IsDefined (net c)) (suc c.inputs) c.latches valid.defined.nexts) in
      let gates = none_unknown (own_lists c) (λ (line : GateLine). line.rhs0 ∷ line.rhs1 ∷ []) (λ line. IsDefined (net c) line.rhs0 × IsDefined (net c) line.rhs1) (λ line d. rw (known line.rhs0 d.0, known line.rhs1 d.1) refl) (own_lists c).gates operands in
      let n0 : List (List ℕ) = map (λ (line : LatchLine). line.next ∷ []) (own_lists c).latches in
      let n1 : List (List ℕ) = n0 ++ map alone c.outputs in
      let n2 : List (List ℕ) = n1 ++ map alone c.bads in
      let n3 : List (List ℕ) = n2 ++ map alone c.constraints in
      let n4 : List (List ℕ) = n3 ++ map alone (concat c.justice) in
      let n5 : List (List ℕ) = n4 ++ map alone c.fair in
      let h1 = none_of_both p n0 (map alone c.outputs) nexts (uses_known c.outputs valid.defined.outputs) in
      let h2 = none_of_both p n1 (map alone c.bads) h1 (uses_known c.bads valid.defined.bads) in
      let h3 = none_of_both p n2 (map alone c.constraints) h2 (uses_known c.constraints valid.defined.constraints) in
      let h4 = none_of_both p n3 (map alone (concat c.justice)) h3 (uses_known (concat c.justice) (all_concat (IsDefined (net c)) c.justice valid.defined.justice)) in
      let h5 = none_of_both p n4 (map alone c.fair) h4 (uses_known c.fair valid.defined.fair) in
      none_passes p (used_lines (own_lists c)) (none_of_both p n5 (map (λ (line : GateLine). line.rhs0 ∷ line.rhs1 ∷ []) (own_lists c).gates) h5 gates)

  wait : WaitForEarlier (defined_variables (own_lists c)) (leaf_count (own_lists c)) (own_lists c).gates
  wait =
      let leaves : c.inputs + length c.latches ≡ leaf_count (own_lists c) = omega (arith, many_inputs 1 c.inputs, many_latches (suc c.inputs) c.latches) in
      subst (λ (ns : List ℕ). WaitForEarlier ns (leaf_count (own_lists c)) (own_lists c).gates) (sym names)
      (subst (λ (n : ℕ). WaitForEarlier (range_with_len 1 (variables (net c))) n (own_lists c).gates) leaves
      (λ j low. gates_wait (variables (net c)) (c.inputs + length c.latches) (suc (c.inputs + length c.latches)) 0 c.gates (omega arith) valid.ordered (omega arith) j j (omega arith) low))

  -- by their numbers they are the circuit
  is_itself : renumbered (own_lists c) (as_they_stand (own_lists c)) ≡ c
  is_itself =
      let n : ℕ = variables (net c) in
      let same = λ (lit : ℕ) (d : IsDefined (net c) lit). same_literal lit n d in
      let section = λ (lits : List ℕ) (d : All (IsDefined (net c)) lits). map_fixed (new_literal (range_with_len 1 n)) lits (All-weaker (IsDefined (net c)) (λ (lit : ℕ). new_literal (range_with_len 1 n) lit ≡ lit) same lits d) in
      sym (by_places (own_lists c) (defined_variables (own_lists c)) (map (new_gate (defined_variables (own_lists c))) (own_lists c).gates) refl refl)
      ∙ (rw (
        names,
        many_inputs 1 c.inputs,
        same_latches n (suc c.inputs) c.latches valid.defined.nexts,
        same_gates n (suc (c.inputs + length c.latches)) c.gates valid.ordered (omega arith),
        section c.outputs valid.defined.outputs,
        section c.bads valid.defined.bads,
        section c.constraints valid.defined.constraints,
        map_fixed (map (new_literal (range_with_len 1 n))) c.justice (All-weaker (All (IsDefined (net c))) (λ (lits : List ℕ). map (new_literal (range_with_len 1 n)) lits ≡ lits) section c.justice valid.defined.justice),
        section c.fair valid.defined.fair,
      ) refl)

  pub own_renumbered : IsRenumbered (own_lists c) c
  own_renumbered = record {
    known = all_defined;
    order = as_they_stand (own_lists c);
    is_order = is_order (own_lists c) (all_known (own_lists c) all_defined) wait;
    circuit = sym is_itself;
  }

  -- each variable has its own number
  pub own_numbering : IsNumberingOf (own_lists c) c None
  unfolding own_renumbered
  own_numbering =
      let l = own_lists c in
      let numbers : variables_numbered l (as_they_stand l) ≡ range_with_len 1 (variables (net c)) = numbered_as_they_stand l ∙ names in
      let many : variables (net c) ≡ length (variables_numbered l (as_they_stand l)) = omega (arith, ap (length {A = ℕ}) numbers, length-range_with_len 1 (variables (net c))) in
      record {
        order = own_renumbered.order;
        is_order = own_renumbered.is_order;
        circuit = own_renumbered.circuit;
        numbers = numbers ∙ ap (range_with_len 1) many;
      }
