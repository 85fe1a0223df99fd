-- The lists of a file are read again from lines that stand for them.
use Rattle.std.proofs.Common.{◌≡◌, ℕ, ◌+◌, ◌-◌, ◌*◌, ◌%◌, ◌^◌, ◌<◌, ◌≤◌, true, false, ◌==◌, List, [], ◌∷◌, ◌++◌, map, length, decimal, All, nat_le, Some, Result, Ok, refl, sym, ap, subst, ◌∙◌, append_assoc, append-nil, inl, inr, arith}
use Rattle.std.proofs.lemmas.Bool.Decides.{nat_tests}
use Rattle.std.proofs.lemmas.Bool.{le-leb}
use Rattle.std.proofs.lemmas.List.{map-append}
use Rattle.std.proofs.lemmas.List.Elements.{All-nil, All-cons, All-head, All-tail}
use Rattle.base.specs.Decimals.{number_of}
use Rattle.base.proofs.DecimalLemmas.{number_of-decimal}
use Rattle.aiger.specs.declared.circuit.Reset.{Reset}
use Rattle.aiger.specs.declared.circuit.Reset.TheVariants.{Zero}
use Rattle.aigerlists.specs.declared.loose.GateLine.{GateLine}
use Rattle.aigerlists.specs.declared.loose.LatchLine.{LatchLine}
use Rattle.aiger.specs.Limits.{greatest_count}
use Rattle.base.specs.Literal.{variable}
use Rattle.aigerlists.specs.Numbering.{IsOnce}
use Rattle.aigerlists.specs.Loose.{Loose, IsLoose, IsDefining, sections_of, empty_loose, latch_variable, gate_variable, defined_variables, is_defined, with_input_line, with_latch_line, with_gate_line}
use Rattle.aigertext.specs.declared.fault.Stop.{Stop}
use Rattle.aigertext.specs.declared.fault.Why.{Why}
use Rattle.aigertext.specs.declared.fault.Why.TheVariants as why
use Rattle.aigertext.specs.Ascii.{numbers_line}
use Rattle.aigertext.specs.Counts.{counts_of_file}
use Rattle.aigertext.specs.Spelling.{AreLines, IsInputLine, IsLatchLine, IsGateLine, use_lines, AreUpTo}
use Rattle.aigertext.specs.Reading.{within, reset_of, line_at, next_fields}
use Rattle.aigertext.specs.AsciiReading.{defining, input_of, latch_fields, latch_of_line, gate_fields, gate_of_line, onto_lists, with_properties_of, lists_of_file}
use Rattle.aigertext.proofs.FieldLemmas.{joined, fields-joined, numbers_read}
use Rattle.aigertext.proofs.OntoLemmas.{all_onto, onto-read}
use Rattle.aigertext.proofs.PropertyLemmas.{within-read, IsTold, reset-told}
use Rattle.aigertext.proofs.StandsLemmas.{HasUpTo, properties_in, properties-read}

-- a literal that may define a variable
record IsOwn (greatest n : ℕ) : Type 0 where
  up_to : n ≤ greatest
  defining' : IsDefining n

defining-read : (w : Why) (greatest : ℕ) (l : Loose) (n : ℕ) → IsOwn greatest n → is_defined l (variable n) ≡ false → defining w greatest l n ≡ Ok n
defining-read w greatest l n own new =
    let le = own.up_to in
    let even = own.defining'.even in
    let least = own.defining'.least in
    let a : nat_le n greatest ≡ true = le-leb n greatest le in
    let b : nat_le 2 n ≡ true = le-leb 2 n least in
    let c : (n % 2 == 0) ≡ true = grind (arith, nat_tests) in
    rw (a, b, c, new) refl

-- what holds of each of two kinds
both : {A : Type 0} (P Q : A → Type 0) (xs : List A) → All P xs → All Q xs → All (λ x. P x × Q x) xs
both P Q [] p q = All-nil (λ x. P x × Q x)
both P Q (x ∷ xs) p q = All-cons (λ x. P x × Q x) x xs (All-head P x xs p, All-head Q x xs q) (both P Q xs (All-tail P x xs p) (All-tail Q x xs q))

-- ---- lines

module _ (greatest : ℕ) (small : greatest < 2 ^ 64 - 1) where
  input-read : (l : Loose) (n : ℕ) (line rest : List ℕ) → (n ≤ greatest) × IsDefining n → is_defined l (variable n) ≡ false → IsInputLine n line → line_at (input_of greatest l) (line ++ rest) ≡ Ok (n, rest)
  unfolding input_of
  input-read l n line rest good new is =
      let n_small : n < 2 ^ 64 = omega (arith, good.0) in
      let own = defining-read why.BadNumber greatest l n (record { up_to = good.0; defining' = good.1 }) new in
      let says : input_of greatest l (joined (n ∷ [])) ≡ Ok n = rw (number_of-decimal n n_small) own in
      ap (λ (t : List ℕ). line_at (input_of greatest l) (t ++ rest)) is ∙ numbers_read (input_of greatest l) (n ∷ []) rest n (n_small, tt) says

  latch-read : (l : Loose) (x : LatchLine) (line rest : List ℕ) → ((x.current ≤ greatest) × (x.next ≤ greatest)) × IsDefining x.current → is_defined l (latch_variable x) ≡ false → IsLatchLine x line → line_at (latch_of_line greatest l) (line ++ rest) ≡ Ok (x, rest)
  unfolding latch_fields next_fields
  latch-read l x line rest good new is =
      ap (λ (t : List ℕ). line_at (latch_of_line greatest l) (t ++ rest)) is.spelled ∙ by (reset-told x.current x.reset is.reset good.1.least current_small is.is_reset)
    where
      current_small : x.current < 2 ^ 64
      current_small = omega (arith, good.0.0)

      next_small : x.next < 2 ^ 64
      next_small = omega (arith, good.0.1)

      own : defining why.BadLatch greatest l x.current ≡ Ok x.current
      own = defining-read why.BadLatch greatest l x.current (record { up_to = good.0.0; defining' = good.1 }) new

      next : within why.BadLatch greatest (number_of (decimal x.next)) ≡ Ok x.next
      next = within-read why.BadLatch greatest x.next good.0.1 (omega arith)

      plain : latch_of_line greatest l (joined (x.current ∷ x.next ∷ [])) ≡ Ok (record { current = x.current; next = x.next; reset = Zero })
      plain = rw (fields-joined x.current (x.next ∷ []) (current_small, (next_small, tt)), number_of-decimal x.current current_small, own, next) refl

      told : (n : ℕ) → n < 2 ^ 64 → reset_of x.current (Some n) ≡ Ok x.reset → latch_of_line greatest l (joined (x.current ∷ x.next ∷ n ∷ [])) ≡ Ok x
      told n n_small e =
          rw (fields-joined x.current (x.next ∷ n ∷ []) (current_small, (next_small, (n_small, tt))), number_of-decimal x.current current_small, own, next, number_of-decimal n n_small, e) refl

      by : IsTold x.current x.reset is.reset → line_at (latch_of_line greatest l) (numbers_line (x.current ∷ x.next ∷ is.reset) ++ rest) ≡ Ok (x, rest)
      by (inl t) =
          rw (t.0) (numbers_read (latch_of_line greatest l) (x.current ∷ x.next ∷ []) rest x (current_small, (next_small, tt)) (plain ∙ ap (λ (r : Reset). Ok (record { current = x.current; next = x.next; reset = r })) (sym t.1)))
      by (inr t) =
          rw (t.1.0) (numbers_read (latch_of_line greatest l) (x.current ∷ x.next ∷ t.0 ∷ []) rest x (current_small, (next_small, (t.1.1, tt))) (told t.0 t.1.1 t.1.2))

  pub gate-told : (l : Loose) (n a b lhs : ℕ) (text rest : List ℕ) → text ≡ numbers_line (n ∷ a ∷ b ∷ []) ++ rest → n < 2 ^ 64 → a ≤ greatest → b ≤ greatest → defining why.GateOrder greatest l n ≡ Ok lhs → line_at (gate_of_line greatest l) text ≡ Ok (record { lhs = lhs; rhs0 = a; rhs1 = b }, rest)
  unfolding gate_fields
  gate-told l n a b lhs text rest is n_small first second own =
      let a_small : a < 2 ^ 64 = omega (arith, first) in
      let b_small : b < 2 ^ 64 = omega (arith, second) in
      let says : gate_of_line greatest l (joined (n ∷ a ∷ b ∷ [])) ≡ Ok (record { lhs = lhs; rhs0 = a; rhs1 = b }) =
      rw (fields-joined n (a ∷ b ∷ []) (n_small, (a_small, (b_small, tt))), number_of-decimal n n_small, within-read why.BadNumber greatest a first (omega arith), within-read why.BadNumber greatest b second (omega arith), own) refl in
      ap (line_at (gate_of_line greatest l)) is ∙ numbers_read (gate_of_line greatest l) (n ∷ a ∷ b ∷ []) rest (record { lhs = lhs; rhs0 = a; rhs1 = b }) (n_small, (a_small, (b_small, tt))) says

  gate-read : (l : Loose) (x : GateLine) (line rest : List ℕ) → ((x.lhs ≤ greatest) × (x.rhs0 ≤ greatest) × (x.rhs1 ≤ greatest)) × IsDefining x.lhs → is_defined l (gate_variable x) ≡ false → IsGateLine x line → line_at (gate_of_line greatest l) (line ++ rest) ≡ Ok (x, rest)
  gate-read l x line rest good new is =
      gate-told l x.lhs x.rhs0 x.rhs1 x.lhs (line ++ rest) rest (ap (λ (t : List ℕ). t ++ rest) is) (omega (arith, good.0.0)) good.0.1 good.0.2 (defining-read why.GateOrder greatest l x.lhs (record { up_to = good.0.0; defining' = good.1 }) new)

-- ---- sections

pub inputs_onto : (l : Loose) (ns : List ℕ) → all_onto with_input_line l ns ≡ record l { inputs = l.inputs ++ ns }
inputs_onto l [] = ap (λ (xs : List ℕ). record l { inputs = xs }) (sym (append-nil l.inputs))
inputs_onto l (n ∷ ns) = inputs_onto (with_input_line l n) ns ∙ ap (λ (xs : List ℕ). record l { inputs = xs }) (append_assoc l.inputs (n ∷ []) ns)

pub latches_onto : (l : Loose) (lines : List LatchLine) → all_onto with_latch_line l lines ≡ record l { latches = l.latches ++ lines }
latches_onto l [] = ap (λ (xs : List LatchLine). record l { latches = xs }) (sym (append-nil l.latches))
latches_onto l (x ∷ lines) = latches_onto (with_latch_line l x) lines ∙ ap (λ (xs : List LatchLine). record l { latches = xs }) (append_assoc l.latches (x ∷ []) lines)

pub gates_onto : (l : Loose) (lines : List GateLine) → all_onto with_gate_line l lines ≡ record l { gates = l.gates ++ lines }
gates_onto l [] = ap (λ (xs : List GateLine). record l { gates = xs }) (sym (append-nil l.gates))
gates_onto l (x ∷ lines) = gates_onto (with_gate_line l x) lines ∙ ap (λ (xs : List GateLine). record l { gates = xs }) (append_assoc l.gates (x ∷ []) lines)

-- no latches and no gates, or no gates
abbrev pub HasInputs : Loose → Type 0
HasInputs l = (l.latches ≡ []) × (l.gates ≡ [])

pub input_grows : (l : Loose) (n : ℕ) → HasInputs l → HasInputs (with_input_line l n) × (defined_variables (with_input_line l n) ≡ defined_variables l ++ variable n ∷ [])
input_grows l n ready = (ready, rw (ready.0, ready.1) (simp (append-nil, map-append)))

abbrev pub HasLeaves : Loose → Type 0
HasLeaves l = l.gates ≡ []

pub latch_grows : (l : Loose) (x : LatchLine) → HasLeaves l → HasLeaves (with_latch_line l x) × (defined_variables (with_latch_line l x) ≡ defined_variables l ++ latch_variable x ∷ [])
latch_grows l x ready = (ready, rw ready (simp (append-nil, map-append, append_assoc)))

pub gate_grows : (l : Loose) (x : GateLine) → Unit {0} → Unit {0} × (defined_variables (with_gate_line l x) ≡ defined_variables l ++ gate_variable x ∷ [])
gate_grows l x ready = (tt, simp (map-append, append_assoc))

-- the variables that are defined, as they were when the latches began, and when the gates did
behind_inputs : (a b c : List ℕ) → a ++ b ++ c ≡ (a ++ [] ++ []) ++ (b ++ c)
behind_inputs a b c = simp (append-nil, append_assoc)

behind_leaves : (a b c : List ℕ) → a ++ b ++ c ≡ (a ++ b ++ []) ++ (c ++ [])
behind_leaves a b c = simp (append-nil, append_assoc)

-- all of them
module _ (greatest : ℕ) (l : Loose) (valid : IsLoose l) (unnamed : l.names ≡ []) (few : greatest ≤ greatest_count) (up_to : AreUpTo (2 * greatest + 1) l) where
  small : 2 * greatest + 1 < 2 ^ 64 - 1
  small = omega (arith, few)

  -- the lists once the inputs are read, once the latches are, and before the gates
  abbrev with_inputs : Loose
  with_inputs = record empty_loose { inputs = l.inputs }

  abbrev with_leaves : Loose
  with_leaves = record empty_loose { inputs = l.inputs; latches = l.latches }

  abbrev with_all_uses : Loose
  with_all_uses = with_properties_of with_leaves (properties_in (sections_of l))

  inputs_read : (bytes rest : List ℕ) → AreLines IsInputLine l.inputs bytes → onto_lists (input_of (2 * greatest + 1)) with_input_line empty_loose (length l.inputs) (bytes ++ rest) ≡ Ok (with_inputs, rest)
  inputs_read bytes rest are =
      let once : IsOnce (defined_variables empty_loose ++ (map variable l.inputs ++ (map latch_variable l.latches ++ map gate_variable l.gates))) =
      subst IsOnce (append_assoc (map variable l.inputs) (map latch_variable l.latches) (map gate_variable l.gates)) valid.definitions.once in
      onto-read (input_of (2 * greatest + 1)) with_input_line variable IsInputLine (λ n. (n ≤ 2 * greatest + 1) × IsDefining n) HasInputs input_grows (input-read (2 * greatest + 1) small) empty_loose l.inputs (map latch_variable l.latches ++ map gate_variable l.gates) bytes rest (refl, refl) once
      (both (λ n. n ≤ 2 * greatest + 1) IsDefining l.inputs up_to.inputs valid.definitions.inputs) are
      ∙ ap (λ (m : Loose). Ok (m, rest)) (inputs_onto empty_loose l.inputs)

  latches_read : (bytes rest : List ℕ) → AreLines IsLatchLine l.latches bytes → onto_lists (latch_of_line (2 * greatest + 1)) with_latch_line with_inputs (length l.latches) (bytes ++ rest) ≡ Ok (with_leaves, rest)
  latches_read bytes rest are =
      let once : IsOnce (defined_variables with_inputs ++ (map latch_variable l.latches ++ map gate_variable l.gates)) =
      subst IsOnce (behind_inputs (map variable l.inputs) (map latch_variable l.latches) (map gate_variable l.gates)) valid.definitions.once in
      onto-read (latch_of_line (2 * greatest + 1)) with_latch_line latch_variable IsLatchLine (λ x. ((x.current ≤ 2 * greatest + 1) × (x.next ≤ 2 * greatest + 1)) × IsDefining x.current) HasLeaves latch_grows (latch-read (2 * greatest + 1) small) with_inputs l.latches (map gate_variable l.gates) bytes rest refl once
      (both (λ x. (x.current ≤ 2 * greatest + 1) × (x.next ≤ 2 * greatest + 1)) (λ x. IsDefining x.current) l.latches up_to.latches valid.definitions.latches) are
      ∙ ap (λ (m : Loose). Ok (m, rest)) (latches_onto with_inputs l.latches)

  gates_read : (bytes rest : List ℕ) → AreLines IsGateLine l.gates bytes → onto_lists (gate_of_line (2 * greatest + 1)) with_gate_line with_all_uses (length l.gates) (bytes ++ rest) ≡ Ok (record with_all_uses { gates = l.gates }, rest)
  gates_read bytes rest are =
      let once : IsOnce (defined_variables with_all_uses ++ (map gate_variable l.gates ++ [])) =
      subst IsOnce (behind_leaves (map variable l.inputs) (map latch_variable l.latches) (map gate_variable l.gates)) valid.definitions.once in
      onto-read (gate_of_line (2 * greatest + 1)) with_gate_line gate_variable IsGateLine (λ x. ((x.lhs ≤ 2 * greatest + 1) × (x.rhs0 ≤ 2 * greatest + 1) × (x.rhs1 ≤ 2 * greatest + 1)) × IsDefining x.lhs) (λ m. Unit {0}) gate_grows (gate-read (2 * greatest + 1) small) with_all_uses l.gates [] bytes rest tt once
      (both (λ x. (x.lhs ≤ 2 * greatest + 1) × (x.rhs0 ≤ 2 * greatest + 1) × (x.rhs1 ≤ 2 * greatest + 1)) (λ x. IsDefining x.lhs) l.gates up_to.gates valid.definitions.gates) are
      ∙ ap (λ (m : Loose). Ok (m, rest)) (gates_onto with_all_uses l.gates)

  all_read : (end : List ℕ) → ◌≡◌ {A = Result (Loose × List ℕ) Stop} (Ok (record with_all_uses { gates = l.gates }, end)) (Ok (l, end))
  all_read end = ap (λ names. Ok (record l { names = names }, end)) (sym unnamed)

  pub lists-read : (inputs latches gates end : List ℕ) → AreLines IsInputLine l.inputs inputs → AreLines IsLatchLine l.latches latches → AreLines IsGateLine l.gates gates
      → lists_of_file (counts_of_file greatest l) (inputs ++ (latches ++ (use_lines l ++ (gates ++ end)))) ≡ Ok (l, end)
  unfolding lists_of_file
  lists-read inputs latches gates end are_inputs are_latches are_gates =
      let below : HasUpTo (2 * greatest + 1) (sections_of l) = record { outputs = up_to.outputs; bads = up_to.bads; constraints = up_to.constraints; justice = up_to.justice; fair = up_to.fair } in
      rw (
        inputs_read inputs (latches ++ (use_lines l ++ (gates ++ end))) are_inputs,
        latches_read latches (use_lines l ++ (gates ++ end)) are_latches,
        properties-read greatest (length l.inputs) (length l.latches) (length l.gates) (sections_of l) (gates ++ end) few below valid.few.sections.justice_literals,
        gates_read gates end are_gates,
      ) (all_read end)
