-- From the lists of a file that reading gives back to the text.
use Rattle.std.proofs.Common.{◌≡◌, ℕ, ◌+◌, ◌-◌, ◌*◌, ◌%◌, ◌^◌, ◌<◌, ◌≤◌, ◌==◌, ◌&&◌, true, false, not, nat_le, List, [], ◌∷◌, ◌++◌, length, decimal, All, Option, Some, None, Ok, Err, refl, sym, ap, subst, ◌∙◌, append_assoc, inl, inr, arith}
use Rattle.std.specs.List.{concat}
use Rattle.std.specs.List.Sorted.{IsStrictlySortedBy}
use Rattle.std.proofs.lemmas.Bool.{and_parts, eqb-true, leb-true}
use Rattle.std.proofs.lemmas.Bool.Decides.{nat_tests}
use Rattle.std.proofs.lemmas.List.Elements.{All-weaker, All-nil, All-map}
use Rattle.base.specs.Decimals.{number_of}
use Rattle.base.proofs.DecimalLemmas.{chosen, number_is_decimal}
use Rattle.aigerlists.specs.declared.loose.GateLine.{GateLine}
use Rattle.aiger.specs.declared.circuit.Latch.{Latch}
use Rattle.aigerlists.specs.declared.loose.LatchLine.{LatchLine}
use Rattle.aiger.specs.Limits.{greatest_count}
use Rattle.base.specs.Literal.{variable}
use Rattle.aiger.specs.Circuit.{IsNamed}
use Rattle.aigerlists.specs.Loose.{Loose, IsLoose, HasDefinitions, HasSmall, HasFewLines, IsDefining, IsSmall, sections_of, latch_of as latch_section, empty_loose, latch_variable, gate_variable, defined_variables, is_defining, is_defined, with_input_line, with_latch_line, with_gate_line}
use Rattle.aigerlists.specs.Numbering.{IsOnce}
use Rattle.aigertext.specs.declared.reading.counts.Counts.{Counts}
use Rattle.aigertext.specs.declared.fault.Why.{Why}
use Rattle.aigertext.specs.declared.fault.Why.TheVariants as why
use Rattle.aigertext.specs.declared.forms.Form.TheVariants.{Ascii}
use Rattle.aigertext.specs.Ascii.{property_lines}
use Rattle.aigertext.specs.Counts.{AreSmall, Fits, counts_of_file}
use Rattle.aigertext.specs.Spelling.{AreLines, IsInputLine, IsLatchLine, IsGateLine, use_lines, AreUpTo}
use Rattle.aigertext.specs.Reading.{some_or, fields, within, Properties, nameless, properties_at, next_fields}
use Rattle.aigertext.specs.AsciiReading.{defining, defining_by, input_of, latch_fields, latch_of_line, gate_fields, gate_of_line, onto_lists, with_properties_of, lists_of_file}
use Rattle.aigertext.proofs.BackLemmas.{ok_same, not_err, bind-back, bind-then, within-back}
use Rattle.aigertext.proofs.FileReadLemmas.{inputs_onto, latches_onto, gates_onto, HasInputs, HasLeaves, input_grows, latch_grows, gate_grows}
use Rattle.aigertext.proofs.LatchBackLemmas.{spaced, fields-back, latch_by}
use Rattle.aigertext.proofs.OntoLemmas.{OntoBack, onto-back}
use Rattle.aigertext.proofs.ReadStandsLemmas.{PropertiesBack, properties-back, lists_hold}
use Rattle.aigertext.proofs.StandsLemmas.{property_text}

-- ---- lines

-- a literal of a line is new: up to the greatest, it may define a variable, and no line does
abbrev IsNewLiteral : ℕ → Loose → ℕ → Type 0
IsNewLiteral greatest l n = ((n ≤ greatest) × IsDefining n) × (is_defined l (variable n) ≡ false)

defining-back : (w : Why) (greatest : ℕ) (l : Loose) (m n : ℕ) → defining w greatest l m ≡ Ok n → (m ≡ n) × IsNewLiteral greatest l n
defining-back w greatest l m n e =
    elim (chosen (nat_le m greatest && (is_defining m && not (is_defined l (variable m)))) (Ok m) (Err w) (Ok n) e) [
      | inl new ↦
          let is : m ≡ n = ok_same m n new.1 in
          (is, subst (IsNewLiteral greatest l) is (of_test (new.0)))
      | inr wrong ↦ absurd (not_err _ _ wrong.1)
    ]
  where
    of_test : (nat_le m greatest && (is_defining m && not (is_defined l (variable m)))) ≡ true → IsNewLiteral greatest l m
    of_test t =
        let p = and_parts (nat_le m greatest) (is_defining m && not (is_defined l (variable m))) t in
        let q = and_parts (is_defining m) (not (is_defined l (variable m))) p.1 in
        let r = and_parts (nat_le 2 m) (m % 2 == 0) q.0 in
        ((leb-true m greatest p.0, record { even = eqb-true (m % 2) 0 r.1; least = leb-true 2 m r.0 }), grind (arith, nat_tests, q.1))

-- a field that is the decimal of a number up to the greatest
abbrev IsDecimal : ℕ → List ℕ → ℕ → Type 0
IsDecimal greatest field n = (field ≡ decimal n) × (n ≤ greatest)

module _ (greatest : ℕ) (small : greatest < 2 ^ 64 - 1) where
  field_is : (field : List ℕ) (m n : ℕ) → number_of field ≡ Some m → m ≡ n → n ≤ greatest → field ≡ decimal n
  field_is field m n e is le = number_is_decimal field m e (omega (arith, is, le)) ∙ ap decimal is

  within-is : (w : Why) (field : List ℕ) (n : ℕ) → within w greatest (number_of field) ≡ Ok n → IsDecimal greatest field n
  within-is w field n e =
      let p = within-back w greatest n (number_of field) e in
      (field_is field n n p.0 refl p.1, p.1)

  -- a field of a new literal
  abbrev IsOwnField : Loose → List ℕ → ℕ → Type 0
  IsOwnField l field n = (field ≡ decimal n) × IsNewLiteral greatest l n

  own_field : (l : Loose) (field : List ℕ) (m n : ℕ) → number_of field ≡ Some m → (m ≡ n) × IsNewLiteral greatest l n → IsOwnField l field n
  own_field l field m n f d = (field_is field m n f d.0 d.1.0.0, d.1)

  own-is : (w : Why) (l : Loose) (field : List ℕ) (n : ℕ) (r : Option ℕ) → number_of field ≡ r → defining_by w greatest l r ≡ Ok n → IsOwnField l field n
  own-is w l field n None f e = absurd (not_err _ _ e)
  own-is w l field n (Some m) f e = own_field l field m n f (defining-back w greatest l m n e)

  some-is : (l : Loose) (field : List ℕ) (m n : ℕ) (r : Option ℕ) → number_of field ≡ r → some_or why.BadNumber r ≡ Ok m → (m ≡ n) × IsNewLiteral greatest l n → IsOwnField l field n
  some-is l field m n None f e d = absurd (not_err _ _ e)
  some-is l field m n (Some k) f e d = own_field l field k n f (ok_same k m e ∙ d.0, d.1)

  input-back : (l : Loose) (n : ℕ) (line : List ℕ) → input_of greatest l line ≡ Ok n → IsInputLine n (line ++ 10 ∷ []) × ((n ≤ greatest) × IsDefining n) × (is_defined l (variable n) ≡ false)
  unfolding input_of
  input-back l n line e =
      let d = own-is why.BadNumber l line n (number_of line) refl e in
      (ap (λ (t : List ℕ). t ++ 10 ∷ []) d.0, d.1.0, d.1.1)

  -- a latch
  abbrev IsLatchBack : Loose → LatchLine → List ℕ → Type 0
  IsLatchBack l x line = IsLatchLine x (line ++ 10 ∷ []) × (((x.current ≤ greatest) × (x.next ≤ greatest)) × IsDefining x.current) × (is_defined l (latch_variable x) ≡ false)

  three_fields : (a b c : List ℕ) → (a ++ 32 ∷ (b ++ 32 ∷ c)) ++ 10 ∷ [] ≡ a ++ 32 ∷ (b ++ 32 ∷ (c ++ 10 ∷ []))
  three_fields a b c = simp append_assoc

  latch_line-back : (l : Loose) (x : LatchLine) (fs : List (List ℕ)) → latch_fields greatest l fs ≡ Ok x → IsLatchBack l x (spaced fs)
  unfolding latch_fields next_fields
  latch_line-back l x [] e = absurd (not_err _ _ e)
  latch_line-back l x (current ∷ []) e =
      let own = bind-back (defining_by why.BadLatch greatest l (number_of current)) _ x e in
      absurd (not_err _ _ own.then')
  latch_line-back l x (current ∷ next ∷ others) e =
      let own = bind-back (defining_by why.BadLatch greatest l (number_of current)) _ x e in
      let n = bind-back (next_fields greatest own.value (next ∷ others)) _ x own.then' in
      let is : ◌≡◌ {A = LatchLine} (record { current = own.value; next = n.value.next; reset = n.value.reset }) x = ok_same _ x n.then' in
      let c = own-is why.BadLatch l current own.value (number_of current) refl own.was in
      let line = latch_by greatest own.value n.value (next ∷ others) small (omega (arith, c.1.0.0)) n.was in
      let text : (current ++ 32 ∷ spaced (next ∷ others)) ++ 10 ∷ [] ≡ decimal own.value ++ 32 ∷ (spaced (next ∷ others) ++ 10 ∷ []) =
      append_assoc current (32 ∷ spaced (next ∷ others)) (10 ∷ []) ∙ ap (λ (t : List ℕ). t ++ 32 ∷ (spaced (next ∷ others) ++ 10 ∷ [])) c.0 in
      subst (λ (y : LatchLine). IsLatchBack l y (spaced (current ∷ next ∷ others))) is
      (record { reset = line.0.reset; is_reset = line.0.is_reset; spelled = text ∙ ap (λ (t : List ℕ). decimal own.value ++ 32 ∷ t) line.0.spelled }, ((c.1.0.0, line.1), c.1.0.1), c.1.1)

  latch-back : (l : Loose) (x : LatchLine) (line : List ℕ) → latch_of_line greatest l line ≡ Ok x → IsLatchBack l x line
  latch-back l x line e = subst (IsLatchBack l x) (fields-back line) (latch_line-back l x (fields line) e)

  -- a gate
  abbrev IsGateBack : Loose → GateLine → List ℕ → Type 0
  IsGateBack l x line = IsGateLine x (line ++ 10 ∷ []) × (((x.lhs ≤ greatest) × (x.rhs0 ≤ greatest) × (x.rhs1 ≤ greatest)) × IsDefining x.lhs) × (is_defined l (gate_variable x) ≡ false)

  gate_by : (l : Loose) (x : GateLine) (fs : List (List ℕ)) → gate_fields greatest l fs ≡ Ok x → IsGateBack l x (spaced fs)
  unfolding gate_fields
  gate_by l x [] e = absurd (not_err _ _ e)
  gate_by l x (f ∷ []) e = absurd (not_err _ _ e)
  gate_by l x (f ∷ g ∷ []) e = absurd (not_err _ _ e)
  gate_by l x (lhs ∷ rhs0 ∷ rhs1 ∷ []) e =
      let own = bind-back (some_or why.BadNumber (number_of lhs)) _ x e in
      let a = bind-back (within why.BadNumber greatest (number_of rhs0)) _ x own.then' in
      let b = bind-back (within why.BadNumber greatest (number_of rhs1)) _ x a.then' in
      let new = bind-back (defining why.GateOrder greatest l own.value) _ x b.then' in
      let is : ◌≡◌ {A = GateLine} (record { lhs = new.value; rhs0 = a.value; rhs1 = b.value }) x = ok_same _ x new.then' in
      let c = some-is l lhs own.value new.value (number_of lhs) refl own.was (defining-back why.GateOrder greatest l own.value new.value new.was) in
      let d = within-is why.BadNumber rhs0 a.value a.was in
      let f = within-is why.BadNumber rhs1 b.value b.was in
      subst (λ (y : GateLine). IsGateBack l y (lhs ++ 32 ∷ (rhs0 ++ 32 ∷ rhs1))) is (
        three_fields lhs rhs0 rhs1 ∙ ap (λ (t : List ℕ). t ++ 32 ∷ (rhs0 ++ 32 ∷ (rhs1 ++ 10 ∷ []))) c.0 ∙ ap (λ (t : List ℕ). decimal new.value ++ 32 ∷ (t ++ 32 ∷ (rhs1 ++ 10 ∷ []))) d.0
            ∙ ap (λ (t : List ℕ). decimal new.value ++ 32 ∷ (decimal a.value ++ 32 ∷ (t ++ 10 ∷ []))) f.0,
        ((c.1.0.0, d.1, f.1), c.1.0.1),
        c.1.1,
      )
  gate_by l x (f ∷ g ∷ h ∷ i ∷ more) e = absurd (not_err _ _ e)

  gate-back : (l : Loose) (x : GateLine) (line : List ℕ) → gate_of_line greatest l line ≡ Ok x → IsGateBack l x line
  gate-back l x line e = subst (IsGateBack l x) (fields-back line) (gate_by l x (fields line) e)

-- ---- all sections

pub record ListsBack (h : Counts) (text : List ℕ) (l : Loose) (end : List ℕ) : Type 0 where
  pub valid : IsLoose l
  pub unnamed : l.names ≡ []
  pub up_to : AreUpTo (2 * h.variables + 1) l
  pub counts : h ≡ counts_of_file h.variables l
  pub inputs : List ℕ
  pub are_inputs : AreLines IsInputLine l.inputs inputs
  pub latches : List ℕ
  pub are_latches : AreLines IsLatchLine l.latches latches
  pub gates : List ℕ
  pub are_gates : AreLines IsGateLine l.gates gates
  pub whole : text ≡ inputs ++ (latches ++ (use_lines l ++ (gates ++ end)))

-- lists of these things
abbrev made : List ℕ → List LatchLine → Properties → List GateLine → Loose
made is ls p gs = record (with_properties_of (record empty_loose { inputs = is; latches = ls }) p) { gates = gs }

-- literals up to the greatest are small
small_literal : (v n : ℕ) → v ≤ greatest_count → n ≤ 2 * v + 1 → IsSmall n
small_literal v n few le = omega arith

-- what a line that was read has beside what it stands for
abbrev IsGoodInput : ℕ → ℕ → Type 0
IsGoodInput greatest n = (n ≤ greatest) × IsDefining n

abbrev IsGoodLatch : ℕ → LatchLine → Type 0
IsGoodLatch greatest x = ((x.current ≤ greatest) × (x.next ≤ greatest)) × IsDefining x.current

abbrev IsGoodGate : ℕ → GateLine → Type 0
IsGoodGate greatest x = ((x.lhs ≤ greatest) × (x.rhs0 ≤ greatest) × (x.rhs1 ≤ greatest)) × IsDefining x.lhs

few_defined : (a b c i l g v : ℕ) → a ≡ i → b ≡ l → c ≡ g → i + l + g ≤ v → v ≤ greatest_count → a + b + c ≤ greatest_count
few_defined a b c i l g v is1 is2 is3 fits few = omega arith

few_of : (m n : ℕ) → m ≡ n → n ≤ greatest_count → m ≤ greatest_count
few_of m n is few = subst (λ (k : ℕ). k ≤ greatest_count) (sym is) few

-- properties that were read are those of lists
module _ (h : Counts) (few : AreSmall h) (text : List ℕ) (p : Properties) (rest : List ℕ) (q : PropertiesBack h text p rest) where
  all_small : (ls : List ℕ) → All (λ n. n ≤ 2 * h.variables + 1) ls → All IsSmall ls
  all_small ls up_to = All-weaker (λ n. n ≤ 2 * h.variables + 1) IsSmall (λ n le. small_literal h.variables n few.variables le) ls up_to

  pub properties_alone : IsLoose (with_properties_of empty_loose p)
  unfolding IsStrictlySortedBy
  properties_alone = record {
    definitions = record { inputs = All-nil IsDefining; latches = All-nil (λ x. IsDefining x.current); gates = All-nil (λ x. IsDefining x.lhs); once = λ v. omega arith };
    small = record {
      inputs = All-nil IsSmall;
      latches = All-nil (λ x. IsSmall x.current);
      gates = All-nil (λ x. IsSmall x.lhs);
      first_operands = All-nil (λ x. IsSmall x.rhs0);
      second_operands = All-nil (λ x. IsSmall x.rhs1);
      sections = record {
        nexts = All-nil (λ x. IsSmall x.next);
        outputs = all_small p.outputs q.up_to.outputs;
        bads = all_small p.bads q.up_to.bads;
        constraints = all_small p.constraints q.up_to.constraints;
        justice = lists_hold IsSmall p.justice (all_small (concat p.justice) q.up_to.justice);
        fair = all_small p.fair q.up_to.fair;
      };
    };
    few = record {
      defined = omega arith;
      sections = record {
        outputs = few_of (length p.outputs) h.outputs q.outputs few.outputs;
        bads = few_of (length p.bads) h.bads q.bads few.bads;
        constraints = few_of (length p.constraints) h.constraints q.constraints few.constraints;
        justice = few_of (length p.justice) h.justice q.justice few.justice;
        justice_literals = q.total;
        fair = few_of (length p.fair) h.fair q.fair few.fair;
      };
    };
    names = record { sorted = tt; named = All-nil (IsNamed (sections_of (with_properties_of empty_loose p))) };
  }

-- each section of the lists was read back
module _ (h : Counts) (few : AreSmall h) (fits : h.inputs + h.latches + h.gates ≤ h.variables) (text t1 t2 t3 end : List ℕ) (l1 l2 l : Loose) (p : Properties)
    (i : OntoBack with_input_line IsInputLine (IsGoodInput (2 * h.variables + 1)) HasInputs empty_loose l1 h.inputs text t1)
    (k : OntoBack with_latch_line IsLatchLine (IsGoodLatch (2 * h.variables + 1)) HasLeaves l1 l2 h.latches t1 t2)
    (q : PropertiesBack h t2 p t3)
    (g : OntoBack with_gate_line IsGateLine (IsGoodGate (2 * h.variables + 1)) (λ m. Unit {0}) (with_properties_of l2 p) l h.gates t3 end) where
  inputs_are : l1 ≡ record empty_loose { inputs = i.things }
  inputs_are = i.is ∙ inputs_onto empty_loose i.things

  leaves_are : l2 ≡ record empty_loose { inputs = i.things; latches = k.things }
  leaves_are = k.is ∙ latches_onto l1 k.things ∙ ap (λ (m : Loose). record m { latches = m.latches ++ k.things }) inputs_are

  all_are : l ≡ made i.things k.things p g.things
  all_are = g.is ∙ gates_onto (with_properties_of l2 p) g.things ∙ ap (λ (m : Loose). record (with_properties_of m p) { gates = m.gates ++ g.things }) leaves_are

  once_all : IsOnce (defined_variables (made i.things k.things p g.things))
  once_all =
      let one = i.keeps (refl, refl) (λ v. omega arith) in
      let two = k.keeps one.0.1 one.1 in
      subst (λ (m : Loose). IsOnce (defined_variables m)) all_are (g.keeps tt two.1).1

  definitions_back : HasDefinitions (made i.things k.things p g.things)
  definitions_back =
      record {
        inputs = All-weaker (IsGoodInput (2 * h.variables + 1)) IsDefining (λ n x. x.1) i.things i.good;
        latches = All-weaker (IsGoodLatch (2 * h.variables + 1)) (λ x. IsDefining x.current) (λ x y. y.1) k.things k.good;
        gates = All-weaker (IsGoodGate (2 * h.variables + 1)) (λ x. IsDefining x.lhs) (λ x y. y.1) g.things g.good;
        once = once_all;
      }

  alone : IsLoose (with_properties_of empty_loose p)
  alone = properties_alone h few t2 p t3 q

  small_back : HasSmall (made i.things k.things p g.things)
  small_back =
      record {
        inputs = All-weaker (IsGoodInput (2 * h.variables + 1)) IsSmall (λ n x. small_literal h.variables n few.variables x.0) i.things i.good;
        latches = All-weaker (IsGoodLatch (2 * h.variables + 1)) (λ x. IsSmall x.current) (λ x y. small_literal h.variables x.current few.variables y.0.0) k.things k.good;
        gates = All-weaker (IsGoodGate (2 * h.variables + 1)) (λ x. IsSmall x.lhs) (λ x y. small_literal h.variables x.lhs few.variables y.0.0) g.things g.good;
        first_operands = All-weaker (IsGoodGate (2 * h.variables + 1)) (λ x. IsSmall x.rhs0) (λ x y. small_literal h.variables x.rhs0 few.variables y.0.1) g.things g.good;
        second_operands = All-weaker (IsGoodGate (2 * h.variables + 1)) (λ x. IsSmall x.rhs1) (λ x y. small_literal h.variables x.rhs1 few.variables y.0.2) g.things g.good;
        sections = record {
          nexts = All-map (λ (x : Latch). IsSmall x.next) latch_section k.things (All-weaker (IsGoodLatch (2 * h.variables + 1)) (λ x. IsSmall x.next) (λ x y. small_literal h.variables x.next few.variables y.0.1) k.things k.good);
          outputs = alone.small.sections.outputs;
          bads = alone.small.sections.bads;
          constraints = alone.small.sections.constraints;
          justice = alone.small.sections.justice;
          fair = alone.small.sections.fair;
        };
      }

  few_back : HasFewLines (made i.things k.things p g.things)
  few_back =
      record {
        defined = few_defined (length i.things) (length k.things) (length g.things) h.inputs h.latches h.gates h.variables i.many k.many g.many fits few.variables;
        sections = record {
          outputs = alone.few.sections.outputs;
          bads = alone.few.sections.bads;
          constraints = alone.few.sections.constraints;
          justice = alone.few.sections.justice;
          justice_literals = alone.few.sections.justice_literals;
          fair = alone.few.sections.fair;
        };
      }

  valid_back : IsLoose (made i.things k.things p g.things)
  unfolding IsStrictlySortedBy
  valid_back =
      record { definitions = definitions_back; small = small_back; few = few_back; names = record { sorted = tt; named = All-nil (IsNamed (sections_of (made i.things k.things p g.things))) } }

  up_to_back : AreUpTo (2 * h.variables + 1) (made i.things k.things p g.things)
  up_to_back =
      record {
        inputs = All-weaker (IsGoodInput (2 * h.variables + 1)) (λ n. n ≤ 2 * h.variables + 1) (λ n x. x.0) i.things i.good;
        latches = All-weaker (IsGoodLatch (2 * h.variables + 1)) (λ x. (x.current ≤ 2 * h.variables + 1) × (x.next ≤ 2 * h.variables + 1)) (λ x y. y.0) k.things k.good;
        outputs = q.up_to.outputs;
        bads = q.up_to.bads;
        constraints = q.up_to.constraints;
        justice = q.up_to.justice;
        fair = q.up_to.fair;
        gates = All-weaker (IsGoodGate (2 * h.variables + 1)) (λ x. (x.lhs ≤ 2 * h.variables + 1) × (x.rhs0 ≤ 2 * h.variables + 1) × (x.rhs1 ≤ 2 * h.variables + 1)) (λ x y. y.0) g.things g.good;
      }

  whole_back : text ≡ i.bytes ++ (k.bytes ++ (use_lines (made i.things k.things p g.things) ++ (g.bytes ++ end)))
  whole_back =
      i.parts ∙ ap (λ (t : List ℕ). i.bytes ++ t) k.parts
      ∙ ap (λ (t : List ℕ). i.bytes ++ (k.bytes ++ t)) (q.parts ∙ sym (property_text (nameless 0 [] p []) t3))
      ∙ ap (λ (t : List ℕ). i.bytes ++ (k.bytes ++ (property_lines (nameless 0 [] p []) ++ t))) g.parts

  counts_back : h ≡ counts_of_file h.variables (made i.things k.things p g.things)
  counts_back = rw (i.many, k.many, g.many, q.outputs, q.bads, q.constraints, q.justice, q.fair) refl

  sections-back : ListsBack h text l end
  sections-back =
      subst (λ (m : Loose). ListsBack h text m end) (sym all_are)
      (record {
        valid = valid_back;
        unnamed = refl;
        up_to = up_to_back;
        counts = counts_back;
        inputs = i.bytes;
        are_inputs = i.lines;
        latches = k.bytes;
        are_latches = k.lines;
        gates = g.bytes;
        are_gates = g.lines;
        whole = whole_back;
      })

pub lists-back : (h : Counts) (text : List ℕ) (l : Loose) (end : List ℕ) → AreSmall h → Fits Ascii h → lists_of_file h text ≡ Ok (l, end) → ListsBack h text l end
unfolding lists_of_file
lists-back h text l end few fits e0 =
    bind-then (onto_lists (input_of (2 * h.variables + 1)) with_input_line empty_loose h.inputs text) _ (l, end) e0
    (λ x i e1. bind-then (onto_lists (latch_of_line (2 * h.variables + 1)) with_latch_line x.0 h.latches x.1) _ (l, end) e1
    (λ y k e2. bind-then (properties_at h y.1) _ (l, end) e2
    (λ z q e3. sections-back h few fits text x.1 y.1 z.1 end x.0 y.0 l z.0
    (onto-back (input_of (2 * h.variables + 1)) with_input_line variable IsInputLine (IsGoodInput (2 * h.variables + 1)) HasInputs input_grows (input-back (2 * h.variables + 1) small) empty_loose x.0 h.inputs text x.1 i)
    (onto-back (latch_of_line (2 * h.variables + 1)) with_latch_line latch_variable IsLatchLine (IsGoodLatch (2 * h.variables + 1)) HasLeaves latch_grows (latch-back (2 * h.variables + 1) small) x.0 y.0 h.latches x.1 y.1 k)
    (properties-back h y.1 z.0 z.1 few.variables q)
    (onto-back (gate_of_line (2 * h.variables + 1)) with_gate_line gate_variable IsGateLine (IsGoodGate (2 * h.variables + 1)) (λ m. Unit {0}) gate_grows (gate-back (2 * h.variables + 1) small) (with_properties_of y.0 z.0) l h.gates z.1 end e3))))
  where
    small : 2 * h.variables + 1 < 2 ^ 64 - 1
    small = omega (arith, few.variables)
