-- A text that was read onto a circuit spells it, or has the fault, and what was read of any text gives back its bytes.
use Rattle.std.proofs.Common.{◌≡◌, ◌≢◌, ℕ, suc, ◌+◌, ◌-◌, ◌*◌, ◌^◌, ◌<◌, ◌≤◌, List, [], ◌∷◌, ◌++◌, length, take, Option, Some, None, Result, Ok, Err, refl, sym, ap, subst, ◌∙◌, append_assoc, append-nil, length-append, inl, inr, arith}
use Rattle.std.specs.Prelude.{IfSome}
use Rattle.std.specs.Io.KnownBytes.{prepend_known, Keeps, IsAtEnd}
use Rattle.std.proofs.KnownBytes.{Keeps-trans}
use Rattle.std.proofs.lemmas.List.{length-replicate}
use Rattle.aiger.specs.declared.circuit.Gate.{Gate}
use Rattle.aiger.specs.declared.circuit.Latch.{Latch}
use Rattle.aiger.specs.declared.circuit.Section.{Section}
use Rattle.aiger.specs.Limits.{greatest_count}
use Rattle.aiger.specs.Net.{variables, AreOrderedFrom}
use Rattle.aiger.specs.declared.lists.Properties.{Properties as PropertiesValue}
use Rattle.aiger.specs.View.{with_latches_and_properties}
use Rattle.aiger.specs.Circuit.{Circuit, IsCircuit, net, fresh_circuit, fresh_latch}
use Rattle.aigerlists.specs.OwnLists.{own_lists}
use Rattle.aigerlists.specs.Renumbering.{IsRenumbered, IsNumberingOf}
use Rattle.aiger.proofs.SectionNameLemmas.{few_positions}
use Rattle.aigertext.specs.declared.reading.counts.Counts.{Counts}
use Rattle.aigertext.specs.declared.reading.front.Front.{Front}
use Rattle.aigertext.specs.declared.fault.Stop.{Stop}
use Rattle.aigertext.specs.declared.forms.Form.{Form}
use Rattle.aigertext.specs.declared.forms.Form.TheVariants.{Ascii, Binary}
use Rattle.aigertext.specs.Ascii.{input_lines, property_lines}
use Rattle.aigertext.specs.Binary.{inputs_text, gates_text}
use Rattle.aigertext.specs.Counts.{counts_in, counts_of_file, AreSmall, Fits}
use Rattle.aigertext.specs.Spelling.{IsHeader, AreUpTo, AreNextLines, IsAsciiText, IsBinaryText}
use Rattle.aigertext.specs.Reading.{◌>>=◌, line_at, header_of, gate_at, gates_at, names_at, binary_at, Properties, properties_at, nameless}
use Rattle.aigertext.specs.AsciiReading.{lists_of_file, AnswersNamed, AnswersLists, AnswersHeader, AnswersText}
use Rattle.aigerlists.specs.Loose.{Loose}
use Rattle.base.specs.Lines.{IsLine}
use Rattle.aigertext.specs.Numbering.{IsNumberingOfText}
use Rattle.aigertext.specs.Passes.{onto, with_more_gates, properties_of, latch_in, latches_in}
use Rattle.aigertext.specs.InOrder.{uses_at, uses_of, IsFront, HasFront, text_with, ArePutGates, PutsText, Finishes, IsFinish, ReadsOnto}
use Rattle.aigertext.proofs.AsciiWrittenLemmas.{OwnValid, OwnNumbered, OwnMany, OwnNumbering, up_to, written_inputs, written_gates}
use Rattle.aigertext.proofs.BackLemmas.{ok_same, err_same, not_err, bind-then, line-back}
use Rattle.aigertext.proofs.FieldLemmas.{line_read}
use Rattle.aigertext.proofs.GateLemmas.{gates-read, gates-read-on}
use Rattle.aigertext.proofs.HeaderBackLemmas.{HeaderBack, header-back}
use Rattle.aigertext.proofs.LatchBackLemmas.{AreLatchesAt, latches-back}
use Rattle.aigertext.proofs.PutsLemmas.{gates_text-append, front_kept, more_kept, at_end, front_taken, rest_within}
use Rattle.aigertext.proofs.ReadStandsLemmas.{PropertiesBack, properties-back, bare_valid, end-back, header_spelled}
use Rattle.aigertext.proofs.StandsLemmas.{property_text}
use Rattle.aigertext.proofs.FileReadLemmas.{lists-read}
use Rattle.aigertext.proofs.ReadFrontLemmas.{IsAtFront, line-front, lines-front, properties-front}

-- ---- the lines before the gates

-- the lines of latches and those of properties
pub record UsesBack (form : Form) (h : Counts) (text : List ℕ) (uses : List Latch × Properties) (rest : List ℕ) : Type 0 where
  pub after : List ℕ
  pub latches : latches_in form (2 * h.variables + 1) (2 * suc h.inputs) h.latches text ≡ Ok (uses.0, after)
  pub properties : properties_at h after ≡ Ok (uses.1, rest)

pub uses-back : (form : Form) (h : Counts) (text : List ℕ) (uses : List Latch × Properties) (rest : List ℕ) → uses_at form h text ≡ Ok (uses, rest) → UsesBack form h text uses rest
uses-back form h text uses rest e =
    bind-then (latches_in form (2 * h.variables + 1) (2 * suc h.inputs) h.latches text) _ (uses, rest) e
    (λ l l' e1. bind-then (properties_at h l.1) _ (uses, rest) e1
    (λ p p' e2. subst (λ (x : (List Latch × Properties) × List ℕ). UsesBack form h text x.0 x.1) (ok_same _ (uses, rest) e2) (record { after = l.1; latches = l'; properties = p' })))

-- they are the front of a text, behind which anything may stand
uses-front : (form : Form) (h : Counts) (text : List ℕ) (uses : List Latch × Properties) (rest : List ℕ) → UsesBack form h text uses rest → IsAtFront (uses_at form h) text uses rest
uses-front form h text uses rest u =
    let l = lines-front (latch_in form (2 * h.variables + 1)) (λ o x. o + 2) (2 * suc h.inputs) h.latches text uses.0 u.after u.latches in
    let p = properties-front h u.after uses.1 rest u.properties in
    record {
      front = l.front ++ p.front;
      parts = l.parts ∙ ap (λ (t : List ℕ). l.front ++ t) p.parts ∙ sym (append_assoc l.front p.front rest);
      again = λ other.
          let one = l.again (p.front ++ other) in
          let two = p.again other in
          ap (uses_at form h) (append_assoc l.front p.front other) ∙ rw (one, two) refl;
    }

three_parts : (line i p rest : List ℕ) → (line ++ (i ++ p)) ++ rest ≡ line ++ (i ++ (p ++ rest))
three_parts line i p rest = simp append_assoc

-- a text is its front and its gates
pub record FrontParts (form : Form) (h : Counts) (uses : List Latch × Properties) (text gates : List ℕ) : Type 0 where
  pub before : List ℕ
  pub parts : text ≡ before ++ gates
  pub front : IsFront form h uses before

pub front-parts : (form : Form) (h : Counts) (text lines latches : List ℕ) (uses : List Latch × Properties) (gates : List ℕ) → line_at header_of text ≡ Ok ((form, h), lines) → Fits Binary h → lines ≡ inputs_text form h.inputs ++ latches → uses_at form h latches ≡ Ok (uses, gates)
    → FrontParts form h uses text gates
front-parts form h text lines latches uses gates header fits inputs read =
    let s = line-front header_of text (form, h) lines header in
    let u = uses-front form h latches uses gates (uses-back form h latches uses gates read) in
    record {
      before = s.front ++ (inputs_text form h.inputs ++ u.front);
      parts =
          s.parts ∙ ap (λ (t : List ℕ). s.front ++ t) (inputs ∙ ap (λ (t : List ℕ). inputs_text form h.inputs ++ t) u.parts)
          ∙ sym (three_parts s.front (inputs_text form h.inputs) u.front gates);
      front = record {
        fits = fits;
        lines = u.front;
        read = u.again;
        header = λ other. ap (line_at header_of) (three_parts s.front (inputs_text form h.inputs) u.front other) ∙ s.again (inputs_text form h.inputs ++ (u.front ++ other));
      };
    }

module _ (form : Form) (h : Counts) (text lines latches gates : List ℕ) (f : Front) (header : line_at header_of text ≡ Ok ((form, h), lines)) (fits : Fits Binary h) (inputs : lines ≡ inputs_text form h.inputs ++ latches) (read : uses_at form h latches ≡ Ok (uses_of f, gates)) where
  own_parts : FrontParts form h (uses_of f) text gates
  own_parts = front-parts form h text lines latches (uses_of f) gates header fits inputs read

  pub gates_within : length gates ≤ length text
  gates_within = rest_within text own_parts.before gates own_parts.parts

  pub has_front : f.form ≡ form → f.counts ≡ h → AreSmall h → HasFront f (length text - length gates) text
  has_front form_is counts_are small =
      let before : List ℕ = take (length text - length gates) text in
      let own : IsFront form h (uses_of f) before = subst (IsFront form h (uses_of f)) (sym (front_taken text own_parts.before gates own_parts.parts)) own_parts.front in
      record {
        front = subst (λ (w : Form). IsFront w f.counts (uses_of f) before) (sym form_is) (subst (λ (g : Counts). IsFront form g (uses_of f) before) (sym counts_are) own);
        small = subst AreSmall (sym counts_are) small;
        within = omega arith;
      }

-- ---- the circuit

-- what the lines before the gates of a text spell, where they were read onto a circuit
record Spelled (form : Form) (h : Counts) (uses : List Latch × Properties) (before : List ℕ) (gs : List Gate) : Type 0 where
  line : List ℕ
  said : IsLine line × (header_of line ≡ Ok (form, h))
  k : HeaderBack form line h
  text : List ℕ
  after : List ℕ
  l : AreLatchesAt form (2 * h.variables + 1) (suc h.inputs) h.latches text uses.0 after
  p : PropertiesBack h after uses.1 []
  before_is : before ≡ (line ++ 10 ∷ []) ++ (inputs_text form h.inputs ++ (l.bytes ++ property_lines (nameless h.inputs uses.0 uses.1 gs)))

spelled : (form : Form) (h : Counts) (uses : List Latch × Properties) (before : List ℕ) (gs : List Gate) → IsFront form h uses before → Spelled form h uses before gs
spelled form h uses before gs front =
    let s = line-back header_of (before ++ []) (form, h) (inputs_text form h.inputs ++ (front.lines ++ [])) (front.header []) in
    let k = header-back s.line form h s.said in
    let u = uses-back form h (front.lines ++ []) uses [] (front.read []) in
    let l = latches-back form (2 * h.variables + 1) (suc h.inputs) h.latches (front.lines ++ []) uses.0 u.after (omega (arith, k.few_first.0)) (omega (arith, k.few_first.1.0, k.few_first.1.1.0)) u.latches in
    let p = properties-back h u.after uses.1 [] k.few_first.0 u.properties in
    let bare = property_lines (nameless h.inputs uses.0 uses.1 gs) in
    record {
      line = s.line;
      said = (s.whole, s.said);
      k = k;
      text = front.lines ++ [];
      after = u.after;
      l = l;
      p = p;
      before_is =
          sym (append-nil before) ∙ s.parts ∙ sym (append_assoc s.line (10 ∷ []) (inputs_text form h.inputs ++ (front.lines ++ [])))
          ∙ ap (λ (t : List ℕ). (s.line ++ 10 ∷ []) ++ (inputs_text form h.inputs ++ t)) (l.parts ∙ ap (λ (t : List ℕ). l.bytes ++ t) (p.parts ∙ sym (property_text (nameless h.inputs uses.0 uses.1 gs) []) ∙ append-nil bare));
    }

-- the gates of a circuit that has nothing but these behind inputs and latches are in order
ordered_behind : (h : Counts) (c : Circuit) → c ≡ with_more_gates (fresh_circuit h.inputs h.latches) c.gates → IsCircuit c → AreOrderedFrom (suc (h.inputs + h.latches)) c.gates
ordered_behind h c bare valid =
    subst (λ (m : ℕ). AreOrderedFrom (suc m) c.gates)
    (ap (λ (d : Circuit). d.inputs + length c.latches) bare ∙ ap (λ (l : ℕ). h.inputs + l) (ap (λ (d : Circuit). length d.latches) bare ∙ length-replicate h.latches fresh_latch)) valid.ordered

-- with gates in order they are a circuit
pub spelled_valid : (form : Form) (h : Counts) (ls : List Latch) (p : PropertiesValue) (before : List ℕ) → IsFront form h (ls, properties_of p) before → (c : Circuit) → c ≡ with_more_gates (fresh_circuit h.inputs h.latches) c.gates → length c.gates ≡ h.gates → IsCircuit c
    → IsCircuit (with_latches_and_properties c ls p)
spelled_valid form h ls p before front c bare many valid =
    let s = spelled form h (ls, properties_of p) before c.gates front in
    let whole : IsCircuit (nameless h.inputs ls (properties_of p) c.gates) =
    bare_valid form h s.text ls s.after (properties_of p) [] c.gates s.k.few_first s.k.few_last front.fits s.l s.p many (ordered_behind h c bare valid) in
    subst IsCircuit (sym (ap (λ (d : Circuit). with_latches_and_properties d ls p) bare)) whole

-- a text with such lines, gates and names
whole_text : (before line i l p gates names : List ℕ) → before ≡ line ++ (i ++ (l ++ p)) → before ++ (gates ++ names) ≡ line ++ (i ++ (l ++ (p ++ (gates ++ names))))
whole_text before line i l p gates names is = ap (λ (t : List ℕ). t ++ (gates ++ names)) is ∙ simp append_assoc

module _ (h : Counts) (uses : List Latch × Properties) (before : List ℕ) (gs : List Gate) (names : List ℕ) (many : length gs ≡ h.gates) (fits : h.variables ≡ h.inputs + h.latches + h.gates) where
  binary-spelled : (c : Circuit) → IsCircuit c → (f : Finishes h uses gs (Ok c) names) → Spelled Binary h uses before gs → IsBinaryText (text_with Binary h before gs names) c
  binary-spelled c valid f s =
      let bare : Circuit = nameless h.inputs uses.0 uses.1 gs in
      let e = end-back (nameless h.inputs uses.0 uses.1 gs) c names (λ (x : Section). few_positions x (nameless h.inputs uses.0 uses.1 gs) f.valid) refl f.are_names in
      let counts : h ≡ counts_in bare =
      rw (fits, s.l.count, s.p.outputs, many, s.p.bads, s.p.constraints, s.p.justice, s.p.fair) refl in
      let own : h ≡ counts_in c = counts ∙ ap counts_in e.same in
      record {
        header = s.line ++ 10 ∷ [];
        is_header = subst (λ (g : Counts). IsHeader Binary g (s.line ++ 10 ∷ [])) own (header_spelled Binary s.line h s.k);
        latches = s.l.bytes;
        are_latches = subst (λ (d : Circuit). AreNextLines (2 * suc d.inputs) d.latches s.l.bytes) e.same s.l.lines;
        end = names;
        is_end = e.is_end;
        valid = valid;
        whole =
            whole_text _ (s.line ++ 10 ∷ []) [] s.l.bytes (property_lines bare) (gates_text Binary (suc (h.inputs + h.latches)) gs) names s.before_is
            ∙ ap (λ (n : ℕ). (s.line ++ 10 ∷ []) ++ (s.l.bytes ++ (property_lines bare ++ (gates_text Binary (suc (h.inputs + n)) gs ++ names)))) (sym s.l.count)
            ∙ ap (λ (d : Circuit). (s.line ++ 10 ∷ []) ++ (s.l.bytes ++ (property_lines d ++ (gates_text Binary (suc (d.inputs + length d.latches)) d.gates ++ names)))) e.same;
      }

  module _ (own_valid : OwnValid) (own_numbered : OwnNumbered) (own_many : OwnMany) (r : Result Circuit Stop) (f : Finishes h uses gs r names) (s : Spelled Ascii h uses before gs) where
    all_variables : h.inputs + length uses.0 + length gs ≡ h.variables
    all_variables = omega (arith, s.l.count, many, fits)

    own_counts : counts_of_file h.variables (own_lists (nameless h.inputs uses.0 uses.1 gs)) ≡ h
    own_counts =
        let lists = own_many (nameless h.inputs uses.0 uses.1 gs) in
        rw (lists.0, lists.1, lists.2, s.l.count, many, s.p.outputs, s.p.bads, s.p.constraints, s.p.justice, s.p.fair) refl

    own_up_to : AreUpTo (2 * h.variables + 1) (own_lists (nameless h.inputs uses.0 uses.1 gs))
    own_up_to = subst (λ (m : ℕ). AreUpTo (2 * m + 1) (own_lists (nameless h.inputs uses.0 uses.1 gs))) all_variables (up_to own_valid own_numbered own_many (nameless h.inputs uses.0 uses.1 gs) f.valid)

    abbrev lists_text : List ℕ
    lists_text = input_lines 1 h.inputs ++ (s.l.bytes ++ (property_lines (nameless h.inputs uses.0 uses.1 gs) ++ (gates_text Ascii (suc (h.inputs + length uses.0)) gs ++ names)))

    own_whole : text_with Ascii h before gs names ≡ (s.line ++ 10 ∷ []) ++ lists_text
    own_whole =
        whole_text _ (s.line ++ 10 ∷ []) (input_lines 1 h.inputs) s.l.bytes (property_lines (nameless h.inputs uses.0 uses.1 gs)) (gates_text Ascii (suc (h.inputs + h.latches)) gs) names s.before_is
        ∙ ap (λ (n : ℕ). (s.line ++ 10 ∷ []) ++ (input_lines 1 h.inputs ++ (s.l.bytes ++ (property_lines (nameless h.inputs uses.0 uses.1 gs) ++ (gates_text Ascii (suc (h.inputs + n)) gs ++ names))))) (sym s.l.count)

    own_read : lists_of_file h lists_text ≡ Ok (own_lists (nameless h.inputs uses.0 uses.1 gs), names)
    own_read =
        subst (λ (g : Counts). lists_of_file g lists_text ≡ Ok (own_lists (nameless h.inputs uses.0 uses.1 gs), names)) own_counts
        (lists-read h.variables (own_lists (nameless h.inputs uses.0 uses.1 gs)) (own_valid (nameless h.inputs uses.0 uses.1 gs) f.valid) refl s.k.few_first.0 own_up_to
        (input_lines 1 h.inputs) s.l.bytes (gates_text Ascii (suc (h.inputs + length uses.0)) gs) names (written_inputs 1 h.inputs) s.l.lines (written_gates (suc (h.inputs + length uses.0)) gs))

    own_header : line_at header_of (text_with Ascii h before gs names) ≡ Ok ((Ascii, h), lists_text)
    own_header = ap (line_at header_of) (own_whole ∙ append_assoc s.line (10 ∷ []) lists_text) ∙ line_read header_of s.line lists_text (Ascii, h) s.said.0 s.said.1

    -- such lists are read, and the answer is that of the names
    ascii-answer : AnswersText (text_with Ascii h before gs names) r
    unfolding AnswersText
    ascii-answer =
        let named : AnswersNamed (own_lists (nameless h.inputs uses.0 uses.1 gs)) names r = record { circuit = nameless h.inputs uses.0 uses.1 gs; is_renumbered = own_numbered (nameless h.inputs uses.0 uses.1 gs) f.valid; is = sym f.are_names } in
        let file : AnswersLists h lists_text (lists_of_file h lists_text) r =
        subst (λ (x : Result (Loose × List ℕ) Stop). AnswersLists h lists_text x r) (sym own_read) (inl named) in
        subst (λ (x : Result ((Form × Counts) × List ℕ) Stop). AnswersHeader x r) (sym own_header) file

    -- each variable has its own number
    ascii-numbered : OwnNumbering → (c : Circuit) → r ≡ Ok c → IsNumberingOfText (text_with Ascii h before gs names) c None
    ascii-numbered own_numbering c is =
        let bare : Circuit = nameless h.inputs uses.0 uses.1 gs in
        let e = end-back (nameless h.inputs uses.0 uses.1 gs) c names (λ (x : Section). few_positions x (nameless h.inputs uses.0 uses.1 gs) f.valid) refl (f.are_names ∙ is) in
        record {
          form = Ascii;
          counts = h;
          behind = lists_text;
          header = own_header;
          body = record { lists = own_lists bare; names = names; read = own_read; numbers = subst (λ (d : Circuit). IsNumberingOf (own_lists bare) d None) e.same (own_numbering bare f.valid) };
        }

    ascii-spelled : (c : Circuit) → r ≡ Ok c → IsAsciiText (text_with Ascii h before gs names) c
    ascii-spelled c is =
        let lists = own_many (nameless h.inputs uses.0 uses.1 gs) in
        let e = end-back (nameless h.inputs uses.0 uses.1 gs) c names (λ (x : Section). few_positions x (nameless h.inputs uses.0 uses.1 gs) f.valid) refl (f.are_names ∙ is) in
        record {
          lists = own_lists (nameless h.inputs uses.0 uses.1 gs);
          valid = own_valid (nameless h.inputs uses.0 uses.1 gs) f.valid;
          unnamed = refl;
          greatest = h.variables;
          small = s.k.few_first.0;
          enough = omega (arith, lists.0, lists.1, lists.2, all_variables);
          literals = own_up_to;
          header = s.line ++ 10 ∷ [];
          is_header = subst (λ (g : Counts). IsHeader Ascii g (s.line ++ 10 ∷ [])) (sym own_counts) (header_spelled Ascii s.line h s.k);
          inputs = input_lines 1 h.inputs;
          are_inputs = written_inputs 1 h.inputs;
          latches = s.l.bytes;
          are_latches = s.l.lines;
          gates = gates_text Ascii (suc (h.inputs + length uses.0)) gs;
          are_gates = written_gates (suc (h.inputs + length uses.0)) gs;
          end = names;
          is_end = e.is_end;
          is_renumbered = subst (IsRenumbered (own_lists (nameless h.inputs uses.0 uses.1 gs))) e.same (own_numbered (nameless h.inputs uses.0 uses.1 gs) f.valid);
          whole = own_whole;
        }

-- ---- where a binary text stops

module _ (h : Counts) (uses : List Latch × Properties) (before : List ℕ) (front : IsFront Binary h uses before) (gs : List Gate) (window : List ℕ) (ordered : AreOrderedFrom (suc (h.inputs + h.latches)) gs) (few : suc (h.inputs + h.latches) + length gs ≤ 2 ^ 32) where
  -- the text has the answer of its gates and names
  answer_of : (r : Result Circuit Stop) → (gates_at (2 * suc (h.inputs + h.latches)) h.gates (gates_text Binary (suc (h.inputs + h.latches)) gs ++ window) >>= (λ g. names_at (nameless h.inputs uses.0 uses.1 g.0) g.1)) ≡ r
      → AnswersText (text_with Binary h before gs window) r
  unfolding AnswersText binary_at
  answer_of r is =
      let rest : List ℕ = gates_text Binary (suc (h.inputs + h.latches)) gs ++ window in
      let u = uses-back Binary h (front.lines ++ rest) uses rest (front.read rest) in
      let one = u.latches in
      let two = u.properties in
      let body : binary_at h (front.lines ++ rest) ≡ r = rw (one, two) is in
      subst (λ (x : Result ((Form × Counts) × List ℕ) Stop). AnswersHeader x r) (sym (front.header rest)) (sym body)

  -- at the gate behind those that were read
  stops_at_gate : (own : ℕ) (e : Stop) → length gs < h.gates → own ≡ 2 * (suc (h.inputs + h.latches) + length gs) → gate_at own window ≡ Err e → AnswersText (text_with Binary h before gs window) (Err e)
  stops_at_gate own e more is stops = by h.gates refl more
    where
      by : (n : ℕ) → n ≡ h.gates → length gs < n → AnswersText (text_with Binary h before gs window) (Err e)
      by n same less =
          let left : n ≡ length gs + suc (n - suc (length gs)) = omega arith in
          let one : gates_at (2 * (suc (h.inputs + h.latches) + length gs)) (suc (n - suc (length gs))) window ≡ Err e = let there = ap (λ (k : ℕ). gate_at k window) (sym is) ∙ stops in rw there refl in
          let all : gates_at (2 * suc (h.inputs + h.latches)) h.gates (gates_text Binary (suc (h.inputs + h.latches)) gs ++ window) ≡ Err e =
          ap (λ (k : ℕ). gates_at (2 * suc (h.inputs + h.latches)) k (gates_text Binary (suc (h.inputs + h.latches)) gs ++ window)) (sym same ∙ left)
          ∙ gates-read-on (suc (h.inputs + h.latches)) (suc (n - suc (length gs))) gs window ordered few ∙ ap (onto gs) one in
          answer_of (Err e) (rw all refl)

  -- behind all gates
  stops_at_name : (e : Stop) → length gs ≡ h.gates → Finishes h uses gs (Err e) window → AnswersText (text_with Binary h before gs window) (Err e)
  stops_at_name e many f =
      let all : gates_at (2 * suc (h.inputs + h.latches)) h.gates (gates_text Binary (suc (h.inputs + h.latches)) gs ++ window) ≡ Ok (gs, window) =
      ap (λ (k : ℕ). gates_at (2 * suc (h.inputs + h.latches)) k (gates_text Binary (suc (h.inputs + h.latches)) gs ++ window)) (sym many) ∙ gates-read (suc (h.inputs + h.latches)) gs window ordered few in
      answer_of (Err e) (rw all f.are_names)

-- before its gates, where a property or a latch is wrong
pub stop_before : (h : Counts) (text lines : List ℕ) → line_at header_of text ≡ Ok ((Binary, h), lines) → (e : Stop) → uses_at Binary h lines ≡ Err e → AnswersText text (Err e)
unfolding AnswersText binary_at
stop_before h text lines header e stops = subst (λ (x : Result ((Form × Counts) × List ℕ) Stop). AnswersHeader x (Err e)) (sym header) (sym (by (latches_in Binary (2 * h.variables + 1) (2 * suc h.inputs) h.latches lines) refl))
  where
    by : (r : Result (List Latch × List ℕ) Stop) → latches_in Binary (2 * h.variables + 1) (2 * suc h.inputs) h.latches lines ≡ r → binary_at h lines ≡ Err e
    by (Err w) n =
        let stopped : uses_at Binary h lines ≡ Err w = rw n refl in
        rw n (ap (λ (v : Stop). Err v) (err_same w e (sym stopped ∙ stops)))
    by (Ok x) n = then_by (properties_at h x.1) refl
      where
        then_by : (q : Result (Properties × List ℕ) Stop) → properties_at h x.1 ≡ q → binary_at h lines ≡ Err e
        then_by (Ok p) q =
            let read : uses_at Binary h lines ≡ Ok ((x.0, p.0), p.1) = rw (n, q) refl in
            absurd (not_err e ((x.0, p.0), p.1) (sym stops ∙ read))
        then_by (Err w) q =
            let stopped : uses_at Binary h lines ≡ Err w = rw (n, q) refl in
            rw (n, q) (ap (λ (v : Stop). Err v) (err_same w e (sym stopped ∙ stops)))

-- ---- a source

-- the variable of the first gate
fresh_first : (inputs latches : ℕ) → suc (variables (net (fresh_circuit inputs latches))) ≡ suc (inputs + latches)
fresh_first inputs latches = ap suc (by (length-replicate latches fresh_latch))
  where
    by : length (fresh_circuit inputs latches).latches ≡ latches → inputs + length (fresh_circuit inputs latches).latches + 0 ≡ inputs + latches
    by e = omega (arith, e)

-- gates that were put onto a fresh circuit are all that it has
gates_put : (inputs latches : ℕ) (c0 c : Circuit) (gs : List Gate) → c0 ≡ fresh_circuit inputs latches → c ≡ with_more_gates c0 gs → (c.gates ≡ gs) × (c ≡ with_more_gates (fresh_circuit inputs latches) c.gates)
gates_put inputs latches c0 c gs fresh is =
    let all : c ≡ with_more_gates (fresh_circuit inputs latches) gs = is ∙ ap (λ (d : Circuit). with_more_gates d gs) fresh in
    let own : c.gates ≡ gs = ap (λ (d : Circuit). d.gates) all in
    (own, all ∙ ap (λ (g : List Gate). with_more_gates (fresh_circuit inputs latches) g) (sym own))

-- the lines of gates that are put together again
pub put_together : (form : Form) (h : Counts) (before : List ℕ) (first : ℕ) (gs hs : List Gate) (window : List ℕ) → form ≡ Ascii → first ≡ h.inputs + h.latches + 1 → hs ≡ gs → text_with form h before gs window ≡ before ++ (gates_text Ascii first hs ++ window)
put_together form h before first gs hs window form_is first_is gs_is =
    let own : suc (h.inputs + h.latches) ≡ first = omega (arith, first_is) in
    ap (λ (f : Form). text_with f h before gs window) form_is ∙ ap (λ (v : ℕ). before ++ (gates_text Ascii v gs ++ window)) own ∙ ap (λ (g : List Gate). before ++ (gates_text Ascii first g ++ window)) (sym gs_is)

-- a whole text whose lines before the gates were read
pub whole_parts : (f : Front) (h : Counts) (text lines gates : List ℕ) → f.form ≡ Binary → f.counts ≡ h → line_at header_of text ≡ Ok ((Binary, h), lines) → Fits Binary h → uses_at Binary h lines ≡ Ok (uses_of f, gates) → FrontParts f.form f.counts (uses_of f) text gates
whole_parts f h text lines gates form_is counts_are header fits read =
    subst (λ (w : Form). FrontParts w f.counts (uses_of f) text gates) (sym form_is)
    (subst (λ (g : Counts). FrontParts Binary g (uses_of f) text gates) (sym counts_are) (front-parts Binary h text lines lines (uses_of f) gates header fits refl read))

pub whole_text_is : (form : Form) (h : Counts) (uses : List Latch × Properties) (text gates : List ℕ) (p : FrontParts form h uses text gates) (c : Circuit) → c ≡ fresh_circuit h.inputs h.latches → text_with form h p.before c.gates gates ≡ text
whole_text_is form h uses text gates p c fresh =
    ap (λ (d : Circuit). text_with form h p.before d.gates gates) fresh ∙ sym p.parts

module _ (form : Form) (h : Counts) (before : List ℕ) (c0 c1 : Circuit) (passed : ℕ) (window0 window1 : List ℕ) (k0 k1 : Option (List ℕ))
    (fresh : c0 ≡ fresh_circuit h.inputs h.latches) (puts : PutsText (ArePutGates form) c0 c1 passed (prepend_known window0 k0) (prepend_known window1 k1)) where
  own_text : puts.bytes ≡ gates_text form (suc (h.inputs + h.latches)) c1.gates
  own_text =
      puts.puts.own ∙ ap (λ (v : ℕ). gates_text form v puts.puts.gates) (ap (λ (d : Circuit). suc (variables (net d))) fresh ∙ fresh_first h.inputs h.latches)
      ∙ ap (gates_text form (suc (h.inputs + h.latches))) (sym (gates_put h.inputs h.latches c0 c1 puts.puts.gates fresh puts.puts.is).0)

  -- what stands before the gates, their text and the rest are what was to come
  pub text_kept : Keeps (prepend_known (before ++ window0) k0) (prepend_known (text_with form h before c1.gates window1) k1)
  text_kept =
      subst (λ (t : List ℕ). Keeps (prepend_known (before ++ window0) k0) (prepend_known (before ++ (t ++ window1)) k1)) own_text (front_kept before puts.bytes window0 window1 k0 k1 puts.text)

  -- the rest was read already
  pub text_all : (window2 : List ℕ) (k2 : Option (List ℕ)) → Keeps (prepend_known window1 k1) (prepend_known window2 k2) → IsAtEnd k2 → IfSome (prepend_known (before ++ window0) k0) (λ t. text_with form h before c1.gates window2 ≡ t)
  text_all window2 k2 kept end =
      at_end _ (text_with form h before c1.gates window2) k2
      (Keeps-trans _ _ _ text_kept (more_kept before _ _ k1 k2 (more_kept (gates_text form (suc (h.inputs + h.latches)) c1.gates) window1 window2 k1 k2 kept))) end

  -- how long it is
  pub text_long : (total : ℕ) (window2 : List ℕ) → total ≡ length before + (passed + length window2) → length (text_with form h before c1.gates window2) ≡ total
  text_long total window2 is =
      let own = gates_text form (suc (h.inputs + h.latches)) c1.gates in
      omega (arith, is, puts.long, ap (length {A = ℕ}) own_text, length-append before (own ++ window2), length-append own window2)

-- ---- what is left of a text

module _ (form : Form) (h : Counts) (uses : List Latch × Properties) (before : List ℕ) (front : IsFront form h uses before) (c0 c1 : Circuit) (n : ℕ) (window names : List ℕ)
    (bare : c0 ≡ with_more_gates (fresh_circuit h.inputs h.latches) c0.gates) (puts : PutsText (ArePutGates form) c0 c1 n (Some window) (Some names)) (valid : IsCircuit c1) where
  own_gates : c1.gates ≡ c0.gates ++ puts.puts.gates
  own_gates = ap (λ (c : Circuit). c.gates) puts.puts.is

  bare_then : c1 ≡ with_more_gates (fresh_circuit h.inputs h.latches) c1.gates
  bare_then = puts.puts.is ∙ ap (λ (c : Circuit). record c { gates = c0.gates ++ puts.puts.gates }) bare ∙ ap (λ (gs : List Gate). with_more_gates (fresh_circuit h.inputs h.latches) gs) (sym own_gates)

  latches_are : length c1.latches ≡ h.latches
  latches_are = ap (λ (c : Circuit). length c.latches) bare_then ∙ length-replicate h.latches fresh_latch

  first_are : suc (variables (net c0)) ≡ suc (h.inputs + h.latches) + length c0.gates
  first_are = by c0.inputs (length c0.latches) (ap (λ (c : Circuit). c.inputs) bare) (ap (λ (c : Circuit). length c.latches) bare ∙ length-replicate h.latches fresh_latch)
    where
      by : (i l : ℕ) → i ≡ h.inputs → l ≡ h.latches → suc (i + l + length c0.gates) ≡ suc (h.inputs + h.latches) + length c0.gates
      by i l is1 is2 = omega arith

  own_after : 2 * (variables (net c1) + 1) ≡ 2 * (suc (h.inputs + h.latches) + length c1.gates)
  own_after = by c1.inputs (length c1.latches) (ap (λ (c : Circuit). c.inputs) bare_then) latches_are
    where
      by : (i l : ℕ) → i ≡ h.inputs → l ≡ h.latches → 2 * (i + l + length c1.gates + 1) ≡ 2 * (suc (h.inputs + h.latches) + length c1.gates)
      by i l is1 is2 = omega arith

  text_then : text_with form h before c1.gates names ≡ text_with form h before c0.gates window
  text_then =
      let first = suc (h.inputs + h.latches) in
      let own : gates_text form first c1.gates ≡ gates_text form first c0.gates ++ puts.bytes =
      ap (gates_text form first) own_gates ∙ gates_text-append form first c0.gates puts.puts.gates ∙ ap (λ (k : ℕ). gates_text form first c0.gates ++ gates_text form k puts.puts.gates) (sym first_are)
      ∙ ap (λ (l : List ℕ). gates_text form first c0.gates ++ l) (sym puts.puts.own) in
      ap (λ (l : List ℕ). before ++ (l ++ names)) own
      ∙ ap (λ (l : List ℕ). before ++ l) (append_assoc (gates_text form first c0.gates) puts.bytes names ∙ ap (λ (l : List ℕ). gates_text form first c0.gates ++ l) (sym puts.text))

  in_order : AreOrderedFrom (suc (h.inputs + h.latches)) c1.gates
  in_order = ordered_behind h c1 bare_then valid

  few_gates : suc (h.inputs + h.latches) + length c1.gates ≤ 2 ^ 32
  few_gates = by c1.inputs (length c1.latches) (ap (λ (c : Circuit). c.inputs) bare_then) latches_are valid.small
    where
      by : (i l : ℕ) → i ≡ h.inputs → l ≡ h.latches → i + l + length c1.gates ≤ greatest_count → suc (h.inputs + h.latches) + length c1.gates ≤ 2 ^ 32
      by i l is1 is2 small = omega (arith, small)

-- in the binary form each variable has its own number
binary-numbered : (h : Counts) (uses : List Latch × Properties) (before : List ℕ) → IsFront Binary h uses before → (gs : List Gate) (names : List ℕ) (c : Circuit) → IsNumberingOfText (text_with Binary h before gs names) c None
binary-numbered h uses before front gs names c =
    let other = gates_text Binary (suc (h.inputs + h.latches)) gs ++ names in
    record { form = Binary; counts = h; behind = front.lines ++ other; header = front.header other; body = refl }

-- the names were read, or reading stops at one
finish_reads : OwnValid → OwnNumbered → OwnMany → OwnNumbering → {X : Type 0} (form : Form) (h : Counts) (uses : List Latch × Properties) (before : List ℕ) → IsFront form h uses before → (gs : List Gate) (names : List ℕ) (c : Circuit) (r : Result X Stop)
    → AreOrderedFrom (suc (h.inputs + h.latches)) gs → suc (h.inputs + h.latches) + length gs ≤ 2 ^ 32 → length gs ≡ h.gates → IsFinish h uses gs c names r → ReadsOnto c (text_with form h before gs names) r
finish_reads own_valid own_numbered own_many own_numbering Ascii h uses before front gs names c (Ok x) ordered few many f =
    let s = spelled Ascii h uses before gs front in (
      inl (ascii-spelled h uses before gs names many front.fits own_valid own_numbered own_many (Ok c) f.0 s c refl),
      ascii-numbered h uses before gs names many front.fits own_valid own_numbered own_many (Ok c) f.0 s own_numbering c refl,
    )
finish_reads own_valid own_numbered own_many own_numbering Binary h uses before front gs names c (Ok x) ordered few many f = (
  inr (binary-spelled h uses before gs names many front.fits c f.1 f.0 (spelled Binary h uses before gs front)),
  binary-numbered h uses before front gs names c,
)
finish_reads own_valid own_numbered own_many own_numbering form h uses before front gs names c (Err e) ordered few many (inl full) = inl full
finish_reads own_valid own_numbered own_many own_numbering Ascii h uses before front gs names c (Err e) ordered few many (inr f) =
    inr (ascii-answer h uses before gs names many front.fits own_valid own_numbered own_many (Err e) f (spelled Ascii h uses before gs front))
finish_reads own_valid own_numbered own_many own_numbering Binary h uses before front gs names c (Err e) ordered few many (inr f) =
    inr (stops_at_name h uses before front gs names ordered few e many f)

module _ (form : Form) (h : Counts) (uses : List Latch × Properties) (before : List ℕ) (front : IsFront form h uses before) (c0 c1 : Circuit) (n : ℕ) (window names : List ℕ)
    (bare : c0 ≡ with_more_gates (fresh_circuit h.inputs h.latches) c0.gates) (puts : PutsText (ArePutGates form) c0 c1 n (Some window) (Some names)) (valid : IsCircuit c1) where
  pub reads_left : OwnValid → OwnNumbered → OwnMany → OwnNumbering → {X : Type 0} (c : Circuit) (r : Result X Stop) → length c1.gates ≡ h.gates → IsFinish h uses c1.gates c names r → ReadsOnto c (text_with form h before c0.gates window) r
  reads_left own_valid own_numbered own_many own_numbering c r many f =
      subst (λ (t : List ℕ). ReadsOnto c t r) (text_then form h uses before front c0 c1 n window names bare puts valid)
      (finish_reads own_valid own_numbered own_many own_numbering form h uses before front c1.gates names c r (in_order form h uses before front c0 c1 n window names bare puts valid) (few_gates form h uses before front c0 c1 n window names bare puts valid) many f)

pub gate_answer : (form : Form) (h : Counts) (uses : List Latch × Properties) (before : List ℕ) (front : IsFront form h uses before) (c0 c1 : Circuit) (n : ℕ) (window names : List ℕ) (bare : c0 ≡ with_more_gates (fresh_circuit h.inputs h.latches) c0.gates)
    (puts : PutsText (ArePutGates form) c0 c1 n (Some window) (Some names)) (valid : IsCircuit c1) (e : Stop) (own : ℕ) → (form ≡ Ascii → length c0.gates ≡ h.gates) → length c1.gates ≤ h.gates → length c1.gates ≢ h.gates → own ≡ 2 * (variables (net c1) + 1) → gate_at own names ≡ Err e
    → AnswersText (text_with form h before c0.gates window) (Err e)
gate_answer Ascii h uses before front c0 c1 n window names bare puts valid e own all most other is stops =
    absurd (other (omega (arith, all refl, most, ap (length {A = Gate}) (own_gates Ascii h uses before front c0 c1 n window names bare puts valid), length-append c0.gates puts.puts.gates)))
gate_answer Binary h uses before front c0 c1 n window names bare puts valid e own all most other is stops =
    subst (λ (t : List ℕ). AnswersText t (Err e)) (text_then Binary h uses before front c0 c1 n window names bare puts valid)
    (stops_at_gate h uses before front c1.gates names (in_order Binary h uses before front c0 c1 n window names bare puts valid) (few_gates Binary h uses before front c0 c1 n window names bare puts valid) own e (omega (arith, most, other))
    (is ∙ own_after Binary h uses before front c0 c1 n window names bare puts valid) stops)

-- ---- finishing
