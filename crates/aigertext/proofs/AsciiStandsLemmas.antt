-- An ascii text that stands for a circuit is read as it, and what is read stands for the text.
use Rattle.std.proofs.Common.{◌≡◌, ℕ, ◌≤◌, List, [], ◌∷◌, ◌++◌, length, Bool, true, Option, Result, Ok, Err, refl, sym, ap, subst, ◌∙◌, append_assoc, inl, inr, ◌⊎◌}
use Rattle.std.specs.Prelude.{IfOk}
use Rattle.aiger.specs.declared.circuit.Section.{Section}
use Rattle.aigerlists.specs.declared.numbered.Numbered.{Numbered}
use Rattle.aiger.specs.Circuit.{Circuit, IsCircuit, NameMap}
use Rattle.aiger.specs.Limits.{greatest_count}
use Rattle.aigerlists.specs.Loose.{Loose, IsLoose, sections_of}
use Rattle.aigerlists.specs.Renumbering.{IsRenumbered, IsNumberingOf}
use Rattle.aiger.proofs.SectionNameLemmas.{few_positions}
use Rattle.aigertext.specs.declared.reading.counts.Counts.{Counts}
use Rattle.aigertext.specs.declared.fault.Stop.{Stop}
use Rattle.aigertext.specs.declared.forms.Form.{Form}
use Rattle.aigertext.specs.declared.forms.Form.TheVariants.{Ascii, Binary}
use Rattle.aigertext.specs.Counts.{AreSmall, Fits, counts_of_file}
use Rattle.aigertext.specs.Spelling.{IsHeader, IsAsciiText, SpellsCircuit, use_lines}
use Rattle.aigertext.specs.Numbering.{IsNumberingOfLists}
use Rattle.aigertext.specs.Passes.{AreNumbersOf}
use Rattle.aigertext.specs.Reading.{line_at, header_of, names_at}
use Rattle.aigertext.specs.AsciiReading.{lists_of_file, AnswersNamed, AnswersUndefined, AnswersCycle, AnswersLists, AnswersBody, AnswersHeader, AnswersText}
use Rattle.aigertext.proofs.BackLemmas.{SaysAt, line-back}
use Rattle.aigertext.proofs.FileBackLemmas.{ListsBack, lists-back}
use Rattle.aigertext.proofs.FileReadLemmas.{lists-read}
use Rattle.deltas.proofs.BackLemmas.{AreBytes}
use Rattle.aigertext.proofs.HeaderBackLemmas.{HeaderBack, header-back}
use Rattle.aigertext.proofs.HeaderLemmas.{counts_small, header-read}
use Rattle.aigertext.proofs.HeaderSmallLemmas.{header_small}
use Rattle.aigertext.proofs.NameReadLemmas.{names-read}
use Rattle.aigertext.proofs.ReadStandsLemmas.{NameLaw, names_valid, end-back, header_spelled, binary-stands}
use Rattle.aigertext.proofs.StandsLemmas.{not_stopped, stands-read}

-- the law that lists as numbered are a circuit
abbrev pub IsCircuitLaw : Type 0
IsCircuitLaw = (l : Loose) (c : Circuit) → IsLoose l → IsRenumbered l c → IsCircuit c

-- the numbers of such a text are small
file_small : (l : Loose) (greatest : ℕ) → IsLoose l → greatest ≤ greatest_count → AreSmall (counts_of_file greatest l)
file_small l greatest valid small = counts_small greatest (length l.inputs) (length l.latches) (length l.gates) (sections_of l) small valid.few.defined valid.few.sections

pub ascii-read : IsCircuitLaw → (text : List ℕ) (c : Circuit) → IsAsciiText text c → AnswersText text (Ok c)
unfolding AnswersText
ascii-read circuit text c t =
    let behind = t.inputs ++ (t.latches ++ (use_lines t.lists ++ (t.gates ++ t.end))) in
    let header = ap (line_at header_of) t.whole ∙ header-read Ascii (counts_of_file t.greatest t.lists) t.header behind t.is_header (file_small t.lists t.greatest t.valid t.small) t.enough in
    let lists = lists-read t.greatest t.lists t.valid t.unnamed t.small t.literals t.inputs t.latches t.gates t.end t.are_inputs t.are_latches t.are_gates in
    let few = λ (s : Section). few_positions s (record c { names = [] }) (circuit t.lists (record c { names = [] }) t.valid t.is_renumbered) in
    let names : names_at (record c { names = [] }) t.end ≡ Ok c =
    ap (names_at (record c { names = [] })) t.is_end.spelled ∙ names-read (record c { names = [] }) t.is_end.given c t.is_end.comment few t.is_end.names t.is_end.is_comment in
    let answers : AnswersNamed t.lists t.end (Ok c) = record { circuit = record c { names = [] }; is_renumbered = t.is_renumbered; is = sym names } in
    let file : AnswersLists (counts_of_file t.greatest t.lists) behind (lists_of_file (counts_of_file t.greatest t.lists) behind) (Ok c) =
    subst (λ (r : Result (Loose × List ℕ) Stop). AnswersLists (counts_of_file t.greatest t.lists) behind r (Ok c)) (sym lists) (inl answers) in
    subst (λ (r : Result ((Form × Counts) × List ℕ) Stop). AnswersHeader r (Ok c)) (sym header) file

-- it is a circuit
pub ascii-valid : IsCircuitLaw → NameLaw → (text : List ℕ) (c : Circuit) → IsAsciiText text c → IsCircuit c
ascii-valid circuit law text c t = names_valid law (record c { names = [] }) t.is_end.given c (circuit t.lists (record c { names = [] }) t.valid t.is_renumbered) t.is_end.names

-- ---- and back

-- the lists of a file that were read, and the circuit that they are, as a text of it
module _ (circuit : IsCircuitLaw) (text : List ℕ) (c : Circuit) (h : Counts) (rest : List ℕ) (l : Loose) (end : List ℕ) (valid : IsLoose l) (s : SaysAt header_of text (Ascii, h) rest) (k : HeaderBack Ascii s.line h)
    (b : ListsBack h rest l end) (n : AnswersNamed l end (Ok c)) where
  of_lists : IsAsciiText text c
  of_lists =
      let few = λ (s : Section). few_positions s n.circuit (circuit l n.circuit valid n.is_renumbered) in
      let bare : n.circuit.names ≡ [] = ap (λ (d : Circuit). d.names) n.is_renumbered.circuit ∙ b.unnamed in
      let e = end-back n.circuit c end few (ap (λ (ns : NameMap). record n.circuit { names = ns }) bare) (sym n.is) in
      record {
        lists = l;
        valid = valid;
        unnamed = b.unnamed;
        greatest = h.variables;
        small = k.few_first.0;
        enough = subst (Fits Ascii) b.counts k.fits;
        literals = b.up_to;
        header = s.line ++ 10 ∷ [];
        is_header = subst (λ (g : Counts). IsHeader Ascii g (s.line ++ 10 ∷ [])) b.counts (header_spelled Ascii s.line h k);
        inputs = b.inputs;
        are_inputs = b.are_inputs;
        latches = b.latches;
        are_latches = b.are_latches;
        gates = b.gates;
        are_gates = b.are_gates;
        end = end;
        is_end = e.is_end;
        is_renumbered = subst (IsRenumbered l) e.same n.is_renumbered;
        whole = s.parts ∙ sym (append_assoc s.line (10 ∷ []) rest) ∙ ap (λ (t : List ℕ). (s.line ++ 10 ∷ []) ++ t) b.whole;
      }

pub ascii-stands : IsCircuitLaw → (text : List ℕ) (c : Circuit) (h : Counts) (rest : List ℕ) → line_at header_of text ≡ Ok ((Ascii, h), rest) → AnswersLists h rest (lists_of_file h rest) (Ok c) → IsAsciiText text c
ascii-stands circuit text c h rest header answers = by (lists_of_file h rest) refl answers
  where
    s : SaysAt header_of text (Ascii, h) rest
    s = line-back header_of text (Ascii, h) rest header

    k : HeaderBack Ascii s.line h
    k = header-back s.line Ascii h s.said

    named : (l : Loose) (end : List ℕ) → ListsBack h rest l end → AnswersNamed l end (Ok c) ⊎ (AnswersUndefined h rest l (Ok c) ⊎ AnswersCycle h rest l (Ok c)) → IsAsciiText text c
    named l end b (inl n) = of_lists circuit text c h rest l end b.valid s k b n
    named l end b (inr (inl u)) = absurd (not_stopped c _ u.is)
    named l end b (inr (inr u)) = absurd (not_stopped c _ u.is)

    by : (r : Result (Loose × List ℕ) Stop) → lists_of_file h rest ≡ r → AnswersLists h rest r (Ok c) → IsAsciiText text c
    by (Ok x) e a = named x.0 x.1 (lists-back h rest x.0 x.1 (header_small text rest Ascii h header).small k.fits e) a
    by (Err w) e a = absurd (not_stopped c w a)

-- their numbers are those of what stands behind the header
pub numbers_of_lists : IsCircuitLaw → (h : Counts) (text : List ℕ) (l : Loose) (names : List ℕ) (c : Circuit) (numbering : Option (List ℕ)) → AreSmall h → Fits Ascii h → lists_of_file h text ≡ Ok (l, names) → AreNumbersOf l names c numbering
    → IsNumberingOfLists h text c numbering
numbers_of_lists circuit h text l names c numbering small fits read n =
    let b = lists-back h text l names small fits read in
    let few = λ (s : Section). few_positions s n.bare (circuit l n.bare b.valid n.is_renumbered) in
    let bare : n.bare.names ≡ [] = ap (λ (d : Circuit). d.names) n.is_renumbered.circuit ∙ b.unnamed in
    let e = end-back n.bare c names few (ap (λ (ns : NameMap). record n.bare { names = ns }) bare) n.named in
    record { lists = l; names = names; read = read; numbers = subst (λ (d : Circuit). IsNumberingOf l d numbering) e.same n.numbers }

pub file_numbers : IsCircuitLaw → (h : Counts) (text : List ℕ) (l : Loose) (names : List ℕ) (wanted : Bool) (r : Result Numbered Stop) → AreSmall h → Fits Ascii h → lists_of_file h text ≡ Ok (l, names)
    → (wanted ≡ true → IfOk r (λ x. AreNumbersOf l names x.circuit x.numbering)) → wanted ≡ true → IfOk r (λ x. IsNumberingOfLists h text x.circuit x.numbering)
file_numbers circuit h text l names wanted (Ok x) small fits read numbers is = numbers_of_lists circuit h text l names x.circuit x.numbering small fits read (numbers is)
file_numbers circuit h text l names wanted (Err e) small fits read numbers is = tt

-- ---- either form

pub spells-read : IsCircuitLaw → (text : List ℕ) (c : Circuit) → SpellsCircuit text c → AnswersText text (Ok c)
spells-read circuit text c (inl ascii) = ascii-read circuit text c ascii
spells-read circuit text c (inr binary) = stands-read text c binary

pub read-spells : IsCircuitLaw → NameLaw → (text : List ℕ) (c : Circuit) → AreBytes text → AnswersText text (Ok c) → SpellsCircuit text c
unfolding AnswersText
read-spells circuit law text c bytes answers = by (line_at header_of text) refl answers
  where
    body : (form : Form) (h : Counts) (rest : List ℕ) → line_at header_of text ≡ Ok ((form, h), rest) → AnswersBody form h rest (Ok c) → SpellsCircuit text c
    body Ascii h rest e a = inl (ascii-stands circuit text c h rest e a)
    body Binary h rest e a = inr (binary-stands law text c h rest bytes e (sym a))

    by : (r : Result ((Form × Counts) × List ℕ) Stop) → line_at header_of text ≡ r → AnswersHeader r (Ok c) → SpellsCircuit text c
    by (Ok x) e a = body x.0.0 x.0.1 x.1 e a
    by (Err w) e a = absurd (not_stopped c w a)
