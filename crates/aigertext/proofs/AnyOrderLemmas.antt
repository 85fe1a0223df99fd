-- A text whose gates are read onto the lists of a file is read as these lists.
use Rattle.std.proofs.Common.{◌≡◌, ℕ, suc, ◌+◌, ◌*◌, ◌<◌, List, [], ◌∷◌, ◌++◌, length, drop, get_or, All, Bool, Option, Result, Ok, Err, refl, sym, ap, subst, ◌∙◌, append_assoc, append-nil, inl, inr, arith}
use Rattle.std.specs.Io.KnownBytes.{prepend_known, Keeps, IsAtEnd}
use Rattle.std.specs.Prelude.{IfSome}
use Rattle.std.proofs.KnownBytes.{Keeps-trans}
use Rattle.std.proofs.lemmas.List.{drop_more}
use Rattle.std.proofs.lemmas.List.Elements.{All-nil, All-append}
use Rattle.aiger.specs.declared.circuit.Gate.{Gate}
use Rattle.aigerlists.specs.declared.fault.LooseFault.{LooseFault}
use Rattle.aigerlists.specs.declared.loose.GateLine.{GateLine}
use Rattle.aigerlists.specs.declared.numbered.Numbered.{Numbered}
use Rattle.aiger.specs.Circuit.{Circuit}
use Rattle.aigerlists.specs.Loose.{Loose, IsLoose, with_gate_line}
use Rattle.aigerlists.specs.Renumbering.{AnswersNumbered}
use Rattle.aigertext.specs.declared.reading.counts.Counts.{Counts}
use Rattle.aigertext.specs.declared.fault.Stop.{Stop}
use Rattle.aigertext.specs.declared.forms.Form.TheVariants.{Ascii}
use Rattle.aigertext.specs.Ascii.{numbers_line}
use Rattle.aigertext.specs.Binary.{gates_text}
use Rattle.aigertext.specs.Counts.{AreSmall, Fits, counts_of_file}
use Rattle.aigertext.specs.Spelling.{AreLines, IsGateLine, AreUpTo, IsAsciiText, use_lines}
use Rattle.aigertext.specs.Numbering.{IsNumberingOfText}
use Rattle.aigertext.specs.Passes.{AnswersWanted, AreNumbersOf}
use Rattle.aigertext.specs.Reading.{line_at, header_of}
use Rattle.aigertext.specs.AsciiReading.{lists_of_file, AnswersNamed, AnswersLists}
use Rattle.aigertext.specs.InOrder.{line_texts, IsLineUpTo, IsPutOnLists, StandBefore, PutsText}
use Rattle.aigertext.proofs.AsciiStandsLemmas.{IsCircuitLaw, ascii-stands, numbers_of_lists}
use Rattle.aigertext.proofs.BackLemmas.{not_err}
use Rattle.aigertext.proofs.FileBackLemmas.{lists-back}
use Rattle.aigertext.proofs.FileReadLemmas.{lists-read}
use Rattle.aigertext.proofs.PutsLemmas.{front_kept, more_kept, at_end, line_texts-append, lists_pieces, one_line}
use Rattle.aigertext.proofs.ReadFrontLemmas.{line-front}

-- ---- lists

few_without : (h : Counts) → AreSmall h → AreSmall (record h { gates = 0 })
few_without h s = record { variables = s.variables; inputs = s.inputs; latches = s.latches; outputs = s.outputs; gates = omega arith; bads = s.bads; constraints = s.constraints; justice = s.justice; fair = s.fair }

no_gates : (gs : List GateLine) → 0 ≡ length gs → gs ≡ []
no_gates [] is = refl
no_gates (g ∷ gs) is = absurd cc

-- with gates more
pub stand_more : (h : Counts) (before text : List ℕ) (l m : Loose) → StandBefore h before l → IsPutOnLists (2 * h.variables + 1) l m text → StandBefore h before m × (line_texts m.gates ≡ line_texts l.gates ++ text)
stand_more h before text l m s p =
    let gates : m.gates ≡ l.gates ++ p.gates = ap (λ (x : Loose). x.gates) p.is in
    let same : record l { gates = [] } ≡ record m { gates = [] } = ap (λ (x : Loose). record x { gates = [] }) (sym p.is) in (
      record {
        lines = s.lines;
        header = s.header;
        read = s.read ∙ ap (λ (x : Loose). Ok (x, [])) same;
        small = s.small;
        fits = s.fits;
        up_to = subst (All (IsLineUpTo (2 * h.variables + 1))) (sym gates) (All-append (IsLineUpTo (2 * h.variables + 1)) l.gates p.gates s.up_to p.up_to);
      },
      ap line_texts gates ∙ line_texts-append l.gates p.gates ∙ ap (λ (t : List ℕ). line_texts l.gates ++ t) (sym p.own),
    )

-- the lists before the gates, and gates that were put onto them
pub stand_first : (h : Counts) (before lines : List ℕ) (l m : Loose) → AreSmall h → Fits Ascii h → line_at header_of before ≡ Ok ((Ascii, h), lines) → (rest : List ℕ) → length rest < 1 → lists_of_file (record h { gates = 0 }) lines ≡ Ok (l, rest)
    → (text : List ℕ) → IsPutOnLists (2 * h.variables + 1) l m text → StandBefore h before m × (line_texts m.gates ≡ text)
stand_first h before lines l m small fits header (b ∷ bs) none read text put = absurd (omega (arith, none))
stand_first h before lines l m small fits header [] nothing read text put =
    let b = lists-back (record h { gates = 0 }) lines l [] (few_without h small) (omega (arith, fits)) read in
    let none : l.gates ≡ [] = no_gates l.gates (ap (λ (g : Counts). g.gates) b.counts) in
    let first : StandBefore h before l =
    record {
      lines = lines;
      header = header;
      read = read ∙ ap (λ (gs : List GateLine). Ok (record l { gates = gs }, [])) none;
      small = small;
      fits = fits;
      up_to = subst (All (IsLineUpTo (2 * h.variables + 1))) (sym none) (All-nil (IsLineUpTo (2 * h.variables + 1)));
    } in
    let more = stand_more h before text l m first put in
    (more.0, more.1 ∙ ap (λ (gs : List GateLine). line_texts gs ++ text) none)

-- what stands before the gates, the lines of all of them and the rest are what was to come
pub lists_kept : (h : Counts) (before : List ℕ) (l m : Loose) (n : ℕ) (held rest : List ℕ) (a b : Option (List ℕ)) → StandBefore h before l → PutsText (IsPutOnLists (2 * h.variables + 1)) l m n (prepend_known held a) (prepend_known rest b)
    → Keeps (prepend_known (before ++ (line_texts l.gates ++ held)) a) (prepend_known (before ++ (line_texts m.gates ++ rest)) b)
lists_kept h before l m n held rest a b s p =
    let own : line_texts m.gates ≡ line_texts l.gates ++ p.bytes = (stand_more h before p.bytes l m s p.puts).1 in
    subst (λ (t : List ℕ). Keeps (prepend_known (before ++ (line_texts l.gates ++ held)) a) (prepend_known (before ++ (t ++ rest)) b)) (sym own)
    (subst (λ (t : List ℕ). Keeps (prepend_known (before ++ (line_texts l.gates ++ held)) a) (prepend_known t b)) (ap (λ (t : List ℕ). before ++ t) (sym (append_assoc (line_texts l.gates) p.bytes rest)))
    (more_kept before (line_texts l.gates ++ held) (line_texts l.gates ++ (p.bytes ++ rest)) a b (front_kept (line_texts l.gates) p.bytes held rest a b p.text)))

-- and where the rest is read, they are all
pub all_lists_kept : (h : Counts) (before : List ℕ) (l m : Loose) (n : ℕ) (held rest all : List ℕ) (a b c : Option (List ℕ)) → StandBefore h before l → PutsText (IsPutOnLists (2 * h.variables + 1)) l m n (prepend_known held a) (prepend_known rest b)
    → Keeps (prepend_known rest b) (prepend_known all c) → IsAtEnd c → IfSome (prepend_known (before ++ (line_texts l.gates ++ held)) a) (λ known. before ++ (line_texts m.gates ++ all) ≡ known)
all_lists_kept h before l m n held rest all a b c s p kept end =
    at_end _ (before ++ (line_texts m.gates ++ all)) c
    (Keeps-trans _ _ _ (lists_kept h before l m n held rest a b s p) (more_kept before _ _ b c (more_kept (line_texts m.gates) rest all b c kept))) end

-- gates of the first so many of which the lines were put onto lists
abbrev pub PutsOwn : ℕ → ℕ → List Gate → Loose → Loose → ℕ → ℕ → Type 0
PutsOwn greatest first gs l m variable index = (bytes : List ℕ) × (IsPutOnLists greatest l m bytes × (bytes ++ gates_text Ascii variable (drop index gs) ≡ gates_text Ascii first gs))

pub own_more : (greatest first : ℕ) (gs : List Gate) (l m n : Loose) (variable next index a b : ℕ) (g : Gate) → PutsOwn greatest first gs l m variable index → index < length gs → g ≡ get_or gs index g → a ≡ g.rhs0 → b ≡ g.rhs1 → next ≡ suc variable
    → (n ≡ with_gate_line m (record { lhs = 2 * variable; rhs0 = a; rhs1 = b })) × IsLineUpTo greatest (record { lhs = 2 * variable; rhs0 = a; rhs1 = b }) → PutsOwn greatest first gs l n next (index + 1)
own_more greatest first gs l m n variable next index a b g p inside is first_is second_is next_is added =
    let line = numbers_line (2 * variable ∷ a ∷ b ∷ []) in
    let rest : gates_text Ascii variable (drop index gs) ≡ line ++ gates_text Ascii next (drop (index + 1) gs) =
    ap (gates_text Ascii variable) (drop_more gs index g inside ∙ ap (λ (x : Gate). x ∷ drop (index + 1) gs) (sym is))
    ∙ ap (λ (k : ℕ). numbers_line (2 * variable ∷ k ∷ g.rhs1 ∷ []) ++ gates_text Ascii (suc variable) (drop (index + 1) gs)) (sym first_is)
    ∙ ap (λ (k : ℕ). numbers_line (2 * variable ∷ a ∷ k ∷ []) ++ gates_text Ascii (suc variable) (drop (index + 1) gs)) (sym second_is)
    ∙ ap (λ (k : ℕ). line ++ gates_text Ascii k (drop (index + 1) gs)) (sym next_is) in (
      p.0 ++ line,
      ((lists_pieces greatest).both l m n p.0 line p.1.0 (one_line greatest m n _ added), append_assoc p.0 line (gates_text Ascii next (drop (index + 1) gs)) ∙ ap (λ (t : List ℕ). p.0 ++ t) (sym rest) ∙ p.1.1),
    )

-- lists that were numbered have their numbers, wanted or not
pub numbers_wanted : (l : Loose) (wanted : Bool) (r : Result Numbered LooseFault) → AnswersNumbered l r → AnswersWanted l wanted r
numbers_wanted l wanted (Ok x) answers = (answers.0, λ is. answers.1)
numbers_wanted l wanted (Err e) answers = answers

-- lists that are answered by a circuit are that, with the names
pub only_named : (h : Counts) (text : List ℕ) (l : Loose) (names : List ℕ) (c : Circuit) → AnswersLists h text (Ok (l, names)) (Ok c) → AnswersNamed l names (Ok c)
only_named h text l names c (inl named) = named
only_named h text l names c (inr (inl undefined)) = absurd (not_err _ c (sym undefined.is))
only_named h text l names c (inr (inr cyclic)) = absurd (not_err _ c (sym cyclic.is))

-- ---- the text

are_lines : (gs : List GateLine) → AreLines IsGateLine gs (line_texts gs)
are_lines [] = refl
are_lines (g ∷ gs) = (numbers_line (g.lhs ∷ g.rhs0 ∷ g.rhs1 ∷ []), (line_texts gs, (refl, refl, are_lines gs)))

parts_before : (i l u gates names : List ℕ) → (i ++ (l ++ (u ++ ([] ++ [])))) ++ (gates ++ names) ≡ i ++ (l ++ (u ++ (gates ++ names)))
parts_before i l u gates names = simp (append_assoc, append-nil)

module _ (h : Counts) (before : List ℕ) (l : Loose) (s : StandBefore h before l) (valid : IsLoose l) (many : length l.gates ≡ h.gates) (names : List ℕ) where
  -- they are the lists of the text
  lists_read : lists_of_file h (s.lines ++ (line_texts l.gates ++ names)) ≡ Ok (l, names)
  lists_read =
      let b = lists-back (record h { gates = 0 }) s.lines (record l { gates = [] }) [] (few_without h s.small) (omega (arith, s.fits)) s.read in
      let up_to : AreUpTo (2 * h.variables + 1) l =
      record { inputs = b.up_to.inputs; latches = b.up_to.latches; outputs = b.up_to.outputs; bads = b.up_to.bads; constraints = b.up_to.constraints; justice = b.up_to.justice; fair = b.up_to.fair; gates = s.up_to } in
      let counts : counts_of_file h.variables l ≡ h = ap (λ (g : Counts). record g { gates = length l.gates }) (sym b.counts) ∙ ap (λ (n : ℕ). record h { gates = n }) many in
      let text : s.lines ++ (line_texts l.gates ++ names) ≡ b.inputs ++ (b.latches ++ (use_lines l ++ (line_texts l.gates ++ names))) =
      ap (λ (t : List ℕ). t ++ (line_texts l.gates ++ names)) (b.whole ∙ ap (λ (t : List ℕ). b.inputs ++ (b.latches ++ (use_lines l ++ (t ++ [])))) b.are_gates)
      ∙ parts_before b.inputs b.latches (use_lines l) (line_texts l.gates) names in
      ap (lists_of_file h) text
      ∙ subst (λ (g : Counts). lists_of_file g (b.inputs ++ (b.latches ++ (use_lines l ++ (line_texts l.gates ++ names)))) ≡ Ok (l, names)) counts
      (lists-read h.variables l valid b.unnamed s.small.variables up_to b.inputs b.latches (line_texts l.gates) names b.are_inputs b.are_latches (are_lines l.gates))

  whole_header : line_at header_of (before ++ (line_texts l.gates ++ names)) ≡ Ok ((Ascii, h), s.lines ++ (line_texts l.gates ++ names))
  whole_header =
      let f = line-front header_of before (Ascii, h) s.lines s.header in
      ap (line_at header_of) (ap (λ (t : List ℕ). t ++ (line_texts l.gates ++ names)) f.parts ∙ append_assoc f.front s.lines (line_texts l.gates ++ names)) ∙ f.again (s.lines ++ (line_texts l.gates ++ names))

  -- and it spells the circuit that they are
  pub spelled_by_lists : IsCircuitLaw → (c : Circuit) → AnswersNamed l names (Ok c) → IsAsciiText (before ++ (line_texts l.gates ++ names)) c
  spelled_by_lists law c named =
      ascii-stands law (before ++ (line_texts l.gates ++ names)) c h (s.lines ++ (line_texts l.gates ++ names)) whole_header
      (subst (λ (x : Result (Loose × List ℕ) Stop). AnswersLists h (s.lines ++ (line_texts l.gates ++ names)) x (Ok c)) (sym lists_read) (inl named))

  -- by their numbers
  pub numbered_by_lists : IsCircuitLaw → (c : Circuit) (numbering : Option (List ℕ)) → AreNumbersOf l names c numbering → IsNumberingOfText (before ++ (line_texts l.gates ++ names)) c numbering
  numbered_by_lists law c numbering n = record {
    form = Ascii;
    counts = h;
    behind = s.lines ++ (line_texts l.gates ++ names);
    header = whole_header;
    body = numbers_of_lists law h (s.lines ++ (line_texts l.gates ++ names)) l names c numbering s.small s.fits lists_read n;
  }
