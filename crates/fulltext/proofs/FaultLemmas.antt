-- A text that gives a fault has it at the first line that has one.
use Rattle.std.proofs.Common.{◌≡◌, ◌≢◌, ℕ, ◌+◌, ◌-◌, ◌^◌, min, List, [], ◌∷◌, ◌++◌, length, map, Result, Ok, Err, refl, sym, ap, subst, ◌∙◌, inl, inr, ◌⊎◌, append_assoc, arith}
use Rattle.std.proofs.lemmas.List.{append-nil}
use Rattle.std.proofs.lemmas.List.Concat.{flat_map-append}
use Rattle.std.proofs.lemmas.List.Elements.{All-from_recursion}
use Rattle.base.specs.Lines.{IsLine, text_of_lines, whole_lines, unfinished, line_after}
use Rattle.base.proofs.LineLemmas.{EachLine, each_front, each_back, lines_are_lines, unfinished_is_line, parts_of_text}
use Rattle.full.specs.Lines.{FullLine}
use Rattle.btor2text.specs.declared.fault.Why.{Why}
use Rattle.btor2text.specs.declared.fault.Why.TheVariants as why
use Rattle.btor2text.specs.declared.fault.ReadFault.{ReadFault}
use Rattle.btor2text.specs.Tokens.{tokens}
use Rattle.btor2text.specs.Reading.{line_fault}
use Rattle.btor2text.specs.FirstFault.{IsUnfinished}
use Rattle.fullmodel.specs.FullModels.{IsAccepted, IsAcceptedAfter}
use Rattle.fulltext.specs.Spelling.{SpellsLines}
use Rattle.fulltext.specs.Reading.{then_lines, full_line_on, full_lines_on, full_text_on}
use Rattle.fulltext.specs.FirstFault.{BeginsFaulty, IsFullFaultOf}
use Rattle.fulltext.proofs.StandsLemmas.{AddsLine, line_takes, well_after, spells_line}

-- what the first of some lines has
abbrev FaultHere : List FullLine → List (List ℕ) → List ℕ → Why → Type 0
FaultHere items [] last w = (last ≢ []) × (w ≡ why.Unfinished)
FaultHere items (line ∷ lines) last w = full_line_on items (tokens line) ≡ Err w

record FaultIn (n : ℕ) (before : List FullLine) (lines : List (List ℕ)) (last : List ℕ) (e : ReadFault) : Type 0 where
  front : List (List ℕ)
  back : List (List ℕ)
  added : List FullLine
  parts : lines ≡ front ++ back
  spelled : SpellsLines (map tokens front) added
  accepted : IsAcceptedAfter before added
  place : e.line ≡ min (n + (length front + 1)) (2 ^ 64 - 1)
  here : FaultHere (before ++ added) back last e.why

-- a fault that was told; it is one fault, and no items
abbrev pub failed : ReadFault → Result (List FullLine) ReadFault
failed e = Err e

faults : (a b : ReadFault) → failed a ≡ failed b → a ≡ b
faults a b e = cc

pub not_failed : (items : List FullLine) (e : ReadFault) → Ok items ≡ failed e → ⊥
not_failed items e h = cc

pub some_bytes : (b : ℕ) (bs : List ℕ) → b ∷ bs ≢ []
some_bytes b bs e = cc

-- the fault is at this line
at_once : (n : ℕ) (before : List FullLine) (lines : List (List ℕ)) (last : List ℕ) (w : Why) (e : ReadFault) → line_fault (line_after n) w ≡ e → FaultHere before lines last w → FaultIn n before lines last e
at_once n before lines last w e is here =
    let line : line_after n ≡ e.line = ap (λ (f : ReadFault). f.line) is in
    let why-is : w ≡ e.why = ap (λ (f : ReadFault). f.why) is in
    let moved : FaultHere (before ++ []) lines last e.why = subst (λ (v : Why). FaultHere (before ++ []) lines last v) why-is (subst (λ (items : List FullLine). FaultHere items lines last w) (sym (append-nil before)) here) in
    record { front = []; back = lines; added = []; parts = refl; spelled = tt; accepted = tt; place = omega arith; here = moved }

-- the fault is that of a line behind one that adds to the items
fault_behind : (n : ℕ) (before mid : List FullLine) (line : List ℕ) (lines : List (List ℕ)) (last : List ℕ) (e : ReadFault) → AddsLine before (tokens line) mid → FaultIn (line_after n) mid lines last e → FaultIn n before (line ∷ lines) last e
fault_behind n before mid line lines last e (inl h) f =
    let same : mid ++ f.added ≡ before ++ f.added = ap (λ (m : List FullLine). m ++ f.added) h.1 in
    record {
      front = line ∷ f.front;
      back = f.back;
      added = f.added;
      parts = ap (λ (rest : List (List ℕ)). line ∷ rest) f.parts;
      spelled = rw h.0 f.spelled;
      accepted = rw h.1 at f.accepted;
      place = omega (arith, f.place);
      here = subst (λ (items : List FullLine). FaultHere items f.back last e.why) same f.here;
    }
fault_behind n before mid line lines last e (inr h) f =
    let same : mid ++ f.added ≡ before ++ h.0 ∷ f.added = ap (λ (m : List FullLine). m ++ f.added) h.1.1 ∙ append_assoc before (h.0 ∷ []) f.added in
    record {
      front = line ∷ f.front;
      back = f.back;
      added = h.0 ∷ f.added;
      parts = ap (λ (rest : List (List ℕ)). line ∷ rest) f.parts;
      spelled = spells_line (tokens line) (map tokens f.front) h.0 f.added h.1.0.0 f.spelled;
      accepted = (h.1.0.1, rw h.1.1 at f.accepted);
      place = omega (arith, f.place);
      here = subst (λ (items : List FullLine). FaultHere items f.back last e.why) same f.here;
    }

then_fails : (n : ℕ) (before : List FullLine) (line : List ℕ) (lines : List (List ℕ)) (last : List ℕ) (e : ReadFault) (others : List FullLine → Result (List FullLine) ReadFault) (r : Result (List FullLine) Why)
    → IsAccepted before → ((mid : List FullLine) → IsAccepted mid → others mid ≡ Err e → FaultIn (line_after n) mid lines last e)
    → full_line_on before (tokens line) ≡ r → then_lines (line_after n) r others ≡ Err e → FaultIn n before (line ∷ lines) last e
then_fails n before line lines last e others (Ok mid) formed rest is h =
    let adds = line_takes before (tokens line) mid formed is in
    fault_behind n before mid line lines last e adds (rest mid (well_after before mid (tokens line) formed adds) h)
then_fails n before line lines last e others (Err w) formed rest is h = at_once n before (line ∷ lines) last w e (faults (line_fault (line_after n) w) e h) is

lines_fail : (n : ℕ) (before : List FullLine) (lines : List (List ℕ)) (last : List ℕ) (e : ReadFault) → IsAccepted before → full_lines_on n before lines last ≡ Err e → FaultIn n before lines last e
unfolding full_lines_on
lines_fail n before [] [] e formed h = absurd (not_failed before e h)
lines_fail n before [] (b ∷ bs) e formed h = at_once n before [] (b ∷ bs) why.Unfinished e (faults (line_fault (line_after n) why.Unfinished) e h) (some_bytes b bs, refl)
lines_fail n before (line ∷ lines) last e formed h =
    then_fails n before line lines last e (λ mid. full_lines_on (line_after n) mid lines last) (full_line_on before (tokens line)) formed (λ mid formed read. lines_fail (line_after n) mid lines last e formed read) refl h

-- ---- from lines to bytes

faulty_line : (items : List FullLine) (back : List (List ℕ)) (last : List ℕ) (w : Why) → EachLine back → IsLine last → FaultHere items back last w → IsUnfinished (text_of_lines back ++ last) w ⊎ BeginsFaulty items (text_of_lines back ++ last) w
faulty_line items [] last w each line here = inl (record { line = line; some = here.0; is = here.1 })
faulty_line items (line ∷ others) last w each whole here =
    inr (record {
      line = line;
      after = text_of_lines others ++ last;
      parts = append_assoc (line ++ 10 ∷ []) (text_of_lines others) last ∙ append_assoc line (10 ∷ []) (text_of_lines others ++ last);
      whole = each.0;
      faulty = here;
    })

-- a fault that a text gives is that of its first line with one
pub text_fails : (text : List ℕ) (e : ReadFault) → full_text_on text ≡ Err e → IsFullFaultOf text e
unfolding full_text_on
text_fails text e h =
    let f = lines_fail 0 [] (whole_lines text) (unfinished text) e tt h in
    let each : EachLine (f.front ++ f.back) = rw (← f.parts) (lines_are_lines text) in
    let joined : text_of_lines (whole_lines text) ≡ text_of_lines f.front ++ text_of_lines f.back = ap text_of_lines f.parts ∙ flat_map-append (λ line. line ++ 10 ∷ []) f.front f.back in
    record {
      lines = f.front;
      items = f.added;
      rest = text_of_lines f.back ++ unfinished text;
      parts = sym (parts_of_text text) ∙ (ap (λ (t : List ℕ). t ++ unfinished text) joined ∙ append_assoc (text_of_lines f.front) (text_of_lines f.back) (unfinished text));
      each = All-from_recursion IsLine f.front (each_front f.front f.back each);
      spelled = f.spelled;
      accepted = f.accepted;
      place = omega (arith, f.place);
      faulty = faulty_line f.added f.back (unfinished text) e.why (each_back f.front f.back each) (unfinished_is_line text) f.here;
    }
