-- What is read stands for the text, and a text that stands for a model is read as it.
use Rattle.std.proofs.Common.{◌≡◌, ℕ, List, [], ◌∷◌, ◌++◌, map, Option, Some, None, Result, Ok, Err, refl, sym, ap, ◌∙◌, inl, inr, ◌⊎◌, append_assoc}
use Rattle.std.proofs.lemmas.List.{append-nil}
use Rattle.std.proofs.lemmas.List.Elements.{All-from_recursion, recursion_from_All}
use Rattle.base.specs.Lines.{IsLine, text_of_lines, whole_lines, unfinished, line_after}
use Rattle.base.proofs.LineLemmas.{lines_are_lines, parts_of_text, lines_of_text, unfinished_of_text}
use Rattle.full.specs.Lines.{FullLine}
use Rattle.fullmodel.specs.declared.fault.LineFault.{LineFault}
use Rattle.btor2text.specs.declared.fault.Why.{Why}
use Rattle.btor2text.specs.declared.fault.ReadFault.{ReadFault}
use Rattle.btor2text.specs.Tokens.{tokens}
use Rattle.btor2text.specs.Reading.{Tokens}
use Rattle.btor2text.proofs.PlaceLemmas.{bind_ok}
use Rattle.fullmodel.specs.FullModels.{line_refusal, IsAccepted, IsAcceptedAfter}
use Rattle.fullmodel.proofs.RowLemmas.{accepted_push}
use Rattle.fulltext.specs.Spelling.{SpellsLine, SpellsLines, StandsForFull}
use Rattle.fulltext.specs.Reading.{line_accepted, then_lines, full_line_at, full_line_on, full_lines_on, full_text_on}
use Rattle.fulltext.proofs.BoundLemmas.{accepted_fits}
use Rattle.fulltext.proofs.LineLemmas.{full_line_takes, full_line_again}

-- ---- one line

-- what a line that was read adds
abbrev pub AddsLine : List FullLine → Tokens → List FullLine → Type 0
AddsLine before line items = ((line ≡ []) × (items ≡ before)) ⊎ ((x : FullLine) × ((SpellsLine line x × (line_refusal before x ≡ None)) × (items ≡ before ++ x ∷ [])))

accepted_is : (before : List FullLine) (x : FullLine) (r : Option LineFault) (items : List FullLine) → line_accepted before x r ≡ Ok items → (r ≡ None) × (items ≡ before ++ x ∷ [])
accepted_is before x None items e = (refl, cc)
accepted_is before x (Some f) items e = absurd cc

pub line_takes : (before : List FullLine) (line : Tokens) (items : List FullLine) → IsAccepted before → full_line_on before line ≡ Ok items → AddsLine before line items
unfolding full_line_on
line_takes before [] items formed e = inl (refl, cc)
line_takes before (first ∷ rest) items formed e =
    let x = bind_ok (full_line_at (first ∷ rest)) (λ x. line_accepted before x (line_refusal before x)) items e in
    let is = accepted_is before x.0 (line_refusal before x.0) items x.2 in
    inr (x.0, ((full_line_takes (first ∷ rest) x.0 x.1 (accepted_fits before x.0 formed is.0), is.0), is.1))

line_again : (before : List FullLine) (first : List ℕ) (rest : Tokens) (x : FullLine) → IsAccepted before → SpellsLine (first ∷ rest) x → line_refusal before x ≡ None → full_line_on before (first ∷ rest) ≡ Ok (before ++ x ∷ [])
unfolding full_line_on
line_again before first rest x formed spelled none =
    rw (full_line_again (first ∷ rest) x spelled (accepted_fits before x formed none), none) refl

-- ---- lines

no_tokens : (t : List ℕ) (ts : Tokens) → [] ≡ t ∷ ts → ⊥
no_tokens t ts e = cc

pub spells_line : (line : Tokens) (lines : List Tokens) (x : FullLine) (xs : List FullLine) → SpellsLine line x → SpellsLines lines xs → SpellsLines (line ∷ lines) (x ∷ xs)
spells_line [] lines x xs one others = absurd (no_tokens _ _ one.tokens)
spells_line (token ∷ line) lines x xs one others = (one, others)

-- what lines that were read add
record Adds (before : List FullLine) (lines : List Tokens) (last : List ℕ) (items : List FullLine) : Type 0 where
  added : List FullLine
  whole : items ≡ before ++ added
  spelled : SpellsLines lines added
  accepted : IsAcceptedAfter before added
  ended : last ≡ []

adds_line : (before mid items : List FullLine) (line : Tokens) (lines : List Tokens) (last : List ℕ) → AddsLine before line mid → Adds mid lines last items → Adds before (line ∷ lines) last items
adds_line before mid items line lines last (inl h) others =
    let whole : items ≡ before ++ others.added = others.whole ∙ ap (λ (m : List FullLine). m ++ others.added) h.1 in
    let well : IsAcceptedAfter before others.added = rw h.1 at others.accepted in
    rw h.0 (record { added = others.added; whole = whole; spelled = others.spelled; accepted = well; ended = others.ended })
adds_line before mid items line lines last (inr h) others =
    let well : IsAcceptedAfter (before ++ h.0 ∷ []) others.added = rw h.1.1 at others.accepted in
    record {
      added = h.0 ∷ others.added;
      whole = others.whole ∙ (ap (λ (m : List FullLine). m ++ others.added) h.1.1 ∙ append_assoc before (h.0 ∷ []) others.added);
      spelled = spells_line line lines h.0 others.added h.1.0.0 others.spelled;
      accepted = (h.1.0.1, well);
      ended = others.ended;
    }

pub well_after : (before mid : List FullLine) (line : Tokens) → IsAccepted before → AddsLine before line mid → IsAccepted mid
well_after before mid line formed (inl h) = rw h.1 formed
well_after before mid line formed (inr h) = rw h.1.1 (accepted_push before h.0 formed h.1.0.1)

then_adds : (n : ℕ) (before items : List FullLine) (line : Tokens) (lines : List Tokens) (last : List ℕ) (others : List FullLine → Result (List FullLine) ReadFault) (r : Result (List FullLine) Why)
    → IsAccepted before → ((mid : List FullLine) → IsAccepted mid → others mid ≡ Ok items → Adds mid lines last items)
    → full_line_on before line ≡ r → then_lines n r others ≡ Ok items → Adds before (line ∷ lines) last items
then_adds n before items line lines last others (Ok mid) formed rest is e =
    let adds = line_takes before line mid formed is in
    adds_line before mid items line lines last adds (rest mid (well_after before mid line formed adds) e)
then_adds n before items line lines last others (Err w) formed rest is e = absurd cc

-- items that were read; two of them that are the same answer are the same
abbrev pub done : List FullLine → Result (List FullLine) ReadFault
done items = Ok items

pub ok_items : (a b : List FullLine) → done a ≡ done b → a ≡ b
ok_items a b e = cc

lines_take : (n : ℕ) (before : List FullLine) (lines : List (List ℕ)) (last : List ℕ) (items : List FullLine) → IsAccepted before → full_lines_on n before lines last ≡ Ok items → Adds before (map tokens lines) last items
unfolding full_lines_on
lines_take n before [] [] items formed e = record { added = []; whole = ok_items items before (sym e) ∙ sym (append-nil before); spelled = tt; accepted = tt; ended = refl }
lines_take n before [] (b ∷ bs) items formed e = absurd cc
lines_take n before (line ∷ lines) last items formed e =
    then_adds (line_after n) before items (tokens line) (map tokens lines) last (λ mid. full_lines_on (line_after n) mid lines last) (full_line_on before (tokens line)) formed (λ mid formed read. lines_take (line_after n) mid lines last items formed read) refl e

-- a line that spells an item, or has no token, and the lines behind it
empty_again : (n : ℕ) (before items : List FullLine) (others : List FullLine → Result (List FullLine) ReadFault) → others before ≡ Ok (before ++ items) → then_lines n (full_line_on before []) others ≡ Ok (before ++ items)
unfolding full_line_on
empty_again n before items others e = e

then_again : (n : ℕ) (before items : List FullLine) (line : Tokens) (lines : List Tokens) (others : List FullLine → Result (List FullLine) ReadFault)
    → IsAccepted before → SpellsLines (line ∷ lines) items → IsAcceptedAfter before items
    → ((mid xs : List FullLine) → IsAccepted mid → SpellsLines lines xs → IsAcceptedAfter mid xs → others mid ≡ Ok (mid ++ xs))
    → then_lines n (full_line_on before line) others ≡ Ok (before ++ items)
then_again n before items [] lines others formed spelled well rest = empty_again n before items others (rest before items formed spelled well)
then_again n before [] (token ∷ line) lines others formed spelled well rest = absurd spelled
then_again n before (x ∷ xs) (token ∷ line) lines others formed spelled well rest =
    let one = line_again before token line x formed spelled.0 well.0 in
    let more = rest (before ++ x ∷ []) xs (accepted_push before x formed well.0) spelled.1 well.1 in
    ap (λ r. then_lines n r others) one ∙ (more ∙ ap (λ (all : List FullLine). Ok all) (append_assoc before (x ∷ []) xs))

lines_again : (n : ℕ) (before : List FullLine) (lines : List (List ℕ)) (items : List FullLine) → IsAccepted before → SpellsLines (map tokens lines) items → IsAcceptedAfter before items → full_lines_on n before lines [] ≡ Ok (before ++ items)
unfolding full_lines_on
lines_again n before [] [] formed spelled well = ap (λ (all : List FullLine). Ok all) (sym (append-nil before))
lines_again n before [] (x ∷ xs) formed spelled well = absurd spelled
lines_again n before (line ∷ lines) items formed spelled well =
    then_again (line_after n) before items (tokens line) (map tokens lines) (λ mid. full_lines_on (line_after n) mid lines []) formed spelled well (λ mid xs formed others wells. lines_again (line_after n) mid lines xs formed others wells)

-- ---- a text

-- what is read stands for the text
pub read_stands : (text : List ℕ) (items : List FullLine) → full_text_on text ≡ Ok items → StandsForFull text items
unfolding full_text_on
read_stands text items e =
    let adds = lines_take 0 [] (whole_lines text) (unfinished text) items tt e in
    let parts : text_of_lines (whole_lines text) ≡ text = sym (append-nil (text_of_lines (whole_lines text))) ∙ (ap (λ (last : List ℕ). text_of_lines (whole_lines text) ++ last) (sym adds.ended) ∙ parts_of_text text) in
    rw adds.whole (record {
      lines = whole_lines text;
      whole = sym parts;
      each = All-from_recursion IsLine (whole_lines text) (lines_are_lines text);
      spelled = adds.spelled;
      accepted = adds.accepted;
    })

-- a text that stands for a model is read as it
pub stands_read : (text : List ℕ) (items : List FullLine) → StandsForFull text items → full_text_on text ≡ Ok items
unfolding full_text_on
stands_read text items s =
    let each = recursion_from_All IsLine s.lines s.each in
    rw (s.whole, lines_of_text s.lines each, unfinished_of_text s.lines) (lines_again 0 [] s.lines items tt s.spelled s.accepted)
