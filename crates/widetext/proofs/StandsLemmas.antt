-- What is read stands for the text, and a text that stands for a model is read as it.
use Rattle.std.proofs.Common.{◌≡◌, ℕ, List, [], ◌∷◌, ◌++◌, map, Option, Some, None, Result, Ok, Err, refl, sym, ap, ◌∙◌, inl, inr, ◌⊎◌, append_assoc}
use Rattle.std.proofs.lemmas.List.{append-nil}
use Rattle.std.proofs.lemmas.List.Elements.{All-from_recursion, recursion_from_All}
use Rattle.base.specs.Lines.{IsLine, text_of_lines, whole_lines, unfinished, line_after}
use Rattle.base.proofs.LineLemmas.{lines_are_lines, parts_of_text, lines_of_text, unfinished_of_text}
use Rattle.btor2.specs.declared.item.Item.{Item}
use Rattle.btor2.specs.declared.fault.PushFault.{PushFault}
use Rattle.btor2text.specs.declared.fault.Why.{Why}
use Rattle.btor2text.specs.declared.fault.ReadFault.{ReadFault}
use Rattle.btor2text.specs.Tokens.{tokens}
use Rattle.btor2text.specs.Reading.{Tokens, item_accepted, then_lines}
use Rattle.btor2text.proofs.PlaceLemmas.{bind_ok}
use Rattle.wide.specs.WideModels.{greatest_width, wide_refusal, IsWideModel, IsWideAfter}
use Rattle.wide.proofs.GrowLemmas.{model_push}
use Rattle.widetext.specs.Spelling.{WideSpellsItem, WideSpellsAll, StandsForWide}
use Rattle.widetext.specs.Reading.{wide_item_at, wide_line_on, wide_lines_on, wide_text_on}
use Rattle.widetext.proofs.BoundLemmas.{accepted_fits}
use Rattle.widetext.proofs.ItemLemmas.{wide_item_takes, wide_item_again}

-- ---- one line

-- what a line that was read adds
abbrev pub AddsLine : List Item → Tokens → List Item → Type 0
AddsLine before line items = ((line ≡ []) × (items ≡ before)) ⊎ ((x : Item) × ((WideSpellsItem line x × (wide_refusal greatest_width before x ≡ None)) × (items ≡ before ++ x ∷ [])))

accepted_is : (before : List Item) (x : Item) (r : Option PushFault) (items : List Item) → item_accepted before x r ≡ Ok items → (r ≡ None) × (items ≡ before ++ x ∷ [])
accepted_is before x None items e = (refl, cc)
accepted_is before x (Some f) items e = absurd cc

pub line_takes : (before : List Item) (line : Tokens) (items : List Item) → IsWideModel greatest_width before → wide_line_on before line ≡ Ok items → AddsLine before line items
unfolding wide_line_on
line_takes before [] items formed e = inl (refl, cc)
line_takes before (first ∷ rest) items formed e =
    let x = bind_ok (wide_item_at (first ∷ rest)) (λ x. item_accepted before x (wide_refusal greatest_width before x)) items e in
    let is = accepted_is before x.0 (wide_refusal greatest_width before x.0) items x.2 in
    inr (x.0, ((wide_item_takes (first ∷ rest) x.0 x.1 (accepted_fits before x.0 formed is.0), is.0), is.1))

line_again : (before : List Item) (first : List ℕ) (rest : Tokens) (x : Item) → IsWideModel greatest_width before → WideSpellsItem (first ∷ rest) x → wide_refusal greatest_width before x ≡ None → wide_line_on before (first ∷ rest) ≡ Ok (before ++ x ∷ [])
unfolding wide_line_on
line_again before first rest x formed spelled none =
    rw (wide_item_again (first ∷ rest) x spelled (accepted_fits before x formed none), none) refl

-- ---- lines

no_tokens : (t : List ℕ) (ts : Tokens) → [] ≡ t ∷ ts → ⊥
no_tokens t ts e = cc

pub spells_line : (line : Tokens) (lines : List Tokens) (x : Item) (xs : List Item) → WideSpellsItem line x → WideSpellsAll lines xs → WideSpellsAll (line ∷ lines) (x ∷ xs)
spells_line [] lines x xs one others = absurd (no_tokens _ _ one.tokens)
spells_line (token ∷ line) lines x xs one others = (one, others)

-- what lines that were read add
record Adds (before : List Item) (lines : List Tokens) (last : List ℕ) (items : List Item) : Type 0 where
  added : List Item
  whole : items ≡ before ++ added
  spelled : WideSpellsAll lines added
  well_formed : IsWideAfter greatest_width before added
  ended : last ≡ []

adds_line : (before mid items : List Item) (line : Tokens) (lines : List Tokens) (last : List ℕ) → AddsLine before line mid → Adds mid lines last items → Adds before (line ∷ lines) last items
adds_line before mid items line lines last (inl h) others =
    let whole : items ≡ before ++ others.added = others.whole ∙ ap (λ (m : List Item). m ++ others.added) h.1 in
    let well : IsWideAfter greatest_width before others.added = rw h.1 at others.well_formed in
    rw h.0 (record { added = others.added; whole = whole; spelled = others.spelled; well_formed = well; ended = others.ended })
adds_line before mid items line lines last (inr h) others =
    let well : IsWideAfter greatest_width (before ++ h.0 ∷ []) others.added = rw h.1.1 at others.well_formed in
    record {
      added = h.0 ∷ others.added;
      whole = others.whole ∙ (ap (λ (m : List Item). m ++ others.added) h.1.1 ∙ append_assoc before (h.0 ∷ []) others.added);
      spelled = spells_line line lines h.0 others.added h.1.0.0 others.spelled;
      well_formed = (h.1.0.1, well);
      ended = others.ended;
    }

pub well_after : (before mid : List Item) (line : Tokens) → IsWideModel greatest_width before → AddsLine before line mid → IsWideModel greatest_width mid
well_after before mid line formed (inl h) = rw h.1 formed
well_after before mid line formed (inr h) = rw h.1.1 (model_push greatest_width before h.0 formed h.1.0.1)

then_adds : (n : ℕ) (before items : List Item) (line : Tokens) (lines : List Tokens) (last : List ℕ) (others : List Item → Result (List Item) ReadFault) (r : Result (List Item) Why)
    → IsWideModel greatest_width before → ((mid : List Item) → IsWideModel greatest_width mid → others mid ≡ Ok items → Adds mid lines last items)
    → wide_line_on before line ≡ r → then_lines n r others ≡ Ok items → Adds before (line ∷ lines) last items
then_adds n before items line lines last others (Ok mid) formed rest is e =
    let adds = line_takes before line mid formed is in
    adds_line before mid items line lines last adds (rest mid (well_after before mid line formed adds) e)
then_adds n before items line lines last others (Err w) formed rest is e = absurd cc

-- items that were read; two of them that are the same answer are the same
abbrev pub done : List Item → Result (List Item) ReadFault
done items = Ok items

pub ok_items : (a b : List Item) → done a ≡ done b → a ≡ b
ok_items a b e = cc

lines_take : (n : ℕ) (before : List Item) (lines : List (List ℕ)) (last : List ℕ) (items : List Item) → IsWideModel greatest_width before → wide_lines_on n before lines last ≡ Ok items → Adds before (map tokens lines) last items
unfolding wide_lines_on
lines_take n before [] [] items formed e = record { added = []; whole = ok_items items before (sym e) ∙ sym (append-nil before); spelled = tt; well_formed = tt; ended = refl }
lines_take n before [] (b ∷ bs) items formed e = absurd cc
lines_take n before (line ∷ lines) last items formed e =
    then_adds (line_after n) before items (tokens line) (map tokens lines) last (λ mid. wide_lines_on (line_after n) mid lines last) (wide_line_on before (tokens line)) formed (λ mid formed read. lines_take (line_after n) mid lines last items formed read) refl e

-- a line that spells an item, or has no token, and the lines behind it
empty_again : (n : ℕ) (before items : List Item) (others : List Item → Result (List Item) ReadFault) → others before ≡ Ok (before ++ items) → then_lines n (wide_line_on before []) others ≡ Ok (before ++ items)
unfolding wide_line_on
empty_again n before items others e = e

then_again : (n : ℕ) (before items : List Item) (line : Tokens) (lines : List Tokens) (others : List Item → Result (List Item) ReadFault)
    → IsWideModel greatest_width before → WideSpellsAll (line ∷ lines) items → IsWideAfter greatest_width before items
    → ((mid xs : List Item) → IsWideModel greatest_width mid → WideSpellsAll lines xs → IsWideAfter greatest_width mid xs → others mid ≡ Ok (mid ++ xs))
    → then_lines n (wide_line_on before line) others ≡ Ok (before ++ items)
then_again n before items [] lines others formed spelled well rest = empty_again n before items others (rest before items formed spelled well)
then_again n before [] (token ∷ line) lines others formed spelled well rest = absurd spelled
then_again n before (x ∷ xs) (token ∷ line) lines others formed spelled well rest =
    let one = line_again before token line x formed spelled.0 well.0 in
    let more = rest (before ++ x ∷ []) xs (model_push greatest_width before x formed well.0) spelled.1 well.1 in
    ap (λ r. then_lines n r others) one ∙ (more ∙ ap (λ (all : List Item). Ok all) (append_assoc before (x ∷ []) xs))

lines_again : (n : ℕ) (before : List Item) (lines : List (List ℕ)) (items : List Item) → IsWideModel greatest_width before → WideSpellsAll (map tokens lines) items → IsWideAfter greatest_width before items → wide_lines_on n before lines [] ≡ Ok (before ++ items)
unfolding wide_lines_on
lines_again n before [] [] formed spelled well = ap (λ (all : List Item). Ok all) (sym (append-nil before))
lines_again n before [] (x ∷ xs) formed spelled well = absurd spelled
lines_again n before (line ∷ lines) items formed spelled well =
    then_again (line_after n) before items (tokens line) (map tokens lines) (λ mid. wide_lines_on (line_after n) mid lines []) formed spelled well (λ mid xs formed others wells. lines_again (line_after n) mid lines xs formed others wells)

-- ---- a text

-- what is read stands for the text
pub read_stands : (text : List ℕ) (items : List Item) → wide_text_on text ≡ Ok items → StandsForWide text items
unfolding wide_text_on
read_stands text items e =
    let adds = lines_take 0 [] (whole_lines text) (unfinished text) items tt e in
    let parts : text_of_lines (whole_lines text) ≡ text = sym (append-nil (text_of_lines (whole_lines text))) ∙ (ap (λ (last : List ℕ). text_of_lines (whole_lines text) ++ last) (sym adds.ended) ∙ parts_of_text text) in
    rw adds.whole (record {
      lines = whole_lines text;
      whole = sym parts;
      each = All-from_recursion IsLine (whole_lines text) (lines_are_lines text);
      spelled = adds.spelled;
      well_formed = adds.well_formed;
    })

-- a text that stands for a model is read as it
pub stands_read : (text : List ℕ) (items : List Item) → StandsForWide text items → wide_text_on text ≡ Ok items
unfolding wide_text_on
stands_read text items s =
    let each = recursion_from_All IsLine s.lines s.each in
    rw (s.whole, lines_of_text s.lines each, unfinished_of_text s.lines) (lines_again 0 [] s.lines items tt s.spelled s.well_formed)
