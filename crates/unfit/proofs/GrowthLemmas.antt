-- What is said of a text goes on with what is said of a longer one.
use Rattle.std.proofs.Common.{◌≡◌, ℕ, List, [], ◌∷◌, ◌++◌, Option, Some, Ok, unwrap_or, decimal, length, map, reverse, slice_index, refl, sym, ap, ap₂, subst, ◌∙◌, append_assoc, append-nil, arith, inl, inr}
use Rattle.std.proofs.lemmas.Bool.{cases_Bool}
use Rattle.base.specs.Decimals.{number_of}
use Rattle.base.specs.Lines.{IsLine, text_of_lines, whole_lines, unfinished}
use Rattle.base.specs.Word.{word}
use Rattle.base.proofs.DecimalLemmas.{number_of-decimal, decimal_without, digits_without}
use Rattle.btor2.specs.declared.item.Item.{Item}
use Rattle.btor2.specs.Check.{IsWellFormed}
use Rattle.witness.specs.Texts.{Assignment, IsAssignment, assignment_line, binary, symbol_part, shape_of}
use Rattle.witness.specs.Admits.{Read, nothing_read, admit, word_reader, cut_at_space, is_one_bit}
use Rattle.witness.specs.KeptLines.{AreNarrow}
use Rattle.witness.specs.Readings.{Reader, Reading, so_far, next_line, lines_behind, lines_read}
use Rattle.witness.specs.ClosedWords.{said_in}
use Rattle.witness.specs.WordStands.{SaidAt}
use Rattle.witness.proofs.PieceLemmas.{cut_at_space-parts, binary_digits}
use Rattle.witness.proofs.ReadingLemmas.{lines_append}
use Rattle.witness.proofs.TextEndLemmas.{lines_behind_text, whole_lines-part}
use Rattle.unfit.specs.declared.frame.OpenPart.{OpenPart}
use Rattle.unfit.specs.declared.frame.OpenPart.TheVariants as part
use Rattle.unfit.specs.Joined.{Lined, pieces_from, state_words, input_words}
use Rattle.unfit.specs.Unfitted.{unfit_lines_with, unfit_text_with}
use Rattle.unfit.specs.Steps.{Frame, Holds, part_at, told_states, told_inputs, told_frame, closed_frame, opened_by, open_text, text_of_line, keeps, TellsLine}
use Rattle.unfit.proofs.LineLemmas.{word_of_binary}
use Rattle.unfit.proofs.TakeLemmas.{keeps_line, puts_line}
use Rattle.unfit.proofs.StepLemmas.{next_goes, unfit_by_lines, said_by_lines}

-- ---- what a line assigns

abbrev index_in : List ℕ → ℕ
index_in line = unwrap_or (number_of (cut_at_space line).0) 0

abbrev word_in : List ℕ → ℕ
word_in line = word (reverse (map is_one_bit (cut_at_space (unwrap_or (cut_at_space line).1 [])).0))

tells_line : (before : Frame) (line : List ℕ) → TellsLine before (told_frame before before.part (index_in line) (word_in line)) line
tells_line before line = (same before.part, (λ none. ap (λ (p : OpenPart). told_frame before p (index_in line) (word_in line)) none, λ widths a narrow is spelled. ap₂ (told_frame before before.part) (index_is widths a narrow is spelled) (word_is widths a narrow is spelled)))
  where
    same : (p : OpenPart) → (told_frame before p (index_in line) (word_in line)).part ≡ before.part
    same part.Nothing = refl
    same part.States = refl
    same part.Inputs = refl

    value : (widths : List ℕ) (a : Assignment) → List ℕ
    value widths a = binary (slice_index widths a.index) a.word ++ symbol_part a.symbol

    cut : (widths : List ℕ) (a : Assignment) → AreNarrow widths → IsAssignment widths a → line ≡ assignment_line widths a → cut_at_space line ≡ (decimal a.index, Some (value widths a))
    cut widths a narrow is spelled =
        let few = narrow.few in
        let within = is.index in
        ap cut_at_space (spelled ∙ append_assoc (decimal a.index) (32 ∷ binary (slice_index widths a.index) a.word) (symbol_part a.symbol)) ∙ cut_at_space-parts (decimal a.index) (Some (value widths a)) (decimal_without 32 a.index (omega arith) (omega (arith, few, within)))

    index_is : (widths : List ℕ) (a : Assignment) → AreNarrow widths → IsAssignment widths a → line ≡ assignment_line widths a → index_in line ≡ a.index
    index_is widths a narrow is spelled =
        let few = narrow.few in
        let within = is.index in
        ap (λ (c : List ℕ × Option (List ℕ)). unwrap_or (number_of c.0) 0) (cut widths a narrow is spelled) ∙ ap (λ (o : Option ℕ). unwrap_or o 0) (number_of-decimal a.index (omega (arith, few, within)))

    word_is : (widths : List ℕ) (a : Assignment) → AreNarrow widths → IsAssignment widths a → line ≡ assignment_line widths a → word_in line ≡ a.word
    word_is widths a narrow is spelled =
        let width : ℕ = slice_index widths a.index in
        ap (λ (c : List ℕ × Option (List ℕ)). word (reverse (map is_one_bit (cut_at_space (unwrap_or c.1 [])).0))) (cut widths a narrow is spelled)
        ∙ ap (λ (c : List ℕ × Option (List ℕ)). word (reverse (map is_one_bit c.0))) (cut_at_space-parts (binary width a.word) a.symbol (digits_without 32 (binary width a.word) (omega arith) (binary_digits width a.word)))
        ∙ word_of_binary width a.word is.word

-- ---- what is said grows

-- what is said of what is read begins what is said of what is read later
pub record Grows (l : Lined) (narrow : List Item) (r s : Read) : Type 0 where
  pub put : List ℕ
  pub all : text_of_lines (unfit_lines_with l narrow r) ++ put ≡ text_of_lines (unfit_lines_with l narrow s)
  pub said : SaidAt s s.place

module _ (l : Lined) (narrow : List Item) (well : IsWellFormed narrow) where
  grows_none : (r : Read) → SaidAt r r.place → Grows l narrow r r
  grows_none r said = record { put = []; all = append-nil (text_of_lines (unfit_lines_with l narrow r)); said = said }

  grows_on : (r s t : Read) → Grows l narrow r s → Grows l narrow s t → Grows l narrow r t
  grows_on r s t a b = record { put = a.put ++ b.put; all = sym (append_assoc (text_of_lines (unfit_lines_with l narrow r)) a.put b.put) ∙ ap (λ (t : List ℕ). t ++ b.put) a.all ∙ b.all; said = b.said }

  grows_line : (r s : Read) (line : List ℕ) → SaidAt r r.place → admit (shape_of narrow) r line ≡ Ok s → Grows l narrow r s
  grows_line r s line said admitted =
      let before : Frame = record { part = part_at r.place; states = pieces_from (told_states r r.place) 0 (state_words narrow); inputs = pieces_from (told_inputs r r.place) 0 (input_words narrow) } in
      let holds : Holds narrow r before = record { part = refl; states = refl; inputs = refl; said = said } in
      elim (cases_Bool (keeps before.part line)) [
        | inl keep ↦
            let one = keeps_line l (length r.closed) line before (told_frame before before.part (index_in line) (word_in line)) keep (tells_line before line) narrow r s well holds refl admitted in
            record { put = []; all = one.1; said = one.0.said }
        | inr other ↦
            let one = puts_line l (length r.closed) line before (record (closed_frame before before.part) { part = opened_by line }) other refl narrow r s well holds refl admitted in
            record { put = open_text l (length r.closed) before before.part ++ text_of_line line (opened_by line); all = one.1; said = one.0.said }
      ]

  grows_lines : (g : Reading Read) (lines : List (List ℕ)) → SaidAt g.read g.read.place → Grows l narrow g.read (lines_behind (word_reader (shape_of narrow)) g lines).read
  grows_lines g [] said = grows_none g.read said
  grows_lines g (line ∷ lines) said =
      let h : Reading Read = next_line (word_reader (shape_of narrow)) g line in
      let one : Grows l narrow g.read h.read =
      elim (next_goes (word_reader (shape_of narrow)) g line) [
        | inl same ↦ subst (Grows l narrow g.read) (sym same.1) (grows_none g.read said)
        | inr more ↦ grows_line g.read h.read line said more.1
      ] in
      grows_on g.read h.read _ one (grows_lines h lines one.said)

  -- what is said of a text begins what is said of a longer one
  pub text_grows : (front rest : List ℕ) → (put : List ℕ) × (unfit_text_with l narrow front ++ put ≡ unfit_text_with l narrow (front ++ rest))
  text_grows front rest =
      let reader : Reader Read = word_reader (shape_of narrow) in
      let first = grows_lines (so_far 0 nothing_read) (whole_lines front) (record { closed = refl; states = refl; open_part = refl }) in
      let more = grows_lines (lines_read reader (whole_lines front)) (whole_lines (unfinished front ++ rest)) first.said in
      let all : said_in narrow (front ++ rest) ≡ (lines_behind reader (lines_read reader (whole_lines front)) (whole_lines (unfinished front ++ rest))).read =
      said_by_lines narrow (front ++ rest) ∙ ap (λ (ls : List (List ℕ)). (lines_read reader ls).read) (lines_behind_text front rest) ∙ ap (λ (g : Reading Read). g.read) (lines_append reader (so_far 0 nothing_read) (whole_lines front) (whole_lines (unfinished front ++ rest))) in (
        more.put,
        ap (λ (t : List ℕ). t ++ more.put) (unfit_by_lines l narrow front ∙ ap (λ (r : Read). text_of_lines (unfit_lines_with l narrow r)) (said_by_lines narrow front)) ∙ more.all ∙ ap (λ (r : Read). text_of_lines (unfit_lines_with l narrow r)) (sym all) ∙ sym (unfit_by_lines l narrow (front ++ rest)),
      )

-- bytes behind it that end no line say nothing
pub said_with_rest : (l : Lined) (narrow : List Item) (text rest : List ℕ) → IsLine rest → unfit_text_with l narrow (text ++ rest) ≡ unfit_text_with l narrow text
said_with_rest l narrow text rest is =
    let reader : Reader Read = word_reader (shape_of narrow) in
    unfit_by_lines l narrow (text ++ rest)
    ∙ ap (λ (r : Read). text_of_lines (unfit_lines_with l narrow r)) (said_by_lines narrow (text ++ rest) ∙ ap (λ (ls : List (List ℕ)). (lines_read reader ls).read) (whole_lines-part text rest is) ∙ sym (said_by_lines narrow text))
    ∙ sym (unfit_by_lines l narrow text)
