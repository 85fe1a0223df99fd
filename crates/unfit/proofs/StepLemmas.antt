-- Whole lines behind a text: which are admitted, and what is said with them.
use Rattle.std.proofs.Common.{◌≡◌, ℕ, ◌+◌, nat_le, true, false, List, [], ◌∷◌, ◌++◌, Option, Some, None, Result, Ok, Err, length, refl, sym, ap, subst, ◌∙◌, arith, ◌⊎◌, inl, inr}
use Rattle.std.specs.Io.KnownBytes.{Consumes, Keeps}
use Rattle.std.proofs.KnownBytes.{Consumes-trans, Consumes-kept}
use Rattle.std.proofs.lemmas.Bool.{cases_Bool, eq-eqb, ne_eqb}
use Rattle.base.specs.declared.pen.Pen.{Pen}
use Rattle.base.specs.Lines.{IsLine, text_of_lines, whole_lines, unfinished}
use Rattle.base.specs.Writing.{WritesText}
use Rattle.base.proofs.PenLemmas.{writes_then}
use Rattle.btor2.specs.declared.item.Item.{Item}
use Rattle.witness.specs.declared.why.Why.{Why}
use Rattle.witness.specs.Texts.{most_lines, shape_of}
use Rattle.witness.specs.Readings.{Reader, Reading, so_far, one_more_line, next_line, lines_read, reading}
use Rattle.witness.specs.Admits.{Read, nothing_read, admit, word_reader}
use Rattle.witness.specs.ClosedWords.{said_in, admitted_word_lines}
use Rattle.witness.specs.WordStands.{StandsForWitness, WordJudge}
use Rattle.witness.proofs.ReadingLemmas.{lines_append}
use Rattle.witness.proofs.TextEndLemmas.{whole_lines-line_end, unfinished-line_end}
use Rattle.unfit.specs.Joined.{Lined}
use Rattle.unfit.specs.Unfitted.{unfit_lines_with, unfit_text_with}
use Rattle.unfit.specs.Steps.{Frame, Holds, IsAdmitted, TakesAdmitted, TakesLines, Unfits, WritesSome}

-- ---- a line behind others

-- it is admitted, or what is read stays
abbrev pub Goes : {R : Type 0} → Reader R → Reading R → Reading R → List ℕ → Type 0
Goes reader g h line = ((h.admitted ≡ g.admitted) × (h.read ≡ g.read)) ⊎ ((h.admitted ≡ g.admitted + 1) × (reader.admit g.read line ≡ Ok h.read))

pub next_goes : {R : Type 0} (reader : Reader R) (g : Reading R) (line : List ℕ) → Goes reader g (next_line reader g line) line
unfolding next_line
next_goes {R} reader g line = by g.refused refl
  where
    admits : (o : Result R Why) → reader.admit g.read line ≡ o → Goes reader g (one_more_line g o) line
    admits (Ok r) is = inr (refl, is)
    admits (Err why) is = inl (refl, refl)

    by : (o : Option Why) → g.refused ≡ o → Goes reader g (next_line reader g line) line
    by (Some why) is = rw is (inl (refl, refl))
    by None is =
        elim (cases_Bool (nat_le most_lines g.admitted)) [
          | inl many ↦ rw (is, many) (inl (refl, refl))
          | inr few ↦ rw (is, few) (admits (reader.admit g.read line) refl)
        ]

module _ (narrow : List Item) (text : List ℕ) where
  abbrev reader : Reader Read
  reader = word_reader (shape_of narrow)

  pub said_by_lines : said_in narrow text ≡ (lines_read reader (whole_lines text)).read
  unfolding reading
  said_by_lines = refl

  pub admitted_by_lines : admitted_word_lines (shape_of narrow) text ≡ (lines_read reader (whole_lines text)).admitted
  unfolding reading
  admitted_by_lines = refl

pub unfit_by_lines : (l : Lined) (narrow : List Item) (text : List ℕ) → unfit_text_with l narrow text ≡ text_of_lines (unfit_lines_with l narrow (said_in narrow text))
unfolding unfit_text_with
unfit_by_lines l narrow text = refl

module _ (narrow : List Item) (text line : List ℕ) (whole : unfinished text ≡ []) (is : IsLine line) where
  abbrev more : List ℕ
  more = text ++ (line ++ 10 ∷ [])

  lines_with : whole_lines more ≡ whole_lines text ++ line ∷ []
  lines_with = whole_lines-line_end text line is ∙ ap (λ (l : List ℕ). whole_lines text ++ (l ++ line) ∷ []) whole

  read_with : lines_read (reader narrow text) (whole_lines more) ≡ next_line (reader narrow text) (lines_read (reader narrow text) (whole_lines text)) line
  read_with = ap (lines_read (reader narrow text)) lines_with ∙ lines_append (reader narrow text) (so_far 0 nothing_read) (whole_lines text) (line ∷ [])

  -- what is said with it
  pub line_goes : ((admitted_word_lines (shape_of narrow) more ≡ admitted_word_lines (shape_of narrow) text) × (said_in narrow more ≡ said_in narrow text))
      ⊎ ((admitted_word_lines (shape_of narrow) more ≡ admitted_word_lines (shape_of narrow) text + 1) × (admit (shape_of narrow) (said_in narrow text) line ≡ Ok (said_in narrow more)))
  line_goes =
      rw (said_by_lines narrow text, said_by_lines narrow more, admitted_by_lines narrow text, admitted_by_lines narrow more, read_with)
      (next_goes (reader narrow text) (lines_read (reader narrow text) (whole_lines text)) line)

  pub stays_said : IsAdmitted narrow text line false → said_in narrow more ≡ said_in narrow text
  stays_said b =
      elim line_goes [
        | inl same ↦ same.1
        | inr one ↦ absurd (let e = rw (ne_eqb (admitted_word_lines (shape_of narrow) more) (admitted_word_lines (shape_of narrow) text) (λ e. omega (arith, e, one.0))) at b in cc)
      ]

  pub is_admitted : IsAdmitted narrow text line true → admit (shape_of narrow) (said_in narrow text) line ≡ Ok (said_in narrow more)
  is_admitted b =
      elim line_goes [
        | inl same ↦ absurd (let e = rw (eq-eqb (admitted_word_lines (shape_of narrow) more) (admitted_word_lines (shape_of narrow) text) same.0) at b in cc)
        | inr one ↦ one.1
      ]

-- ---- a line is taken

module _ {K : Type 0} (written : K → Option (List ℕ)) (failures : K → ℕ) (start s : K) (from pen : Pen) (l : Lined) (narrow : List Item) (judge judged : WordJudge) (f : Frame) (text line : List ℕ) (is : IsLine line) (h : Unfits written failures start s from pen l narrow judge f text)
    (stands : StandsForWitness narrow judged (text ++ (line ++ 10 ∷ []))) where
  pub line_stays : IsAdmitted narrow text line false → Unfits written failures start s from pen l narrow judged f (text ++ (line ++ 10 ∷ []))
  line_stays b =
      let same = stays_said narrow text line h.ended is b in
      record {
        well_formed = h.well_formed;
        stands = stands;
        ended = unfinished-line_end text line;
        holds = subst (λ (r : Read). Holds narrow r f) (sym same) h.holds;
        writes = subst (WritesText written failures start s from pen) (unfit_by_lines l narrow text ∙ ap (λ (r : Read). text_of_lines (unfit_lines_with l narrow r)) (sym same) ∙ sym (unfit_by_lines l narrow (text ++ (line ++ 10 ∷ [])))) h.writes;
      }

  pub line_taken : (t : K) (q : Pen) (g : Frame) (k : ℕ) → IsAdmitted narrow text line true → k ≡ length (said_in narrow text).closed → WritesSome written failures s t pen q (TakesAdmitted l k line f g)
      → Unfits written failures start t from q l narrow judged g (text ++ (line ++ 10 ∷ []))
  line_taken t q g k b many puts =
      let now = puts.is narrow (said_in narrow text) (said_in narrow (text ++ (line ++ 10 ∷ []))) h.well_formed h.holds many (is_admitted narrow text line h.ended is b) in
      record {
        well_formed = h.well_formed;
        stands = stands;
        ended = unfinished-line_end text line;
        holds = now.0;
        writes = subst (WritesText written failures start t from q) (ap (λ (t : List ℕ). t ++ puts.put) (unfit_by_lines l narrow text) ∙ now.1 ∙ sym (unfit_by_lines l narrow (text ++ (line ++ 10 ∷ [])))) (writes_then h.writes puts.writes);
      }

-- ---- lines of a source

module _ {K : Type 0} (written : K → Option (List ℕ)) (failures : K → ℕ) (l : Lined) where
  pub takes_none : (known : Option (List ℕ)) (s : K) (pen : Pen) (judge : WordJudge) (f : Frame) → TakesLines written failures known known s s pen pen l judge judge f f
  takes_none known s pen judge f start from narrow whole front consumes h = (front, (consumes, h))

  module _ (known now after : Option (List ℕ)) (s t : K) (pen q : Pen) (j1 j2 : WordJudge) (f1 f2 : Frame) (takes : TakesLines written failures known now s t pen q l j1 j2 f1 f2) where
    pub takes_more : (u : K) (q' : Pen) (j3 : WordJudge) (f3 : Frame) (line : List ℕ) → Consumes now after (line ++ 10 ∷ [])
        → ((start : K) (from : Pen) (narrow : List Item) (text : List ℕ) → Unfits written failures start t from q l narrow j2 f2 text → Unfits written failures start u from q' l narrow j3 f3 (text ++ (line ++ 10 ∷ [])))
        → TakesLines written failures known after s u pen q' l j1 j3 f1 f3
    takes_more u q' j3 f3 line moved step start from narrow whole front consumes h =
        let one = takes start from narrow whole front consumes h in
        (one.0 ++ (line ++ 10 ∷ []), (Consumes-trans whole now after one.0 (line ++ 10 ∷ []) one.1.0 moved, step start from narrow one.0 one.1.1))

    -- nothing more is taken
    pub takes_kept : Keeps now after → TakesLines written failures known after s t pen q l j1 j2 f1 f2
    takes_kept keeps start from narrow whole front consumes h =
        let one = takes start from narrow whole front consumes h in
        (one.0, (Consumes-kept whole now after one.0 one.1.0 keeps, one.1.1))
