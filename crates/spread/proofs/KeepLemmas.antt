-- What is judged of the spread text over the fitted model makes what is judged of the text.
use Rattle.std.proofs.Common.{◌≡◌, ℕ, ◌+◌, nat_le, Bool, true, false, cond, List, [], ◌∷◌, ◌++◌, Option, Some, None, Result, Ok, Err, append-nil, inl, inr, refl, sym, ap, ap₂, subst, ◌∙◌}
use Rattle.base.specs.Lines.{text_of_lines, whole_lines, unfinished}
use Rattle.base.proofs.DecimalLemmas.{nothing}
use Rattle.btor2.specs.declared.item.Item.{Item}
use Rattle.witness.specs.declared.why.Why.{Why}
use Rattle.witness.specs.declared.why.Why.TheVariants as why
use Rattle.witness.specs.declared.judgement.Judgement.{Judgement}
use Rattle.witness.specs.declared.judgement.Judgement.TheVariants as judgement
use Rattle.witness.specs.Texts.{Shape, IsWitness, Witness, shape_of, most_lines}
use Rattle.witness.specs.Readings.{Reading, Fault, so_far, one_more_line, next_line_of, next_line, lines_behind, lines_read, reading, is_nothing, last_refusal, refused_for, read_or_fault, text_read}
use Rattle.witness.specs.Admits.{Read, nothing_read, admit, word_reader, is_at_end, witness_of}
use Rattle.witness.specs.Judgements.{makes_no_claim, words_of, JudgesWords, JudgesAs, unplayed, Judges}
use Rattle.witness.specs.ClosedWords.{word_reading}
use Rattle.witness.proofs.ReadLemmas.{IsSmall}
use Rattle.witness.proofs.ReadingLemmas.{whole_is}
use Rattle.rejoin.specs.Pieces.{cut_shape, split_witness, joined_judgement}
use Rattle.spread.specs.Spread.{lines_by, admitted_line, spread_text, IsShort}
use Rattle.spread.specs.Passing.{passing_behind, passing_lines, passing_text, told}
use Rattle.spread.specs.Stands.{IsWideShape, TellsOf}
use Rattle.spread.specs.Answers.{KeepsJudgement}
use Rattle.spread.proofs.LineLemmas.{split_reading}
use Rattle.spread.proofs.GivingLemmas.{admitted_or_not}
use Rattle.spread.proofs.AdmittedLemmas.{still_refused, admitted_is_spread}
use Rattle.spread.proofs.TextLemmas.{told_judged, passed, passed_read, passes, claims}

-- ---- a text without a faulty line

-- a line behind which nothing is refused was admitted
next_none : (shape : Shape) (g : Reading Read) (line : List ℕ) → (next_line (word_reader shape) g line).refused ≡ None → (g.refused ≡ None) × ((r : Read) × (admit shape g.read line ≡ Ok r))
unfolding next_line
next_none shape g line none = by g.refused refl none
  where
    by_admit : g.refused ≡ None → (o : Result Read Why) → admit shape g.read line ≡ o → (one_more_line g o).refused ≡ None → (g.refused ≡ None) × ((r : Read) × (admit shape g.read line ≡ Ok r))
    by_admit e (Ok r) is h = (e, (r, is))
    by_admit e (Err w) is h = absurd cc

    by : (o : Option Why) → g.refused ≡ o → (next_line_of (word_reader shape) g line o).refused ≡ None → (g.refused ≡ None) × ((r : Read) × (admit shape g.read line ≡ Ok r))
    by (Some w) e h = absurd (cc (e, h))
    by None e h =
        elim (nat_le most_lines g.admitted) as (λ b. (cond b (record g { refused = Some why.TooLong }) (one_more_line g (admit shape g.read line))).refused ≡ None → (g.refused ≡ None) × ((r : Read) × (admit shape g.read line ≡ Ok r))) [
          | true ↦ λ k. absurd (cc k)
          | false ↦ λ k. by_admit e (admit shape g.read line) refl k
        ] h

all_spread : (shape : Shape) (g : Reading Read) (lines : List (List ℕ)) → (lines_behind (word_reader shape) g lines).refused ≡ None
    → passing_lines shape g lines ≡ lines_by shape (λ f l. admitted_line shape f.read.place l (next_line (word_reader shape) f l).refused) g lines
all_spread shape g [] none = refl
all_spread shape g (line ∷ lines) none =
    elim (admitted_or_not shape g line) [
      | inl e ↦
          let was = next_none shape g line e.1 in
          let own : passing_behind shape g.read.place line g.refused ≡ admitted_line shape g.read.place line (next_line (word_reader shape) g line).refused =
          ap (passing_behind shape g.read.place line) was.0 ∙ (sym (admitted_is_spread shape g.read was.1.0 line was.1.1) ∙ ap (admitted_line shape g.read.place line) (sym e.1)) in
          ap₂ (λ (x y : List (List ℕ)). x ++ y) own (all_spread shape (next_line (word_reader shape) g line) lines none)
      | inr e ↦ absurd (still_refused shape (next_line (word_reader shape) g line) lines e.1.0 e.1.1 none)
    ]

-- so what goes on for it is what it is spread to
whole_spread : (shape : Shape) (text : List ℕ) → (lines_read (word_reader shape) (whole_lines text)).refused ≡ None → passing_text shape text ≡ spread_text shape text
unfolding spread_text
whole_spread shape text none = ap text_of_lines (all_spread shape (so_far 0 nothing_read) (whole_lines text) none)

-- ---- what is told

module _ (wide narrow : List Item) (good : IsWideShape (shape_of wide)) (small : IsSmall (shape_of wide)) (cut : shape_of narrow ≡ cut_shape (shape_of wide)) (text : List ℕ) (short : IsShort text) where
  pub tells_judged : (law : (w : Witness) (j : Judgement) → IsWitness (shape_of wide) w → JudgesWords narrow (words_of (split_witness (shape_of wide) w)) j → JudgesWords wide (words_of w) (joined_judgement (shape_of wide) j)) (j : Judgement)
      → TellsOf (shape_of wide) narrow text j → Judges wide text j
  unfolding reading
  tells_judged law j h =
      subst (Judges wide text) (sym h.is) (told_judged wide narrow good small cut text short law ((word_reading (shape_of wide) text).admitted + 1) h.passed refl h.judged)

  -- a witness was read
  abbrev WasSpread : Type 0
  WasSpread = passing_text (shape_of wide) text ++ unfinished text ≡ spread_text (shape_of wide) text

  abbrev SaysOver : Read → Judgement → Type 0
  SaysOver r j = JudgesWords narrow (words_of (witness_of r)) j

  by_read : (g : Reading Read) (m : ℕ) (last : List ℕ) (j : Judgement) → unplayed j ≡ None → JudgesAs SaysOver false (read_or_fault (λ r. is_at_end r.place) (split_reading (shape_of wide) m g) last g.refused) j → (g.refused ≡ None) × (last ≡ [])
  by_read g m last j played h = by g.refused refl h
    where
      by_last : (o : Option Why) → last_refusal (is_at_end g.read.place) m (is_nothing last) ≡ o → JudgesAs SaysOver false (refused_for (split_reading (shape_of wide) m g) o) j → last ≡ []
      by_last (Some w) is h = absurd (cc (h, played))
      by_last None is h = nothing last (whole_is (is_at_end g.read.place) m (is_nothing last) is).1

      by : (o : Option Why) → g.refused ≡ o → JudgesAs SaysOver false (read_or_fault (λ r. is_at_end r.place) (split_reading (shape_of wide) m g) last o) j → (g.refused ≡ None) × (last ≡ [])
      by (Some w) is h = absurd (cc (h, played))
      by None is h = (is, by_last (last_refusal (is_at_end g.read.place) m (is_nothing last)) refl h)

  by_claim : (none : Bool) (g : Reading Read) (m : ℕ) (last : List ℕ) (j : Judgement) → unplayed j ≡ None → JudgesAs SaysOver none (read_or_fault (λ r. is_at_end r.place) (split_reading (shape_of wide) m g) last g.refused) j → (g.refused ≡ None) × (last ≡ [])
  by_claim true g m last j played h = absurd (cc (h, played))
  by_claim false g m last j played h = by_read g m last j played h

  played_is_read : (j : Judgement) → unplayed j ≡ None → Judges narrow (passing_text (shape_of wide) text ++ unfinished text) j → WasSpread
  played_is_read j played h =
      let said =
      subst (λ (o : Result Read Fault). JudgesAs SaysOver (makes_no_claim 0 (whole_lines text)) o j) (passed_read wide narrow good small cut text short)
      (subst (λ (b : Bool). JudgesAs SaysOver b (text_read (word_reader (shape_of narrow)) (passed wide narrow good small cut text short)) j) (claims wide narrow good small cut text short) h) in
      let read = by_claim (makes_no_claim 0 (whole_lines text)) (lines_read (word_reader (shape_of wide)) (whole_lines text)) (passes wide narrow good small cut text short).count (unfinished text) j played said in
      ap (λ (l : List ℕ). passing_text (shape_of wide) text ++ l) read.1 ∙ (append-nil (passing_text (shape_of wide) text) ∙ whole_spread (shape_of wide) text read.0)

  pub tells_kept : (j : Judgement) → TellsOf (shape_of wide) narrow text j → KeepsJudgement wide narrow text j
  tells_kept j h played = by h.passed h.is h.judged
    where
      kept : (p : Judgement) → unplayed p ≡ None → j ≡ joined_judgement (shape_of wide) p → Judges narrow (passing_text (shape_of wide) text ++ unfinished text) p
          → (n : Judgement) × (Judges narrow (spread_text (shape_of wide) text) n × (j ≡ joined_judgement (shape_of wide) n))
      kept p none is judged = (p, (subst (λ (t : List ℕ). Judges narrow t p) (played_is_read p none judged) judged, is))

      by : (p : Judgement) → j ≡ told (shape_of wide) ((word_reading (shape_of wide) text).admitted + 1) p → Judges narrow (passing_text (shape_of wide) text ++ unfinished text) p
          → (n : Judgement) × (Judges narrow (spread_text (shape_of wide) text) n × (j ≡ joined_judgement (shape_of wide) n))
      by (judgement.Malformed line w) is judged = absurd (cc (is, played))
      by judgement.NoClaim is judged = absurd (cc (is, played))
      by (judgement.InitDiffers i) is judged = kept (judgement.InitDiffers i) refl is judged
      by (judgement.Accepted k) is judged = kept (judgement.Accepted k) refl is judged
      by (judgement.NotReached i) is judged = kept (judgement.NotReached i) refl is judged
      by (judgement.Violated k i) is judged = kept (judgement.Violated k i) refl is judged
