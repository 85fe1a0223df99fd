-- A spreader that takes a line.
use Rattle.std.proofs.Common.{◌≡◌, ℕ, ◌+◌, ◌-◌, ◌<◌, ◌≤◌, ◌^◌, min, true, false, List, [], ◌∷◌, ◌++◌, Option, Some, None, is_some, Result, Ok, Err, length, append-nil, length-append, inl, inr, ◌⊎◌, refl, sym, ap, ap₂, subst, ◌∙◌, arith}
use Rattle.base.specs.declared.pen.Pen.{Pen}
use Rattle.base.specs.Lines.{IsLine, text_of_lines, whole_lines, unfinished}
use Rattle.base.proofs.PenLemmas.{writes_none}
use Rattle.base.proofs.LineLemmas.{EachLine, lines_are_lines, lines_of_text, unfinished_of_text}
use Rattle.btor2.specs.declared.item.Item.{Item}
use Rattle.witness.specs.declared.why.Why.{Why}
use Rattle.witness.specs.Texts.{Shape, shape_of, most_lines}
use Rattle.witness.specs.Readings.{Reading, so_far, next_line, lines_behind, lines_read, reading}
use Rattle.witness.specs.Admits.{Place, Read, nothing_read, admit, word_reader}
use Rattle.witness.specs.ClosedWords.{word_reading, admitted_word_lines}
use Rattle.witness.specs.WordStands.{WordJudge, StandsForWitness}
use Rattle.witness.proofs.ReadLemmas.{IsSmall}
use Rattle.witness.proofs.StandsLemmas.{no_refusal, some_refusal}
use Rattle.witness.proofs.ReadingLemmas.{stopped, goes, few_read, holds_behind, lines_append, line_admitted}
use Rattle.witness.proofs.TextEndLemmas.{whole_lines-part, unfinished-part, whole_lines-line_end, unfinished-line_end}
use Rattle.rejoin.specs.Pieces.{cut_shape}
use Rattle.spread.specs.declared.spreader.Part.{Part}
use Rattle.spread.specs.declared.spreader.Part.TheVariants as part
use Rattle.spread.specs.Spread.{lines_by, admitted_line, spread_text, IsShort}
use Rattle.spread.specs.Passing.{passing_at, passing_behind, passing_lines, passing_text}
use Rattle.spread.specs.Stands.{kept_lines, Gives, part_behind, part_at, passing_in_part, Spreader, IsWideShape, StandsFor, EndsFor, Takes}
use Rattle.spread.proofs.AlikeLemmas.{split_read, Opens, admitted_opens, GoesAlike, line_goes}
use Rattle.spread.proofs.LineLemmas.{lines_by-more, split_reading, next_is, Passes, all_pass}
use Rattle.spread.proofs.TextLemmas.{each_passing, few_lines}
use Rattle.spread.proofs.GivingLemmas.{text_of_both, read_with}
use Rattle.spread.proofs.AdmittedLemmas.{wide_is_small, all_kept, none_kept, in_its_part, part_opens, admitted_is_spread}

-- ---- a line behind a text

module _ (shape : Shape) (narrow : List Item) (text line : List ℕ) (good : IsWideShape shape) (cut : shape_of narrow ≡ cut_shape shape) (short : IsShort (text ++ (line ++ 10 ∷ []))) (is : IsLine line) (ended : unfinished text ≡ []) where
  abbrev whole : List ℕ
  whole = text ++ (line ++ 10 ∷ [])

  abbrev now : Reading Read
  now = word_reading shape text

  abbrev next : Reading Read
  next = next_line (word_reader shape) now line

  more_lines : whole_lines whole ≡ whole_lines text ++ line ∷ []
  more_lines = whole_lines-line_end text line is ∙ ap (λ (l : List ℕ). whole_lines text ++ (l ++ line) ∷ []) ended

  pub few : length (whole_lines text) + 1 ≤ 2 ^ 44
  few = omega (arith, short, ap length more_lines, length-append (whole_lines text) (line ∷ []))

  pub next_reading : word_reading shape whole ≡ next
  unfolding reading
  next_reading = ap (lines_behind (word_reader shape) (so_far 0 nothing_read)) more_lines ∙ lines_append (word_reader shape) (so_far 0 nothing_read) (whole_lines text) (line ∷ [])

  pub next_passing : passing_text shape whole ≡ passing_text shape text ++ text_of_lines (passing_behind shape now.read.place line now.refused)
  unfolding reading
  next_passing =
      ap (λ (ls : List (List ℕ)). text_of_lines (passing_lines shape (so_far 0 nothing_read) ls)) more_lines
      ∙ (ap text_of_lines (lines_by-more shape (λ g l. passing_behind shape g.read.place l g.refused) (so_far 0 nothing_read) (whole_lines text) line)
      ∙ text_of_both (passing_lines shape (so_far 0 nothing_read) (whole_lines text)) (passing_behind shape now.read.place line now.refused))

  pub next_spread : spread_text shape whole ≡ spread_text shape text ++ text_of_lines (admitted_line shape now.read.place line next.refused)
  unfolding reading spread_text
  next_spread =
      let going : Reading Read → List ℕ → List (List ℕ) = λ g l. admitted_line shape g.read.place l (next_line (word_reader shape) g l).refused in
      ap (λ (ls : List (List ℕ)). text_of_lines (lines_by shape going (so_far 0 nothing_read) ls)) more_lines
      ∙ (ap text_of_lines (lines_by-more shape going (so_far 0 nothing_read) (whole_lines text) line) ∙ text_of_both (lines_by shape going (so_far 0 nothing_read) (whole_lines text)) (admitted_line shape now.read.place line next.refused))

  pub ended_again : unfinished whole ≡ []
  ended_again = unfinished-line_end text line

  small : IsSmall shape
  small = wide_is_small shape good

  opens : Opens shape now.read now.read.place
  unfolding reading
  opens =
      holds_behind (word_reader shape) (λ n r. Opens shape r r.place) (λ n r s l h o. admitted_opens shape small.states small.inputs r s l h o) (so_far 0 nothing_read) (whole_lines text) refl

  pub passes : Passes shape 0 nothing_read now (whole_lines text) (passing_lines shape (so_far 0 nothing_read) (whole_lines text))
  unfolding reading
  passes = all_pass shape good small.states small.inputs 0 0 nothing_read (whole_lines text) (omega (arith, few)) (omega (arith, few)) refl

  abbrev fed : List (List ℕ)
  fed = passing_lines shape (so_far 0 nothing_read) (whole_lines text)

  -- what the judge of the fitted model has read
  pub narrow_reading : word_reading (shape_of narrow) (passing_text shape text) ≡ split_reading shape passes.count now
  unfolding reading
  narrow_reading =
      ap (λ (s : Shape). word_reading s (passing_text shape text)) cut
      ∙ (ap (lines_behind (word_reader (cut_shape shape)) (so_far 0 nothing_read)) (lines_of_text fed (each_passing shape good small (so_far 0 nothing_read) (whole_lines text) (lines_are_lines text))) ∙ passes.is)

  pub ended_narrow : unfinished (passing_text shape text) ≡ []
  ended_narrow = unfinished_of_text fed

  pub admitted_few : now.admitted ≤ length (whole_lines text)
  unfolding reading
  admitted_few = few_lines shape (whole_lines text) (goes (word_reader shape) 0 nothing_read (whole_lines text) (omega arith))

  -- what is known behind the line: it is admitted, or refused
  pub record IsAdmitted (n m : ℕ) (out : List (List ℕ)) : Type 0 where
    pub read : Read
    pub more : m ≡ n → ⊥
    pub goes_to : next ≡ so_far (now.admitted + 1) read
    pub puts : out ≡ admitted_line shape now.read.place line next.refused
    pub opened : part_behind (part_at now.read.place) line ≡ part_at read.place

  pub record IsRefused (n m : ℕ) (out : List (List ℕ)) : Type 0 where
    pub why : Why
    pub same : m ≡ n
    pub goes_to : next ≡ stopped now.admitted now.read why
    pub puts : out ≡ admitted_line shape now.read.place line next.refused

  module _ (n m : ℕ) (out lines : List (List ℕ)) (each : EachLine lines) (lines_are : lines ≡ passing_at shape now.read.place line) (none : now.refused ≡ None)
      (keeps : out ≡ kept_lines (shape_of narrow) (word_reading (shape_of narrow) (passing_text shape text)) lines)
      (counts : n ≡ admitted_word_lines (shape_of narrow) (passing_text shape text)) (counts_then : m ≡ admitted_word_lines (shape_of narrow) (passing_text shape text ++ text_of_lines lines)) where
    was : now ≡ so_far now.admitted now.read
    was = ap (λ (o : Option Why). record { admitted = now.admitted; read = now.read; refused = o }) none

    before_is : word_reading (shape_of narrow) (passing_text shape text) ≡ so_far passes.count (split_read shape now.read)
    before_is = narrow_reading ∙ ap (λ (o : Option Why). record { admitted = passes.count; read = split_read shape now.read; refused = o }) none

    first : n ≡ passes.count
    first = counts ∙ ap (λ (g : Reading Read). g.admitted) before_is

    behind_is : m ≡ (lines_behind (word_reader (cut_shape shape)) (so_far passes.count (split_read shape now.read)) (passing_at shape now.read.place line)).admitted
    behind_is =
        counts_then
        ∙ (ap (λ (g : Reading Read). g.admitted) (read_with (passing_text shape text) ended_narrow (shape_of narrow) lines each)
        ∙ (ap₂ (λ (g : Reading Read) (ls : List (List ℕ)). (lines_behind (word_reader (shape_of narrow)) g ls).admitted) before_is lines_are
        ∙ ap (λ (s : Shape). (lines_behind (word_reader s) (so_far passes.count (split_read shape now.read)) (passing_at shape now.read.place line)).admitted) cut))

    out_is : out ≡ kept_lines (cut_shape shape) (so_far passes.count (split_read shape now.read)) (passing_at shape now.read.place line)
    out_is =
        keeps ∙ (ap₂ (λ (g : Reading Read) (ls : List (List ℕ)). kept_lines (shape_of narrow) g ls) before_is lines_are
        ∙ ap (λ (s : Shape). kept_lines s (so_far passes.count (split_read shape now.read)) (passing_at shape now.read.place line)) cut)

    pub line_goes_on : IsAdmitted n m out ⊎ IsRefused n m out
    line_goes_on = by (admit shape now.read line) refl (line_goes shape good passes.count now.read line (omega (arith, few, passes.few)) opens)
      where
        room : now.admitted < most_lines
        room = omega (arith, admitted_few, few)

        by : (o : Result Read Why) → admit shape now.read line ≡ o → GoesAlike shape passes.count now.read (passing_at shape now.read.place line) o → IsAdmitted n m out ⊎ IsRefused n m out
        by (Ok r) h (c, (some, (most, read_on))) =
            let step : next ≡ so_far (now.admitted + 1) r = ap (λ (g : Reading Read). next_line (word_reader shape) g line) was ∙ line_admitted (word_reader shape) now.admitted now.read line r room h in
            inl (record {
              read = r;
              more = λ e. omega (arith, e, first, behind_is, some, ap (λ (g : Reading Read). g.admitted) read_on);
              goes_to = step;
              puts = out_is
                  ∙ (all_kept (cut_shape shape) (so_far passes.count (split_read shape now.read)) (passing_at shape now.read.place line) (ap (λ (g : Reading Read). g.refused) read_on)
                  ∙ (sym (admitted_is_spread shape now.read r line h) ∙ ap (admitted_line shape now.read.place line) (sym (ap (λ (g : Reading Read). g.refused) step))));
              opened = part_opens shape good.bads now.read line r h;
            })
        by (Err w) h read_on =
            let step : next ≡ stopped now.admitted now.read w = ap (λ (g : Reading Read). next_line (word_reader shape) g line) was ∙ next_is shape now.admitted now.read line w room h in
            inr (record {
              why = w;
              same = behind_is ∙ (ap (λ (g : Reading Read). g.admitted) read_on ∙ sym first);
              goes_to = step;
              puts = out_is
                  ∙ (none_kept (cut_shape shape) (so_far passes.count (split_read shape now.read)) (passing_at shape now.read.place line) (ap (λ (g : Reading Read). g.admitted) read_on)
                  ∙ ap (admitted_line shape now.read.place line) (sym (ap (λ (g : Reading Read). g.refused) step)));
            })

-- ---- a spreader

stays_refused : (shape : Shape) (text line : List ℕ) (w : Why) → (word_reading shape text).refused ≡ Some w → next_line (word_reader shape) (word_reading shape text) line ≡ word_reading shape text
unfolding next_line
stays_refused shape text line w e = rw e refl

module _ {K : Type 0} (written : K → Option (List ℕ)) (failures : K → ℕ) (s : K) (p : Pen) (before : Spreader) (line : List ℕ) (is : IsLine line) where
  -- behind a refused line it takes none
  pub takes_none : before.refused ≡ true → Takes written failures s s p p before before line
  takes_none refused =
      record {
        out = [];
        writes = writes_none;
        takes = λ shape narrow text good cut short h.
            let some = some_refusal (word_reading shape text).refused (sym h.refused ∙ refused) in
            let same : next_line (word_reader shape) (word_reading shape text) line ≡ word_reading shape text = stays_refused shape text line some.0 some.1 in
            let whole : List ℕ = text ++ (line ++ 10 ∷ []) in
            let reads : word_reading shape whole ≡ word_reading shape text = next_reading shape narrow text line good cut short is h.ended ∙ same in
            let passing : passing_text shape whole ≡ passing_text shape text =
            next_passing shape narrow text line good cut short is h.ended ∙ (ap (λ (o : Option Why). passing_text shape text ++ text_of_lines (passing_behind shape (word_reading shape text).read.place line o)) some.1 ∙ append-nil (passing_text shape text)) in
            let spread : spread_text shape whole ≡ spread_text shape text ++ [] =
            next_spread shape narrow text line good cut short is h.ended ∙ ap (λ (o : Option Why). spread_text shape text ++ text_of_lines (admitted_line shape (word_reading shape text).read.place line o)) (ap (λ (g : Reading Read). g.refused) same ∙ some.1) in (
              record {
                judge = subst (StandsForWitness narrow before.judge) (sym passing) h.judge;
                states = h.states;
                inputs = h.inputs;
                admitted = h.admitted ∙ ap (λ (g : Reading Read). g.admitted) (sym reads);
                refused = h.refused ∙ ap (λ (g : Reading Read). is_some g.refused) (sym reads);
                part = λ e. absurd (cc (e, refused));
                ended = ended_again shape narrow text line good cut short is h.ended;
              },
              spread,
            );
      }

  module _ {t : K} {q : Pen} (judge : WordJudge) (gives : Gives written failures s t p q before.judge judge (passing_in_part before.states before.inputs before.part line)) (n m : ℕ) (none : before.refused ≡ false)
      (counts : (items : List Item) (text : List ℕ) → StandsForWitness items before.judge text → n ≡ admitted_word_lines (shape_of items) text)
      (counts_then : (items : List Item) (text : List ℕ) → StandsForWitness items judge text → m ≡ admitted_word_lines (shape_of items) text) where
    module _ (shape : Shape) (narrow : List Item) (text : List ℕ) (good : IsWideShape shape) (cut : shape_of narrow ≡ cut_shape shape) (short : IsShort (text ++ (line ++ 10 ∷ []))) (h : StandsFor shape narrow before text) where
      abbrev lines : List (List ℕ)
      lines = passing_in_part before.states before.inputs before.part line

      abbrev at : Place
      at = (word_reading shape text).read.place

      not_refused : (word_reading shape text).refused ≡ None
      not_refused = no_refusal (word_reading shape text).refused (sym h.refused ∙ none)

      lines_are : lines ≡ passing_at shape at line
      lines_are =
          ap (λ (l : List ℕ). passing_in_part l before.inputs before.part line) h.states
          ∙ (ap (λ (l : List ℕ). passing_in_part shape.states l before.part line) h.inputs ∙ (ap (λ (o : Part). passing_in_part shape.states shape.inputs o line) (h.part none) ∙ in_its_part shape at line))

      judge_then : StandsForWitness narrow judge (passing_text shape text ++ text_of_lines lines)
      judge_then = gives.takes narrow (passing_text shape text) h.judge

      goes_on : IsAdmitted shape narrow text line good cut short is h.ended n m gives.out ⊎ IsRefused shape narrow text line good cut short is h.ended n m gives.out
      goes_on =
          line_goes_on shape narrow text line good cut short is h.ended n m gives.out lines gives.each lines_are not_refused
          (gives.keeps narrow (passing_text shape text) h.judge (ended_narrow shape narrow text line good cut short is h.ended)) (counts narrow (passing_text shape text) h.judge) (counts_then narrow (passing_text shape text ++ text_of_lines lines) judge_then)

      stands_then : StandsForWitness narrow judge (passing_text shape (text ++ (line ++ 10 ∷ [])))
      stands_then =
          subst (StandsForWitness narrow judge)
          (ap (λ (ls : List (List ℕ)). passing_text shape text ++ text_of_lines ls) (lines_are ∙ ap (passing_behind shape at line) (sym not_refused)) ∙ sym (next_passing shape narrow text line good cut short is h.ended)) judge_then

      reads_then : word_reading shape (text ++ (line ++ 10 ∷ [])) ≡ next_line (word_reader shape) (word_reading shape text) line
      reads_then = next_reading shape narrow text line good cut short is h.ended

      abbrev Then : Spreader → Type 0
      Then after = StandsFor shape narrow after (text ++ (line ++ 10 ∷ [])) × (spread_text shape (text ++ (line ++ 10 ∷ [])) ≡ spread_text shape text ++ text_of_lines gives.out)

      spread_then : gives.out ≡ admitted_line shape at line (next_line (word_reader shape) (word_reading shape text) line).refused → spread_text shape (text ++ (line ++ 10 ∷ [])) ≡ spread_text shape text ++ text_of_lines gives.out
      spread_then puts = next_spread shape narrow text line good cut short is h.ended ∙ ap (λ (ls : List (List ℕ)). spread_text shape text ++ text_of_lines ls) (sym puts)

      refused_then : m ≡ n → Then (record before { judge = judge; refused = true })
      refused_then same =
          elim goes_on [
            | inl e ↦ absurd (e.more same)
            | inr e ↦
                let reads = reads_then ∙ e.goes_to in (
                  record {
                    judge = stands_then;
                    states = h.states;
                    inputs = h.inputs;
                    admitted = h.admitted ∙ ap (λ (g : Reading Read). g.admitted) (sym reads);
                    refused = ap (λ (g : Reading Read). is_some g.refused) (sym reads);
                    part = λ f. absurd cc;
                    ended = ended_again shape narrow text line good cut short is h.ended;
                  },
                  spread_then e.puts,
                )
          ]

      admitted_then : (m ≡ n → ⊥) → (number : ℕ) → number ≡ min (before.admitted + 1) (2 ^ 64 - 1) → Then (record before { judge = judge; part = part_behind before.part line; admitted = number })
      admitted_then other number is_number =
          elim goes_on [
            | inl e ↦
                let reads = reads_then ∙ e.goes_to in
                let one_more : number ≡ (word_reading shape text).admitted + 1 = omega (arith, is_number, h.admitted, admitted_few shape narrow text line good cut short is h.ended, few shape narrow text line good cut short is h.ended) in (
                  record {
                    judge = stands_then;
                    states = h.states;
                    inputs = h.inputs;
                    admitted = one_more ∙ ap (λ (g : Reading Read). g.admitted) (sym reads);
                    refused = none ∙ ap (λ (g : Reading Read). is_some g.refused) (sym reads);
                    part = λ f. ap (λ (o : Part). part_behind o line) (h.part none) ∙ (e.opened ∙ ap (λ (g : Reading Read). part_at g.read.place) (sym reads));
                    ended = ended_again shape narrow text line good cut short is h.ended;
                  },
                  spread_then e.puts,
                )
            | inr e ↦ absurd (other e.same)
          ]

    pub takes_refused : m ≡ n → Takes written failures s t p q before (record before { judge = judge; refused = true }) line
    takes_refused same = record { out = text_of_lines gives.out; writes = gives.writes; takes = λ shape narrow text good cut short h. refused_then shape narrow text good cut short h same }

    pub takes_admitted : (m ≡ n → ⊥) → (number : ℕ) → number ≡ min (before.admitted + 1) (2 ^ 64 - 1) → Takes written failures s t p q before (record before { judge = judge; part = part_behind before.part line; admitted = number }) line
    takes_admitted other number is_number = record { out = text_of_lines gives.out; writes = gives.writes; takes = λ shape narrow text good cut short h. admitted_then shape narrow text good cut short h other number is_number }

-- ---- the whole text

-- nothing was taken
pub nothing_taken : (shape : Shape) (narrow : List Item) (judge : WordJudge) (states inputs : List ℕ) → StandsForWitness narrow judge [] → states ≡ shape.states → inputs ≡ shape.inputs
    → StandsFor shape narrow (record { judge = judge; states = states; inputs = inputs; part = part.Outside; admitted = 0; refused = false }) []
unfolding reading
nothing_taken shape narrow judge states inputs stands are also = record { judge = stands; states = are; inputs = also; admitted = refl; refused = refl; part = λ e. refl; ended = refl }

pub rest_taken : (shape : Shape) (narrow : List Item) (text rest : List ℕ) (before : Spreader) (judge : WordJudge) → IsLine rest → StandsFor shape narrow before text
    → ((items : List Item) (t : List ℕ) → StandsForWitness items before.judge t → StandsForWitness items judge (t ++ rest)) → EndsFor shape narrow (record before { judge = judge }) (text ++ rest)
unfolding reading
rest_taken shape narrow text rest before judge is h takes =
    let lines : whole_lines (text ++ rest) ≡ whole_lines text = whole_lines-part text rest is in
    let last : unfinished (text ++ rest) ≡ rest = unfinished-part text rest is ∙ ap (λ (l : List ℕ). l ++ rest) h.ended in
    let passing : passing_text shape text ≡ passing_text shape (text ++ rest) = ap (λ (ls : List (List ℕ)). text_of_lines (passing_lines shape (so_far 0 nothing_read) ls)) (sym lines) in
    record {
      judge = subst (StandsForWitness narrow judge) (ap₂ (λ (a b : List ℕ). a ++ b) passing (sym last)) (takes narrow (passing_text shape text) h.judge);
      states = h.states;
      admitted = h.admitted ∙ ap (λ (ls : List (List ℕ)). (lines_read (word_reader shape) ls).admitted) (sym lines);
    }

-- the number of the line that is not admitted
pub line_number : (shape : Shape) (text : List ℕ) (n line : ℕ) → n ≡ (word_reading shape text).admitted → line ≡ min (n + 1) (2 ^ 64 - 1) → line ≡ (word_reading shape text).admitted + 1
unfolding reading
line_number shape text n line is capped =
    let most = few_read (word_reader shape) (whole_lines text) (goes (word_reader shape) 0 nothing_read (whole_lines text) (omega arith)) in
    omega (arith, is, capped, most)
