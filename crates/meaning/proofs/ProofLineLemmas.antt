-- Lines of a proof's text: the first in which reading halts.
use Rattle.std.proofs.Common.{◌≡◌, ◌≢◌, ℕ, suc, ◌+◌, ◌<◌, ◌≤◌, nat_lt, ◌==◌, Bool, true, false, List, [], ◌∷◌, ◌++◌, length, map, Option, Some, None, codes, refl, sym, ap, subst, ◌∙◌, append_assoc, append-nil, inl, inr, ◌⊎◌, arith}
use Rattle.std.specs.Str.{bytes_eq}
use Rattle.std.proofs.lemmas.Bool.{cases_Bool}
use Rattle.std.proofs.lemmas.Bool.Decides.{nat_tests}
use Rattle.base.specs.Lines.{IsLine, text_of_lines, whole_lines, unfinished, line_of, all_lines}
use Rattle.base.specs.Decimals.{number_of}
use Rattle.base.proofs.LineLemmas.{EachLine, whole_lines-line, unfinished-line, whole_lines-lines, unfinished-lines, lines_are_lines, unfinished_is_line, each_front, each_back, parts_of_text}
use Rattle.drup.specs.declared.why.Why.TheVariants as why
use Rattle.drup.specs.Proofs.{ends, variable_numbered, literal_said, token_of, Mark, mark, is_proof_comment, proof_words, most_proof_lines, line_marks, lines_marks, ProofFault, ProofReading, has_begun, reading_from, read_text_proof}
use Rattle.meaning.specs.Proofs.{BeginsProof, IsFirstFaultyLine, EndsWithinStep}
use Rattle.meaning.proofs.MarkLemmas.{with_steps, steps_twice, AreOf, IsNotCut, AreNotCut, Goes, Halts, marks_view}

-- ---- marks of a line

words_of : (n variables : ℕ) (words : List (List ℕ)) → AreOf n (map (λ word. mark n (token_of variables word)) words)
words_of n variables [] = tt
words_of n variables (word ∷ words) = (refl, words_of n variables words)

marks_of : (n variables : ℕ) (line : List ℕ) → AreOf n (line_marks variables n line)
marks_of n variables line =
    elim (cases_Bool (nat_lt most_proof_lines n)) [
      | inl long ↦ rw long (refl, tt)
      | inr short ↦
          elim (cases_Bool (is_proof_comment line)) [
            | inl comment ↦ rw (short, comment) tt
            | inr words ↦ rw (short, words) (words_of n variables (proof_words line))
          ]
    ]

variable_not_cut : (variables sign : ℕ) (n : Option ℕ) → IsNotCut (variable_numbered variables sign n)
variable_not_cut variables sign None = λ e. cc
variable_not_cut variables sign (Some n) =
    elim (cases_Bool (n == 0)) [
      | inl zero' ↦ rw zero' (λ e. cc)
      | inr some ↦
          elim (cases_Bool (nat_lt variables n)) [
            | inl large ↦ rw (some, large) (λ e. cc)
            | inr small ↦ rw (some, small) tt
          ]
    ]

literal_not_cut : (variables : ℕ) (word : List ℕ) → IsNotCut (literal_said variables word)
literal_not_cut variables [] = λ e. cc
literal_not_cut variables (b ∷ bs) =
    elim (cases_Bool (b == 45)) [
      | inl minus ↦ rw minus (variable_not_cut variables 1 (number_of bs))
      | inr plain ↦ rw plain (variable_not_cut variables 0 (number_of (b ∷ bs)))
    ]

token_not_cut : (variables : ℕ) (word : List ℕ) → IsNotCut (token_of variables word)
token_not_cut variables word =
    elim (cases_Bool (bytes_eq word (codes "0"))) [
      | inl end ↦ rw end tt
      | inr other ↦
          elim (cases_Bool (bytes_eq word (codes "d"))) [
            | inl delete ↦ rw (other, delete) tt
            | inr word' ↦ rw (other, word') (literal_not_cut variables word)
          ]
    ]

words_not_cut : (n variables : ℕ) (words : List (List ℕ)) → AreNotCut (map (λ word. mark n (token_of variables word)) words)
words_not_cut n variables [] = tt
words_not_cut n variables (word ∷ words) = (token_not_cut variables word, words_not_cut n variables words)

line_not_cut : (n variables : ℕ) (line : List ℕ) → AreNotCut (line_marks variables n line)
line_not_cut n variables line =
    elim (cases_Bool (nat_lt most_proof_lines n)) [
      | inl long ↦ rw long (λ e. cc, tt)
      | inr short ↦
          elim (cases_Bool (is_proof_comment line)) [
            | inl comment ↦ rw (short, comment) tt
            | inr words ↦ rw (short, words) (words_not_cut n variables (proof_words line))
          ]
    ]

-- ---- lines

pub marks_both : (variables n : ℕ) (xs ys : List (List ℕ)) → lines_marks variables n (xs ++ ys) ≡ lines_marks variables n xs ++ lines_marks variables (n + length xs) ys
marks_both variables n [] ys = let same : n + 0 ≡ n = omega arith in ap (λ (m : ℕ). lines_marks variables m ys) (sym same)
marks_both variables n (x ∷ xs) ys =
    let same : suc n + length xs ≡ n + suc (length xs) = omega arith in
    ap (λ (l : List Mark). line_marks variables n x ++ l) (marks_both variables (suc n) xs ys ∙ ap (λ (m : ℕ). lines_marks variables (suc n) xs ++ lines_marks variables m ys) same)
    ∙ sym (append_assoc (line_marks variables n x) (lines_marks variables (suc n) xs) (lines_marks variables (n + suc (length xs)) ys))

pub goes_both : (deleting : Bool) (clause : List ℕ) (xs ys : List Mark) (g : Goes deleting clause xs) → Goes g.deleting' g.clause' ys → Goes deleting clause (xs ++ ys)
goes_both deleting clause xs ys g h =
    record {
      steps = g.steps ++ h.steps;
      deleting' = h.deleting';
      clause' = h.clause';
      is = λ last back.
          ap (reading_from last deleting clause) (append_assoc xs ys back) ∙ g.is last (ys ++ back) ∙ ap (with_steps g.steps) (h.is last back) ∙ steps_twice g.steps h.steps (reading_from last h.deleting' h.clause' back);
    }

pub record FirstHalt (variables n : ℕ) (deleting : Bool) (clause : List ℕ) (lines : List (List ℕ)) : Type 0 where
  pub before : List (List ℕ)
  pub line : List ℕ
  pub behind : List (List ℕ)
  pub parts : lines ≡ before ++ line ∷ behind
  pub goes : Goes deleting clause (lines_marks variables n before)
  pub number : ℕ
  pub is : number ≡ n + length before
  pub halts : Halts goes.deleting' goes.clause' (line_marks variables number line)

pub lines_view : (variables n : ℕ) (deleting : Bool) (clause : List ℕ) (lines : List (List ℕ)) → Goes deleting clause (lines_marks variables n lines) ⊎ FirstHalt variables n deleting clause lines
unfolding goes_both
lines_view variables n deleting clause [] = inl (record { steps = []; deleting' = deleting; clause' = clause; is = λ last back. refl })
lines_view variables n deleting clause (line ∷ lines) =
    elim (marks_view deleting clause (line_marks variables n line)) [
      | inr h ↦
          inr (
          record {
            before = [];
            line = line;
            behind = lines;
            parts = refl;
            goes = record { steps = []; deleting' = deleting; clause' = clause; is = λ last back. refl };
            number = n;
            is = omega arith;
            halts = h;
          }
          )
      | inl g ↦
          elim (lines_view variables (suc n) g.deleting' g.clause' lines) [
            | inl more ↦ inl (goes_both deleting clause (line_marks variables n line) (lines_marks variables (suc n) lines) g more)
            | inr f ↦
                inr (
                record {
                  before = line ∷ f.before;
                  line = f.line;
                  behind = f.behind;
                  parts = ap (λ (l : List (List ℕ)). line ∷ l) f.parts;
                  goes = goes_both deleting clause (line_marks variables n line) (lines_marks variables (suc n) f.before) g f.goes;
                  number = f.number;
                  is = omega (arith, f.is);
                  halts = f.halts;
                }
                )
          ]
    ]

-- what is read of lines that begin with these
halted : (variables : ℕ) (lines : List (List ℕ)) (f : FirstHalt variables 1 false [] lines) (last : ℕ) (others : List (List ℕ))
    → reading_from last false [] (lines_marks variables 1 (f.before ++ f.line ∷ others)) ≡ record { steps = f.goes.steps ++ f.halts.steps; fault = Some f.halts.fault }
halted variables lines f last others =
    let marks : lines_marks variables 1 (f.before ++ f.line ∷ others) ≡ lines_marks variables 1 f.before ++ (line_marks variables f.number f.line ++ lines_marks variables (suc f.number) others) =
    marks_both variables 1 f.before (f.line ∷ others) ∙ ap (λ (n : ℕ). lines_marks variables 1 f.before ++ (line_marks variables n f.line ++ lines_marks variables (suc n) others)) (sym f.is) in
    ap (reading_from last false []) marks ∙ f.goes.is last (line_marks variables f.number f.line ++ lines_marks variables (suc f.number) others)
    ∙ ap (with_steps f.goes.steps) (f.halts.is last (lines_marks variables (suc f.number) others))

-- ---- texts

pub lines_before : (lines : List (List ℕ)) (rest : List ℕ) → EachLine lines → all_lines (text_of_lines lines ++ rest) ≡ lines ++ all_lines rest
lines_before lines rest each =
    ap (λ (l : List (List ℕ)). l ++ line_of (unfinished (text_of_lines lines ++ rest))) (whole_lines-lines lines rest each)
    ∙ ap (λ (u : List ℕ). (lines ++ whole_lines rest) ++ line_of u) (unfinished-lines lines rest) ∙ append_assoc lines (whole_lines rest) (line_of (unfinished rest))

each_both : (xs ys : List (List ℕ)) → EachLine xs → EachLine ys → EachLine (xs ++ ys)
each_both [] ys x y = y
each_both (l ∷ xs) ys x y = (x.0, each_both xs ys x.1 y)

last_line : (bytes : List ℕ) → IsLine bytes → EachLine (line_of bytes)
last_line [] is = tt
last_line (b ∷ bs) is = (is, tt)

pub each_of_text : (text : List ℕ) → EachLine (all_lines text)
each_of_text text = each_both (whole_lines text) (line_of (unfinished text)) (lines_are_lines text) (last_line (unfinished text) (unfinished_is_line text))

-- ---- the first faulty line

-- lines that go on begin a text without a fault: nothing more, or `0` where a step has begun
pub goes_on : (variables : ℕ) (lines : List (List ℕ)) → EachLine lines → Goes false [] (lines_marks variables 1 lines) → length lines < most_proof_lines → BeginsProof variables (text_of_lines lines)
goes_on variables lines each g few =
    elim (cases_Bool (has_begun g.deleting' g.clause')) [
      | inr none ↦ record { more = []; whole = ap (λ (r : ProofReading). r.fault) (reads [] [] refl) ∙ rw none refl }
      | inl begun ↦ record { more = 48 ∷ 10 ∷ []; whole = ap (λ (r : ProofReading). r.fault) (reads (48 ∷ 10 ∷ []) (mark (1 + length lines) ends ∷ []) end) ∙ refl }
    ]
  where
    reads : (more : List ℕ) (marks : List Mark) → lines_marks variables (1 + length lines) (all_lines more) ≡ marks
        → read_text_proof variables (text_of_lines lines ++ more) ≡ with_steps g.steps (reading_from (suc (length (whole_lines (text_of_lines lines ++ more)))) g.deleting' g.clause' marks)
    reads more marks is =
        let last : ℕ = suc (length (whole_lines (text_of_lines lines ++ more))) in
        ap (λ (ls : List (List ℕ)). reading_from last false [] (lines_marks variables 1 ls)) (lines_before lines more each)
        ∙ ap (reading_from last false []) (marks_both variables 1 lines (all_lines more) ∙ ap (λ (ms : List Mark). lines_marks variables 1 lines ++ ms) is) ∙ g.is last marks

    end : lines_marks variables (1 + length lines) (all_lines (48 ∷ 10 ∷ [])) ≡ mark (1 + length lines) ends ∷ []
    end = let low : nat_lt most_proof_lines (1 + length lines) ≡ false = grind (arith, nat_tests) in rw low refl

-- what a text reads as whose lines begin with those up to the one that halts
halted_text : (variables : ℕ) (lines : List (List ℕ)) (f : FirstHalt variables 1 false [] lines) (text : List ℕ) (others : List (List ℕ)) → all_lines text ≡ f.before ++ f.line ∷ others
    → read_text_proof variables text ≡ record { steps = f.goes.steps ++ f.halts.steps; fault = Some f.halts.fault }
halted_text variables lines f text others is =
    ap (λ (ls : List (List ℕ)). reading_from (suc (length (whole_lines text))) false [] (lines_marks variables 1 ls)) is ∙ halted variables lines f (suc (length (whole_lines text))) others

pub same_fault : (x y : ProofFault) → ◌≡◌ {A = Option ProofFault} (Some x) (Some y) → x ≡ y
same_fault x y e = cc

pub no_fault : (x : ProofFault) → ◌≡◌ {A = Option ProofFault} (Some x) None → ⊥
no_fault x e = cc

at_line : (variables : ℕ) (text : List ℕ) (e : ProofFault) → (read_text_proof variables text).fault ≡ Some e → FirstHalt variables 1 false [] (all_lines text) → IsFirstFaultyLine variables text e.line
at_line variables text e told f =
    let here = halted_text variables (all_lines text) f text f.behind f.parts in
    let fault : f.halts.fault ≡ e = same_fault f.halts.fault e (sym (ap (λ (r : ProofReading). r.fault) here) ∙ told) in
    let line : f.halts.fault.line ≡ f.number = f.halts.number f.number (marks_of f.number variables f.line) in
    record {
      before = f.before;
      line = f.line;
      behind = f.behind;
      lines = f.parts;
      is = omega (arith, f.is, line, ap (λ (x : ProofFault). x.line) fault);
      begins = goes_on variables f.before front f.goes;
      none = λ b. no_fault f.halts.fault (sym (ap (λ (r : ProofReading). r.fault) (with_it b.more)) ∙ b.whole);
      same = λ more. with_it more ∙ sym here;
    }
  where
    each : EachLine (f.before ++ f.line ∷ f.behind)
    each = subst EachLine f.parts (each_of_text text)

    front : EachLine f.before
    front = each_front f.before (f.line ∷ f.behind) each

    both : EachLine (f.before ++ f.line ∷ [])
    both = each_both f.before (f.line ∷ []) front ((each_back f.before (f.line ∷ f.behind) each).0, tt)

    with_it : (more : List ℕ) → read_text_proof variables (text_of_lines (f.before ++ f.line ∷ []) ++ more) ≡ record { steps = f.goes.steps ++ f.halts.steps; fault = Some f.halts.fault }
    with_it more =
        halted_text variables (all_lines text) f (text_of_lines (f.before ++ f.line ∷ []) ++ more) (all_lines more)
        (lines_before (f.before ++ f.line ∷ []) more both ∙ append_assoc f.before (f.line ∷ []) (all_lines more))

-- ---- a text that ends within a step

-- a text that goes on
went_on : (variables : ℕ) (text : List ℕ) (g : Goes false [] (lines_marks variables 1 (all_lines text))) → read_text_proof variables text ≡ with_steps g.steps (reading_from (suc (length (whole_lines text))) g.deleting' g.clause' [])
went_on variables text g =
    ap (reading_from (suc (length (whole_lines text))) false []) (sym (append-nil (lines_marks variables 1 (all_lines text)))) ∙ g.is (suc (length (whole_lines text))) []

ends_within : (last : ℕ) (deleting : Bool) (clause : List ℕ) (e : ProofFault) → (reading_from last deleting clause []).fault ≡ Some e → (has_begun deleting clause ≡ true) × (e.line ≡ last) × (e.why ≡ why.CutOff)
ends_within last deleting clause e is =
    elim (cases_Bool (has_begun deleting clause)) [
      | inl begun ↦
          let same : record { line = last; why = why.CutOff } ≡ e = same_fault (record { line = last; why = why.CutOff }) e (rw begun at is) in
          (begun, ap (λ (x : ProofFault). x.line) (sym same), ap (λ (x : ProofFault). x.why) (sym same))
      | inr none ↦ let nothing : None ≡ Some e = rw none at is in absurd (no_fault e (sym nothing))
    ]

pub first_faulty_line : (variables : ℕ) (text : List ℕ) (e : ProofFault) → (read_text_proof variables text).fault ≡ Some e → e.why ≢ why.CutOff → IsFirstFaultyLine variables text e.line
first_faulty_line variables text e told cut =
    elim (lines_view variables 1 false [] (all_lines text)) [
      | inr f ↦ at_line variables text e told f
      | inl g ↦ absurd (cut (ends_within (suc (length (whole_lines text))) g.deleting' g.clause' e (sym (ap (λ (r : ProofReading). r.fault) (went_on variables text g)) ∙ told)).2)
    ]

-- the marks of what is unfinished are those of a line
unfinished_marks : (variables n : ℕ) (bytes : List ℕ) → n ≤ most_proof_lines → line_marks variables n bytes ≡ lines_marks variables n (line_of bytes)
unfinished_marks variables n [] few = let low : nat_lt most_proof_lines n ≡ false = grind (arith, nat_tests) in rw low refl
unfinished_marks variables n (b ∷ bs) few = sym (append-nil (line_marks variables n (b ∷ bs)))

module _ (variables : ℕ) (text : List ℕ) (few : length (whole_lines text) + 2 ≤ most_proof_lines) where
  -- with the end of a line, and `0` on another
  abbrev ended_text : List ℕ
  ended_text = text ++ 10 ∷ 48 ∷ 10 ∷ []

  ended_lines : all_lines ended_text ≡ whole_lines text ++ unfinished text ∷ (48 ∷ []) ∷ []
  ended_lines =
      let u : List ℕ = unfinished text in
      let same : ended_text ≡ text_of_lines (whole_lines text) ++ (u ++ 10 ∷ 48 ∷ 10 ∷ []) =
      ap (λ (t : List ℕ). t ++ 10 ∷ 48 ∷ 10 ∷ []) (sym (parts_of_text text)) ∙ append_assoc (text_of_lines (whole_lines text)) u (10 ∷ 48 ∷ 10 ∷ []) in
      let last : all_lines (u ++ 10 ∷ 48 ∷ 10 ∷ []) ≡ u ∷ (48 ∷ []) ∷ [] =
      ap (λ (l : List (List ℕ)). l ++ line_of (unfinished (u ++ 10 ∷ 48 ∷ 10 ∷ []))) (whole_lines-line u (48 ∷ 10 ∷ []) (unfinished_is_line text))
      ∙ ap (λ (b : List ℕ). (u ∷ (48 ∷ []) ∷ []) ++ line_of b) (unfinished-line u (48 ∷ 10 ∷ [])) in
      ap all_lines same ∙ lines_before (whole_lines text) (u ++ 10 ∷ 48 ∷ 10 ∷ []) (lines_are_lines text) ∙ ap (λ (l : List (List ℕ)). whole_lines text ++ l) last

  abbrev end_mark : Mark
  end_mark = mark (suc (1 + length (whole_lines text))) ends

  ended_marks : lines_marks variables 1 (all_lines ended_text) ≡ lines_marks variables 1 (all_lines text) ++ end_mark ∷ []
  ended_marks =
      let n : ℕ = 1 + length (whole_lines text) in
      let front : List Mark = lines_marks variables 1 (whole_lines text) in
      let first : line_marks variables n (unfinished text) ≡ lines_marks variables n (line_of (unfinished text)) = unfinished_marks variables n (unfinished text) (omega (arith, few)) in
      let low : nat_lt most_proof_lines (suc n) ≡ false = below (suc n) (omega (arith, few)) in
      let second : lines_marks variables (suc n) ((48 ∷ []) ∷ []) ≡ end_mark ∷ [] = rw low refl in
      ap (lines_marks variables 1) ended_lines ∙ marks_both variables 1 (whole_lines text) (unfinished text ∷ (48 ∷ []) ∷ [])
      ∙ ap (λ (l : List Mark). front ++ (l ++ lines_marks variables (suc n) ((48 ∷ []) ∷ []))) first
      ∙ ap (λ (l : List Mark). front ++ (lines_marks variables n (line_of (unfinished text)) ++ l)) second
      ∙ sym (append_assoc front (lines_marks variables n (line_of (unfinished text))) (end_mark ∷ []))
      ∙ ap (λ (l : List Mark). l ++ end_mark ∷ []) (sym (marks_both variables 1 (whole_lines text) (line_of (unfinished text))))
    where
      below : (n : ℕ) → n ≤ most_proof_lines → nat_lt most_proof_lines n ≡ false
      below n le = grind (arith, nat_tests)

  step_ended : Goes false [] (lines_marks variables 1 (all_lines text)) → BeginsProof variables text
  step_ended g =
      let last : ℕ = suc (length (whole_lines ended_text)) in
      record { more = 10 ∷ 48 ∷ 10 ∷ []; whole = ap (λ (r : ProofReading). r.fault) (ap (reading_from last false []) ended_marks ∙ g.is last (end_mark ∷ [])) }

pub ends_within_step : (variables : ℕ) (text : List ℕ) (e : ProofFault) → (read_text_proof variables text).fault ≡ Some e → e.why ≡ why.CutOff → EndsWithinStep variables text e.line
ends_within_step variables text e told cut =
    elim (lines_view variables 1 false [] (all_lines text)) [
      | inr f ↦
          let fault : f.halts.fault ≡ e = same_fault f.halts.fault e (sym (ap (λ (r : ProofReading). r.fault) (halted_text variables (all_lines text) f text f.behind f.parts)) ∙ told) in
          absurd (f.halts.not_cut (line_not_cut f.number variables f.line) (ap (λ (x : ProofFault). x.why) fault ∙ cut))
      | inl g ↦
          let last : ℕ = suc (length (whole_lines text)) in
          let within = ends_within last g.deleting' g.clause' e (sym (ap (λ (r : ProofReading). r.fault) (went_on variables text g)) ∙ told) in
          record { is = sym within.1; begins = λ few. step_ended variables text few g }
    ]
