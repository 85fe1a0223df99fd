-- Lines that are given to a judge, one after the other.
use Rattle.std.proofs.Common.{◌≡◌, ℕ, ◌+◌, ◌<◌, ◌^◌, ◌==◌, decimal, nat_le, true, false, cond, List, [], ◌∷◌, ◌++◌, Option, Some, None, Result, Ok, Err, append_assoc, append-nil, inl, inr, ◌⊎◌, refl, sym, ap, ap₂, subst, ◌∙◌, arith}
use Rattle.std.proofs.lemmas.List.Concat.{flat_map-append}
use Rattle.std.proofs.lemmas.List.Folds.{list_any-append}
use Rattle.std.proofs.lemmas.Bool.{or_from}
use Rattle.base.proofs.DecimalLemmas.{decimal_without}
use Rattle.base.specs.declared.pen.Pen.{Pen}
use Rattle.base.specs.Lines.{IsLine, text_of_lines, whole_lines, unfinished}
use Rattle.base.specs.Writing.{WritesText}
use Rattle.base.proofs.PenLemmas.{writes_none, writes_then, writes_line}
use Rattle.base.proofs.LineLemmas.{EachLine, lines_of_text, parts_of_text, unfinished-lines}
use Rattle.btor2.specs.declared.item.Item.{Item}
use Rattle.witness.specs.declared.why.Why.{Why}
use Rattle.witness.specs.Texts.{Shape, shape_of, most_lines}
use Rattle.witness.specs.Readings.{Reading, one_more_line, next_line_of, next_line, lines_behind, reading}
use Rattle.witness.specs.declared.why.Why.TheVariants as why
use Rattle.witness.specs.Admits.{Read, admit, word_reader}
use Rattle.witness.specs.ClosedWords.{word_reading, admitted_word_lines}
use Rattle.witness.specs.WordStands.{WordJudge, StandsForWitness}
use Rattle.witness.proofs.ReadingLemmas.{lines_append}
use Rattle.witness.proofs.TextEndLemmas.{lines_behind_text}
use Rattle.witness.specs.Texts.{symbol_part}
use Rattle.spread.specs.Passing.{faulty_rest}
use Rattle.spread.specs.Spread.{lines_by}
use Rattle.spread.specs.Stands.{kept, kept_lines, Gives}

-- ---- lines behind a text that ends with one

pub each_both : (front back : List (List ℕ)) → EachLine front → EachLine back → EachLine (front ++ back)
each_both [] back f b = b
each_both (line ∷ front) back f b = (f.0, each_both front back f.1 b)

pub text_of_both : (front back : List (List ℕ)) → text_of_lines (front ++ back) ≡ text_of_lines front ++ text_of_lines back
text_of_both front back = flat_map-append (λ (line : List ℕ). line ++ 10 ∷ []) front back

module _ (text : List ℕ) (ended : unfinished text ≡ []) where
  own_lines : text ≡ text_of_lines (whole_lines text)
  own_lines = sym (parts_of_text text) ∙ (ap (λ (t : List ℕ). text_of_lines (whole_lines text) ++ t) ended ∙ append-nil (text_of_lines (whole_lines text)))

  pub lines_with : (lines : List (List ℕ)) → EachLine lines → whole_lines (text ++ text_of_lines lines) ≡ whole_lines text ++ lines
  lines_with lines each =
      lines_behind_text text (text_of_lines lines) ∙ ap (λ (ls : List (List ℕ)). whole_lines text ++ ls) (ap (λ (t : List ℕ). whole_lines (t ++ text_of_lines lines)) ended ∙ lines_of_text lines each)

  pub ended_with : (lines : List (List ℕ)) → unfinished (text ++ text_of_lines lines) ≡ []
  ended_with lines =
      ap (λ (t : List ℕ). unfinished (t ++ text_of_lines lines)) own_lines
      ∙ (ap unfinished (sym (text_of_both (whole_lines text) lines) ∙ sym (append-nil (text_of_lines (whole_lines text ++ lines)))) ∙ unfinished-lines (whole_lines text ++ lines) [])

  pub read_with : (shape : Shape) (lines : List (List ℕ)) → EachLine lines → word_reading shape (text ++ text_of_lines lines) ≡ lines_behind (word_reader shape) (word_reading shape text) lines
  unfolding reading
  read_with shape lines each = ap (lines_behind (word_reader shape) _) (lines_with lines each) ∙ lines_append (word_reader shape) _ (whole_lines text) lines

pub lines_by-both : (shape : Shape) (going : Reading Read → List ℕ → List (List ℕ)) (g : Reading Read) (front back : List (List ℕ))
    → lines_by shape going g (front ++ back) ≡ lines_by shape going g front ++ lines_by shape going (lines_behind (word_reader shape) g front) back
lines_by-both shape going g [] back = refl
lines_by-both shape going g (line ∷ front) back =
    let next : Reading Read = next_line (word_reader shape) g line in
    ap (λ (ls : List (List ℕ)). going g line ++ ls) (lines_by-both shape going next front back)
    ∙ sym (append_assoc (going g line) (lines_by shape going next front) (lines_by shape going (lines_behind (word_reader shape) next front) back))

-- ---- one line

-- a line is admitted exactly where one more is
pub admitted_or_not : (shape : Shape) (g : Reading Read) (line : List ℕ)
    → (((next_line (word_reader shape) g line).admitted ≡ g.admitted + 1) × ((next_line (word_reader shape) g line).refused ≡ None))
    ⊎ (((next_line (word_reader shape) g line).admitted ≡ g.admitted) × ((w : Why) × ((next_line (word_reader shape) g line).refused ≡ Some w)))
unfolding next_line
admitted_or_not shape g line = by g.refused refl
  where
    by_admit : (o : Result Read Why) → admit shape g.read line ≡ o
        → (((one_more_line g o).admitted ≡ g.admitted + 1) × ((one_more_line g o).refused ≡ None)) ⊎ (((one_more_line g o).admitted ≡ g.admitted) × ((w : Why) × ((one_more_line g o).refused ≡ Some w)))
    by_admit (Ok next) e = inl (refl, refl)
    by_admit (Err w) e = inr (refl, (w, refl))

    by : (o : Option Why) → g.refused ≡ o
        → (((next_line_of (word_reader shape) g line o).admitted ≡ g.admitted + 1) × ((next_line_of (word_reader shape) g line o).refused ≡ None))
        ⊎ (((next_line_of (word_reader shape) g line o).admitted ≡ g.admitted) × ((w : Why) × ((next_line_of (word_reader shape) g line o).refused ≡ Some w)))
    by (Some w) e = inr (refl, (w, e))
    by None e =
        elim (nat_le most_lines g.admitted) as (λ b.
        ((((cond b (record g { refused = Some why.TooLong }) (one_more_line g (admit shape g.read line))).admitted ≡ g.admitted + 1) × ((cond b (record g { refused = Some why.TooLong }) (one_more_line g (admit shape g.read line))).refused ≡ None))
        ⊎ (((cond b (record g { refused = Some why.TooLong }) (one_more_line g (admit shape g.read line))).admitted ≡ g.admitted) × ((w : Why) × ((cond b (record g { refused = Some why.TooLong }) (one_more_line g (admit shape g.read line))).refused ≡ Some w))))) [
          | true ↦ inr (refl, (why.TooLong, refl))
          | false ↦ by_admit (admit shape g.read line) refl
        ]

module _ {K : Type 0} (written : K → Option (List ℕ)) (failures : K → ℕ) (s : K) (p : Pen) (before after : WordJudge) (line : List ℕ) (n m : ℕ) (is : IsLine line)
    (counts : (items : List Item) (text : List ℕ) → StandsForWitness items before text → n ≡ admitted_word_lines (shape_of items) text)
    (counts_then : (items : List Item) (text : List ℕ) → StandsForWitness items after text → m ≡ admitted_word_lines (shape_of items) text)
    (takes : (items : List Item) (text : List ℕ) → StandsForWitness items before text → StandsForWitness items after (text ++ (line ++ 10 ∷ []))) where
  one_line : text_of_lines (line ∷ []) ≡ line ++ 10 ∷ []
  one_line = append-nil (line ++ 10 ∷ [])

  takes_one : (items : List Item) (text : List ℕ) → StandsForWitness items before text → StandsForWitness items after (text ++ text_of_lines (line ∷ []))
  takes_one items text h = subst (λ (t : List ℕ). StandsForWitness items after (text ++ t)) (sym one_line) (takes items text h)

  grown : (items : List Item) (text : List ℕ) → StandsForWitness items before text → unfinished text ≡ [] → m ≡ (next_line (word_reader (shape_of items)) (word_reading (shape_of items) text) line).admitted
  grown items text h ended = counts_then items (text ++ text_of_lines (line ∷ [])) (takes_one items text h) ∙ ap (λ (g : Reading Read). g.admitted) (read_with text ended (shape_of items) (line ∷ []) (is, tt))

  pub gives_line : {t : K} {q : Pen} → (m ≡ n → ⊥) → WritesText written failures s t p q (line ++ 10 ∷ []) → Gives written failures s t p q before after (line ∷ [])
  gives_line {t} {q} more writes =
      record {
        out = line ∷ [];
        writes = subst (WritesText written failures s t p q) (sym one_line) writes;
        each = (is, tt);
        takes = takes_one;
        keeps = λ items text h ended.
            elim (admitted_or_not (shape_of items) (word_reading (shape_of items) text) line) [
              | inl e ↦ ap (λ (o : Option Why). kept line o ++ []) (sym e.1)
              | inr e ↦ absurd (more (grown items text h ended ∙ (e.0 ∙ sym (counts items text h))))
            ];
      }

  pub gives_none : m ≡ n → Gives written failures s s p p before after (line ∷ [])
  gives_none same =
      record {
        out = [];
        writes = writes_none;
        each = (is, tt);
        takes = takes_one;
        keeps = λ items text h ended.
            elim (admitted_or_not (shape_of items) (word_reading (shape_of items) text) line) [
              | inl e ↦ let here = grown items text h ended in let was = counts items text h in absurd (omega (arith, same, here, was, e.0))
              | inr e ↦ ap (λ (o : Option Why). kept line o ++ []) (sym e.1.1)
            ];
      }

-- ---- lines behind lines

pub gives_nothing : {K : Type 0} {written : K → Option (List ℕ)} {failures : K → ℕ} {s : K} {p : Pen} {a : WordJudge} → Gives written failures s s p p a a []
gives_nothing {a = a} = record {
  out = [];
  writes = writes_none;
  each = tt;
  takes = λ items text h. subst (StandsForWitness items a) (sym (append-nil text)) h;
  keeps = λ items text h ended. refl;
}

pub gives_then : {K : Type 0} {written : K → Option (List ℕ)} {failures : K → ℕ} {s t u : K} {p q r : Pen} {a b c : WordJudge} {lines more : List (List ℕ)}
    → Gives written failures s t p q a b lines → Gives written failures t u q r b c more → Gives written failures s u p r a c (lines ++ more)
gives_then {written = written} {failures = failures} {s = s} {u = u} {p = p} {r = r} {c = c} {lines = lines} {more = more} first next = record {
  out = first.out ++ next.out;
  writes = subst (WritesText written failures s u p r) (sym (text_of_both first.out next.out)) (writes_then first.writes next.writes);
  each = each_both lines more first.each next.each;
  takes = λ items text h.
      subst (StandsForWitness items c) (append_assoc text (text_of_lines lines) (text_of_lines more) ∙ ap (λ (t : List ℕ). text ++ t) (sym (text_of_both lines more)))
      (next.takes items (text ++ text_of_lines lines) (first.takes items text h));
  keeps = λ items text h ended.
      let shape : Shape = shape_of items in
      let g : Reading Read = word_reading shape text in
      ap₂ (λ (x y : List (List ℕ)). x ++ y) (first.keeps items text h ended)
      (next.keeps items (text ++ text_of_lines lines) (first.takes items text h) (ended_with text ended lines) ∙ ap (λ (f : Reading Read). kept_lines shape f more) (read_with text ended shape lines first.each))
      ∙ sym (lines_by-both shape (λ f line. kept line (next_line (word_reader shape) f line).refused) g lines more);
}

-- whatever line the pen had at hand
pub gives_anew : {K : Type 0} {written : K → Option (List ℕ)} {failures : K → ℕ} {s t : K} {p q : Pen} {a b : WordJudge} {l : List ℕ} {lines : List (List ℕ)}
    → Gives written failures s t (record { outbox = p.outbox; line = l; answer = p.answer }) q a b lines → Gives written failures s t p q a b lines
gives_anew g = record { out = g.out; writes = writes_line g.writes; each = g.each; takes = g.takes; keeps = g.keeps }

-- a line and its end, one after the other
pub takes_line : (a b c : WordJudge) (line : List ℕ) → ((items : List Item) (text : List ℕ) → StandsForWitness items a text → StandsForWitness items b (text ++ line)) → ((items : List Item) (text : List ℕ) → StandsForWitness items b text → StandsForWitness items c (text ++ 10 ∷ []))
    → (items : List Item) (text : List ℕ) → StandsForWitness items a text → StandsForWitness items c (text ++ (line ++ 10 ∷ []))
takes_line a b c line first end' items text h = subst (StandsForWitness items c) (append_assoc text line (10 ∷ [])) (end' items (text ++ line) (first items text h))

-- a line that begins with a number
pub decimal_line : (n : ℕ) (rest : List ℕ) → n < 2 ^ 64 → IsLine rest → IsLine (decimal n ++ rest)
decimal_line n rest small is = list_any-append (λ b. b == 10) (decimal n) rest ∙ or_from _ _ (decimal_without 10 n (omega arith) small) is

-- a line that is written from its end to its front
pub line_at_hand : (n : ℕ) (rest behind whole : List ℕ) → behind ≡ rest ++ 10 ∷ [] → whole ≡ decimal n ++ behind → whole ≡ (decimal n ++ rest) ++ 10 ∷ []
line_at_hand n rest behind whole end' all = all ∙ (ap (λ (l : List ℕ). decimal n ++ l) end' ∙ sym (append_assoc (decimal n) rest (10 ∷ [])))

pub faulty_behind : (m n : ℕ) (w : Why) (old mid new : List ℕ) → m ≡ n → old ≡ [] → mid ≡ 10 ∷ old → new ≡ symbol_part (faulty_rest m w) ++ mid → new ≡ symbol_part (faulty_rest n w) ++ 10 ∷ []
faulty_behind m n w old mid new same none end' is = is ∙ ap₂ (λ (k : ℕ) (l : List ℕ). symbol_part (faulty_rest k w) ++ l) same (end' ∙ ap (λ (l : List ℕ). 10 ∷ l) none)
