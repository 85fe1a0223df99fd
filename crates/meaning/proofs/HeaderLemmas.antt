-- What a header that was read says of a text.
use Rattle.std.proofs.Common.{◌≡◌, ℕ, ◌+◌, ◌≤◌, ◌==◌, nat_le, nat_lt, ◌||◌, true, false, List, [], ◌∷◌, ◌++◌, length, get_or, Result, Ok, Err, codes, if◌then◌else◌, refl, sym, ap, subst, ◌∙◌, append_assoc, inl, inr, arith}
use Rattle.std.specs.Str.{bytes_eq}
use Rattle.std.specs.List.{list_all}
use Rattle.std.proofs.lemmas.Bool.{cases_Bool, and_parts, leb-true, ltb-false, ne_eqb}
use Rattle.std.proofs.lemmas.Slice.Eq.{bytes_eq-Decides}
use Rattle.base.specs.Lines.{onto_first}
use Rattle.base.specs.Decimals.{number_of, capped_value, is_decimal}
use Rattle.base.proofs.DecimalLemmas.{chosen}
use Rattle.aiger.specs.Limits.{greatest_count}
use Rattle.aigertext.specs.declared.fault.Why.TheVariants as why
use Rattle.aigertext.specs.declared.forms.Form.{Form}
use Rattle.aigertext.specs.declared.forms.Form.TheVariants.{Ascii, Binary}
use Rattle.aigertext.specs.Counts.{Fits}
use Rattle.aigertext.specs.Ascii.{form_word}
use Rattle.aigertext.specs.Reading.{◌>>=◌, fields, line_at, numbers_in, counts_at, counts_of, counts_told, fitting, header_form, header_fields, header_of}
use Rattle.meaning.specs.Circuits.{SaysAscii}
use Rattle.meaning.proofs.LineLemmas.{HasLine, IsLow, line_said}
use Rattle.meaning.proofs.SectionLemmas.{fields_low}
use Rattle.meaning.proofs.ReaderLemmas.{ok_same, not_both}

-- a header of nothing
pub empty_header : HasLine header_of
unfolding header_fields header_form fitting counts_of number_of capped_value is_decimal
empty_header = record { line = codes "aig 0 0 0 0 0"; is_line = refl; bytes = (omega arith, (omega arith, (omega arith, (omega arith, (omega arith, (omega arith, (omega arith, (omega arith, (omega arith, (omega arith, (omega arith, (omega arith, (omega arith, tt))))))))))))); value = (Binary, counts_at (0 ∷ 0 ∷ 0 ∷ 0 ∷ 0 ∷ [])); said = refl }

-- a line that begins with the byte 0 or 1 is no header
pub header_low : IsLow header_of
unfolding header_fields header_form
header_low b small line = (why.BadHeader, ap header_fields (fields_low b small line) ∙ by (fields line))
  where
    letter : (b == 97) ≡ false
    letter = ne_eqb b 97 (λ e. omega (arith, e, small))

    by : (fs : List (List ℕ)) → header_fields (onto_first b fs) ≡ Err why.BadHeader
    by [] = refl
    by (f ∷ fs) = rw letter refl

-- ---- the first word

-- a step that gave something
pub bind_back : {A B E : Type 0} {P : Type 0} (r : Result A E) (k : A → Result B E) (y : B) → (r >>= k) ≡ Ok y → ((x : A) → r ≡ Ok x → k x ≡ Ok y → P) → P
bind_back (Ok x) k y e next = next x refl e
bind_back (Err w) k y e next = absurd (not_both _ _ (sym e))

form_told : (word : List ℕ) (form : Form) → header_form word ≡ Ok form → word ≡ form_word form
unfolding header_form
form_told word form e =
    elim (chosen (bytes_eq word (codes "aag")) (Ok Ascii) (if bytes_eq word (codes "aig") then Ok Binary else Err why.BadHeader) (Ok form) e) [
      | inl is ↦ (bytes_eq-Decides word (codes "aag")).0 is.0 ∙ ap form_word (ok_same Ascii form is.1)
      | inr other ↦
          elim (chosen (bytes_eq word (codes "aig")) (Ok Binary) (Err why.BadHeader) (Ok form) other.1) [
            | inl is ↦ (bytes_eq-Decides word (codes "aig")).0 is.0 ∙ ap form_word (ok_same Binary form is.1)
            | inr wrong ↦ absurd (not_both _ _ (sym wrong.1))
          ]
    ]

-- the first field is the front of a line
first_field : (line field : List ℕ) (others : List (List ℕ)) → fields line ≡ field ∷ others → (tail : List ℕ) × (line ≡ field ++ tail)
first_field line [] others e = (line, refl)
first_field [] (c ∷ field) others e = absurd cc
first_field (b ∷ bs) (c ∷ field) others e =
    elim (cases_Bool (b == 32)) [
      | inl space ↦ absurd (none space)
      | inr other ↦ by (fields bs) refl other (λ f os g. first_field bs f os g)
    ]
  where
    none : (b == 32) ≡ true → ⊥
    none space = let is : [] ∷ fields bs ≡ (c ∷ field) ∷ others = rw space at e in cc

    by : (fs : List (List ℕ)) → fields bs ≡ fs → (b == 32) ≡ false → ((f : List ℕ) (os : List (List ℕ)) → fields bs ≡ f ∷ os → (tail : List ℕ) × (bs ≡ f ++ tail)) → (tail : List ℕ) × (b ∷ bs ≡ (c ∷ field) ++ tail)
    by [] f other again = let is : [] ≡ (c ∷ field) ∷ others = rw (other, f) at e in absurd cc
    by (g ∷ fs) f other again =
        let is : (b ∷ g) ∷ fs ≡ (c ∷ field) ∷ others = rw (other, f) at e in
        let t = again g fs f in
        let byte : b ≡ c = cc is in
        let bytes : g ≡ field = cc is in
        (t.0, ap (λ (l : List ℕ). b ∷ l) t.1 ∙ ap (λ (l : List ℕ). b ∷ (l ++ t.0)) bytes ∙ ap (λ (d : ℕ). d ∷ (field ++ t.0)) byte)

-- what a header says by its fields
pub record Told (form : Form) (h : _) (line : List ℕ) : Type 0 where
  pub word : List ℕ
  pub others : List (List ℕ)
  pub are : fields line ≡ word ∷ others
  pub is : word ≡ form_word form
  pub counts : counts_told others ≡ Ok h
  pub fits : fitting form h ≡ Ok h

fitting_same : (form : Form) (h g : _) → fitting form h ≡ Ok g → h ≡ g
unfolding fitting
fitting_same Ascii h g e =
    elim (chosen (nat_lt h.variables (h.inputs + h.latches + h.gates)) (Err why.CountsDisagree) (Ok h) (Ok g) e) [
      | inl wrong ↦ absurd (not_both _ _ (sym wrong.1))
      | inr good ↦ ok_same h g good.1
    ]
fitting_same Binary h g e =
    elim (chosen (h.variables == h.inputs + h.latches + h.gates) (Ok h) (Err why.CountsDisagree) (Ok g) e) [
      | inl good ↦ ok_same h g good.1
      | inr wrong ↦ absurd (not_both _ _ (sym wrong.1))
    ]

header_told : (line : List ℕ) (form : Form) (h : _) → header_of line ≡ Ok (form, h) → Told form h line
unfolding header_fields
header_told line form h e = by (fields line) refl
  where
    of_fields : (word : List ℕ) (others : List (List ℕ)) → fields line ≡ word ∷ others → header_fields (word ∷ others) ≡ Ok (form, h) → Told form h line
    of_fields word others are told =
        bind_back (header_form word) _ (form, h) told
        (λ f first next.
        bind_back (counts_told others) _ (form, h) next
        (λ g second last.
        bind_back (fitting f g) (λ fits. Ok (f, fits)) (form, h) last
        (λ k third same.
        let is : ◌≡◌ {A = Form × _} (f, k) (form, h) = ok_same (f, k) (form, h) same in
        let form_is : f ≡ form = ap (λ p. p.0) is in
        let gives : g ≡ h = fitting_same f g k third ∙ ap (λ p. p.1) is in
        record {
          word = word;
          others = others;
          are = are;
          is = form_told word f first ∙ ap form_word form_is;
          counts = second ∙ ap (λ x. Ok x) gives;
          fits = ap (λ x. fitting x h) (sym form_is) ∙ ap (fitting f) (sym gives) ∙ third ∙ ap (λ x. Ok x) (ap (λ p. p.1) is);
        })))

    by : (fs : List (List ℕ)) → fields line ≡ fs → Told form h line
    by [] f = absurd (not_both _ _ (sym e ∙ ap header_fields f))
    by (word ∷ others) f = of_fields word others f (ap header_fields (sym f) ∙ e)

-- a text whose header was read begins with its form's word
pub says_form : (text : List ℕ) (form : Form) (h : _) (rest : List ℕ) → line_at header_of text ≡ Ok ((form, h), rest) → (tail : List ℕ) × (text ≡ form_word form ++ tail)
says_form text form h rest e =
    let s = line_said header_of text (form, h) rest e in
    let t = header_told s.line form h s.said in
    let f = first_field s.line t.word t.others t.are in (
      f.0 ++ 10 ∷ rest,
      s.parts ∙ ap (λ (l : List ℕ). l ++ 10 ∷ rest) f.1 ∙ append_assoc t.word f.0 (10 ∷ rest) ∙ ap (λ (w : List ℕ). w ++ (f.0 ++ 10 ∷ rest)) t.is,
    )

-- the greatest variable of an ascii header fits what is counted, and is small
first_small : (ns : List ℕ) (h : _) → counts_of ns ≡ Ok h → h.variables ≤ greatest_count
unfolding counts_of
first_small ns h e =
    elim (chosen (nat_lt (length ns) 5 || nat_lt 9 (length ns)) (Err why.BadHeader) (if list_all (λ n. nat_le n greatest_count) ns then Ok (counts_at ns) else Err why.TooBig) (Ok h) e) [
      | inl wrong ↦ absurd (not_both _ _ (sym wrong.1))
      | inr many ↦
          elim (chosen (list_all (λ n. nat_le n greatest_count) ns) (Ok (counts_at ns)) (Err why.TooBig) (Ok h) many.1) [
            | inl good ↦ by ns good.0 (ok_same (counts_at ns) h good.1)
            | inr wrong ↦ absurd (not_both _ _ (sym wrong.1))
          ]
    ]
  where
    by : (ms : List ℕ) → list_all (λ n. nat_le n greatest_count) ms ≡ true → counts_at ms ≡ h → h.variables ≤ greatest_count
    by [] all is = subst (λ g. g.variables ≤ greatest_count) is (omega arith)
    by (m ∷ ms) all is =
        let low = leb-true m greatest_count (and_parts (nat_le m greatest_count) (list_all (λ n. nat_le n greatest_count) ms) all).0 in
        subst (λ g. g.variables ≤ greatest_count) is low

header_fits : (h : _) → fitting Ascii h ≡ Ok h → Fits Ascii h
unfolding fitting
header_fits h e =
    elim (chosen (nat_lt h.variables (h.inputs + h.latches + h.gates)) (Err why.CountsDisagree) (Ok h) (Ok h) e) [
      | inl wrong ↦ absurd (not_both _ _ (sym wrong.1))
      | inr good ↦ ltb-false h.variables (h.inputs + h.latches + h.gates) good.0
    ]

pub ascii_counts : (text : List ℕ) (h : _) (rest : List ℕ) → line_at header_of text ≡ Ok ((Ascii, h), rest) → Fits Ascii h × (h.variables ≤ greatest_count)
ascii_counts text h rest e =
    let s = line_said header_of text (Ascii, h) rest e in
    let t = header_told s.line Ascii h s.said in
    (header_fits h t.fits, bind_back (numbers_in t.others) counts_of h t.counts (λ ns one two. first_small ns h two))

pub not_binary : (text : List ℕ) (h : _) (rest : List ℕ) → line_at header_of text ≡ Ok ((Binary, h), rest) → SaysAscii text → ⊥
not_binary text h rest e a =
    let f = says_form text Binary h rest e in
    differ a.rest f.0 (sym a.is ∙ f.1)
  where
    differ : (x y : List ℕ) → codes "aag" ++ x ≡ codes "aig" ++ y → ⊥
    differ x y is = let second : 97 ≡ 105 = ap (λ (l : List ℕ). get_or l 1 0) is in omega (arith, second)
