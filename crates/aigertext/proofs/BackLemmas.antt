-- From what reading gives back to the text: lines, literals, sizes and lists.
use Rattle.std.proofs.Common.{◌≡◌, ℕ, zero, suc, ◌+◌, ◌-◌, ◌^◌, ◌<◌, ◌≤◌, false, ◌==◌, nat_le, List, [], ◌∷◌, ◌++◌, length, decimal, Option, Some, None, Result, Ok, Err, refl, sym, ap, subst, ◌∙◌, append_assoc, inl, inr, arith}
use Rattle.std.proofs.lemmas.Bool.{eqb-true, or_from, leb-true}
use Rattle.base.specs.Lines.{HasNone, IsLine}
use Rattle.base.specs.Decimals.{number_of}
use Rattle.base.proofs.DecimalLemmas.{chosen, number_is_decimal}
use Rattle.aiger.specs.Limits.{greatest_count}
use Rattle.aigertext.specs.declared.fault.Stop.{Stop}
use Rattle.aigertext.specs.declared.fault.Why.{Why}
use Rattle.aigertext.specs.declared.fault.Why.TheVariants as why
use Rattle.aigertext.specs.Ascii.{literal_lines}
use Rattle.aigertext.specs.Reading.{◌>>=◌, said_at_front, some_or, cut_at_byte, onto_front, cut_line, line_at, lines_at, within, literal_on, literals_at, size_within, size_of, sizes_at}

-- what an answer has
abbrev pub ok_or : {A E : Type 0} → A → Result A E → A
ok_or d (Ok x) = x
ok_or d (Err e) = d

pub ok_same : {A E : Type 0} (x y : A) → ◌≡◌ {A = Result A E} (Ok x) (Ok y) → x ≡ y
ok_same x y e = ap (ok_or x) e

abbrev is_ok : {A E : Type 0} → Result A E → Type 0
is_ok (Ok x) = Unit {0}
is_ok (Err e) = ⊥

pub not_err : {A E : Type 0} (e : E) (x : A) → ◌≡◌ {A = Result A E} (Err e) (Ok x) → ⊥
not_err e x is = subst is_ok (sym is) tt

pub err_same : {A E : Type 0} (w e : E) → ◌≡◌ {A = Result A E} (Err w) (Err e) → w ≡ e
err_same w e is = cc

-- a step that gave something: what it had, and what the next step gave
pub record Bound {A B E : Type 0} (r : Result A E) (k : A → Result B E) (y : B) : Type 0 where
  pub value : A
  pub was : r ≡ Ok value
  pub then' : k value ≡ Ok y

pub bind-back : {A B E : Type 0} (r : Result A E) (k : A → Result B E) (y : B) → (r >>= k) ≡ Ok y → Bound r k y
bind-back (Ok x) k y e = record { value = x; was = refl; then' = e }
bind-back (Err w) k y e = absurd (not_err _ _ e)

-- the same for what follows from the value and the next step, which has them as variables
pub bind-then : {A B E : Type 0} {P : Type 0} (r : Result A E) (k : A → Result B E) (y : B) → (r >>= k) ≡ Ok y → ((x : A) → r ≡ Ok x → k x ≡ Ok y → P) → P
bind-then (Ok x) k y e next = next x refl e
bind-then (Err w) k y e next = absurd (not_err _ _ e)

-- an option that has something
pub some-back : (w : Why) (n : ℕ) (r : Option ℕ) → some_or w r ≡ Ok n → r ≡ Some n
some-back w n None e = absurd (not_err _ _ e)
some-back w n (Some m) e = ap (λ (k : ℕ). Some k) (ok_same m n e)

-- ---- a text that is cut

pub record IsCut (byte : ℕ) (text front behind : List ℕ) : Type 0 where
  pub parts : text ≡ front ++ byte ∷ behind
  pub none : HasNone byte front

pub cut-back : (byte : ℕ) (text : List ℕ) (x : List ℕ × List ℕ) → cut_at_byte byte text ≡ Some x → IsCut byte text x.0 x.1
cut-back byte [] x e = absurd cc
cut-back byte (b ∷ bs) x e =
    elim (chosen (b == byte) (Some ([], bs)) (onto_front b (cut_at_byte byte bs)) (Some x) e) [
      | inl here ↦
          let is : ([], bs) ≡ x = cc (here.1) in
          subst (λ (y : List ℕ × List ℕ). IsCut byte (b ∷ bs) y.0 y.1) is (record { parts = ap (λ (c : ℕ). c ∷ bs) (eqb-true b byte here.0); none = refl })
      | inr later ↦ go (cut_at_byte byte bs) refl later.1 later.0 (λ y f. cut-back byte bs y f)
    ]
  where
    go : (r : Option (List ℕ × List ℕ)) → cut_at_byte byte bs ≡ r → onto_front b r ≡ Some x → (b == byte) ≡ false → ((y : List ℕ × List ℕ) → cut_at_byte byte bs ≡ Some y → IsCut byte bs y.0 y.1) → IsCut byte (b ∷ bs) x.0 x.1
    go None f g not again = absurd cc
    go (Some y) f g not again =
        let rest = again y f in
        let is : (b ∷ y.0, y.1) ≡ x = cc (g) in
        subst (λ (z : List ℕ × List ℕ). IsCut byte (b ∷ bs) z.0 z.1) is (record { parts = ap (λ (l : List ℕ). b ∷ l) rest.parts; none = or_from _ _ not rest.none })

-- ---- lines

-- the first line of a text says something, and this stands behind it
pub record SaysAt {A : Type 0} (says : List ℕ → Result A Why) (text : List ℕ) (x : A) (rest : List ℕ) : Type 0 where
  pub line : List ℕ
  pub parts : text ≡ line ++ 10 ∷ rest
  pub whole : IsLine line
  pub said : says line ≡ Ok x

module _ {A : Type 0} (says : List ℕ → Result A Why) (text : List ℕ) (x : A) (rest : List ℕ) where
  said_by : (y : List ℕ × List ℕ) (r : Result A Why) → IsCut 10 text y.0 y.1 → says y.0 ≡ r → ◌>>=◌ {A = A} {B = A × List ℕ} {E = Stop} (said_at_front text r) (λ a. Ok (a, y.1)) ≡ Ok (x, rest) → SaysAt says text x rest
  said_by y (Err w) c s e = absurd (not_err _ _ e)
  said_by y (Ok a) c s e =
      let is : (a, y.1) ≡ (x, rest) = ok_same (a, y.1) (x, rest) e in
      record {
        line = y.0;
        parts = c.parts ∙ ap (λ (p : A × List ℕ). y.0 ++ 10 ∷ p.1) is;
        whole = c.none;
        said = s ∙ ap (λ (p : A × List ℕ). Ok p.0) is;
      }

  cut_by : (r : Option (List ℕ × List ℕ)) → cut_at_byte 10 text ≡ r → cut_line says text r ≡ Ok (x, rest) → SaysAt says text x rest
  cut_by None c e = absurd (not_err _ _ e)
  cut_by (Some y) c e = said_by y (says y.0) (cut-back 10 text y c) refl e

  pub line-back : line_at says text ≡ Ok (x, rest) → SaysAt says text x rest
  line-back e = cut_by (cut_at_byte 10 text) refl e

-- the first of some lines, and the others
pub record LinesBack {A S : Type 0} (says : S → List ℕ → Result A Why) (next : S → A → S) (s : S) (n : ℕ) (text : List ℕ) (xs : List A) (rest : List ℕ) : Type 0 where
  pub first : A
  pub others : List A
  pub after : List ℕ
  pub all : xs ≡ first ∷ others
  pub one : SaysAt (says s) text first after
  pub more : lines_at says next (next s first) n after ≡ Ok (others, rest)

module _ {A S : Type 0} (says : S → List ℕ → Result A Why) (next : S → A → S) (s : S) (n : ℕ) (text : List ℕ) (xs : List A) (rest : List ℕ) where
  others_by : (x : A × List ℕ) (r : Result (List A × List ℕ) Stop) → line_at (says s) text ≡ Ok x → lines_at says next (next s x.0) n x.1 ≡ r
      → ◌>>=◌ {A = List A × List ℕ} {B = List A × List ℕ} {E = Stop} r (λ ys. Ok (x.0 ∷ ys.0, ys.1)) ≡ Ok (xs, rest) → LinesBack says next s n text xs rest
  others_by x (Err w) one more e = absurd (not_err _ _ e)
  others_by x (Ok ys) one more e =
      let is : (x.0 ∷ ys.0, ys.1) ≡ (xs, rest) = ok_same (x.0 ∷ ys.0, ys.1) (xs, rest) e in
      record {
        first = x.0;
        others = ys.0;
        after = x.1;
        all = sym (ap (λ (p : List A × List ℕ). p.0) is);
        one = line-back (says s) text x.0 x.1 one;
        more = more ∙ ap (λ (l : List ℕ). Ok (ys.0, l)) (ap (λ (p : List A × List ℕ). p.1) is);
      }

  first_by : (r : Result (A × List ℕ) Stop) → line_at (says s) text ≡ r
      → ◌>>=◌ {A = A × List ℕ} {B = List A × List ℕ} {E = Stop} r (λ x. ◌>>=◌ {A = List A × List ℕ} {B = List A × List ℕ} {E = Stop} (lines_at says next (next s x.0) n x.1) (λ ys. Ok (x.0 ∷ ys.0, ys.1))) ≡ Ok (xs, rest) → LinesBack says next s n text xs rest
  first_by (Err w) one e = absurd (not_err _ _ e)
  first_by (Ok x) one e = others_by x (lines_at says next (next s x.0) n x.1) one refl e

  pub lines-back : lines_at says next s (suc n) text ≡ Ok (xs, rest) → LinesBack says next s n text xs rest
  lines-back e = first_by (line_at (says s) text) refl e

-- ---- numbers

-- a number on a line
pub within-back : (w : Why) (greatest n : ℕ) (r : Option ℕ) → within w greatest r ≡ Ok n → (r ≡ Some n) × (n ≤ greatest)
within-back w greatest n None e = absurd (not_err _ _ e)
within-back w greatest n (Some m) e =
    elim (chosen (nat_le m greatest) (Ok m) (Err w) (Ok n) e) [
      | inl yes' ↦
          let is : m ≡ n = ok_same m n yes'.1 in
          (ap (λ (k : ℕ). Some k) is, subst (λ (k : ℕ). k ≤ greatest) is (leb-true m greatest yes'.0))
      | inr wrong ↦ absurd (not_err _ _ wrong.1)
    ]

pub literal-back : (greatest l : ℕ) (line : List ℕ) → greatest < 2 ^ 64 - 1 → literal_on greatest line ≡ Ok l → line ≡ decimal l
unfolding literal_on
literal-back greatest l line small e =
    let p = within-back why.BadNumber greatest l (number_of line) e in
    number_is_decimal line l p.0 (omega (arith, p.1))

-- a line of one number before others
pub one_number : (text line after rest : List ℕ) (x : ℕ) (xs ys : List ℕ) → text ≡ line ++ 10 ∷ after → line ≡ decimal x → after ≡ literal_lines ys ++ rest → xs ≡ x ∷ ys → text ≡ literal_lines xs ++ rest
one_number text line after rest x xs ys parts is more all =
    parts ∙ ap (λ (l : List ℕ). l ++ 10 ∷ after) is ∙ ap (λ (l : List ℕ). decimal x ++ 10 ∷ l) more
    ∙ numbers x ys rest ∙ ap (λ (l : List ℕ). literal_lines l ++ rest) (sym all)
  where
    numbers : (x : ℕ) (ys rest : List ℕ) → decimal x ++ 10 ∷ (literal_lines ys ++ rest) ≡ ((decimal x ++ 10 ∷ []) ++ literal_lines ys) ++ rest
    numbers x ys rest = simp append_assoc

-- so many numbers on lines
pub record AreNumbersAt (n : ℕ) (text ls rest : List ℕ) : Type 0 where
  pub parts : text ≡ literal_lines ls ++ rest
  pub count : length ls ≡ n

no_numbers : (text ls rest : List ℕ) → ◌≡◌ {A = Result (List ℕ × List ℕ) Stop} (Ok ([], text)) (Ok (ls, rest)) → AreNumbersAt 0 text ls rest
no_numbers text ls rest e =
    let is : ([], text) ≡ (ls, rest) = ok_same ([], text) (ls, rest) e in
    subst (λ (p : List ℕ × List ℕ). AreNumbersAt 0 text p.0 p.1) is (record { parts = refl; count = refl })

pub literals-back : (greatest n : ℕ) (text ls rest : List ℕ) → greatest < 2 ^ 64 - 1 → literals_at greatest n text ≡ Ok (ls, rest) → AreNumbersAt n text ls rest
literals-back greatest zero text ls rest small e = no_numbers text ls rest e
literals-back greatest (suc n) text ls rest small e =
    let b = lines-back literal_on (λ g l. g) greatest n text ls rest e in
    let others = literals-back greatest n b.after b.others rest small b.more in
    record {
      parts = one_number text b.one.line b.after rest b.first ls b.others b.one.parts (literal-back greatest b.first b.one.line small b.one.said) others.parts b.all;
      count = ap (length {A = ℕ}) b.all ∙ ap suc others.count;
    }

size-back : (before n : ℕ) (line : List ℕ) → size_of before line ≡ Ok n → line ≡ decimal n
unfolding size_of
size-back before n line e = by (number_of line) refl e
  where
    by : (r : Option ℕ) → number_of line ≡ r → size_within before r ≡ Ok n → line ≡ decimal n
    by None f g = absurd (not_err _ _ g)
    by (Some m) f g =
        elim (chosen (nat_le m (greatest_count - before)) (Ok m) (Err why.TooBig) (Ok n) g) [
          | inl yes' ↦
              let is : m ≡ n = ok_same m n yes'.1 in
              let le : m ≤ greatest_count - before = leb-true m (greatest_count - before) yes'.0 in
              number_is_decimal line m f (omega (arith, le)) ∙ ap decimal is
          | inr wrong ↦ absurd (not_err _ _ wrong.1)
        ]

pub sizes-back : (before n : ℕ) (text ls rest : List ℕ) → sizes_at before n text ≡ Ok (ls, rest) → AreNumbersAt n text ls rest
sizes-back before zero text ls rest e = no_numbers text ls rest e
sizes-back before (suc n) text ls rest e =
    let b = lines-back size_of (λ b size. b + size) before n text ls rest e in
    let others = sizes-back (before + b.first) n b.after b.others rest b.more in
    record {
      parts = one_number text b.one.line b.after rest b.first ls b.others b.one.parts (size-back before b.first b.one.line b.one.said) others.parts b.all;
      count = ap (length {A = ℕ}) b.all ∙ ap suc others.count;
    }
