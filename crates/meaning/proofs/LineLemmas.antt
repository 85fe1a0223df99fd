-- Lines that are read one after the other.
use Rattle.std.proofs.Common.{◌≡◌, ℕ, zero, suc, ◌<◌, ◌==◌, List, [], ◌∷◌, ◌++◌, get_or, Option, Some, None, Result, Ok, Err, refl, sym, ap, subst, ◌∙◌, append_assoc, inl, inr, ◌⊎◌, arith}
use Rattle.std.proofs.lemmas.Bool.{cases_Bool, eq-eqb, eqb-true, or_from, or_parts}
use Rattle.std.specs.List.{list_any}
use Rattle.base.specs.Lines.{HasNone, IsLine}
use Rattle.aigertext.specs.declared.fault.Why.{Why}
use Rattle.aigertext.specs.declared.fault.Why.TheVariants as why
use Rattle.aigertext.specs.Reading.{◌>>=◌, stop, said_at_front, cut_at_byte, cut_line, line_at, lines_at}
use Rattle.meaning.specs.Pieces.{IsWholeLine}
use Rattle.meaning.proofs.PieceLemmas.{one_piece, stops_here}
use Rattle.meaning.proofs.ReaderLemmas.{AreBytes, both_bytes, ok_same, not_both, Completes, GoesOn, lines, NextOf, Took, StopsAt, IsRefused, IsSound, nothing_read, then_sound}

-- ---- a text that is cut

pub cut_found : (byte : ℕ) (front rest : List ℕ) → HasNone byte front → cut_at_byte byte (front ++ byte ∷ rest) ≡ Some (front, rest)
cut_found byte [] rest none = rw (eq-eqb byte byte refl) refl
cut_found byte (b ∷ bs) rest none =
    let parts = or_parts (b == byte) (list_any (λ c. c == byte) bs) none in
    rw (parts.0, cut_found byte bs rest parts.1) refl

-- a text is cut in one way
pub one_cut : (byte : ℕ) (front rest : List ℕ) (x : List ℕ × List ℕ) → HasNone byte front → cut_at_byte byte (front ++ byte ∷ rest) ≡ Some x → ◌≡◌ {A = List ℕ × List ℕ} (front, rest) x
one_cut byte front rest x none e = same (front, rest) x (sym (cut_found byte front rest none) ∙ e)
  where
    same : (x y : List ℕ × List ℕ) → ◌≡◌ {A = Option (List ℕ × List ℕ)} (Some x) (Some y) → x ≡ y
    same x y e = cc

-- a text is cut at the first such byte, or has none
pub record IsCut (byte : ℕ) (text : List ℕ) : Type 0 where
  pub front : List ℕ
  pub behind : List ℕ
  pub parts : text ≡ front ++ byte ∷ behind
  pub none : HasNone byte front

pub cut_view : (byte : ℕ) (text : List ℕ) → IsCut byte text ⊎ HasNone byte text
cut_view byte [] = inr refl
cut_view byte (b ∷ bs) =
    elim (cases_Bool (b == byte)) [
      | inl here ↦ inl (record { front = []; behind = bs; parts = ap (λ (c : ℕ). c ∷ bs) (eqb-true b byte here); none = refl })
      | inr not ↦
          elim (cut_view byte bs) [
            | inl c ↦ inl (record { front = b ∷ c.front; behind = c.behind; parts = ap (λ (l : List ℕ). b ∷ l) c.parts; none = or_from (b == byte) (list_any (λ d. d == byte) c.front) not c.none })
            | inr none ↦ inr (or_from (b == byte) (list_any (λ d. d == byte) bs) not none)
          ]
    ]

pub cut_none : (byte : ℕ) (text : List ℕ) → HasNone byte text → cut_at_byte byte text ≡ None
cut_none byte [] none = refl
cut_none byte (b ∷ bs) none =
    let parts = or_parts (b == byte) (list_any (λ c. c == byte) bs) none in
    rw (parts.0, cut_none byte bs parts.1) refl

-- ---- a line

-- a line that says something
pub record HasLine {A : Type 0} (says : List ℕ → Result A Why) : Type 0 where
  pub line : List ℕ
  pub is_line : IsLine line
  pub bytes : AreBytes line
  pub value : A
  pub said : says line ≡ Ok value

pub whole_line : (line : List ℕ) → IsLine line → IsWholeLine (line ++ 10 ∷ [])
whole_line line is = record { line = line; is_line = is; whole = refl }

-- a line that said something stands at the front of a text
pub record Said {A : Type 0} (says : List ℕ → Result A Why) (text : List ℕ) (x : A) (rest : List ℕ) : Type 0 where
  pub line : List ℕ
  pub parts : text ≡ line ++ 10 ∷ rest
  pub is_line : IsLine line
  pub said : says line ≡ Ok x

pub line_said : {A : Type 0} (says : List ℕ → Result A Why) (text : List ℕ) (x : A) (rest : List ℕ) → line_at says text ≡ Ok (x, rest) → Said says text x rest
line_said {A} says text x rest e = by (cut_view 10 text)
  where
    same : (a : A) (behind : List ℕ) → line_at says text ≡ Ok (a, behind) → ◌≡◌ {A = A × List ℕ} (a, behind) (x, rest)
    same a behind is = ok_same (a, behind) (x, rest) (sym is ∙ e)

    cut : (c : IsCut 10 text) → line_at says text ≡ (said_at_front text (says c.front) >>= (λ a. Ok (a, c.behind)))
    cut c = ap (cut_line says text) (ap (cut_at_byte 10) c.parts ∙ cut_found 10 c.front c.behind c.none)

    of_cut : (c : IsCut 10 text) (r : Result A Why) → says c.front ≡ r → Said says text x rest
    of_cut c (Ok a) said =
        let is = same a c.behind (cut c ∙ ap (λ (r : Result A Why). said_at_front text r >>= (λ b. Ok (b, c.behind))) said) in
        record {
          line = c.front;
          parts = c.parts ∙ ap (λ (p : A × List ℕ). c.front ++ 10 ∷ p.1) is;
          is_line = c.none;
          said = said ∙ ap (λ (p : A × List ℕ). Ok p.0) is;
        }
    of_cut c (Err w) said = absurd (not_both _ _ (sym e ∙ cut c ∙ ap (λ (r : Result A Why). said_at_front text r >>= (λ b. Ok (b, c.behind))) said))

    by : IsCut 10 text ⊎ IsLine text → Said says text x rest
    by (inl c) = of_cut c (says c.front) refl
    by (inr none) = absurd (not_both _ _ (sym e ∙ ap (cut_line says text) (cut_none 10 text none)))

-- neither of the bytes 0 and 1 begins a line that says something
abbrev pub IsLow : {A : Type 0} → (List ℕ → Result A Why) → Type 0
IsLow says = (b : ℕ) → b < 2 → (line : List ℕ) → (w : Why) × (says (b ∷ line) ≡ Err w)

pub low_line : {A : Type 0} (says : List ℕ → Result A Why) → IsLow says → NextOf stop lines (line_at says) []
low_line {A} says low b small more = by (cut_view 10 (b ∷ more))
  where
    cut : (front behind : List ℕ) → HasNone 10 front → b ∷ more ≡ front ++ 10 ∷ behind → (w : Why) × IsRefused stop (line_at says) w (b ∷ more)
    cut [] behind none is = let ten : b ≡ 10 = ap (λ (l : List ℕ). get_or l 0 0) is in absurd (omega (arith, ten, small))
    cut (c ∷ front) behind none is =
        let same : c ≡ b = sym (ap (λ (l : List ℕ). get_or l 0 0) is) in
        let said : says (c ∷ front) ≡ Err (low b small front).0 = ap (λ (d : ℕ). says (d ∷ front)) same ∙ (low b small front).1 in
        let found : cut_at_byte 10 (b ∷ more) ≡ Some (c ∷ front, behind) = ap (cut_at_byte 10) is ∙ cut_found 10 (c ∷ front) behind none in
        ((low b small front).0, (b ∷ more, ap (cut_line says (b ∷ more)) found ∙ ap (λ (x : Result A Why). said_at_front (b ∷ more) x >>= (λ a. Ok (a, behind))) said))

    by : IsCut 10 (b ∷ more) ⊎ IsLine (b ∷ more) → (w : Why) × IsRefused stop (line_at says) w (b ∷ more)
    by (inl c) = cut c.front c.behind c.none c.parts
    by (inr none) = (why.Truncated, (b ∷ more, ap (cut_line says (b ∷ more)) (cut_none 10 (b ∷ more) none)))

module _ {A : Type 0} (IsPiece IsPart : List ℕ → Type 0) (line_piece : (bytes : List ℕ) → IsWholeLine bytes → IsPiece bytes) (line_part : (bytes : List ℕ) → IsLine bytes → IsPart bytes) where
  module _ (says : List ℕ → Result A Why) (has : HasLine says) where
    -- what a line says of a text that begins with it
    pub said_at : (line more : List ℕ) → IsLine line → line_at says ((line ++ 10 ∷ []) ++ more) ≡ (said_at_front ((line ++ 10 ∷ []) ++ more) (says line) >>= (λ a. Ok (a, more)))
    said_at line more is =
        let cut : cut_at_byte 10 ((line ++ 10 ∷ []) ++ more) ≡ Some (line, more) = ap (cut_at_byte 10) (append_assoc line (10 ∷ []) more) ∙ cut_found 10 line more is in
        ap (cut_line says ((line ++ 10 ∷ []) ++ more)) cut

    completes_line : Completes (line_at says) []
    completes_line =
        record {
          more = has.line ++ 10 ∷ [];
          bytes = both_bytes has.line (10 ∷ []) has.bytes (omega arith, tt);
          value = has.value;
          gives = λ rest. said_at has.line rest has.is_line ∙ ap (λ (x : Result A Why). said_at_front ((has.line ++ 10 ∷ []) ++ rest) x >>= (λ a. Ok (a, rest))) has.said;
        }

    refused_line : (line more : List ℕ) (w : Why) → IsLine line → says line ≡ Err w → line_at says ((line ++ 10 ∷ []) ++ more) ≡ Err (stop ((line ++ 10 ∷ []) ++ more) w)
    refused_line line more w is said = said_at line more is ∙ ap (λ (x : Result A Why). said_at_front ((line ++ 10 ∷ []) ++ more) x >>= (λ a. Ok (a, more))) said

    view_line : (MayGoOn : List ℕ → Type 0) → MayGoOn [] → (line rest : List ℕ) → IsLine line → (x : Result A Why) → says line ≡ x → Took IsPiece (line_at says) ((line ++ 10 ∷ []) ++ rest) ⊎ StopsAt stop IsPiece IsPart (line_at says) MayGoOn ((line ++ 10 ∷ []) ++ rest)
    view_line MayGoOn may line rest is (Ok a) said =
        inl (
        record {
          value = a;
          used = line ++ 10 ∷ [];
          rest = rest;
          parts = refl;
          whole = one_piece IsPiece (line ++ 10 ∷ []) (line_piece (line ++ 10 ∷ []) (whole_line line is));
          gives = λ more. said_at line more is ∙ ap (λ (x : Result A Why). said_at_front ((line ++ 10 ∷ []) ++ more) x >>= (λ a. Ok (a, more))) said;
        }
        )
    view_line MayGoOn may line rest is (Err w) said =
        inr (
        record {
          because = w;
          behind = (line ++ 10 ∷ []) ++ rest;
          stopped = refused_line line rest w is said;
          stops = stops_here IsPiece IsPart (IsRefused stop (line_at says) w) MayGoOn (w ≡ why.Truncated) ((line ++ 10 ∷ []) ++ rest) may
              (inr (record { piece = line ++ 10 ∷ []; rest = rest; parts = refl; is_piece = line_piece (line ++ 10 ∷ []) (whole_line line is); again = λ more. ((line ++ 10 ∷ []) ++ more, refused_line line more w is said) }));
        }
        )

    pub line_view : (MayGoOn : List ℕ → Type 0) → MayGoOn [] → (text : List ℕ) → IsCut 10 text ⊎ IsLine text → Took IsPiece (line_at says) text ⊎ StopsAt stop IsPiece IsPart (line_at says) MayGoOn text
    line_view MayGoOn may text (inl c) =
        subst (λ (t : List ℕ). Took IsPiece (line_at says) t ⊎ StopsAt stop IsPiece IsPart (line_at says) MayGoOn t) (append_assoc c.front (10 ∷ []) c.behind ∙ sym c.parts)
        (view_line MayGoOn may c.front c.behind c.none (says c.front) refl)
    line_view MayGoOn may text (inr none) =
        inr (
        record {
          because = why.Truncated;
          behind = text;
          stopped = ap (cut_line says text) (cut_none 10 text none);
          stops = stops_here IsPiece IsPart (IsRefused stop (line_at says) why.Truncated) MayGoOn (why.Truncated ≡ why.Truncated) text may (inl (refl, line_part text none));
        }
        )

    pub line_sound : NextOf stop lines (line_at says) [] → IsSound stop lines IsPiece IsPart (line_at says)
    line_sound low =
        record { view = λ text. line_view (GoesOn stop lines (line_at says)) (record { completes = completes_line; next = low }) text (cut_view 10 text); completes = completes_line }

  -- ---- lines

  pub lines_sound : {S : Type 0} (says : S → List ℕ → Result A Why) (next : S → A → S) → ((s : S) → HasLine (says s)) → ((s : S) → NextOf stop lines (line_at (says s)) []) → (n : ℕ) (s : S) → IsSound stop lines IsPiece IsPart (lines_at says next s n)
  lines_sound says next has low zero s = nothing_read stop lines IsPiece IsPart []
  lines_sound says next has low (suc n) s =
      then_sound stop lines IsPiece IsPart (line_at (says s)) (λ a text. lines_at says next (next s a) n text >>= (λ xs. Ok (a ∷ xs.0, xs.1))) (line_sound (says s) (has s) (low s))
      (λ a text rest e. then_sound stop lines IsPiece IsPart (lines_at says next (next s a) n) (λ xs behind. Ok (a ∷ xs, behind)) (lines_sound says next has low n (next s a)) (λ xs t u f. nothing_read stop lines IsPiece IsPart (a ∷ xs)))
