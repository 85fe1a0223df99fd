-- The whole lines of a text with bytes behind it, and the line behind them that has not ended.
use Rattle.std.proofs.Common.{◌≡◌, ℕ, ◌==◌, false, List, [], ◌∷◌, ◌++◌, append_assoc, refl, sym, ap, ◌∙◌}
use Rattle.std.proofs.lemmas.Bool.{or_from, ne_eqb}
use Rattle.std.proofs.lemmas.List.{append-nil}
use Rattle.std.proofs.lemmas.List.Folds.{list_any-append}
use Rattle.base.specs.Lines.{text_of_lines, IsLine, whole_lines, unfinished}
use Rattle.base.proofs.LineLemmas.{whole_lines-line, unfinished-line, whole_lines-last, unfinished-last, lines_are_lines, unfinished_is_line, parts_of_text, whole_lines-lines, unfinished-lines}

module _ (text : List ℕ) (rest : List ℕ) where
  behind : text ++ rest ≡ text_of_lines (whole_lines text) ++ (unfinished text ++ rest)
  behind = ap (λ (t : List ℕ). t ++ rest) (sym (parts_of_text text)) ∙ append_assoc (text_of_lines (whole_lines text)) (unfinished text) rest

  pub lines_behind_text : whole_lines (text ++ rest) ≡ whole_lines text ++ whole_lines (unfinished text ++ rest)
  lines_behind_text = ap whole_lines behind ∙ whole_lines-lines (whole_lines text) (unfinished text ++ rest) (lines_are_lines text)

  rest_behind_text : unfinished (text ++ rest) ≡ unfinished (unfinished text ++ rest)
  rest_behind_text = ap unfinished behind ∙ unfinished-lines (whole_lines text) (unfinished text ++ rest)

still_line : (text part : List ℕ) → IsLine part → IsLine (unfinished text ++ part)
still_line text part is = list_any-append (λ c. c == 10) (unfinished text) part ∙ or_from _ _ (unfinished_is_line text) is

-- a part of a line behind a text
pub whole_lines-part : (text part : List ℕ) → IsLine part → whole_lines (text ++ part) ≡ whole_lines text
whole_lines-part text part is =
    lines_behind_text text part ∙ (ap (λ (ls : List (List ℕ)). whole_lines text ++ ls) (whole_lines-last (unfinished text ++ part) (still_line text part is)) ∙ append-nil (whole_lines text))

pub unfinished-part : (text part : List ℕ) → IsLine part → unfinished (text ++ part) ≡ unfinished text ++ part
unfinished-part text part is = rest_behind_text text part ∙ unfinished-last (unfinished text ++ part) (still_line text part is)

pub one_byte : (b : ℕ) → (b ≡ 10 → ⊥) → IsLine (b ∷ [])
one_byte b other = or_from (b == 10) false (ne_eqb b 10 other) refl

pub whole_lines-end : (text : List ℕ) → whole_lines (text ++ 10 ∷ []) ≡ whole_lines text ++ unfinished text ∷ []
whole_lines-end text = lines_behind_text text (10 ∷ []) ∙ ap (λ (ls : List (List ℕ)). whole_lines text ++ ls) (whole_lines-line (unfinished text) [] (unfinished_is_line text))

pub unfinished-end : (text : List ℕ) → unfinished (text ++ 10 ∷ []) ≡ []
unfinished-end text = rest_behind_text text (10 ∷ []) ∙ unfinished-line (unfinished text) []

-- a line and its end
module _ (text line : List ℕ) where
  joined : unfinished text ++ (line ++ 10 ∷ []) ≡ (unfinished text ++ line) ++ 10 ∷ []
  joined = sym (append_assoc (unfinished text) line (10 ∷ []))

  pub whole_lines-line_end : IsLine line → whole_lines (text ++ (line ++ 10 ∷ [])) ≡ whole_lines text ++ (unfinished text ++ line) ∷ []
  whole_lines-line_end is =
      lines_behind_text text (line ++ 10 ∷ []) ∙ ap (λ (ls : List (List ℕ)). whole_lines text ++ ls) (ap whole_lines joined ∙ whole_lines-line (unfinished text ++ line) [] (still_line text line is))

  pub unfinished-line_end : unfinished (text ++ (line ++ 10 ∷ [])) ≡ []
  unfinished-line_end = rest_behind_text text (line ++ 10 ∷ []) ∙ (ap unfinished joined ∙ unfinished-line (unfinished text ++ line) [])
