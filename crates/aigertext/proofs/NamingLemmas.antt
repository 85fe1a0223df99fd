-- Names are read line by line, up to a line `c` or the end.
use Rattle.std.proofs.Common.{◌≡◌, ℕ, List, [], ◌∷◌, ◌++◌, length, Result, Ok, Err, false, codes, refl, sym, ap, ◌∙◌, append_assoc}
use Rattle.std.specs.Str.{bytes_eq}
use Rattle.base.specs.Lines.{IsLine, whole_lines, unfinished, text_of_lines}
use Rattle.base.proofs.LineLemmas.{whole_lines-line, unfinished-line, whole_lines-last, unfinished-last, parts_of_text}
use Rattle.aiger.specs.Circuit.{Circuit}
use Rattle.aigertext.specs.declared.fault.Stop.{Stop}
use Rattle.aigertext.specs.declared.fault.Why.{Why}
use Rattle.aigertext.specs.declared.fault.Why.TheVariants as why
use Rattle.aigertext.specs.Reading.{◌>>=◌, said_at_front, stop, name_on, names_on, names_at}

-- a line and others, and what follows them
text_line : (line : List ℕ) (lines : List (List ℕ)) (rest : List ℕ) → text_of_lines (line ∷ lines) ++ rest ≡ line ++ 10 ∷ (text_of_lines lines ++ rest)
text_line line lines rest = append_assoc (line ++ 10 ∷ []) (text_of_lines lines) rest ∙ append_assoc line (10 ∷ []) (text_of_lines lines ++ rest)

module _ (c : Circuit) (text line after : List ℕ) (total : Result Circuit Stop) (parts : text ≡ line ++ 10 ∷ after) (whole : IsLine line) (so_far : names_at c text ≡ total) where
  again : text_of_lines (line ∷ whole_lines after) ++ unfinished after ≡ text
  again = text_line line (whole_lines after) (unfinished after) ∙ ap (λ (l : List ℕ). line ++ 10 ∷ l) (parts_of_text after) ∙ sym parts

  cut_text : names_at c text ≡ names_on c (line ∷ whole_lines after) (unfinished after)
  cut_text =
      ap (names_at c) parts ∙ ap (λ (ls : List (List ℕ)). names_on c ls (unfinished (line ++ 10 ∷ after))) (whole_lines-line line after whole)
      ∙ ap (names_on c (line ∷ whole_lines after)) (unfinished-line line after)

  one_line : bytes_eq line (codes "c") ≡ false → names_on c (line ∷ whole_lines after) (unfinished after) ≡ ◌>>=◌ {A = Circuit} {B = Circuit} {E = Stop} (said_at_front text (name_on c line)) (λ d. names_at d after)
  one_line not = rw (not, again) refl

  pub name_given : bytes_eq line (codes "c") ≡ false → (d : Circuit) → name_on c line ≡ Ok d → names_at d after ≡ total
  name_given not d is = sym (sym so_far ∙ cut_text ∙ one_line not ∙ rw is refl)

  pub name_refused : bytes_eq line (codes "c") ≡ false → (w : Why) → name_on c line ≡ Err w → total ≡ Err (stop text w)
  name_refused not w is = sym so_far ∙ cut_text ∙ one_line not ∙ rw is refl

module _ (c : Circuit) (total : Result Circuit Stop) where
  pub names_cut : (text : List ℕ) → IsLine text → (length text ≡ 0 → ⊥) → names_at c text ≡ total → total ≡ Err (stop text why.Truncated)
  names_cut [] whole some so_far = absurd (some refl)
  names_cut (b ∷ bs) whole some so_far =
      sym so_far ∙ ap (λ (ls : List (List ℕ)). names_on c ls (unfinished (b ∷ bs))) (whole_lines-last (b ∷ bs) whole) ∙ ap (names_on c []) (unfinished-last (b ∷ bs) whole)
