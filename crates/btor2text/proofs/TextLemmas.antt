-- Reading a text line by line.
use Rattle.std.proofs.Common.{◌≡◌, ◌≢◌, ℕ, List, [], ◌∷◌, ◌++◌, Result, Ok, Err, refl, sym, ◌∙◌}
use Rattle.base.specs.Lines.{IsLine, whole_lines, unfinished, line_after}
use Rattle.base.proofs.LineLemmas.{whole_lines-line, unfinished-line, whole_lines-last, unfinished-last}
use Rattle.btor2.specs.declared.item.Item.{Item}
use Rattle.btor2text.specs.declared.fault.Why.{Why}
use Rattle.btor2text.specs.declared.fault.Why.TheVariants as why
use Rattle.btor2text.specs.declared.fault.ReadFault.{ReadFault}
use Rattle.btor2text.specs.Tokens.{tokens}
use Rattle.btor2text.specs.Reading.{line_fault, then_lines, line_on, lines_on}

-- one line more
pub lines_on-line : (n : ℕ) (before : List Item) (text line rest : List ℕ) → text ≡ line ++ 10 ∷ rest → IsLine line
    → lines_on n before (whole_lines text) (unfinished text) ≡ then_lines (line_after n) (line_on before (tokens line)) (λ items. lines_on (line_after n) items (whole_lines rest) (unfinished rest))
unfolding lines_on
lines_on-line n before text line rest is h = rw (is, whole_lines-line line rest h, unfinished-line line rest) refl

-- the end
pub lines_on-last : (n : ℕ) (before : List Item) (text : List ℕ) → IsLine text → lines_on n before (whole_lines text) (unfinished text) ≡ lines_on n before [] text
lines_on-last n before text h = rw (whole_lines-last text h, unfinished-last text h) refl

-- a step of the loop over lines: the line is read, or has a fault
module _ (n m : ℕ) (before : List Item) (text line rest : List ℕ) (total : Result (List Item) ReadFault) (is : text ≡ line ++ 10 ∷ rest) (whole : IsLine line) (number : m ≡ line_after n) (so_far : lines_on n before (whole_lines text) (unfinished text) ≡ total) where
  pub goes_on : (items : List Item) → line_on before (tokens line) ≡ Ok items → lines_on m items (whole_lines rest) (unfinished rest) ≡ total
  goes_on items read =
      let step = lines_on-line n before text line rest is whole in
      let one : lines_on n before (whole_lines text) (unfinished text) ≡ lines_on (line_after n) items (whole_lines rest) (unfinished rest) = step ∙ rw read refl in
      rw number (sym one ∙ so_far)

  pub ends_at : (e : Why) → line_on before (tokens line) ≡ Err e → total ≡ Err (line_fault m e)
  ends_at e read =
      let step = lines_on-line n before text line rest is whole in
      let one : lines_on n before (whole_lines text) (unfinished text) ≡ Err (line_fault (line_after n) e) = step ∙ rw read refl in
      rw number (sym so_far ∙ one)

-- the end of the text
pub is_done : (n : ℕ) (before : List Item) (text : List ℕ) → text ≡ [] → lines_on n before (whole_lines text) (unfinished text) ≡ Ok before
unfolding lines_on
is_done n before text none = rw none refl

pub is_unfinished : (n : ℕ) (before : List Item) (text : List ℕ) → IsLine text → text ≢ [] → lines_on n before (whole_lines text) (unfinished text) ≡ Err (line_fault (line_after n) why.Unfinished)
unfolding lines_on
is_unfinished n before [] h some = absurd (some refl)
is_unfinished n before (b ∷ bs) h some = lines_on-last n before (b ∷ bs) h
