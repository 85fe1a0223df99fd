-- The line of a word, by the value that a line names.
use Rattle.std.proofs.Common.{◌≡◌, ℕ, List, [], Option, Some, None, slice_get, ap, ◌∙◌}
use Rattle.base.specs.Decimals.{number_of}
use Rattle.full.specs.Lines.{Sort}
use Rattle.witness.specs.Admits.{cut_at_space}
use Rattle.fulljudge.specs.Shapes.{first_index}
use Rattle.fulljudge.specs.Lines.{value_line, line_by_index, word_line}

pub no_number : (sorts : List Sort) (line : List ℕ) → number_of (cut_at_space line).0 ≡ None → word_line sorts line ≡ []
unfolding word_line
no_number sorts line none = ap (λ (o : Option ℕ). line_by_index sorts o (cut_at_space line).1) none

pub by_number : (sorts : List Sort) (line : List ℕ) (i : ℕ) (o : Option Sort) → number_of (cut_at_space line).0 ≡ Some i → slice_get sorts i ≡ o → word_line sorts line ≡ value_line (first_index sorts i) o (cut_at_space line).1
unfolding word_line
by_number sorts line i o number is =
    ap (λ (o : Option ℕ). line_by_index sorts o (cut_at_space line).1) number ∙ ap (λ (o : Option Sort). value_line (first_index sorts i) o (cut_at_space line).1) is
