-- Whole numbers of the binary form at places of a text.
use Rattle.std.specs.Prelude.{◌≡◌, ℕ, ◌<◌, ◌≤◌, ◌^◌, List, ◌++◌, length, take}
use Rattle.lrat.specs.BinaryLratTexts.{WritesNumber}
use Rattle.lrat.specs.HintedProofs.{Token, number}
use Rattle.lrat.specs.BinaryHintedProofs.{Spot, at_step, at_id, at_literal, at_other, literal_coded}
use Rattle.base.specs.Lines.{line_after}

-- a number stands at a place up to another
pub record IsCodedAt (bytes : List ℕ) (at value end : ℕ) : Type 0 where
  pub word : List ℕ
  pub is : take end bytes ≡ take at bytes ++ word
  pub writes : WritesNumber value word
  pub low : value < 2 ^ 64
  pub order : at < end
  pub inside : end ≤ length bytes

-- what a number from 1 on says where it is a piece
abbrev pub coded_said : Spot → ℕ → Token
coded_said at_step n = number n
coded_said at_id n = number n
coded_said at_literal n = literal_coded n
coded_said at_other n = number n

-- where the piece behind it stands
abbrev pub coded_behind : Spot → Spot
coded_behind at_step = at_other
coded_behind at_id = at_literal
coded_behind at_literal = at_literal
coded_behind at_other = at_other

-- where the piece behind the end of a list stands, and in which step
abbrev pub list_behind : Spot → Spot
list_behind at_step = at_other
list_behind at_id = at_literal
list_behind at_literal = at_other
list_behind at_other = at_step

abbrev pub step_after_list : ℕ → Spot → ℕ
step_after_list n at_step = n
step_after_list n at_id = n
step_after_list n at_literal = n
step_after_list n at_other = line_after n
