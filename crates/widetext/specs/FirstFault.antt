-- The fault of a text that stands for no model with words of any width: the first line that has one, the lines before it taken as read.
use Rattle.std.specs.Prelude.{◌≡◌, ℕ, ◌+◌, ◌-◌, ◌^◌, min, List, ◌∷◌, ◌++◌, length, map, Err, All, ◌⊎◌}
use Rattle.base.specs.Lines.{text_of_lines, IsLine}
use Rattle.btor2.specs.declared.item.Item.{Item}
use Rattle.btor2text.specs.declared.fault.Why.{Why}
use Rattle.btor2text.specs.declared.fault.ReadFault.{ReadFault}
use Rattle.btor2text.specs.Tokens.{tokens}
use Rattle.widetext.specs.Spelling.{WideSpellsAll}
use Rattle.btor2text.specs.FirstFault.{IsUnfinished}
use Rattle.wide.specs.WideModels.{greatest_width, IsWideModel}
use Rattle.widetext.specs.Reading.{wide_line_on}

-- the first line of a text has a fault behind items: what its tokens give is that
pub record BeginsFaulty (items : List Item) (text : List ℕ) (w : Why) : Type 0 where
  pub line : List ℕ
  pub after : List ℕ
  pub parts : text ≡ line ++ 10 ∷ after
  pub whole : IsLine line
  pub faulty : wide_line_on items (tokens line) ≡ Err w

-- the lines before the fault's stand for a model, and the fault is what the next line has; its number is told up to 2 ^ 64 - 1
pub record IsWideFaultOf (text : List ℕ) (e : ReadFault) : Type 0 where
  pub lines : List (List ℕ)
  pub items : List Item
  pub rest : List ℕ
  pub parts : text ≡ text_of_lines lines ++ rest
  pub each : All IsLine lines
  pub spelled : WideSpellsAll (map tokens lines) items
  pub well_formed : IsWideModel greatest_width items
  pub place : e.line ≡ min (length lines + 1) (2 ^ 64 - 1)
  pub faulty : IsUnfinished rest e.why ⊎ BeginsFaulty items rest e.why
