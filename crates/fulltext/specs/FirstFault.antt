-- The fault of a text that stands for no model of the whole safety language: the first line that has one, the lines before it taken as read.
use Rattle.std.specs.Prelude.{◌≡◌, ℕ, ◌+◌, ◌-◌, ◌^◌, min, List, ◌∷◌, ◌++◌, length, map, Err, All, ◌⊎◌}
use Rattle.base.specs.Lines.{text_of_lines, IsLine}
use Rattle.full.specs.Lines.{FullLine}
use Rattle.btor2text.specs.declared.fault.Why.{Why}
use Rattle.btor2text.specs.declared.fault.ReadFault.{ReadFault}
use Rattle.btor2text.specs.Tokens.{tokens}
use Rattle.fulltext.specs.Spelling.{SpellsLines}
use Rattle.btor2text.specs.FirstFault.{IsUnfinished}
use Rattle.fullmodel.specs.FullModels.{IsAccepted}
use Rattle.fulltext.specs.Reading.{full_line_on}

-- the first line of a text has a fault behind items: what its tokens give is that
pub record BeginsFaulty (items : List FullLine) (text : List ℕ) (w : Why) : Type 0 where
  pub line : List ℕ
  pub after : List ℕ
  pub parts : text ≡ line ++ 10 ∷ after
  pub whole : IsLine line
  pub faulty : full_line_on items (tokens line) ≡ Err w

-- the lines before the fault's stand for a model, and the fault is what the next line has; its number is told up to 2 ^ 64 - 1
pub record IsFullFaultOf (text : List ℕ) (e : ReadFault) : Type 0 where
  pub lines : List (List ℕ)
  pub items : List FullLine
  pub rest : List ℕ
  pub parts : text ≡ text_of_lines lines ++ rest
  pub each : All IsLine lines
  pub spelled : SpellsLines (map tokens lines) items
  pub accepted : IsAccepted items
  pub place : e.line ≡ min (length lines + 1) (2 ^ 64 - 1)
  pub faulty : IsUnfinished rest e.why ⊎ BeginsFaulty items rest e.why
