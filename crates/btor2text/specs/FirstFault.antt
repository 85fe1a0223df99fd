-- The fault of a text that stands for no model: the first line that has one, the lines before it taken as read ("Btor2, BtorMC and Boolector 3.0", syntax; the whys and their order are this project's profile).
use Rattle.std.specs.Prelude.{◌≡◌, ◌≢◌, ℕ, ◌+◌, ◌-◌, ◌^◌, min, List, [], ◌∷◌, ◌++◌, length, map, Err, All, ◌⊎◌}
use Rattle.base.specs.Lines.{text_of_lines, IsLine}
use Rattle.btor2.specs.declared.item.Item.{Item}
use Rattle.btor2.specs.Check.{IsWellFormed}
use Rattle.btor2text.specs.declared.fault.Why.{Why}
use Rattle.btor2text.specs.declared.fault.Why.TheVariants as why
use Rattle.btor2text.specs.declared.fault.ReadFault.{ReadFault}
use Rattle.btor2text.specs.Tokens.{tokens}
use Rattle.btor2text.specs.Spelling.{SpellsAll}
use Rattle.btor2text.specs.Reading.{line_on}

-- a text ends in bytes without a byte 10
pub record IsUnfinished (text : List ℕ) (w : Why) : Type 0 where
  pub line : IsLine text
  pub some : text ≢ []
  pub is : w ≡ why.Unfinished

-- the first line of a text has a fault behind items: what its tokens give is that
pub record BeginsFaulty (items : List Item) (text : List ℕ) (w : Why) : Type 0 where
  pub line : List ℕ
  pub after : List ℕ
  pub parts : text ≡ line ++ 10 ∷ after
  pub whole : IsLine line
  pub faulty : line_on items (tokens line) ≡ Err w

-- the lines before the fault's stand for a model, and the fault is what the next line has; its number is told up to 2 ^ 64 - 1
pub record IsFaultOf (text : List ℕ) (e : ReadFault) : Type 0 where
  pub lines : List (List ℕ)
  pub items : List Item
  pub rest : List ℕ
  pub parts : text ≡ text_of_lines lines ++ rest
  pub each : All IsLine lines
  pub spelled : SpellsAll (map tokens lines) items
  pub well_formed : IsWellFormed items
  pub place : e.line ≡ min (length lines + 1) (2 ^ 64 - 1)
  pub faulty : IsUnfinished rest e.why ⊎ BeginsFaulty items rest e.why
