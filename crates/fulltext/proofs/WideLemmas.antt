-- A text of wide words stands for the same lines here.
use Rattle.std.proofs.Common.{◌≡◌, ℕ, List, [], ◌∷◌, map, refl, sym}
use Rattle.btor2.specs.declared.item.Item.{Item}
use Rattle.btor2.specs.declared.item.Body.{Body}
use Rattle.btor2text.specs.Tokens.{tokens}
use Rattle.btor2text.specs.Reading.{Tokens}
use Rattle.widetext.specs.Spelling.{WideSaysBody, WideSpellsItem, WideSpellsAll, StandsForWide}
use Rattle.full.specs.Lines.{form}
use Rattle.full.specs.Plain.{plain_line, plain_lines}
use Rattle.fullmodel.proofs.PlainLemmas.{plain_are_accepted}
use Rattle.fulltext.specs.Spelling.{tokens_before, SaysLine, SpellsLine, SpellsLines, StandsForFull}
use Rattle.fulltext.proofs.SignLemmas.{none_behind}

says_plain : (b : Body) (line : Tokens) → WideSaysBody b line → SaysLine (form b []) line
says_plain b line says = (line, sym (none_behind (tokens_before b) [] line refl), says, tt)

spells_plain : (line : Tokens) (x : Item) → WideSpellsItem line x → SpellsLine line (plain_line x)
spells_plain line x s = record { form = s.form; tokens = s.tokens; says = says_plain x.body s.form s.says; symbol = s.symbol }

all_plain : (lines : List Tokens) (xs : List Item) → WideSpellsAll lines xs → SpellsLines lines (plain_lines xs)
all_plain [] [] s = tt
all_plain [] (x ∷ xs) s = absurd s
all_plain ([] ∷ lines) xs s = all_plain lines xs s
all_plain ((token ∷ line) ∷ lines) [] s = absurd s
all_plain ((token ∷ line) ∷ lines) (x ∷ xs) s = (spells_plain (token ∷ line) x s.0, all_plain lines xs s.1)

pub wide_stands : (text : List ℕ) (items : List Item) → StandsForWide text items → StandsForFull text (plain_lines items)
wide_stands text items s = record { lines = s.lines; whole = s.whole; each = s.each; spelled = all_plain (map tokens s.lines) items s.spelled; accepted = plain_are_accepted items s.well_formed }
