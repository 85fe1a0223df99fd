-- Reading the text of a model with words of any width from left to right, with the first fault that is met: as a text of the profile is read, but for the digits of
-- constants, of which all are kept, and for the rows that refuse an item.
use Rattle.std.specs.Prelude.{ℕ, List, [], ◌∷◌, Option, Result, Ok, Err}
use Rattle.base.specs.Lines.{whole_lines, unfinished, line_after}
use Rattle.btor2.specs.declared.item.Item.{Item}
use Rattle.btor2.specs.declared.item.Body.{Body}
use Rattle.btor2text.specs.declared.fault.Why.{Why}
use Rattle.btor2text.specs.declared.fault.Why.TheVariants as why
use Rattle.btor2text.specs.declared.fault.ReadFault.{ReadFault}
use Rattle.btor2text.specs.declared.forms.Form.{Form}
use Rattle.btor2text.specs.declared.forms.Form.TheVariants as form
use Rattle.btor2text.specs.declared.forms.Constant.{Constant}
use Rattle.btor2text.specs.Tokens.{tokens}
use Rattle.btor2text.specs.Reading.{◌>>=◌, Tokens, some_of, plain_at, sort_at, form_at, body_at, symbol_at, item_accepted, line_fault, then_lines}
use Rattle.wide.specs.WideModels.{greatest_width, wide_refusal}
use Rattle.widetext.specs.Digits.{spelled_body}

-- what the first of some tokens spells as the digits of a constant of a sort, and the tokens behind it
unfoldable pub digits_at : Constant → ℕ → Tokens → Result (Body × Tokens) Why
digits_at c s [] = Err why.BadToken
digits_at c s (token ∷ rest) = do
  b ← some_of (spelled_body c s token)
  Ok (b, rest)

-- what the tokens behind a form's word say, and the tokens behind them
unfoldable pub wide_body_at : Form → Tokens → Result (Body × Tokens) Why
wide_body_at (form.Constant c) tokens = do
  s ← sort_at tokens
  digits_at c s.0 s.1
wide_body_at f tokens = body_at f tokens

-- an item of these parts
abbrev pub named : ℕ → Option (List ℕ) → Body → Item
named id symbol says = record { id = id; symbol = symbol; body = says }

-- the item that a line's tokens spell
unfoldable pub wide_item_at : Tokens → Result Item Why
wide_item_at tokens = do
  id ← plain_at tokens
  f ← form_at id.1
  b ← wide_body_at f.0 f.1
  symbol ← symbol_at b.1
  Ok (named id.0 symbol b.0)

-- the items with one more, where no row refuses it
abbrev pub wide_accepted : List Item → Item → Result (List Item) Why
wide_accepted before x = item_accepted before x (wide_refusal greatest_width before x)

-- the items after one more line
unfoldable pub wide_line_on : List Item → Tokens → Result (List Item) Why
wide_line_on before [] = Ok before
wide_line_on before (first ∷ rest) = do
  x ← wide_item_at (first ∷ rest)
  wide_accepted before x

-- what line n + 1 and those after it give behind some items; the last has no byte 10
unfoldable pub wide_lines_on : ℕ → List Item → List (List ℕ) → List ℕ → Result (List Item) ReadFault
wide_lines_on n before [] [] = Ok before
wide_lines_on n before [] (b ∷ bs) = Err (line_fault (line_after n) why.Unfinished)
wide_lines_on n before (line ∷ lines) last = then_lines (line_after n) (wide_line_on before (tokens line)) (λ items. wide_lines_on (line_after n) items lines last)

-- the items that a text spells, or its fault
unfoldable pub wide_text_on : List ℕ → Result (List Item) ReadFault
wide_text_on text = wide_lines_on 0 [] (whole_lines text) (unfinished text)
