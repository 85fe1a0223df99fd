-- The steps in which a line and a text are read onto items.
use Rattle.std.specs.Prelude.{◌≡◌, ℕ, Bool, true, false, List, Result, Ok, Err, ◌⊎◌}
use Rattle.btor2.specs.declared.item.Item.{Item}
use Rattle.btor2text.specs.declared.fault.Why.{Why}
use Rattle.btor2text.specs.declared.fault.Why.TheVariants as why
use Rattle.btor2text.specs.declared.fault.ReadFault.{ReadFault}
use Rattle.btor2text.specs.declared.forms.Form.{Form}
use Rattle.btor2text.specs.declared.forms.Form.TheVariants as form
use Rattle.btor2text.specs.Reading.{◌>>=◌, Tokens, symbol_at, line_fault}
use Rattle.widetext.specs.Reading.{wide_body_at, wide_item_at, named, wide_accepted}

-- the items with one more, of this id, of whose line the tokens behind the form's word are left
abbrev pub said_on : List Item → ℕ → Form → Tokens → Result (List Item) Why
said_on before id f line = do
  b ← wide_body_at f line
  symbol ← symbol_at b.1
  wide_accepted before (named id symbol b.0)

-- the items with one more, which a line spells
abbrev pub item_on : List Item → Tokens → Result (List Item) Why
item_on before line = do
  x ← wide_item_at line
  wide_accepted before x

-- whether a form is one of constants in digits
abbrev pub is_constant_form : Form → Bool
is_constant_form (form.Constant c) = true
is_constant_form _ = false

-- a why is told at a line, but want of memory at none
pub record IsFaultAt (e : ReadFault) (line : ℕ) (w : Why) : Type 0 where
  pub is : (e ≡ line_fault line w) ⊎ (e ≡ line_fault 0 why.NoMemory)
  pub full : w ≡ why.NoMemory → e ≡ line_fault 0 why.NoMemory

-- lines were read onto items, unless memory ran out
abbrev pub ReadsText : Result (Unit {0}) ReadFault → List Item → Result (List Item) ReadFault → Type 0
ReadsText (Ok u) items read = read ≡ Ok items
ReadsText (Err e) items read = (e ≡ line_fault 0 why.NoMemory) ⊎ (read ≡ Err e)
