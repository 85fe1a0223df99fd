-- The steps in which a line and a text are read onto the lines of a model.
use Rattle.std.specs.Prelude.{◌≡◌, ℕ, Bool, true, false, List, [], ◌++◌, Option, Result, Ok, Err, ◌⊎◌}
use Rattle.btor2text.specs.declared.fault.Why.{Why}
use Rattle.btor2text.specs.declared.fault.Why.TheVariants as why
use Rattle.btor2text.specs.declared.fault.ReadFault.{ReadFault}
use Rattle.btor2text.specs.Tokens.{tokens}
use Rattle.btor2text.specs.Reading.{◌>>=◌, Tokens, symbol_at, line_fault}
use Rattle.wide.specs.declared.constant.Spelling.{Spelling}
use Rattle.widetext.specs.Constants.{digits_body}
use Rattle.widetext.specs.Steps.{is_constant_form}
use Rattle.btor2.specs.declared.item.Body.{Body}
use Rattle.btor2.specs.declared.item.Body.TheVariants as body
use Rattle.full.specs.Lines.{operand, Says, form as form_says, read, write, FullLine}
use Rattle.fulltext.specs.declared.kinds.Kind.{Kind}
use Rattle.fulltext.specs.declared.kinds.Kind.TheVariants as kind
use Rattle.fulltext.specs.Signs.{signs, unsigned, signs_behind, unsigned_behind}
use Rattle.fulltext.specs.Reading.{first_sign, second_sign, says_at, said_at, full_line_at, numbered, full_accepted}

-- the lines with one more, of this id, of whose line the tokens behind the word are left, without minuses, which stood as told
abbrev pub plain_on : List FullLine → ℕ → Kind → Tokens → List Bool → Result (List FullLine) Why
plain_on before id k line ms = do
  b ← says_at k line ms
  symbol ← symbol_at b.1
  full_accepted before (numbered id symbol b.0)

-- the same, with the minuses
abbrev pub said_on : List FullLine → ℕ → Kind → Tokens → Result (List FullLine) Why
said_on before id k line = do
  b ← said_at k line
  symbol ← symbol_at b.1
  full_accepted before (numbered id symbol b.0)

-- the lines with one more, which a line spells
abbrev pub line_on : List FullLine → Tokens → Result (List FullLine) Why
line_on before line = do
  x ← full_line_at line
  full_accepted before x

-- whether a line is one of a constant in digits
abbrev pub is_constant_kind : Kind → Bool
is_constant_kind (kind.Form f) = is_constant_form f
is_constant_kind _ = false

-- a constant of these digits is refused so, whatever its symbol is
abbrev pub IsDigitsFault : List FullLine → ℕ → ℕ → Spelling → List ℕ → Why → Type 0
IsDigitsFault before id s sp digits e = (symbol : Option (List ℕ)) → full_accepted before (numbered id symbol (form_says (digits_body sp s digits) [])) ≡ Err e

-- a why is told at a line, but want of memory at none
pub record IsFaultAt (e : ReadFault) (line : ℕ) (w : Why) : Type 0 where
  pub is : (e ≡ line_fault line w) ⊎ (e ≡ line_fault 0 why.NoMemory)
  pub full : w ≡ why.NoMemory → e ≡ line_fault 0 why.NoMemory

-- a line was read onto a model, unless memory ran out
abbrev pub ReadsFullLine : Result (Unit {0}) Why → List FullLine → Result (List FullLine) Why → Type 0
ReadsFullLine (Ok u) items given = given ≡ Ok items
ReadsFullLine (Err e) items given = (e ≡ why.NoMemory) ⊎ (given ≡ Err e)

-- lines were read onto a model, unless memory ran out
abbrev pub ReadsText : Result (Unit {0}) ReadFault → List FullLine → Result (List FullLine) ReadFault → Type 0
ReadsText (Ok u) items given = given ≡ Ok items
ReadsText (Err e) items given = (e ≡ line_fault 0 why.NoMemory) ⊎ (given ≡ Err e)

-- a text that stands for lines was read as them, unless memory ran out
abbrev pub ReadsAsLines : Result (List FullLine) ReadFault → List FullLine → Type 0
ReadsAsLines (Ok model) items = model ≡ items
ReadsAsLines (Err e) items = e ≡ line_fault 0 why.NoMemory

-- ---- read and write, by the places of a concatenation and of a choice

-- the read that stands in the places of a concatenation, with the minuses before them
abbrev pub read_by : Body → List Bool → Result Says Why
read_by (body.Concat s a b) ms = Ok (read s a (operand b (first_sign ms)))
read_by _ ms = Err why.BadToken

-- the write that stands in the places of a choice
abbrev pub write_by : Body → List Bool → Result Says Why
write_by (body.Ite s c t e) ms = Ok (write s c (operand t (first_sign ms)) (operand e (second_sign ms)))
write_by _ ms = Err why.BadToken

-- what is said, and the tokens behind it
abbrev pub said_before : Tokens → Says → Result (Says × Tokens) Why
said_before rest b = Ok (b, rest)

-- a read, and the tokens behind it
abbrev pub read_before : Body → List Bool → Tokens → Result (Says × Tokens) Why
read_before b ms rest = read_by b ms >>= said_before rest

-- a write, and the tokens behind it
abbrev pub write_before : Body → List Bool → Tokens → Result (Says × Tokens) Why
write_before b ms rest = write_by b ms >>= said_before rest

-- ---- lines without minuses

-- whatever is put behind bytes, their tokens stay
abbrev pub IsWhole : List ℕ → Type 0
IsWhole bytes = (line : List ℕ) → tokens (bytes ++ line) ≡ tokens bytes ++ tokens line

-- bytes have the first so many tokens of a line, and these are left
pub record IsFront (k : ℕ) (line : Tokens) (bytes : List ℕ) (rest : Tokens) : Type 0 where
  pub whole : IsWhole bytes
  pub plain : (n : ℕ) → tokens bytes ++ unsigned n rest ≡ unsigned_behind k n line
  pub signs : (n : ℕ) → signs n rest ≡ signs_behind k n line

-- bytes took the first so many tokens of a line without minuses, which were kept, and these are left
pub record AddsOperands (n : ℕ) (line : Tokens) (old new : List ℕ) (before after : List Bool) (rest : Tokens) : Type 0 where
  pub whole : IsWhole new
  pub plain : tokens new ++ rest ≡ tokens old ++ unsigned n line
  pub signs : after ≡ before ++ signs n line
