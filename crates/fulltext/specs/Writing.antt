-- The writer's text of a model of the whole safety language: the one spelling that it gives ("Btor2, BtorMC and Boolector 3.0", syntax). A form is spelled as `Writing.antt` of
-- `btor2text` spells it, with `-` before each operand that has a minus. A constant keeps its spelling, and so its radix and how many digits it has.
use Rattle.std.specs.Prelude.{ℕ, zero, suc, ◌+◌, ◌/◌, ◌%◌, List, [], ◌∷◌, ◌++◌, length, take, drop, map, flat_map, codes, decimal, ℤ, pos, negsuc, nat_lt, if◌then◌else◌}
use Rattle.std.specs.Char.{digit_char}
use Rattle.std.specs.Option.{option_to_list}
use Rattle.btor2.specs.declared.item.Body.{Body}
use Rattle.btor2.specs.declared.item.Body.TheVariants as body
use Rattle.btor2.specs.Items.{operands}
use Rattle.btor2text.specs.Reading.{Tokens}
use Rattle.btor2text.specs.Spelling.{form_tokens}
use Rattle.btor2text.specs.Writing.{behind_spaces}
use Rattle.full.specs.Lines.{Says, form, operands_of, FullLine}
use Rattle.fulltext.specs.Spelling.{operand_token, tokens_before, array_tokens}

-- the decimal of a number of so many digits at most
abbrev pub decimal_within : ℕ → ℕ → List ℕ
decimal_within zero n = []
decimal_within (suc most) n = if nat_lt n 10 then digit_char n ∷ [] else decimal_within most (n / 10) ++ digit_char (n % 10) ∷ []

-- the decimal of any number, of which `decimal` writes the last 64 digits alone: it has no more digits than the number is great, or one
unfoldable pub long_decimal : ℕ → List ℕ
long_decimal n = decimal_within (suc n) n

-- the same with a sign
abbrev pub signed_long : ℤ → List ℕ
signed_long (pos n) = long_decimal n
signed_long (negsuc n) = 45 ∷ long_decimal (suc n)

-- the tokens of a form without minuses, where a decimal constant may have any width: reading takes its decimal, which `form_tokens` has no more than 64 digits of
abbrev pub long_tokens : Body → Tokens
long_tokens (body.Constd s v) = codes "constd" ∷ decimal s ∷ signed_long v ∷ []
long_tokens b = form_tokens b

-- those before its operands, and those behind them
abbrev pub head_tokens : Body → Tokens
head_tokens b = take (tokens_before b) (long_tokens b)

abbrev pub tail_tokens : Body → Tokens
tail_tokens (body.Justice nodes) = []
tail_tokens b = drop (tokens_before b + length (operands b)) (long_tokens b)

-- the tokens of a line, behind its id
abbrev pub says_tokens : Says → Tokens
says_tokens (form b ms) = head_tokens b ++ (map operand_token (operands_of (form b ms)) ++ tail_tokens b)
says_tokens b = array_tokens b

-- a line: its id, what it says and its symbol, where it has one, with one space between, and byte 10
abbrev pub written_line : FullLine → List ℕ
written_line x = decimal x.id ++ (behind_spaces (says_tokens x.says ++ option_to_list x.symbol) ++ 10 ∷ [])

-- the text of a model: its lines
abbrev pub written_full : List FullLine → List ℕ
written_full lines = flat_map written_line lines
