-- The writer's text of a model: the one spelling that it gives.
use Rattle.std.specs.Prelude.{ℕ, ◌≤◌, List, [], ◌∷◌, ◌++◌, length, codes, decimal, flat_map}
use Rattle.std.specs.Option.{option_to_list}
use Rattle.btor2.specs.declared.item.Item.{Item}
use Rattle.btor2.specs.declared.item.Body.{Body}
use Rattle.btor2.specs.declared.item.Body.TheVariants as body
use Rattle.btor2text.specs.Spelling.{form_tokens}

-- each of some tokens behind a space
abbrev pub behind_spaces : List (List ℕ) → List ℕ
behind_spaces tokens = flat_map (λ token. 32 ∷ token) tokens

-- tokens, each behind a space, in front of other bytes
abbrev pub in_front : List (List ℕ) → List ℕ → List ℕ
in_front [] rest = rest
in_front (token ∷ tokens) rest = 32 ∷ token ++ in_front tokens rest

-- a form in two parts: its tokens but for the operands of a justice line, and these
abbrev pub head_tokens : Body → List (List ℕ)
head_tokens (body.Justice nodes) = codes "justice" ∷ decimal (length nodes) ∷ []
head_tokens b = form_tokens b

abbrev pub justice_operands : Body → List ℕ
justice_operands (body.Justice nodes) = nodes
justice_operands _ = []

-- the line of an item: its id, its form and its symbol, where it has one, with one space between, and byte 10
abbrev pub written_line : Item → List ℕ
written_line x = decimal x.id ++ (behind_spaces (form_tokens x.body ++ option_to_list x.symbol) ++ 10 ∷ [])

-- the text of a model: a line for each item
abbrev pub written : List Item → List ℕ
written items = flat_map written_line items

-- a constant that is spelled with digits has no more than the widest word
abbrev pub HasFewDigits : Body → Type 0
HasFewDigits (body.Const s d v) = d ≤ 64
HasFewDigits (body.Consth s d v) = d ≤ 64
HasFewDigits _ = Unit {0}
