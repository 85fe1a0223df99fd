-- Operands with a minus: `-` before the decimal of an id ("Btor2, BtorMC and Boolector 3.0", syntax).
use Rattle.std.specs.Prelude.{ℕ, zero, suc, Bool, true, false, not, ◌&&◌, List, [], ◌∷◌, drop, Option, Some, None, ◌==◌, if◌then◌else◌}
use Rattle.std.specs.List.{list_any}
use Rattle.base.specs.Decimals.{number_of}
use Rattle.btor2text.specs.Reading.{Tokens}

-- a number other than 0
abbrev pub is_some_id : Option ℕ → Bool
is_some_id (Some n) = not (n == 0)
is_some_id None = false

-- a token is `-` and a decimal other than 0
unfoldable pub has_minus : List ℕ → Bool
has_minus [] = false
has_minus (b ∷ bs) = (b == 45) && is_some_id (number_of bs)

-- a token with a minus before it, and one without its minus
abbrev pub with_sign : Bool → List ℕ → List ℕ
with_sign minus token = if minus then 45 ∷ token else token

abbrev pub without_sign : Bool → List ℕ → List ℕ
without_sign minus token = if minus then drop 1 token else token

-- tokens with a minus before some of them, by which these are
abbrev pub signed : List Bool → Tokens → Tokens
signed [] tokens = tokens
signed (m ∷ ms) [] = []
signed (m ∷ ms) (token ∷ rest) = with_sign m token ∷ signed ms rest

-- the same behind so many tokens
abbrev pub signed_behind : ℕ → List Bool → Tokens → Tokens
signed_behind zero ms tokens = signed ms tokens
signed_behind (suc k) ms [] = []
signed_behind (suc k) ms (token ∷ rest) = token ∷ signed_behind k ms rest

-- which of the first so many tokens have a minus, and all tokens without these
abbrev pub signs : ℕ → Tokens → List Bool
signs zero tokens = []
signs (suc n) [] = []
signs (suc n) (token ∷ rest) = has_minus token ∷ signs n rest

abbrev pub unsigned : ℕ → Tokens → Tokens
unsigned zero tokens = tokens
unsigned (suc n) [] = []
unsigned (suc n) (token ∷ rest) = without_sign (has_minus token) token ∷ unsigned n rest

-- the same behind so many tokens
abbrev pub signs_behind : ℕ → ℕ → Tokens → List Bool
signs_behind zero n tokens = signs n tokens
signs_behind (suc k) n [] = []
signs_behind (suc k) n (token ∷ rest) = signs_behind k n rest

abbrev pub unsigned_behind : ℕ → ℕ → Tokens → Tokens
unsigned_behind zero n tokens = unsigned n tokens
unsigned_behind (suc k) n [] = []
unsigned_behind (suc k) n (token ∷ rest) = token ∷ unsigned_behind k n rest

-- the minuses of operands as they are kept: none is told where none has one
abbrev pub kept_signs : List Bool → List Bool
kept_signs ms = if list_any (λ (m : Bool). m) ms then ms else []
