-- Tokens of a line of a model's text ("Btor2, BtorMC and Boolector 3.0", syntax; which bytes separate tokens and where a comment begins is this project's profile).
use Rattle.std.specs.Prelude.{ℕ, Bool, false, not, ◌||◌, List, [], ◌∷◌, ◌==◌, if◌then◌else◌, filter}
use Rattle.base.specs.Lines.{to_first}
use Rattle.base.specs.Decimals.{is_nothing}
use Rattle.btor2.specs.Symbols.{is_comment}

-- a space or a tab
abbrev pub is_blank : ℕ → Bool
is_blank b = (b == 32) || (b == 9)

-- what stands between blanks, empty pieces too
abbrev pub pieces : List ℕ → List (List ℕ)
pieces [] = [] ∷ []
pieces (b ∷ bs) = if is_blank b then [] ∷ pieces bs else to_first b (pieces bs)

-- the pieces before the one with which a comment to the line's end begins
abbrev pub before_comment : List (List ℕ) → List (List ℕ)
before_comment [] = []
before_comment (p ∷ ps) = if is_comment p then [] else p ∷ before_comment ps

-- the tokens of a line: what stands between blanks, where that is something, up to a comment
abbrev pub tokens : List ℕ → List (List ℕ)
tokens line = before_comment (filter (λ p. not (is_nothing p)) (pieces line))

-- a line begins with a blank
abbrev pub begins_blank : List ℕ → Bool
begins_blank [] = false
begins_blank (b ∷ bs) = is_blank b

-- a line begins with a token
abbrev pub begins_token : List ℕ → Bool
begins_token [] = false
begins_token (b ∷ bs) = not (is_blank b || (b == 59))
