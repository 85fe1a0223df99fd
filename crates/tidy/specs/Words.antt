-- The words of a line, which blanks part (this project's: a space, a tab and a carriage return are blanks, so that the carriage return of a
-- Windows line end goes with those at the end).
use Rattle.std.specs.Prelude.{ℕ, Bool, false, not, ◌||◌, ◌==◌, List, [], ◌∷◌, ◌++◌, filter, flat_map, if◌then◌else◌}
use Rattle.base.specs.Decimals.{is_nothing, is_digit}

abbrev pub is_gap : ℕ → Bool
is_gap b = (b == 32) || ((b == 9) || (b == 13))

-- what stands between blanks: nothing between two neighbours, and nothing in front of a first and behind a last one
abbrev pub onto_piece : ℕ → List (List ℕ) → List (List ℕ)
onto_piece b [] = (b ∷ []) ∷ []
onto_piece b (p ∷ ps) = (b ∷ p) ∷ ps

abbrev pub word_pieces : List ℕ → List (List ℕ)
word_pieces [] = [] ∷ []
word_pieces (b ∷ bs) = if is_gap b then [] ∷ word_pieces bs else onto_piece b (word_pieces bs)

-- the words of a line
abbrev pub words : List ℕ → List (List ℕ)
words line = filter (λ p. not (is_nothing p)) (word_pieces line)

-- words with one space between, and the words of a line so
abbrev pub joined : List (List ℕ) → List ℕ
joined [] = []
joined (w ∷ ws) = w ++ flat_map (λ v. 32 ∷ v) ws

abbrev pub plain : List ℕ → List ℕ
plain line = joined (words line)

-- a line from its first word on
abbrev pub unindented : List ℕ → List ℕ
unindented [] = []
unindented (b ∷ bs) = if is_gap b then unindented bs else b ∷ bs

-- the first byte is this one
abbrev pub begins_with : ℕ → List ℕ → Bool
begins_with b [] = false
begins_with b (c ∷ cs) = c == b

-- a digit stands first
abbrev pub begins_digit : List ℕ → Bool
begins_digit [] = false
begins_digit (b ∷ bs) = is_digit b
