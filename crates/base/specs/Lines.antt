-- Lines of a text: a byte 10 ends each, and what follows the last byte 10 is unfinished.
use Rattle.std.specs.Prelude.{◌≡◌, ℕ, ◌+◌, ◌-◌, ◌^◌, min, false, List, [], ◌∷◌, ◌++◌, ◌==◌, if◌then◌else◌, flat_map}
use Rattle.std.specs.List.{list_any}

-- the text of lines: behind each a byte 10
abbrev pub text_of_lines : List (List ℕ) → List ℕ
text_of_lines lines = flat_map (λ line. line ++ 10 ∷ []) lines

-- none of some bytes is this byte
abbrev pub HasNone : ℕ → List ℕ → Type 0
HasNone byte bytes = list_any (λ b. b == byte) bytes ≡ false

-- no byte of a line is a byte 10
abbrev pub IsLine : List ℕ → Type 0
IsLine line = HasNone 10 line

-- a byte more at the front of the first line; where no line is left, it is of the unfinished rest
abbrev pub onto_first : ℕ → List (List ℕ) → List (List ℕ)
onto_first b [] = []
onto_first b (line ∷ lines) = (b ∷ line) ∷ lines

-- a byte more at the front of the first of some pieces; where there is none, it is one
abbrev pub to_first : ℕ → List (List ℕ) → List (List ℕ)
to_first b [] = (b ∷ []) ∷ []
to_first b (p ∷ ps) = (b ∷ p) ∷ ps

-- the whole lines of a text: those that a byte 10 ends
abbrev pub whole_lines : List ℕ → List (List ℕ)
whole_lines [] = []
whole_lines (b ∷ bs) = if b == 10 then [] ∷ whole_lines bs else onto_first b (whole_lines bs)

-- the bytes after the last byte 10 of a text, or all of them
abbrev pub unfinished : List ℕ → List ℕ
unfinished [] = []
unfinished (b ∷ bs) = if list_any (λ c. c == 10) (b ∷ bs) then unfinished bs else b ∷ bs

-- a line where there is a byte of it
abbrev pub line_of : List ℕ → List (List ℕ)
line_of [] = []
line_of (b ∷ bs) = (b ∷ bs) ∷ []

-- all lines of a text, of which the last may have no end
abbrev pub all_lines : List ℕ → List (List ℕ)
all_lines text = whole_lines text ++ line_of (unfinished text)

-- the number of the line behind line n, told up to 2 ^ 64 - 1
abbrev pub line_after : ℕ → ℕ
line_after n = min (n + 1) (2 ^ 64 - 1)
