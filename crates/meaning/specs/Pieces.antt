-- The first piece of a text with which nothing that follows makes it one of a kind (this project's): a line, or a delta of the binary form of a circuit.
use Rattle.std.specs.Prelude.{◌≡◌, ℕ, ◌<◌, ◌≤◌, List, [], ◌∷◌, ◌++◌, length, All, ◌⊎◌}
use Rattle.std.specs.List.{concat}
use Rattle.base.specs.Lines.{IsLine}

-- a line with its byte 10
pub record IsWholeLine (bytes : List ℕ) : Type 0 where
  pub line : List ℕ
  pub is_line : IsLine line
  pub whole : bytes ≡ line ++ 10 ∷ []

-- a delta up to its end, whatever it stands for: all bytes before the last have the top bit, and the last has not, or is the fifth
pub record IsWholeDelta (bytes : List ℕ) : Type 0 where
  pub front : List ℕ
  pub last : ℕ
  pub tops : All (λ b. 128 ≤ b) front
  pub few : length front ≤ 4
  pub ends : (last < 128) ⊎ (length front ≡ 4)
  pub whole : bytes ≡ front ++ last ∷ []

-- bytes in which a delta has begun, or not even that, and has not ended
pub record IsPartOfDelta (bytes : List ℕ) : Type 0 where
  pub tops : All (λ b. 128 ≤ b) bytes
  pub few : length bytes ≤ 4

-- a line or a delta
abbrev pub IsLineOrDelta : List ℕ → Type 0
IsLineOrDelta bytes = IsWholeLine bytes ⊎ IsWholeDelta bytes

-- a piece stands behind some bytes, which with it begin no text of a kind
pub record IsFaulty (IsPiece Begins : List ℕ → Type 0) (before behind : List ℕ) : Type 0 where
  pub piece : List ℕ
  pub rest : List ℕ
  pub parts : behind ≡ piece ++ rest
  pub is_piece : IsPiece piece
  pub none : ¬ Begins (before ++ piece)

-- a text is whole pieces up to a place: they begin a text of a kind, and with the piece at the place they begin none, or the text ends within that piece, which is told as such
pub record IsFirstFault (IsBefore IsPiece IsPart Begins : List ℕ → Type 0) (told : Type 0) (text : List ℕ) (place : ℕ) : Type 0 where
  pub pieces : List (List ℕ)
  pub whole : All IsBefore pieces
  pub behind : List ℕ
  pub parts : text ≡ concat pieces ++ behind
  pub is : length (concat pieces) ≡ place
  pub begins : Begins (concat pieces)
  pub fault : (told × IsPart behind) ⊎ IsFaulty IsPiece Begins (concat pieces) behind
