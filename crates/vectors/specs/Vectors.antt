-- Vectors of operators: the lines that write them, and which of them are right.
use Rattle.std.specs.Prelude.{◌≡◌, ◌≢◌, ℕ, suc, ◌==◌, if◌then◌else◌, ◌≤◌, ◌<◌, ◌^◌, ◌-◌, Bool, true, false, List, [], ◌∷◌, ◌++◌, length, Some, flat_map, decimal, codes, ◌⊎◌, ◌+◌}
use Rattle.std.specs.List.{All}
use Rattle.base.specs.Lines.{text_of_lines, HasNone, IsLine}
use Rattle.base.specs.Widths.{is_of_bits, unary_width, binary_width}
use Rattle.base.specs.Operator.{unary_value, binary_value}
use Rattle.btor2text.specs.Words.{unary_of, binary_of}
use Rattle.vectors.specs.declared.lines.LinesFault.{LinesFault}
use Rattle.vectors.specs.declared.lines.LinesFault.TheVariants as lines_fault
use Rattle.vectors.specs.declared.lines.Vector.{Vector}
use Rattle.vectors.specs.declared.lines.Vector.TheVariants as vector

-- the numbers of a vector fit their widths: the operands are of the vector's width, which is 1 to 64, or 1 where the operator takes single bits; the result is of the operator's width
abbrev pub IsVector : Vector → Type 0
IsVector (vector.Unary op n a r) = (1 ≤ n) × (n ≤ 64) × (a < 2 ^ n) × (r < 2 ^ unary_width op n)
IsVector (vector.Binary op n a b r) = (1 ≤ n) × (n ≤ 64) × (is_of_bits op ≡ true → n ≡ 1) × (a < 2 ^ n) × (b < 2 ^ n) × (r < 2 ^ binary_width op n)

-- a word names the operator of a vector
abbrev pub NamesOperator : List ℕ → Vector → Type 0
NamesOperator word (vector.Unary op n a r) = unary_of word ≡ Some op
NamesOperator word (vector.Binary op n a b r) = binary_of word ≡ Some op

-- the width, the operands and the result as decimals, one space between
abbrev pub numbers : Vector → List ℕ
numbers (vector.Unary op n a r) = decimal n ++ 32 ∷ (decimal a ++ 32 ∷ decimal r)
numbers (vector.Binary op n a b r) = decimal n ++ 32 ∷ (decimal a ++ 32 ∷ (decimal b ++ 32 ∷ decimal r))

-- a line, without its byte 10, writes a vector: the operator's word, which has no space, a space, and the numbers, which fit
pub record Writes (line : List ℕ) (v : Vector) : Type 0 where
  pub word : List ℕ
  pub plain : HasNone 32 word
  pub named : NamesOperator word v
  pub is : line ≡ word ++ 32 ∷ numbers v
  pub fits : IsVector v

-- lines write as many vectors, each its own
abbrev pub WriteAll : List (List ℕ) → List Vector → Type 0
WriteAll [] [] = Unit {0}
WriteAll [] (v ∷ vs) = ⊥
WriteAll (line ∷ lines) [] = ⊥
WriteAll (line ∷ lines) (v ∷ vs) = Writes line v × WriteAll lines vs

-- a text is the lines of some vectors, each with its byte 10
pub record AreVectorsOf (text : List ℕ) (vectors : List Vector) : Type 0 where
  pub lines : List (List ℕ)
  pub is : text ≡ text_of_lines lines
  pub written : WriteAll lines vectors

-- the word that a vector says to come
abbrev pub word_expected : Vector → ℕ
word_expected (vector.Unary op n a r) = r
word_expected (vector.Binary op n a b r) = r

-- the word that a vector's operator gives for its operands
abbrev pub vector_value : Vector → ℕ
vector_value (vector.Unary op n a r) = unary_value op n a
vector_value (vector.Binary op n a b r) = binary_value op n a b

-- a vector is right: its operator gives the word that it says
abbrev pub IsRight : Vector → Type 0
IsRight v = vector_value v ≡ word_expected v

-- a vector and the number of its line
pub record NumberedVector : Type 0 where
  pub line : ℕ
  pub vector : Vector

-- vectors with the numbers of their lines, from a first one on
abbrev pub numbered : ℕ → List Vector → List NumberedVector
numbered k [] = []
numbered k (v ∷ vs) = record { line = k; vector = v } ∷ numbered (suc k) vs

-- the numbers of the lines of those that are not right, in their order
abbrev pub lines_that_differ : List NumberedVector → List ℕ
lines_that_differ [] = []
lines_that_differ (n ∷ ns) = if vector_value n.vector == word_expected n.vector then lines_that_differ ns else n.line ∷ lines_that_differ ns

-- the line that is told of a vector that differs, by its number
abbrev pub differs_line : ℕ → List ℕ
differs_line k = codes "line " ++ (decimal k ++ codes ": differs\n")

-- what is told of some vectors: a line for each that differs, and how many agree
abbrev pub report : List ℕ → ℕ → List ℕ
report lines n = flat_map differs_line lines ++ (decimal (n - length lines) ++ (codes " of " ++ (decimal n ++ codes " vectors agree\n")))

-- What is told of some vectors: where it says that all agree each is right, and else one at least is not; and it names the lines of exactly those that are not.
pub record TellsVectors (told : List ℕ) (all_agree : Bool) (vectors : List Vector) : Type 0 where
  pub right : all_agree ≡ true → All IsRight vectors × (told ≡ report [] (length vectors))
  pub wrong : all_agree ≡ false → (lines_that_differ (numbered 1 vectors) ≢ []) × (told ≡ report (lines_that_differ (numbered 1 vectors)) (length vectors))

-- a text is the lines of some vectors, of which this is told
pub record IsReportOf (text told : List ℕ) (all_agree : Bool) : Type 0 where
  pub vectors : List Vector
  pub are : AreVectorsOf text vectors
  pub tells : TellsVectors told all_agree vectors

-- the first line of a text writes no vector
pub record BeginsBad (text : List ℕ) : Type 0 where
  pub line : List ℕ
  pub after : List ℕ
  pub parts : text ≡ line ++ 10 ∷ after
  pub whole : IsLine line
  pub bad : (v : Vector) → ¬ Writes line v

-- a text ends in bytes without a byte 10
pub record EndsUnfinished (text : List ℕ) : Type 0 where
  pub line : IsLine text
  pub some : text ≢ []

-- The line of this number, from 1, is the first of a text that writes no vector: those before it write some, and it writes none or has no byte 10.
pub record IsFirstBad (text : List ℕ) (n : ℕ) : Type 0 where
  pub lines : List (List ℕ)
  pub vectors : List Vector
  pub rest : List ℕ
  pub parts : text ≡ text_of_lines lines ++ rest
  pub written : WriteAll lines vectors
  pub number : n ≡ length lines + 1
  pub bad : EndsUnfinished rest ⊎ BeginsBad rest

-- what a fault says of the line that it names
abbrev pub IfBad : (ℕ → Type 0) → LinesFault → Type 0
IfBad P (lines_fault.Bad n) = P n
IfBad P lines_fault.NoMemory = Unit {0}
