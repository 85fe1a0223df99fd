-- What a judge of proofs in the text form holds, and which texts it stands for.
use Rattle.std.specs.Prelude.{◌≡◌, ℕ, suc, ◌+◌, ◌*◌, ◌<◌, ◌≤◌, Bool, true, false, List, [], ◌∷◌, ◌++◌, ◌==◌, if◌then◌else◌, length, map}
use Rattle.std.specs.List.{list_any}
use Rattle.base.specs.Lines.{whole_lines, all_lines}
use Rattle.drup.specs.declared.lines.Place.{Place}
use Rattle.drup.specs.declared.lines.Place.TheVariants as place
use Rattle.drup.specs.declared.text_judge.TextJudge.TheInside.{Inside}
use Rattle.drup.specs.declared.word.Word.{Word}
use Rattle.drup.specs.Formula.{Formula}
use Rattle.drup.specs.Proofs.{is_proof_blank, proof_words, token_of, Mark, mark, most_proof_lines, lines_marks}
use Rattle.drup.specs.Words.{SpellsWord}
use Rattle.drup.specs.StepReaders.{StepReader, StandsForWords, BeginsReader}

-- ---- the rest of a text

-- its bytes before the first byte 10
abbrev pub this_line : List ℕ → List ℕ
this_line [] = []
this_line (b ∷ bs) = if b == 10 then [] else b ∷ this_line bs

-- its bytes behind the first byte 10
abbrev pub next_lines : List ℕ → List ℕ
next_lines [] = []
next_lines (b ∷ bs) = if b == 10 then bs else next_lines bs

-- the word that ends, where it has bytes
abbrev pub word_marks : ℕ → ℕ → List ℕ → List Mark
word_marks variables line [] = []
word_marks variables line (b ∷ bs) = mark line (token_of variables (b ∷ bs)) ∷ []

-- what the rest says, in a line that begins, behind the first bytes of a word, or in a comment
abbrev pub marks_behind : ℕ → Place → ℕ → List ℕ → List ℕ → List Mark
marks_behind variables place.Begins line word rest = lines_marks variables line (all_lines rest)
marks_behind variables place.Within line word rest = map (λ w. mark line (token_of variables w)) (proof_words (word ++ this_line rest)) ++ lines_marks variables (suc line) (all_lines (next_lines rest))
marks_behind variables place.Comment line word rest = lines_marks variables (suc line) (all_lines (next_lines rest))

-- ---- a judge

-- the reader of the words that ended, the count of variables, the line, where the next byte stands in it, and what is kept of the word that has begun
pub record TextJudge : Type 0 where
  pub reader : StepReader
  pub variables : ℕ
  pub line : ℕ
  pub place : Place
  pub word : Word

-- the literals of its variables are those below its reader's limit
pub record IsTextJudge (j : Inside) : Type 0 where
  pub limit : j.reader.judge.propagator.limit ≡ 2 * j.variables + 2
  pub few : j.variables < 2147483647

-- a word has no blanks, and outside of words nothing has begun
abbrev pub IsTokenAt : Place → List ℕ → Type 0
IsTokenAt place.Begins word = word ≡ []
IsTokenAt place.Within word = list_any is_proof_blank word ≡ false
IsTokenAt place.Comment word = word ≡ []

-- a line that begins may be one too many
abbrev pub IsFew : Place → ℕ → Type 0
IsFew place.Begins line = line ≤ suc most_proof_lines
IsFew place.Within line = line ≤ most_proof_lines
IsFew place.Comment line = line ≤ most_proof_lines

-- some words are those of a text but for its last bytes, which are pending, whatever follows
pub record Scanned (j : TextJudge) (text pending : List ℕ) (marks : List Mark) : Type 0 where
  pub word : List ℕ
  pub spells : SpellsWord j.word word
  pub plain : IsTokenAt j.place word
  pub few : IsFew j.place j.line
  pub reads : (more : List ℕ) → lines_marks j.variables 1 (all_lines (text ++ more)) ≡ marks ++ marks_behind j.variables j.place j.line word (pending ++ more)
  pub last : (more : List ℕ) → suc (length (whole_lines (text ++ more))) ≡ j.line + length (whole_lines (pending ++ more))

-- where nothing more is read they are the first words, and else all
abbrev pub ScannedAt : TextJudge → List ℕ → List ℕ → List Mark → Bool → Type 0
ScannedAt j text pending marks true = (more : List ℕ) → (rest : List Mark) × (lines_marks j.variables 1 (all_lines (text ++ more)) ≡ marks ++ rest)
ScannedAt j text pending marks false = Scanned j text pending marks

-- it stands for a text over a formula, but for last bytes that are pending
pub record StandsBefore (f : Formula) (j : TextJudge) (text pending : List ℕ) : Type 0 where
  pub variables : j.variables ≡ f.variables
  pub marks : List Mark
  pub words : StandsForWords f j.reader marks
  pub scanned : ScannedAt j text pending marks j.reader.closed

-- it stands for a text over a formula, of which no byte is pending
abbrev pub StandsThrough : Formula → TextJudge → List ℕ → Type 0
StandsThrough f j text = StandsBefore f j text []

-- it has a formula's clauses, and took no byte
pub record BeginsText (f : Formula) (j : TextJudge) : Type 0 where
  pub reader : BeginsReader f j.reader
  pub variables : j.variables ≡ f.variables
  pub line : j.line ≡ 1
  pub place : j.place ≡ place.Begins
  pub word : SpellsWord j.word []

-- it stands for a text over a formula; where that is empty, more clauses can be given
abbrev pub StandsForLines : Formula → TextJudge → List ℕ → Type 0
StandsForLines f j [] = BeginsText f j
StandsForLines f j (b ∷ bs) = StandsThrough f j (b ∷ bs)

-- where nothing more is read some words are the first of a text, and else all of them
abbrev pub AreMarksAt : TextJudge → List ℕ → List Mark → Bool → Type 0
AreMarksAt j text marks true = (rest : List Mark) × (lines_marks j.variables 1 (all_lines text) ≡ marks ++ rest)
AreMarksAt j text marks false = (lines_marks j.variables 1 (all_lines text) ≡ marks) × (suc (length (whole_lines text)) ≡ j.line)

-- it took all words of a text
pub record EndsText (f : Formula) (j : TextJudge) (text : List ℕ) : Type 0 where
  pub variables : j.variables ≡ f.variables
  pub marks : List Mark
  pub words : StandsForWords f j.reader marks
  pub all : AreMarksAt j text marks j.reader.closed
