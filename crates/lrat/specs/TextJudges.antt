-- What a judge of proofs with hints in the text form holds, and which texts it stands for.
use Rattle.std.specs.Prelude.{◌≡◌, ℕ, suc, ◌+◌, Bool, true, false, ◌==◌, nat_lt, List, [], ◌∷◌, ◌++◌, length, map}
use Rattle.base.specs.Lines.{whole_lines, all_lines}
use Rattle.drup.specs.Formula.{Formula}
use Rattle.base.specs.Decimals.{is_nothing}
use Rattle.drup.specs.Proofs.{proof_words, most_proof_lines}
use Rattle.drup.specs.TextJudges.{this_line, next_lines, IsTokenAt, IsFew}
use Rattle.drup.specs.declared.lines.Place.{Place}
use Rattle.drup.specs.declared.lines.Place.TheVariants as place
use Rattle.drup.specs.declared.word.Word.{Word}
use Rattle.lrat.specs.HintedProofs.{token_of, Mark, mark, lines_marks}
use Rattle.drup.specs.Words.{SpellsWord}
use Rattle.lrat.specs.StepReaders.{StepReader, StandsForWords, BeginsReader}

-- ---- the rest of a text

-- the word that ends, where it has bytes
abbrev pub word_marks : ℕ → List ℕ → List Mark
word_marks line [] = []
word_marks line (b ∷ bs) = mark line (token_of (b ∷ bs)) ∷ []

-- what the rest says, in a line that begins, behind the first bytes of a word, or in a comment
abbrev pub marks_behind : Place → ℕ → List ℕ → List ℕ → List Mark
marks_behind place.Begins line word rest = lines_marks line (all_lines rest)
marks_behind place.Within line word rest = map (λ w. mark line (token_of w)) (proof_words (word ++ this_line rest)) ++ lines_marks (suc line) (all_lines (next_lines rest))
marks_behind place.Comment line word rest = lines_marks (suc line) (all_lines (next_lines rest))

-- ---- a judge

-- the reader of the words that ended, the line, where the next byte stands in it, and what is kept of the word that has begun
pub record TextJudge : Type 0 where
  pub reader : StepReader
  pub line : ℕ
  pub place : Place
  pub word : Word

-- some words are those of a text but for its last bytes, which are pending, whatever follows
pub record Scanned (j : TextJudge) (text pending : List ℕ) (marks : List Mark) : Type 0 where
  pub word : List ℕ
  pub spells : SpellsWord j.word word
  pub plain : IsTokenAt j.place word
  pub few : IsFew j.place j.line
  pub reads : (more : List ℕ) → lines_marks 1 (all_lines (text ++ more)) ≡ marks ++ marks_behind j.place j.line word (pending ++ more)
  pub last : (more : List ℕ) → suc (length (whole_lines (text ++ more))) ≡ j.line + length (whole_lines (pending ++ more))

-- in a place, a word that begins with a byte may be taken as a whole: none has begun, and the line is one of words
abbrev pub IsBetweenAt : Place → TextJudge → ℕ → Type 0
IsBetweenAt place.Begins j byte = (nat_lt most_proof_lines j.line ≡ false) × ((byte == 99) ≡ false)
IsBetweenAt place.Within j byte = (word : List ℕ) → SpellsWord j.word word → is_nothing word ≡ true
IsBetweenAt place.Comment j byte = ⊥

abbrev pub IsBetween : TextJudge → ℕ → Type 0
IsBetween j byte = IsBetweenAt j.place j byte

-- the next byte stands in a line of words, and no word has begun
pub record IsReady (j : TextJudge) : Type 0 where
  pub within : j.place ≡ place.Within
  pub none : (word : List ℕ) → SpellsWord j.word word → is_nothing word ≡ true

-- where nothing more is read they are the first words, and else all
abbrev pub ScannedAt : TextJudge → List ℕ → List ℕ → List Mark → Bool → Type 0
ScannedAt j text pending marks true = (more : List ℕ) → (rest : List Mark) × (lines_marks 1 (all_lines (text ++ more)) ≡ marks ++ rest)
ScannedAt j text pending marks false = Scanned j text pending marks

-- it stands for a text over a formula, but for last bytes that are pending
pub record StandsBefore (f : Formula) (j : TextJudge) (text pending : List ℕ) : Type 0 where
  pub variables : j.reader.variables ≡ f.variables
  pub marks : List Mark
  pub words : StandsForWords f j.reader marks
  pub scanned : ScannedAt j text pending marks j.reader.closed

-- it stands for a text over a formula, of which no byte is pending
abbrev pub StandsThrough : Formula → TextJudge → List ℕ → Type 0
StandsThrough f j text = StandsBefore f j text []

-- it has a formula's clauses, and took no byte
pub record BeginsText (f : Formula) (j : TextJudge) : Type 0 where
  pub reader : BeginsReader f j.reader
  pub variables : j.reader.variables ≡ f.variables
  pub line : j.line ≡ 1
  pub place : j.place ≡ place.Begins
  pub word : SpellsWord j.word []

-- it stands for a text over a formula; where that is empty, more clauses can be given
abbrev pub StandsForLines : Formula → TextJudge → List ℕ → Type 0
StandsForLines f j [] = BeginsText f j
StandsForLines f j (b ∷ bs) = StandsThrough f j (b ∷ bs)

-- where nothing more is read some words are the first of a text, and else all of them
abbrev pub AreMarksAt : TextJudge → List ℕ → List Mark → Bool → Type 0
AreMarksAt j text marks true = (rest : List Mark) × (lines_marks 1 (all_lines text) ≡ marks ++ rest)
AreMarksAt j text marks false = (lines_marks 1 (all_lines text) ≡ marks) × (suc (length (whole_lines text)) ≡ j.line)

-- it took all words of a text
pub record EndsText (f : Formula) (j : TextJudge) (text : List ℕ) : Type 0 where
  pub variables : j.reader.variables ≡ f.variables
  pub marks : List Mark
  pub words : StandsForWords f j.reader marks
  pub all : AreMarksAt j text marks j.reader.closed
