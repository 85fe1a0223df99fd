-- What a judge of proofs in either form holds, and which texts it stands for.
use Rattle.std.specs.Prelude.{◌≡◌, ℕ, ◌≤◌, Bool, true, false, nat_lt, List, [], ◌∷◌, ◌++◌}
use Rattle.std.specs.List.{list_any}
use Rattle.drup.specs.declared.number.Number.{Number}
use Rattle.drup.specs.declared.proof_judge.Form.{Form}
use Rattle.drup.specs.declared.proof_judge.Form.TheVariants as form
use Rattle.drup.specs.declared.proof_judge.ProofJudge.TheInside.{Inside}
use Rattle.drup.specs.Formula.{Formula}
use Rattle.drup.specs.Proofs.{Mark, most_proof_lines}
use Rattle.drup.specs.BinaryProofs.{number_pieces, step_marks, binary_marks}
use Rattle.drup.specs.ProofForms.{is_binary_proof}
use Rattle.drup.specs.Numbers.{SpellsNumber}
use Rattle.drup.specs.StepReaders.{StandsForWords}
use Rattle.drup.specs.TextJudges.{TextJudge, BeginsText, StandsForLines}

-- the judge of texts, which has the reader of steps too, the count of variables, in which form the text is, the number of the step, and what is kept of
-- the number that has begun
pub record ProofJudge : Type 0 where
  pub text : TextJudge
  pub variables : ℕ
  pub form : Form
  pub step : ℕ
  pub number : Number

-- what is seen of a judge
abbrev pub judge_of : Inside → ProofJudge
judge_of j = record { text = j.text; variables = j.text.variables; form = j.form; step = j.step; number = j.number }

-- ---- a proof in the binary form

abbrev pub is_within : Form → Bool
is_within form.Empty = false
is_within form.Letter = false
is_within form.Lines = false
is_within form.Steps = false
is_within form.Literals = true

-- a byte that ends a number
abbrev pub ends_number : ℕ → Bool
ends_number b = nat_lt b 128

-- outside of steps no number has begun
abbrev pub IsNumberAt : Bool → List ℕ → Type 0
IsNumberAt true bytes = Unit {0}
IsNumberAt false bytes = bytes ≡ []

-- a step that has not begun may be one too many
abbrev pub IsFewSteps : Bool → ℕ → Type 0
IsFewSteps true step = step ≤ most_proof_lines
IsFewSteps false step = Unit {0}

-- some words are those of a text, whatever follows
pub record ScannedBytes (j : ProofJudge) (text : List ℕ) (marks : List Mark) (within : Bool) : Type 0 where
  pub bytes : List ℕ
  pub spells : SpellsNumber j.number bytes
  pub unended : list_any ends_number bytes ≡ false
  pub begun : IsNumberAt within bytes
  pub few : IsFewSteps within j.step
  pub reads : (more : List ℕ) → binary_marks j.text.variables (text ++ more) ≡ marks ++ step_marks j.text.variables j.step within (number_pieces (bytes ++ more))

-- where nothing more is read they are the first words, and else all
abbrev pub ScannedBytesAt : ProofJudge → List ℕ → List Mark → Bool → Bool → Type 0
ScannedBytesAt j text marks within true = (more : List ℕ) → (rest : List Mark) × (binary_marks j.text.variables (text ++ more) ≡ marks ++ rest)
ScannedBytesAt j text marks within false = ScannedBytes j text marks within

-- it stands for a text in the binary form over a formula, before a step or within one
pub record StandsAtBytes (f : Formula) (j : ProofJudge) (text : List ℕ) (within : Bool) : Type 0 where
  pub variables : j.text.variables ≡ f.variables
  pub marks : List Mark
  pub words : StandsForWords f j.text.reader marks
  pub scanned : ScannedBytesAt j text marks within j.text.reader.closed

abbrev pub StandsForBytesIn : Form → Formula → ProofJudge → List ℕ → Type 0
StandsForBytesIn form.Empty f j text = ⊥
StandsForBytesIn form.Letter f j text = ⊥
StandsForBytesIn form.Lines f j text = ⊥
StandsForBytesIn form.Steps f j text = StandsAtBytes f j text false
StandsForBytesIn form.Literals f j text = StandsAtBytes f j text true

abbrev pub StandsForBytes : Formula → ProofJudge → List ℕ → Type 0
StandsForBytes f j text = StandsForBytesIn j.form f j text

-- where nothing more is read some words are the first of a text, and else all of them
abbrev pub AreWordsAt : ProofJudge → List ℕ → List Mark → Bool → Type 0
AreWordsAt j text marks true = (rest : List Mark) × (binary_marks j.text.variables text ≡ marks ++ rest)
AreWordsAt j text marks false = binary_marks j.text.variables text ≡ marks

-- it took all words of a text in the binary form
pub record EndsBytes (f : Formula) (j : ProofJudge) (text : List ℕ) : Type 0 where
  pub variables : j.text.variables ≡ f.variables
  pub marks : List Mark
  pub words : StandsForWords f j.text.reader marks
  pub all : AreWordsAt j text marks j.text.reader.closed

-- ---- a proof in either form

-- a text is binary, or is not, whatever follows
abbrev pub IsInForm : Bool → List ℕ → Type 0
IsInForm binary text = (more : List ℕ) → is_binary_proof (text ++ more) ≡ binary

-- it has a formula's clauses, and took no byte in either form
pub record BeginsProof (f : Formula) (j : ProofJudge) : Type 0 where
  pub text : BeginsText f j.text
  pub step : j.step ≡ 1
  pub number : SpellsNumber j.number []

-- it stands for a text over a formula: no byte, or a `d` alone, which is kept, or one whose form is known
abbrev pub StandsIn : Form → Formula → ProofJudge → List ℕ → Type 0
StandsIn form.Empty f j text = (text ≡ []) × BeginsProof f j
StandsIn form.Letter f j text = (text ≡ 100 ∷ []) × BeginsProof f j
StandsIn form.Lines f j text = IsInForm false text × StandsForLines f j.text text
StandsIn form.Steps f j text = IsInForm true text × StandsAtBytes f j text false
StandsIn form.Literals f j text = IsInForm true text × StandsAtBytes f j text true

abbrev pub StandsForText : Formula → ProofJudge → List ℕ → Type 0
StandsForText f j text = StandsIn j.form f j text
