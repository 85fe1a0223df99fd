-- What a judge of proofs with hints in either form holds, and which texts it stands for.
use Rattle.std.specs.Prelude.{◌≡◌, ℕ, Bool, true, false, List, [], ◌++◌}
use Rattle.std.specs.List.{list_any}
use Rattle.drup.specs.Formula.{Formula}
use Rattle.drup.specs.BinaryProofs.{number_pieces}
use Rattle.drup.specs.ProofJudges.{ends_number}
use Rattle.lrat.specs.declared.lrat_judge.Form.{Form}
use Rattle.lrat.specs.declared.lrat_judge.Form.TheVariants as form
use Rattle.lrat.specs.declared.lrat_judge.LratJudge.TheInside.{Inside}
use Rattle.lrat.specs.declared.scan.Scan.{Scan}
use Rattle.lrat.specs.declared.scan.Spot.TheVariants as spot
use Rattle.lrat.specs.HintedProofs.{Mark}
use Rattle.lrat.specs.BinaryHintedProofs.{step_marks, binary_marks}
use Rattle.lrat.specs.HintedForms.{is_binary_lrat}
use Rattle.drup.specs.Numbers.{SpellsNumber}
use Rattle.lrat.specs.Scans.{spot_of}
use Rattle.lrat.specs.StepReaders.{StandsForWords}
use Rattle.lrat.specs.TextJudges.{TextJudge, BeginsText, StandsForLines}

-- the judge of texts, which has the reader of steps too, the count of variables, in which form the text is, and where its next byte stands in the binary form
pub record LratJudge : Type 0 where
  pub text : TextJudge
  pub variables : ℕ
  pub form : Form
  pub scan : Scan

-- what is seen of a judge
abbrev pub judge_of : Inside → LratJudge
judge_of j = record { text = j.text; variables = j.text.reader.variables; form = j.form; scan = j.scan }

-- ---- a proof in the binary form

-- some words are those of a text, whatever follows
pub record ScannedBytes (j : LratJudge) (text : List ℕ) (marks : List Mark) : Type 0 where
  pub bytes : List ℕ
  pub spells : SpellsNumber j.scan.number bytes
  pub unended : list_any ends_number bytes ≡ false
  pub reads : (more : List ℕ) → binary_marks (text ++ more) ≡ marks ++ step_marks j.scan.step (spot_of j.scan.spot) (number_pieces (bytes ++ more))

-- where nothing more is read they are the first words, and else all
abbrev pub ScannedBytesAt : LratJudge → List ℕ → List Mark → Bool → Type 0
ScannedBytesAt j text marks true = (more : List ℕ) → (rest : List Mark) × (binary_marks (text ++ more) ≡ marks ++ rest)
ScannedBytesAt j text marks false = ScannedBytes j text marks

-- it stands for a text in the binary form over a formula
pub record StandsForBytes (f : Formula) (j : LratJudge) (text : List ℕ) : Type 0 where
  pub variables : j.text.reader.variables ≡ f.variables
  pub marks : List Mark
  pub words : StandsForWords f j.text.reader marks
  pub scanned : ScannedBytesAt j text marks j.text.reader.closed

-- where nothing more is read some words are the first of a text, and else all of them
abbrev pub AreWordsAt : List ℕ → List Mark → Bool → Type 0
AreWordsAt text marks true = (rest : List Mark) × (binary_marks text ≡ marks ++ rest)
AreWordsAt text marks false = binary_marks text ≡ marks

-- it took all words of a text in the binary form
pub record EndsBytes (f : Formula) (j : LratJudge) (text : List ℕ) : Type 0 where
  pub variables : j.text.reader.variables ≡ f.variables
  pub marks : List Mark
  pub words : StandsForWords f j.text.reader marks
  pub all : AreWordsAt text marks j.text.reader.closed

-- ---- a proof in either form

-- a text is binary, or is not, whatever follows
abbrev pub IsInForm : Bool → List ℕ → Type 0
IsInForm binary text = (more : List ℕ) → is_binary_lrat (text ++ more) ≡ binary

-- it has a formula's clauses, and took no byte in either form
pub record BeginsLrat (f : Formula) (j : LratJudge) : Type 0 where
  pub text : BeginsText f j.text
  pub step : j.scan.step ≡ 1
  pub spot : j.scan.spot ≡ spot.Step
  pub number : SpellsNumber j.scan.number []

-- it stands for a text over a formula: no byte, or one whose form is known
abbrev pub StandsIn : Form → Formula → LratJudge → List ℕ → Type 0
StandsIn form.Empty f j text = (text ≡ []) × BeginsLrat f j
StandsIn form.Lines f j text = IsInForm false text × StandsForLines f j.text text
StandsIn form.Bytes f j text = IsInForm true text × StandsForBytes f j text

abbrev pub StandsForLrat : Formula → LratJudge → List ℕ → Type 0
StandsForLrat f j text = StandsIn j.form f j text

-- it took all of a text over a formula
abbrev pub EndsIn : Form → Formula → LratJudge → List ℕ → Type 0
EndsIn form.Empty f j text = (text ≡ []) × BeginsLrat f j
EndsIn form.Lines f j text = IsInForm false text × StandsForLines f j.text text
EndsIn form.Bytes f j text = IsInForm true text × EndsBytes f j text

abbrev pub EndsLrat : Formula → LratJudge → List ℕ → Type 0
EndsLrat f j text = EndsIn j.form f j text
