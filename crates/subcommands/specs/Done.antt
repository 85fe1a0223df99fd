-- What a task has done.
use Rattle.std.specs.Prelude.{◌≢◌, ℕ, List, [], ◌∷◌, ◌++◌, length, Option, IfSome, Result, Ok, Err, codes, decimal}
use Rattle.std.specs.List.{All}
use Rattle.std.specs.Io.KnownBytes.{Appends}
use Rattle.btor2.specs.declared.item.Item.{Item}
use Rattle.btor2.specs.Check.{IsWellFormed}
use Rattle.btor2text.specs.Writing.{written}
use Rattle.full.specs.Lines.{FullLine}
use Rattle.fulltext.specs.Spelling.{StandsForFull}
use Rattle.fulltext.specs.Writing.{written_full}
use Rattle.witness.specs.declared.judgement.Judgement.{Judgement}
use Rattle.vcd.specs.declared.scope.Shown.{Shown}
use Rattle.witness.specs.Printed.{judgement_text}
use Rattle.tidy.specs.Tidied.{tidied}
use Rattle.vectors.specs.declared.lines.Vector.{Vector}
use Rattle.vectors.specs.Vectors.{AreVectorsOf, IsRight, numbered, lines_that_differ, report}
use Rattle.btor2text.specs.Spelling.{IsModelOf}
use Rattle.subcommands.specs.declared.answers.Answer.{Answer}
use Rattle.subcommands.specs.declared.answers.Answer.TheVariants as answer
use Rattle.verbs.specs.Circuits.{IsCost, IsCostFitted}
use Rattle.verbs.specs.Judging.{IsAccepted, IsDumped, IsJudged, IsJudgedOver}
use Rattle.verbs.specs.Subjects.{model_counts, whole_counts}
use Rattle.verbs.specs.declared.subjects.Counts.{Counts}
use Rattle.verbs.specs.declared.lowering.Cost.{Cost}
use Rattle.verbs.specs.declared.refusals.Refusal.{Refusal}

-- the line of a judgement
abbrev pub judgement_line : Judgement → List ℕ
judgement_line j = judgement_text j ++ 10 ∷ []

-- a witness is accepted where an answer is that all is done, and else it is not
abbrev pub IsSo : Answer → Judgement → Type 0
IsSo answer.Done verdict = IsAccepted verdict
IsSo answer.NotAccepted verdict = ¬ IsAccepted verdict

-- the exit status of an answer
abbrev pub status_of : Answer → ℕ
status_of answer.Done = 0
status_of answer.NotAccepted = 1

-- the answer of a verb that is done or not
abbrev pub answered : Result (Unit {0}) Refusal → Result Answer Refusal
answered (Ok u) = Ok answer.Done
answered (Err e) = Err e

-- a witness is judged so, and an answer says whether it is accepted
pub record Judged (IsJudgedSo : Judgement → Type 0) (answer : Answer) : Type 0 where
  pub verdict : Judgement
  pub is_judged : IsJudgedSo verdict
  pub so : IsSo answer verdict

-- the line that tells how many items, inputs, states, bad properties and constraints a model has
abbrev pub counts_line : Counts → List ℕ
counts_line counts =
    codes "; " ++ (decimal counts.lines
    ++ (codes " items, " ++ (decimal counts.inputs
    ++ (codes " inputs, " ++ (decimal counts.states
    ++ (codes " states, " ++ (decimal counts.bads
    ++ (codes " bad, " ++ (decimal counts.constraints
    ++ codes " constraints\n")))))))))

-- all that was to come is a text of some model, and what was written is the writer's text of it and the line of its counts
pub record ShowsModel (known before now : Option (List ℕ)) : Type 0 where
  pub items : List Item
  pub text : IsModelOf known items
  pub well_formed : IsWellFormed items
  pub appends : Appends before now (written items ++ counts_line (model_counts items))

-- the same of a model of the whole language
pub record ShowsWhole (known before now : Option (List ℕ)) : Type 0 where
  pub full : List FullLine
  pub stands : IfSome known (λ text. StandsForFull text full)
  pub appends : Appends before now (written_full full ++ counts_line (whole_counts full))

-- the lines that tell how many gates and variables the lowering of a model has at most
abbrev pub cost_lines : Cost → List ℕ
cost_lines r = codes "gates " ++ (decimal r.gates ++ (codes "\nvariables " ++ (decimal r.variables ++ codes "\n")))

-- all that was to come is a text of some model, and what was written tells its cost
pub record TellsCost (known before now : Option (List ℕ)) : Type 0 where
  pub cost : Cost
  pub is_cost : IsCost known cost
  pub appends : Appends before now (cost_lines cost)

-- the same of the model that this is fitted into
pub record TellsCostFitted (known before now : Option (List ℕ)) : Type 0 where
  pub cost : Cost
  pub is_cost : IsCostFitted known cost
  pub appends : Appends before now (cost_lines cost)

-- What is written is the line of the judgement of a witness over a model.
abbrev pub WritesJudged : Option (List ℕ) → Option (List ℕ) → Option (List ℕ) → Option (List ℕ) → Answer → Type 0
WritesJudged model witness before now a = Judged (λ j. IsJudged model witness j × Appends before now (judgement_line j)) a

-- The same over a circuit.
abbrev pub WritesJudgedOver : Option (List ℕ) → Option (List ℕ) → Option (List ℕ) → Option (List ℕ) → Answer → Type 0
WritesJudgedOver circuit witness before now a = Judged (λ j. IsJudgedOver circuit witness j × Appends before now (judgement_line j)) a

-- The frames of a witness are dumped, under some title, and what was told is the line of its judgement.
pub record Dumps (shown : Shown) (model witness before now told told' : Option (List ℕ)) (verdict : Judgement) : Type 0 where
  pub title : List ℕ
  pub dumped : IsDumped shown title model witness before now verdict
  pub line : Appends told told' (judgement_line verdict)

-- what was written is the strict text of the witness with a number, from 1, in all that was to come
abbrev pub Tidies : ℕ → Option (List ℕ) → Option (List ℕ) → Option (List ℕ) → Type 0
Tidies pick known before now = IfSome known (λ text. Appends before now (tidied pick text))

-- all that was to come is a text of some vectors, each of which is right, and what was written is that all of them agree
pub record Agree (known before now : Option (List ℕ)) : Type 0 where
  pub vectors : List Vector
  pub text : IfSome known (λ text. AreVectorsOf text vectors)
  pub right : All IsRight vectors
  pub appends : Appends before now (report [] (length vectors))

-- all that was to come is a text of some vectors, at least one of which is not right, and what was written names the lines of exactly those
pub record Differ (known before now : Option (List ℕ)) : Type 0 where
  pub vectors : List Vector
  pub text : IfSome known (λ text. AreVectorsOf text vectors)
  pub some : lines_that_differ (numbered 1 vectors) ≢ []
  pub appends : Appends before now (report (lines_that_differ (numbered 1 vectors)) (length vectors))

-- all vectors are right, or at least one is not, as an answer says
abbrev pub Compares : Option (List ℕ) → Option (List ℕ) → Option (List ℕ) → Answer → Type 0
Compares known before now answer.Done = Agree known before now
Compares known before now answer.NotAccepted = Differ known before now
