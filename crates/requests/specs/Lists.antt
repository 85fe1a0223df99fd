-- The judgements of a list: what its lines ask for, and what they answer (this project's).
use Rattle.std.specs.Prelude.{◌≡◌, ◌⊎◌, ℕ, suc, Bool, true, false, not, ◌||◌, ◌==◌, List, [], ◌∷◌, ◌++◌, Option, Some, None}
use Rattle.base.specs.Lines.{whole_lines, unfinished, line_of}
use Rattle.btor2text.specs.Tokens.{tokens}
use Rattle.invocation.specs.Files.{is_standard_input, names_standard_input}
use Rattle.invocation.specs.declared.tasks.CertificateTask.TheVariants as certificate
use Rattle.invocation.specs.declared.tasks.CircuitTask.TheVariants as circuit
use Rattle.invocation.specs.declared.tasks.ModelTask.TheVariants as model
use Rattle.invocation.specs.declared.tasks.Order.{Order}
use Rattle.invocation.specs.declared.tasks.Request.TheVariants as request
use Rattle.invocation.specs.declared.tasks.Task.{Task}
use Rattle.invocation.specs.declared.tasks.Task.TheVariants as task
use Rattle.wordings.specs.Orders.{Says}
use Rattle.subcommands.specs.declared.answers.Answer.TheVariants as answer
use Rattle.subcommands.specs.Files.{text_of_name}
use Rattle.commands.specs.Done.{Answers, name_of}
use Rattle.requests.specs.declared.told_lines.Totals.{Totals}
use Rattle.requests.specs.Told.{Answer, answer_said, with_status}

-- the words of a line: what stands between spaces and tabs, up to a comment that begins with `;`
abbrev pub words : List ℕ → List (List ℕ)
words line = tokens line

-- the lines of a list: those that a byte 10 ends, and what stands behind them
abbrev pub lines : List ℕ → List (List ℕ)
lines text = whole_lines text ++ line_of (unfinished text)

-- a line has a judgement: it has a word, and the first begins with no `#`
abbrev pub begins_comment : List ℕ → Bool
begins_comment [] = false
begins_comment (b ∷ bs) = b == 35

abbrev pub has_judgement : List (List ℕ) → Bool
has_judgement [] = false
has_judgement (w ∷ ws) = not (begins_comment w)

-- the commands that a line may have
abbrev pub is_judgement : Task → Bool
is_judgement (task.Model model.CheckBtor) = true
is_judgement (task.Model model.CheckFitted) = true
is_judgement (task.Circuit circuit.CheckAig) = true
is_judgement (task.Certificate (certificate.CheckProof of form)) = true
is_judgement _ = false

-- a command reads standard input
abbrev pub reads_input : Order → Bool
reads_input o = is_standard_input o.first.now || (names_standard_input (name_of o.second) || names_standard_input (name_of o.third))

-- a command that tells objects where it does or a list is to, and goes to standard output, as each that judges does
abbrev pub telling : Bool → Order → Order
telling as_json o = record o { as_json = o.as_json || as_json; output = None }

-- a command on files of these texts, without standard input, has done what its status says
pub record DoesLine (texts : List ℕ → Option (List ℕ)) (o : Order) (a : Answer) : Type 0 where
  pub done : a.status ≡ 0 → Answers o o.task answer.Done (text_of_name texts (Some []) (Some o.first.now)) (text_of_name texts (Some []) (name_of o.second)) (text_of_name texts (Some []) (name_of o.third)) (Some []) (Some a.out) (Some []) (Some a.err)
  pub not_accepted : a.status ≡ 1 → Answers o o.task answer.NotAccepted (text_of_name texts (Some []) (Some o.first.now)) (text_of_name texts (Some []) (name_of o.second)) (text_of_name texts (Some []) (name_of o.third)) (Some []) (Some a.out) (Some []) (Some a.err)

-- the words of a line say a command that judges files, and it has done what its status says
pub record IsJudgedLine (texts : List ℕ → Option (List ℕ)) (as_json : Bool) (ws : List (List ℕ)) (a : Answer) : Type 0 where
  pub order : Order
  pub says : Says ws (request.One order)
  pub is_judgement : is_judgement order.task ≡ true
  pub reads_no_input : reads_input order ≡ false
  pub does : DoesLine texts (telling as_json order) a

-- a line answers so: its words are refused, or its judgement is made
abbrev pub AnswersLine : (List ℕ → Option (List ℕ)) → Bool → List (List ℕ) → Answer → Type 0
AnswersLine texts as_json ws a = (a.status ≡ 4) ⊎ IsJudgedLine texts as_json ws a

-- a line that has a judgement or has none, and the lines behind it, of which `more` says what is told behind totals
abbrev pub JudgesFirst : Bool → (List ℕ → Totals → Type 0) → (List ℕ → Option (List ℕ)) → Bool → ℕ → List (List ℕ) → Totals → List ℕ → Type 0
JudgesFirst false more texts as_json n ws before said = more said before
JudgesFirst true more texts as_json n ws before said = (a : Answer) × ((rest : List ℕ) × (AnswersLine texts as_json ws a × ((said ≡ answer_said as_json n a ++ rest) × more rest (with_status before a.status))))

-- the lines of a list from one of a number on, behind totals: what is told of them, and the totals behind them
abbrev pub JudgesLines : (List ℕ → Option (List ℕ)) → Bool → ℕ → List (List ℕ) → Totals → List ℕ → Totals → Type 0
JudgesLines texts as_json n [] before said behind = (said ≡ []) × (behind ≡ before)
JudgesLines texts as_json n (l ∷ ls) before said behind = JudgesFirst (has_judgement (words l)) (λ rest totals. JudgesLines texts as_json (suc n) ls totals rest behind) texts as_json n (words l) before said
