-- What the words of a command line say: an order, or a list of judgements.
use Rattle.std.specs.Prelude.{◌≡◌, ℕ, ◌+◌, nat_le, Bool, true, false, not, ◌&&◌, if◌then◌else◌, List, [], ◌∷◌, length, slice_get, Option, Some, None, is_some, MatchOption, codes, option_map, option_and_then}
use Rattle.std.specs.Option.{option_eq, unwrap_or}
use Rattle.std.specs.List.{count_by, find, list_all, list_any}
use Rattle.std.specs.Str.{bytes_eq}
use Rattle.base.specs.Decimals.{number_of}
use Rattle.aigertext.specs.declared.forms.Form.TheVariants as form
use Rattle.certificates.specs.declared.proof_form.ProofForm.TheVariants as proof
use Rattle.vcd.specs.declared.scope.Shown.TheVariants as shown
use Rattle.invocation.specs.declared.tasks.Certificate.TheVariants as by
use Rattle.invocation.specs.declared.tasks.CertificateTask.TheVariants as certificate
use Rattle.invocation.specs.declared.tasks.Certified.{Certified}
use Rattle.invocation.specs.declared.tasks.CircuitTask.TheVariants as circuit
use Rattle.invocation.specs.declared.tasks.Given.TheVariants as given
use Rattle.invocation.specs.declared.tasks.Language.{Language}
use Rattle.invocation.specs.declared.tasks.Language.TheVariants as language
use Rattle.invocation.specs.declared.tasks.ListOrder.{ListOrder}
use Rattle.invocation.specs.declared.tasks.ModelTask.TheVariants as model
use Rattle.invocation.specs.declared.tasks.Order.{Order}
use Rattle.invocation.specs.declared.tasks.Request.{Request}
use Rattle.invocation.specs.declared.tasks.Request.TheVariants as request
use Rattle.invocation.specs.declared.tasks.Task.{Task}
use Rattle.invocation.specs.declared.tasks.Task.TheVariants as task
use Rattle.invocation.specs.declared.tasks.TextTask.TheVariants as text
use Rattle.wordings.specs.declared.table.Kind.{Kind}
use Rattle.wordings.specs.declared.table.Kind.TheVariants as kind
use Rattle.wordings.specs.declared.table.Verb.{Verb}
use Rattle.wordings.specs.declared.table.Verb.TheVariants as verb
use Rattle.wordings.specs.Table.{verbs, word_of, words_of}
use Rattle.wordings.specs.Parts.{Said, a_file, a_flag, an_option, parts_behind}

-- ---- what parts have

-- a part is the flag or the option of a name
abbrev pub is_named : List ℕ → Said → Bool
is_named name (a_file w) = false
is_named name (a_flag n) = bytes_eq n name
is_named name (an_option n value) = bytes_eq n name

-- there is a flag or an option of a name
abbrev pub has : List ℕ → List Said → Bool
has name ps = list_any (is_named name) ps

-- the first value of an option, where it is given
abbrev pub value : List ℕ → List Said → Option (List ℕ)
value name [] = None
value name (an_option n v ∷ ps) = if bytes_eq n name then Some v else value name ps
value name (_ ∷ ps) = value name ps

-- the files, in turn
abbrev pub files : List Said → List (List ℕ)
files [] = []
files (a_file w ∷ ps) = w ∷ files ps
files (_ ∷ ps) = files ps

-- ---- which parts a command takes

-- a part is a word of this kind and name, with a value as it takes it, and with the flag that it goes with
abbrev pub fits : List Said → Kind → List ℕ → Said → Bool
fits ps kind.File name (a_file w) = true
fits ps kind.Flag name (a_flag n) = bytes_eq n name
fits ps kind.FlagWithoutNames name (a_flag n) = bytes_eq n name && not (has (codes "names") ps)
fits ps kind.FlagOnModel name (a_flag n) = bytes_eq n name && not (has (codes "aiger") ps)
fits ps kind.FlagWithCircuit name (a_flag n) = bytes_eq n name && has (codes "circuit") ps
fits ps kind.FlagWithEngine name (a_flag n) = bytes_eq n name && has (codes "engine") ps
fits ps kind.Text name (an_option n v) = bytes_eq n name
fits ps kind.Position name (an_option n v) = bytes_eq n name && is_some (number_of v)
fits ps kind.PositionWithEngine name (an_option n v) = bytes_eq n name && (is_some (number_of v) && has (codes "engine") ps)
fits ps kind.Number name (an_option n v) = bytes_eq n name && nat_le 1 (unwrap_or (number_of v) 0)
fits ps _ name _ = false

-- ---- what parts say

-- the position of a bad property, where one is chosen
abbrev pub position : List Said → Option ℕ
position ps = option_and_then number_of (value (codes "bad") ps)

-- which models the first file of `lift` may be of
abbrev pub language_of : List Said → Language
language_of ps = if has (codes "fit") ps then language.Whole else language.Profile

-- what a certificate is about: a bad property of a model or a circuit, by an invariant or by a witness circuit of either
abbrev pub certified : List Said → Certified
certified ps = record {
  given = if has (codes "aiger") ps then given.Circuit else (if has (codes "fit") ps then given.Fitted else given.Model);
  by = if has (codes "circuit") ps then (if has (codes "engine") ps then by.CircuitOfForm else by.Circuit) else by.Invariant;
  choice = position ps;
}

-- the task of a command; the judgement of a list is none
abbrev pub task_of : Verb → List Said → Option Task
task_of verb.Lower ps = Some
    (if has (codes "engine") ps
    then (if has (codes "fit") ps then task.Model (model.LowerFittedForEngines (position ps)) else task.Model (model.LowerForEngines (position ps)))
    else (if has (codes "fit") ps then task.Model model.LowerFitted else task.Text text.Lower))
task_of verb.CheckBtor ps = Some (task.Model (if has (codes "fit") ps then model.CheckFitted else model.CheckBtor))
task_of verb.Show ps = Some (task.Model (if has (codes "fit") ps then model.ShowWhole else model.Show))
task_of verb.Cost ps = Some (task.Model (if has (codes "fit") ps then model.CostFitted else model.Cost))
task_of verb.Fit ps = Some (task.Text text.Fit)
task_of verb.Unfit ps = Some (task.Model (if has (codes "back") ps then model.Spread else model.Unfit))
task_of verb.AigConvert ps = Some (task.Circuit
    (if has (codes "engine") ps
    then (if has (codes "outputs") ps then circuit.ConvertOutputsForEngines (position ps) else circuit.ConvertForEngines (position ps))
    else (if has (codes "outputs") ps then circuit.ConvertOutputs else circuit.AigConvert)))
task_of verb.CheckAig ps = Some (task.Circuit circuit.CheckAig)
task_of verb.Lift ps = Some (task.Model
    (if has (codes "abc") ps then model.LiftFound (language_of ps) (position ps)
    else (if has (codes "engine") ps then model.LiftForm (language_of ps) (position ps) else model.Lift (language_of ps))))
task_of verb.Restore ps = Some (task.Circuit (if has (codes "abc") ps then circuit.Restore (position ps) else circuit.RestoreForm (position ps)))
task_of verb.Wave ps = Some (task.Model (model.Wave (if has (codes "all") ps then shown.All else shown.Named)))
task_of verb.Obligation ps = Some (task.Certificate (certificate.Obligation (certified ps)))
task_of verb.CheckProof ps =
    Some (task.Certificate (certificate.CheckProof (certified ps) (if has (codes "lrat") ps then proof.Hinted else proof.Plain)))
task_of verb.TidyWitness ps = Some (task.Text (text.TidyWitness (unwrap_or (option_and_then number_of (value (codes "pick") ps)) 1)))
task_of verb.Vectors ps = Some (task.Text text.Vectors)
task_of verb.Judge ps = None

-- a command judges a witness, which may be to claim a bad property, by its position or by its name
abbrev pub judges : Verb → Bool
judges verb.CheckBtor = true
judges verb.CheckAig = true
judges _ = false

-- ---- what words say

-- Parts are what a command takes: each is one of its words, no flag and no option is given twice, the files are as many as it
-- has, and a circuit has one form.
pub record Takes (v : Verb) (ps : List Said) : Type 0 where
  pub known : list_all (λ p. list_any (λ word. fits ps word.1 word.0 p) (words_of v)) ps ≡ true
  pub once : list_all (λ word. nat_le (count_by (is_named word.0) ps) 1) (words_of v) ≡ true
  pub count : length (files ps) ≡ count_by (λ word. fits [] word.1 [] (a_file [])) (words_of v)
  pub one_form : (has (codes "ascii") ps && has (codes "binary") ps) ≡ false

-- Parts of a command say an order. `-` stands for standard input once, and for standard output where it is a result's.
pub record SaysOrder (v : Verb) (ps : List Said) (o : Order) : Type 0 where
  pub takes : Takes v ps
  pub task : task_of v ps ≡ Some o.task
  pub named : o.named ≡ has (codes "names") ps
  pub as_json : o.as_json ≡ has (codes "json") ps
  pub asked : option_map (λ name. name.now) o.asked ≡ (if judges v then value (codes "bad") ps else None)
  pub form : o.form ≡ (if has (codes "binary") ps then form.Binary else form.Ascii)
  pub first : slice_get (files ps) 0 ≡ Some o.first.now
  pub second : option_map (λ name. name.now) o.second ≡ slice_get (files ps) 1
  pub third : option_map (λ name. name.now) o.third ≡ slice_get (files ps) 2
  pub input : nat_le (count_by (λ name. bytes_eq name (codes "-")) (files ps)) 1 ≡ true
  pub output : option_map (λ name. name.now) o.output
      ≡ (if option_eq bytes_eq (value (codes "output") ps) (Some (codes "-")) then None else value (codes "output") ps)
  pub progress : o.tells_progress ≡ not (has (codes "quiet") ps)

-- the command and the parts that words are: the first is a command's, and none is `lower -`
abbrev pub command : List (List ℕ) → Option (Verb × List Said)
command [] = Some (verb.Lower, a_file (codes "-") ∷ [])
command (w ∷ ws) = option_map (λ v. (v, parts_behind v None ws)) (find (λ v. bytes_eq (word_of v) w) verbs)

-- Parts of `judge` say a list of judgements.
pub record SaysList (v : Verb) (ps : List Said) (l : ListOrder) : Type 0 where
  pub takes : Takes v ps
  pub judge : v ≡ verb.Judge
  pub list : slice_get (files ps) 0 ≡ Some l.list.now
  pub as_json : l.as_json ≡ has (codes "json") ps

-- parts of a command say what is asked for
abbrev pub SaysOf : Verb → List Said → Request → Type 0
SaysOf v ps (request.One o) = SaysOrder v ps o
SaysOf v ps (request.Many l) = SaysList v ps l

-- Words say what is asked for: an order, or a list of judgements.
abbrev pub Says : List (List ℕ) → Request → Type 0
Says words r = MatchOption (command words) ⊥ (λ said. SaysOf said.0 said.1 r)
