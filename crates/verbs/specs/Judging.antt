-- How witnesses are judged.
use Rattle.std.specs.Prelude.{◌≡◌, ℕ, Bool, List, length, Option, None, IfSome}
use Rattle.std.specs.Io.KnownBytes.{Appends}
use Rattle.btor2.specs.declared.item.Item.{Item}
use Rattle.btor2.specs.Check.{IsWellFormed}
use Rattle.btor2.specs.Items.{is_bad}
use Rattle.btor2.specs.Lists.{first_init_without_next, places}
use Rattle.btor2.specs.Trace.{Frame}
use Rattle.btor2text.specs.Spelling.{IsModelOf}
use Rattle.aiger.specs.Circuit.{Circuit, IsCircuit}
use Rattle.aigertext.specs.Spelling.{IsCircuitText}
use Rattle.reached.specs.Accepted.{Reaches, ReachesInCircuit}
use Rattle.rises.specs.FirstRises.{AreBitFirstRises, word_first_rises}
use Rattle.full.specs.Lines.{FullLine, lines_of}
use Rattle.fulljudge.specs.Rises.{JudgesFullWithRises, full_claimed}
use Rattle.fulltext.specs.Spelling.{StandsForFull}
use Rattle.spread.specs.Spread.{IsShort}
use Rattle.vcd.specs.Dumps.{vcd_text}
use Rattle.vcd.specs.declared.scope.Shown.{Shown}
use Rattle.witness.specs.BitJudgements.{BitJudges}
use Rattle.witness.specs.ClosedWords.{IsClosedTrace}
use Rattle.witness.specs.Judgements.{Judges}
use Rattle.witness.specs.Reached.{bit_claimed, word_claimed}
use Rattle.witness.specs.declared.judgement.Judgement.{Judgement}
use Rattle.witness.specs.declared.judgement.Judgement.TheVariants as judgement
use Rattle.verbs.specs.Asked.{AsksFor, is_claimed, is_name_of, is_symbol_of, outcome}
use Rattle.verbs.specs.Claims.{CanBeClaimed}
use Rattle.verbs.specs.Subjects.{model_told, whole_told}
use Rattle.verbs.specs.declared.judging.JudgedOverCircuit.{JudgedOverCircuit}
use Rattle.verbs.specs.declared.judging.JudgedOverModel.{JudgedOverModel}
use Rattle.verbs.specs.declared.judging_whole.JudgedFitted.{JudgedFitted}
use Rattle.verbs.specs.declared.given.GivenModel.{GivenModel}
use Rattle.verbs.specs.declared.given.GivenModel.TheVariants as given_model
use Rattle.verbs.specs.declared.outcomes.Outcome.{Outcome}

-- a judgement is that the witness is accepted
abbrev pub IsAccepted : Judgement → Type 0
IsAccepted (judgement.Accepted frames) = Unit {0}
IsAccepted _ = ⊥

-- The first text is of a model, each of whose states has a next or is free; and the second is judged so over it, and where it is accepted all bad properties that it claims can rise.
pub record IsJudged (model witness : Option (List ℕ)) (verdict : Judgement) : Type 0 where
  pub items : List Item
  pub text : IsModelOf model items
  pub well_formed : IsWellFormed items
  pub each_has_next_or_is_free : first_init_without_next items items ≡ None
  pub judged : IfSome witness (λ text. Judges items text verdict)
  pub reached : IfSome witness (λ text. Reaches items text verdict)

-- The first text is of a circuit with a bad property, or without outputs; and the second is judged so over it, and where it is accepted the bad property that it claims can rise.
pub record IsJudgedOver (circuit witness : Option (List ℕ)) (verdict : Judgement) : Type 0 where
  pub value : Circuit
  pub is_circuit : IsCircuit value
  pub text : IsCircuitText circuit value
  pub claimable : CanBeClaimed value
  pub judged : IfSome witness (λ text. BitJudges value text verdict)
  pub reached : IfSome witness (λ text. ReachesInCircuit value text verdict)

-- The first text is of a model, of which a word may ask for a bad property; the second is judged so over it, and where it is accepted it is known whether it claims that one, and in which frame of the model's one trace each claim is reached first.
pub record IsJudgedFor (word model witness : Option (List ℕ)) (r : JudgedOverModel) : Type 0 where
  pub claim : Option ℕ
  pub verdict : Judgement
  pub claimed : Bool
  pub text : IsModelOf model r.model
  pub well_formed : IsWellFormed r.model
  pub each_has_next_or_is_free : first_init_without_next r.model r.model ≡ None
  pub asked : AsksFor word (length (places is_bad 0 r.model)) (is_symbol_of (model_told r.model)) claim
  pub judged : IfSome witness (λ text. Judges r.model text verdict)
  pub reached : IfSome witness (λ text. Reaches r.model text verdict)
  pub claims : IfSome witness (λ text. IsAccepted verdict → claimed ≡ is_claimed claim (word_claimed r.model text))
  pub rises : IfSome witness (λ text. (fs : List Frame) → IsClosedTrace r.model text fs → r.firsts ≡ word_first_rises r.model text fs)
  pub outcome : r.outcome ≡ outcome claim claimed verdict

-- The same over a model of the whole language, of a witness of at most 2^44 lines; the first rises are those in the run by which it is judged.
pub record IsJudgedWholeFor (word model witness : Option (List ℕ)) (full : List FullLine) (told : Outcome) (firsts : List (Option ℕ)) : Type 0 where
  pub claim : Option ℕ
  pub verdict : Judgement
  pub claimed : Bool
  pub stands : IfSome model (λ text. StandsForFull text full)
  pub asked : AsksFor word (length (lines_of is_bad full)) (is_symbol_of (whole_told full)) claim
  pub judged : IfSome witness (λ text. IsShort text → JudgesFullWithRises full text verdict firsts)
  pub claims : IfSome witness (λ text. IsShort text → IsAccepted verdict → claimed ≡ is_claimed claim (full_claimed full text))
  pub outcome : told ≡ outcome claim claimed verdict

-- A model is of the profile, or of the whole language, and it is judged so over it.
abbrev pub IsJudgedOverGiven : Option (List ℕ) → Option (List ℕ) → Option (List ℕ) → GivenModel → Outcome → List (Option ℕ) → Type 0
IsJudgedOverGiven word model witness (given_model.Profile items) told firsts = IsJudgedFor word model witness (record { model = items; outcome = told; firsts = firsts })
IsJudgedOverGiven word model witness (given_model.Whole full) told firsts = IsJudgedWholeFor word model witness full told firsts

-- what is asked for then
abbrev pub claim_over : (word model witness : Option (List ℕ)) (m : GivenModel) (told : Outcome) (firsts : List (Option ℕ)) → IsJudgedOverGiven word model witness m told firsts → Option ℕ
claim_over word model witness (given_model.Profile items) told firsts is = is.claim
claim_over word model witness (given_model.Whole full) told firsts is = is.claim

abbrev pub IsJudgedFittedFor : Option (List ℕ) → Option (List ℕ) → Option (List ℕ) → JudgedFitted → Type 0
IsJudgedFittedFor word model witness r = IsJudgedOverGiven word model witness r.model r.outcome r.firsts

-- The same over a circuit with a bad property, or without outputs.
pub record IsJudgedOverFor (word circuit witness : Option (List ℕ)) (r : JudgedOverCircuit) : Type 0 where
  pub claim : Option ℕ
  pub verdict : Judgement
  pub claimed : Bool
  pub is_circuit : IsCircuit r.circuit
  pub text : IsCircuitText circuit r.circuit
  pub claimable : CanBeClaimed r.circuit
  pub asked : AsksFor word (length r.circuit.bads) (is_name_of r.circuit) claim
  pub judged : IfSome witness (λ text. BitJudges r.circuit text verdict)
  pub reached : IfSome witness (λ text. ReachesInCircuit r.circuit text verdict)
  pub claims : IfSome witness (λ text. IsAccepted verdict → claimed ≡ is_claimed claim (bit_claimed r.circuit text))
  pub rises : IfSome witness (λ text. AreBitFirstRises r.circuit text r.firsts)
  pub outcome : r.outcome ≡ outcome claim claimed verdict

-- The first text is of a model, each of whose states has a next or is free; the second is judged so over it; and what was written is the dump of its closed frames, under a title.
pub record IsDumped (shown : Shown) (title : List ℕ) (model witness before now : Option (List ℕ)) (verdict : Judgement) : Type 0 where
  pub items : List Item
  pub text : IsModelOf model items
  pub well_formed : IsWellFormed items
  pub each_has_next_or_is_free : first_init_without_next items items ≡ None
  pub judged : IfSome witness (λ text. Judges items text verdict)
  pub dumped : IfSome witness (λ text. (fs : List Frame) → IsClosedTrace items text fs → Appends before now (vcd_text shown title items fs))
