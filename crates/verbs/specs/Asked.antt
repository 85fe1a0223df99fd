-- Which bad property a word asks for (this project's).
use Rattle.std.specs.Prelude.{◌≡◌, ◌⊎◌, ℕ, ◌<◌, ◌≤◌, Bool, true, false, List, length, Option, Some, None, IfSome, option_and_then, slice_get}
use Rattle.std.specs.Str.{bytes_eq}
use Rattle.base.specs.Decimals.{number_of}
use Rattle.btor2.specs.declared.item.Item.{Item}
use Rattle.btor2.specs.Items.{is_bad}
use Rattle.btor2.specs.Lists.{first_init_without_next, places}
use Rattle.full.specs.Lines.{FullLine, lines_of}
use Rattle.fulltext.specs.Spelling.{StandsForFull}
use Rattle.btor2text.specs.Spelling.{IsModelOf}
use Rattle.aiger.specs.declared.circuit.Section.TheVariants as section
use Rattle.aiger.specs.Circuit.{Circuit, name_of}
use Rattle.aigertext.specs.Spelling.{IsCircuitText}
use Rattle.engine_form.specs.declared.fault.EngineFault.TheVariants as engine
use Rattle.invocation.specs.declared.tasks.Given.TheVariants as given
use Rattle.witness.specs.declared.judgement.Judgement.{Judgement}
use Rattle.witness.specs.declared.judgement.Judgement.TheVariants as judgement
use Rattle.verbs.specs.declared.outcomes.Outcome.{Outcome}
use Rattle.verbs.specs.declared.outcomes.Outcome.TheVariants as outcome_is
use Rattle.verbs.specs.declared.refusals.Fault.{Fault}
use Rattle.verbs.specs.declared.refusals.Fault.TheVariants as fault
use Rattle.verbs.specs.declared.subjects.Subject.{Subject}
use Rattle.verbs.specs.declared.subjects.Subject.TheVariants as subject
use Rattle.verbs.specs.Refusals.{IsNotClaimable, IsNotJudged, IsNoCircuit}
use Rattle.verbs.specs.Fitting.{IsNotFitted}
use Rattle.verbs.specs.Subjects.{Name, Told, counts_of, lines_told, model_told, whole_told}

-- ---- what a word asks for

-- there is a name, and a word is that
abbrev pub is_name : List ℕ → Option (List ℕ) → Bool
is_name word None = false
is_name word (Some name) = bytes_eq name word

-- the bad property of a model at a position has a word as its symbol
abbrev pub is_symbol_of : Told → List ℕ → ℕ → Bool
is_symbol_of told word k = is_name word (option_and_then (λ (x : Name). x.symbol) (told.bad k))

-- that of a circuit has it as its name
abbrev pub is_name_of : Circuit → List ℕ → ℕ → Bool
is_name_of c word k = is_name word (name_of c section.Bad k)

-- of so many bad properties, of which those that are `called` have a word as their name: the one at the position that the word writes as a decimal; or, where it writes none, the only one that is called so
abbrev pub IsAskedBy : Option ℕ → ℕ → (ℕ → Bool) → ℕ → Type 0
IsAskedBy (Some n) count called k = (k ≡ n) × (n < count)
IsAskedBy None count called k = (k < count) × (called k ≡ true) × ((j : ℕ) → j < count → called j ≡ true → j ≡ k)

-- there is none at that position, or none that is called so
abbrev pub IsUnknown : Option ℕ → ℕ → (ℕ → Bool) → Type 0
IsUnknown (Some n) count called = count ≤ n
IsUnknown None count called = (j : ℕ) → j < count → called j ≡ false

-- the word writes no decimal, and two are called so
abbrev pub AreCalledAlike : Option ℕ → ℕ → (ℕ → Bool) → ℕ → ℕ → Type 0
AreCalledAlike (Some n) count called j k = ⊥
AreCalledAlike None count called j k = (j < k) × (k < count) × (called j ≡ true) × (called k ≡ true)

-- no bad property is asked for: there is none at all, or none such, or two are called so
abbrev pub IsUnaskedBy : Option ℕ → ℕ → (ℕ → Bool) → Fault → Type 0
IsUnaskedBy position count called (fault.Engine engine.NoBad) = count ≡ 0
IsUnaskedBy position count called (fault.Engine engine.NoSuchBad) = (0 < count) × IsUnknown position count called
IsUnaskedBy position count called (fault.SameName j k) = AreCalledAlike position count called j k
IsUnaskedBy position count called _ = ⊥

-- how many bad properties there are, and which of them are called by a word
abbrev pub bad_count : Subject → ℕ
bad_count (subject.Model lines) = (counts_of lines).bads
bad_count (subject.Circuit c) = length c.now.bads
bad_count (subject.Lowered lines c) = (counts_of lines).bads

abbrev pub is_called : Subject → List ℕ → ℕ → Bool
is_called (subject.Model lines) word k = is_symbol_of (lines_told lines) word k
is_called (subject.Circuit c) word k = is_name_of c.now word k
is_called (subject.Lowered lines c) word k = is_symbol_of (lines_told lines) word k

-- what a command asks for: nothing; or the bad property of a word
abbrev pub AsksFor : Option (List ℕ) → ℕ → (List ℕ → ℕ → Bool) → Option ℕ → Type 0
AsksFor None count called claim = claim ≡ None
AsksFor (Some word) count called claim = (k : ℕ) × ((claim ≡ Some k) × IsAskedBy (number_of word) count (called word) k)

-- a word asks for none
abbrev pub AsksForNone : Option (List ℕ) → ℕ → (List ℕ → ℕ → Bool) → Fault → Type 0
AsksForNone None count called f = ⊥
AsksForNone (Some word) count called f = IsUnaskedBy (number_of word) count (called word) f

-- a first frame is noted of what is asked for, where anything is
abbrev pub is_noted : Option ℕ → Bool
is_noted None = false
is_noted (Some frame) = true

abbrev pub is_claim_noted : Option ℕ → List (Option ℕ) → Bool
is_claim_noted None firsts = true
is_claim_noted (Some k) firsts = is_noted (option_and_then (λ first. first) (slice_get firsts k))

-- what is asked for is claimed, where anything is
abbrev pub is_claimed : Option ℕ → (ℕ → Bool) → Bool
is_claimed None claims = true
is_claimed (Some k) claims = claims k

-- what is told of a witness that is judged so, and claims what is asked for or does not
abbrev pub outcome : Option ℕ → Bool → Judgement → Outcome
outcome (Some k) false (judgement.Accepted frames) = outcome_is.Unclaimed k
outcome claim claimed j = outcome_is.Judged j

-- ---- what is refused

-- the first text is of a model, of which a word asks for no bad property
pub record LacksAsked (word : List ℕ) (known : Option (List ℕ)) (f : Fault) : Type 0 where
  pub items : List Item
  pub text : IsModelOf known items
  pub unasked : IsUnaskedBy (number_of word) (length (places is_bad 0 items)) (is_symbol_of (model_told items) word) f

-- the same of a model of the whole language
pub record LacksAskedWhole (word : List ℕ) (known : Option (List ℕ)) (f : Fault) : Type 0 where
  pub full : List FullLine
  pub text : IfSome known (λ text. StandsForFull text full)
  pub unasked : IsUnaskedBy (number_of word) (length (lines_of is_bad full)) (is_symbol_of (whole_told full) word) f

-- the same of a circuit
pub record LacksAskedOver (word : List ℕ) (known : Option (List ℕ)) (f : Fault) : Type 0 where
  pub circuit : Circuit
  pub text : IsCircuitText known circuit
  pub unasked : IsUnaskedBy (number_of word) (length circuit.bads) (is_name_of circuit word) f

-- the first text is no model, or is of one over which nothing is judged, or of which no bad property is asked for
abbrev pub IsNotJudgedFor : List ℕ → Option (List ℕ) → Fault → Type 0
IsNotJudgedFor word known (fault.Engine e) = LacksAsked word known (fault.Engine e)
IsNotJudgedFor word known (fault.SameName j k) = LacksAsked word known (fault.SameName j k)
IsNotJudgedFor word known f = IsNotJudged known f

-- the first text is no circuit, or is of one of which no bad property is asked for
abbrev pub IsNotJudgedOverFor : List ℕ → Option (List ℕ) → Fault → Type 0
IsNotJudgedOverFor word known (fault.Engine e) = LacksAskedOver word known (fault.Engine e)
IsNotJudgedOverFor word known (fault.SameName j k) = LacksAskedOver word known (fault.SameName j k)
IsNotJudgedOverFor word known f = IsNoCircuit known f

-- nothing is judged over a model, or no bad property of it is asked for
abbrev pub IsUnjudgedFor : Option (List ℕ) → List Item → Fault → Type 0
IsUnjudgedFor word items (fault.NoNext id) = first_init_without_next items items ≡ Some id
IsUnjudgedFor word items f = AsksForNone word (length (places is_bad 0 items)) (is_symbol_of (model_told items)) f

-- the first text is of no model that is fitted, or of one of which no bad property is asked for
abbrev pub IsNotFittedFor : List ℕ → Option (List ℕ) → Fault → Type 0
IsNotFittedFor word known (fault.Engine e) = LacksAsked word known (fault.Engine e) ⊎ LacksAskedWhole word known (fault.Engine e)
IsNotFittedFor word known (fault.SameName j k) = LacksAsked word known (fault.SameName j k) ⊎ LacksAskedWhole word known (fault.SameName j k)
IsNotFittedFor word known f = IsNotFitted known f

-- the same of a command that may ask for one
abbrev pub IsNotJudgedWith : Option (List ℕ) → Option (List ℕ) → Fault → Type 0
IsNotJudgedWith None known f = IsNotJudged known f
IsNotJudgedWith (Some word) known f = IsNotJudgedFor word known f

abbrev pub IsNotJudgedOverWith : Option (List ℕ) → Option (List ℕ) → Fault → Type 0
IsNotJudgedOverWith None known f = IsNotClaimable given.Circuit known f
IsNotJudgedOverWith (Some word) known f = IsNotJudgedOverFor word known f

abbrev pub IsNotFittedWith : Option (List ℕ) → Option (List ℕ) → Fault → Type 0
IsNotFittedWith None known f = IsNotFitted known f
IsNotFittedWith (Some word) known f = IsNotFittedFor word known f
