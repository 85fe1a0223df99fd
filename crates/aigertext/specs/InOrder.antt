-- Words between the parts of the reader of a text that is read straight onto a circuit, of whose gates a piece is held: a binary text, or an ascii text whose variables have a circuit's numbers in turn, and whose gates stand behind their operands.
use Rattle.std.specs.Prelude.{◌≡◌, ℕ, suc, ◌≤◌, ◌+◌, ◌*◌, List, [], ◌∷◌, ◌++◌, All, length, take, Bool, Option, Some, None, Result, Ok, Err, ◌⊎◌, IfSome}
use Rattle.std.specs.Io.KnownBytes.{Consumes}
use Rattle.aiger.specs.declared.circuit.Gate.{Gate}
use Rattle.aiger.specs.declared.circuit.Latch.{Latch}
use Rattle.aigerlists.specs.declared.loose.GateLine.{GateLine}
use Rattle.aigerlists.specs.declared.numbered.Numbered.{Numbered}
use Rattle.aigerlists.specs.Loose.{Loose}
use Rattle.aiger.specs.Net.{variables}
use Rattle.aiger.specs.Circuit.{Circuit, IsCircuit, net}
use Rattle.aigertext.specs.declared.reading.counts.Counts.{Counts}
use Rattle.aigertext.specs.declared.fault.ReadFault.{ReadFault}
use Rattle.aigertext.specs.declared.fault.Stop.{Stop}
use Rattle.aigertext.specs.declared.fault.Why.TheVariants as why
use Rattle.aigertext.specs.declared.forms.Form.{Form}
use Rattle.aigertext.specs.declared.forms.Form.TheVariants.{Ascii, Binary}
use Rattle.aigertext.specs.declared.reading.taking.Taken.{Taken}
use Rattle.aigertext.specs.declared.reading.taking.Taken.TheVariants as taken
use Rattle.aigertext.specs.Ascii.{numbers_line}
use Rattle.aigertext.specs.Binary.{inputs_text, gates_text}
use Rattle.aigertext.specs.declared.reading.front.Front.{Front}
use Rattle.aigertext.specs.Counts.{AreSmall, Fits}
use Rattle.aigertext.specs.Spelling.{SpellsCircuit}
use Rattle.aigertext.specs.Numbering.{IsNumberingOfText}
use Rattle.aigertext.specs.AsciiReading.{lists_of_file, AnswersText}
use Rattle.aigertext.specs.Reading.{◌>>=◌, line_at, header_of, Properties, properties_at, nameless, names_at}
use Rattle.aigertext.specs.Passes.{with_more_gates, latches_in, properties_of, ReadsText}

-- ---- the text

-- the latches and properties that the lines before the gates say, and the text behind them
abbrev pub uses_at : Form → Counts → List ℕ → Result ((List Latch × Properties) × List ℕ) Stop
uses_at form h text = do
  l ← latches_in form (2 * h.variables + 1) (2 * suc h.inputs) h.latches text
  p ← properties_at h l.1
  Ok ((l.0, p.0), p.1)

abbrev pub uses_of : Front → List Latch × Properties
uses_of f = (f.latches.items, properties_of f.properties)

-- a text that begins with a header, the lines of the inputs in turn, where the form has them, and those of latches and properties, whatever stands behind them
pub record IsFront (form : Form) (h : Counts) (uses : List Latch × Properties) (before : List ℕ) : Type 0 where
  pub fits : Fits Binary h
  pub lines : List ℕ
  pub read : (other : List ℕ) → uses_at form h (lines ++ other) ≡ Ok (uses, other)
  pub header : (other : List ℕ) → line_at header_of (before ++ other) ≡ Ok ((form, h), inputs_text form h.inputs ++ (lines ++ other))

-- so many bytes of a text are one
pub record HasFront (f : Front) (place : ℕ) (text : List ℕ) : Type 0 where
  pub front : IsFront f.form f.counts (uses_of f) (take place text)
  pub small : AreSmall f.counts
  pub within : place ≤ length text

-- such a front, these gates and what stands behind them
abbrev pub text_with : Form → Counts → List ℕ → List Gate → List ℕ → List ℕ
text_with form h before gs behind = before ++ (gates_text form (suc (h.inputs + h.latches)) gs ++ behind)

-- ---- the circuit

-- gates were put onto a circuit by their text; the first has the circuit's next variable
pub record ArePutGates (form : Form) (old new : Circuit) (text : List ℕ) : Type 0 where
  pub gates : List Gate
  pub is : new ≡ with_more_gates old gates
  pub own : text ≡ gates_text form (suc (variables (net old))) gates

-- a circuit of these gates, latches and properties has this answer for the names of a text
pub record Finishes (h : Counts) (uses : List Latch × Properties) (gates : List Gate) (answer : Result Circuit Stop) (names : List ℕ) : Type 0 where
  pub valid : IsCircuit (nameless h.inputs uses.0 uses.1 gates)
  pub are_names : names_at (nameless h.inputs uses.0 uses.1 gates) names ≡ answer

-- so the names were read onto it, or reading stops at one, or memory ran out
abbrev pub IsFinish : {X : Type 0} → Counts → List Latch × Properties → List Gate → Circuit → List ℕ → Result X Stop → Type 0
IsFinish h uses gates c names (Ok x) = Finishes h uses gates (Ok c) names × IsCircuit c
IsFinish h uses gates c names (Err e) = (e.why ≡ why.NoMemory) ⊎ Finishes h uses gates (Err e) names

-- a text was read onto a circuit that it spells in its own numbers, or reading it stops, or memory ran out
abbrev pub ReadsOnto : {X : Type 0} → Circuit → List ℕ → Result X Stop → Type 0
ReadsOnto c text (Ok x) = SpellsCircuit text c × IsNumberingOfText text c None
ReadsOnto c text (Err e) = (e.why ≡ why.NoMemory) ⊎ AnswersText text (Err e)

-- ---- the lists of a file

-- the lines of gates
abbrev pub line_texts : List GateLine → List ℕ
line_texts [] = []
line_texts (g ∷ gs) = numbers_line (g.lhs ∷ g.rhs0 ∷ g.rhs1 ∷ []) ++ line_texts gs

-- the literals of a gate are at most the greatest
abbrev pub IsLineUpTo : ℕ → GateLine → Type 0
IsLineUpTo greatest line = (line.lhs ≤ greatest) × (line.rhs0 ≤ greatest) × (line.rhs1 ≤ greatest)

-- gates with literals up to the greatest were put onto the lists of a file by their lines
pub record IsPutOnLists (greatest : ℕ) (old new : Loose) (text : List ℕ) : Type 0 where
  pub gates : List GateLine
  pub is : new ≡ record old { gates = old.gates ++ gates }
  pub up_to : All (IsLineUpTo greatest) gates
  pub own : text ≡ line_texts gates

-- lists of a file with what a text says before its gates, and gates with literals up to the greatest
pub record StandBefore (h : Counts) (before : List ℕ) (l : Loose) : Type 0 where
  pub lines : List ℕ
  pub header : line_at header_of before ≡ Ok ((Ascii, h), lines)
  pub read : lists_of_file (record h { gates = 0 }) lines ≡ Ok (record l { gates = [] }, [])
  pub small : AreSmall h
  pub fits : Fits Ascii h
  pub up_to : All (IsLineUpTo (2 * h.variables + 1)) l.gates

-- ---- a source

-- something was put onto a value by its text at the front of what was to come, which has so many bytes
pub record PutsText {A : Type 0} (Puts : A → A → List ℕ → Type 0) (old new : A) (passed : ℕ) (before after : Option (List ℕ)) : Type 0 where
  pub bytes : List ℕ
  pub puts : Puts old new bytes
  pub long : passed ≡ length bytes
  pub text : Consumes before after bytes

-- what is put in pieces is put as one
pub record FollowEachOther {A : Type 0} (Puts : A → A → List ℕ → Type 0) : Type 0 where
  pub none : (x : A) → Puts x x []
  pub both : (x y z : A) (front behind : List ℕ) → Puts x y front → Puts y z behind → Puts x z (front ++ behind)

-- what was read is the circuit or the fault of a text that is the source's, where that is known
pub record IsReadOf (known : Option (List ℕ)) (wanted : Bool) (r : Result Numbered ReadFault) : Type 0 where
  pub text : List ℕ
  pub is : IfSome known (λ all. text ≡ all)
  pub reads : ReadsText text wanted r

-- what was taken from a source: the circuit that its bytes spell, their fault, or all of them
abbrev pub IsTakenFrom : Option (List ℕ) → Bool → Taken → Type 0
IsTakenFrom known wanted (taken.Circuit x) = IsReadOf known wanted (Ok x)
IsTakenFrom known wanted (taken.Fault e) = IsReadOf known wanted (Err e)
IsTakenFrom known wanted (taken.Text text) = IfSome known (λ all. text.items ≡ all)

-- the same, where nothing stands for a circuit that was there before, in its own numbers
abbrev pub IsTakenOnto : Option (List ℕ) → Bool → Circuit → Option Taken → Type 0
IsTakenOnto known wanted c None = IsReadOf known wanted (Ok (record { circuit = c; numbering = None }))
IsTakenOnto known wanted c (Some t) = IsTakenFrom known wanted t

-- what was read of a source, or the fault of a device that failed
abbrev pub IsReadFrom : Option (List ℕ) → Bool → Result Numbered ReadFault → Type 0
IsReadFrom known wanted (Ok x) = IsReadOf known wanted (Ok x)
IsReadFrom known wanted (Err e) = (e ≡ record { place = 0; why = why.Device }) ⊎ IsReadOf known wanted (Err e)
