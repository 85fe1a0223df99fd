-- Words between the parts of the reader: lines of latches in both forms, what was read of a text, and what a circuit has of it.
use Rattle.std.specs.Prelude.{◌≡◌, ℕ, ◌+◌, ◌-◌, ◌==◌, List, [], ◌∷◌, ◌++◌, Bool, true, Option, Result, Ok, Err, ◌⊎◌, if◌then◌else◌}
use Rattle.aiger.specs.declared.circuit.Gate.{Gate}
use Rattle.aiger.specs.declared.circuit.Latch.{Latch}
use Rattle.aiger.specs.declared.lists.Properties.{Properties as PropertiesValue}
use Rattle.aiger.specs.Circuit.{Circuit}
use Rattle.aigerlists.specs.declared.numbered.Numbered.{Numbered}
use Rattle.aigerlists.specs.declared.fault.LooseFault.{LooseFault}
use Rattle.aigerlists.specs.Loose.{Loose}
use Rattle.aigerlists.specs.Renumbering.{IsRenumbered, IsNumberingOf, AnswersNumber}
use Rattle.aigertext.specs.AsciiReading.{with_properties_of, IsAsciiFaultOf}
use Rattle.aigertext.specs.Spelling.{SpellsCircuit}
use Rattle.aigertext.specs.Numbering.{IsNumberingOfText}
use Rattle.aigertext.specs.declared.reading.counts.Counts.{Counts}
use Rattle.aigertext.specs.declared.fault.ReadFault.{ReadFault}
use Rattle.aigertext.specs.declared.fault.Stop.{Stop}
use Rattle.aigertext.specs.declared.fault.Why.{Why}
use Rattle.aigertext.specs.declared.fault.Why.TheVariants as why
use Rattle.base.specs.Decimals.{number_of}
use Rattle.aigertext.specs.declared.forms.Form.{Form}
use Rattle.aigertext.specs.declared.forms.Form.TheVariants.{Ascii, Binary}
use Rattle.aigertext.specs.Reading.{◌>>=◌, some_or, fields, lines_at, next_fields, next_of, Properties, properties_at, names_at, delta_at, below, at_or_below}

-- ---- latches in both forms

-- a latch of the ascii form whose own literal is given: it is the first field
unfoldable pub own_fields : ℕ → ℕ → List (List ℕ) → Result Latch Why
own_fields greatest own [] = Err why.BadLatch
own_fields greatest own (current ∷ others) = do
  n ← some_or why.BadLatch (number_of current)
  if n == own then next_fields greatest own others else Err why.BadLatch

-- the latch of a line of a form, whose own literal is given
abbrev pub latch_in : Form → ℕ → ℕ → List ℕ → Result Latch Why
latch_in Ascii greatest own line = own_fields greatest own (fields line)
latch_in Binary greatest own line = next_of greatest own line

-- so many of them, the first of which has the given literal
abbrev pub latches_in : Form → ℕ → ℕ → ℕ → List ℕ → Result (List Latch × List ℕ) Stop
latches_in form greatest own n text = lines_at (latch_in form greatest) (λ o l. o + 2) own n text

-- ---- deltas

-- the operands of a gate by their deltas
abbrev pub greater_at : ℕ → List ℕ → Result (ℕ × List ℕ) Why
greater_at own text = delta_at text >>= below own

abbrev pub smaller_at : ℕ → List ℕ → Result (ℕ × List ℕ) Why
smaller_at greater text = delta_at text >>= at_or_below greater

-- ---- what a circuit has of them

-- what was read, behind what was read before it
abbrev pub onto : {A : Type 0} → List A → Result (List A × List ℕ) Stop → Result (List A × List ℕ) Stop
onto front (Ok x) = Ok (front ++ x.0, x.1)
onto front (Err e) = Err e

-- the circuit with more gates
abbrev pub with_more_gates : Circuit → List Gate → Circuit
with_more_gates c gs = record c { gates = c.gates ++ gs }

-- the properties that a value has, and none
abbrev pub properties_of : PropertiesValue → Properties
properties_of p =
    record { outputs = p.outputs.items; bads = p.bads.items; constraints = p.constraints.items; justice = p.justice; fair = p.fair.items }

abbrev pub no_properties : Properties
no_properties = record { outputs = []; bads = []; constraints = []; justice = []; fair = [] }

-- the lists of a file with the properties that a header counts, and the text behind these
abbrev pub properties_onto : Counts → Loose → List ℕ → Result (Loose × List ℕ) Stop
properties_onto h l text = properties_at h text >>= (λ x. Ok (with_properties_of l x.0, x.1))

-- an answer, seen as what was made, is one that is to be given, unless memory ran out
abbrev pub ReadsBy : {X A E : Type 0} → (E → Why) → (X → A) → Result X E → (Result A E → Type 0) → Type 0
ReadsBy why_of view (Ok x) Answers = Answers (Ok (view x))
ReadsBy why_of view (Err e) Answers = (why_of e ≡ why.NoMemory) ⊎ Answers (Err e)

-- it is what was to be read of a text
abbrev pub WasToBeRead : {X A : Type 0} → (X → A) → Result X Stop → Result A Stop → Type 0
WasToBeRead view r read = ReadsBy (λ e. e.why) view r (λ answer. read ≡ answer)

-- it is what was to be read of a line
abbrev pub IsLineReadOf : {X A : Type 0} → (X → A) → Result X Why → Result A Why → Type 0
IsLineReadOf view r read = ReadsBy (λ w. w) view r (λ answer. read ≡ answer)

-- ---- numbers of variables

-- lists of a file were numbered, and where they were wanted the numbers are theirs
abbrev pub AnswersWanted : Loose → Bool → Result Numbered LooseFault → Type 0
AnswersWanted l wanted (Ok x) = IsRenumbered l x.circuit × (wanted ≡ true → IsNumberingOf l x.circuit x.numbering)
AnswersWanted l wanted (Err e) = AnswersNumber l (Err e)

-- the lists of a file are by these numbers a circuit, which has the names of a text then
pub record AreNumbersOf (l : Loose) (names : List ℕ) (c : Circuit) (numbering : Option (List ℕ)) : Type 0 where
  pub bare : Circuit
  pub is_renumbered : IsRenumbered l bare
  pub numbers : IsNumberingOf l bare numbering
  pub named : names_at bare names ≡ Ok c

-- ---- whole texts

-- what is told where reading stops, of so many bytes: want of memory has place 0, and no text has a device's fault
abbrev pub told : ℕ → ℕ → Why → ReadFault
told total left why.NoMemory = record { place = 0; why = why.NoMemory }
told total left why.Device = record { place = 0; why = why.NoMemory }
told total left w = record { place = total - left; why = w }

-- whether a why is one that a text has
abbrev pub IsTextWhy : Why → Type 0
IsTextWhy why.NoMemory = ⊥
IsTextWhy why.Device = ⊥
IsTextWhy w = Unit {0}

-- a text was read as a circuit that it spells, with its numbers where they were wanted, or has the fault, unless memory ran out
abbrev pub ReadsText : List ℕ → Bool → Result Numbered ReadFault → Type 0
ReadsText text wanted (Ok x) = SpellsCircuit text x.circuit × (wanted ≡ true → IsNumberingOfText text x.circuit x.numbering)
ReadsText text wanted (Err e) = (e ≡ record { place = 0; why = why.NoMemory }) ⊎ (IsTextWhy e.why × IsAsciiFaultOf text e)
