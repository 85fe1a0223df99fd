-- Reading a circuit's ascii text from left to right ("AIGER 1.9 and Beyond", ascii format), with the first fault that is met: the lists of the file, then the circuit that they are, then its names; and reading a text of either form.
use Rattle.std.specs.Prelude.{◌≡◌, ℕ, zero, suc, ◌+◌, ◌-◌, ◌*◌, ◌&&◌, not, List, [], ◌∷◌, length, Option, Some, None, Result, Ok, Err, nat_lt, nat_le, ◌⊎◌, if◌then◌else◌}
use Rattle.base.specs.Decimals.{number_of}
use Rattle.aigerlists.specs.declared.loose.GateLine.{GateLine}
use Rattle.aigerlists.specs.declared.loose.LatchLine.{LatchLine}
use Rattle.aiger.specs.Circuit.{Circuit}
use Rattle.base.specs.Literal.{variable}
use Rattle.aigerlists.specs.Loose.{Loose, empty_loose, is_defined, is_defining, with_input_line, with_latch_line, with_gate_line}
use Rattle.aigerlists.specs.Renumbering.{IsRenumbered, used_lines, first_undefined, IsFirstCyclic}
use Rattle.aigertext.specs.declared.reading.counts.Counts.{Counts}
use Rattle.aigertext.specs.declared.fault.Stop.{Stop}
use Rattle.aigertext.specs.declared.fault.Why.{Why}
use Rattle.aigertext.specs.declared.fault.Why.TheVariants as why
use Rattle.aigertext.specs.Reading.{◌>>=◌, stop, cut_at_byte, fields, line_at, some_or, within, next_fields, header_of, Properties, properties_at, names_at, binary_at, fault_of}
use Rattle.aigertext.specs.declared.forms.Form.{Form}
use Rattle.aigertext.specs.declared.forms.Form.TheVariants.{Ascii, Binary}
use Rattle.aigertext.specs.declared.fault.ReadFault.{ReadFault}

-- ---- lines

-- a literal that defines a new variable, which is at most the greatest
abbrev pub defining : Why → ℕ → Loose → ℕ → Result ℕ Why
defining w greatest l n = if nat_le n greatest && (is_defining n && not (is_defined l (variable n))) then Ok n else Err w

abbrev pub defining_by : Why → ℕ → Loose → Option ℕ → Result ℕ Why
defining_by w greatest l r = some_or w r >>= defining w greatest l

-- the literal of an input's line
unfoldable pub input_of : ℕ → Loose → List ℕ → Result ℕ Why
input_of greatest l line = defining_by why.BadNumber greatest l (number_of line)

-- a latch: its own literal, and what the binary form has of it
unfoldable pub latch_fields : ℕ → Loose → List (List ℕ) → Result LatchLine Why
latch_fields greatest l [] = Err why.BadLatch
latch_fields greatest l (current ∷ others) = do
  own ← defining_by why.BadLatch greatest l (number_of current)
  x ← next_fields greatest own others
  Ok (record { current = own; next = x.next; reset = x.reset })

abbrev pub latch_of_line : ℕ → Loose → List ℕ → Result LatchLine Why
latch_of_line greatest l line = latch_fields greatest l (fields line)

-- a gate: three numbers, of which the first defines a new variable; that is asked last
unfoldable pub gate_fields : ℕ → Loose → List (List ℕ) → Result GateLine Why
gate_fields greatest l (lhs ∷ rhs0 ∷ rhs1 ∷ []) = do
  own ← some_or why.BadNumber (number_of lhs)
  a ← within why.BadNumber greatest (number_of rhs0)
  b ← within why.BadNumber greatest (number_of rhs1)
  new ← defining why.GateOrder greatest l own
  Ok (record { lhs = new; rhs0 = a; rhs1 = b })
gate_fields greatest l other = Err why.BadNumber

abbrev pub gate_of_line : ℕ → Loose → List ℕ → Result GateLine Why
gate_of_line greatest l line = gate_fields greatest l (fields line)

-- ---- lists

-- so many lines that define variables, each onto the lists with those before it, and the text behind them
abbrev pub onto_lists : {A : Type 0} → (Loose → List ℕ → Result A Why) → (Loose → A → Loose) → Loose → ℕ → List ℕ → Result (Loose × List ℕ) Stop
onto_lists says with' l zero text = Ok (l, text)
onto_lists says with' l (suc n) text = do
  x ← line_at (says l) text
  onto_lists says with' (with' l x.0) n x.1

-- the lists with their properties
abbrev pub with_properties_of : Loose → Properties → Loose
with_properties_of l p =
    record l { outputs = p.outputs; bads = p.bads; constraints = p.constraints; justice = p.justice; fair = p.fair }

-- the lists that stand behind a header of the ascii form, and the text behind them
unfoldable pub lists_of_file : Counts → List ℕ → Result (Loose × List ℕ) Stop
lists_of_file h text = do
  i ← onto_lists (input_of (2 * h.variables + 1)) with_input_line empty_loose h.inputs text
  l ← onto_lists (latch_of_line (2 * h.variables + 1)) with_latch_line i.0 h.latches i.1
  p ← properties_at h l.1
  onto_lists (gate_of_line (2 * h.variables + 1)) with_gate_line (with_properties_of l.0 p.0) h.gates p.1

-- ---- faults of the lists

-- a text without so many lines at its front
abbrev pub behind_line : List ℕ → Option (List ℕ × List ℕ) → List ℕ
behind_line text None = text
behind_line text (Some x) = x.1

abbrev pub behind_lines : ℕ → List ℕ → List ℕ
behind_lines zero text = text
behind_lines (suc n) text = behind_lines n (behind_line text (cut_at_byte 10 text))

-- how many lines stand behind the header before the line that is k-th of those that use literals: the inputs are before all of them, the sizes of the justice properties before the justice literals
abbrev pub lines_before : Counts → ℕ → ℕ
lines_before h k =
    if nat_lt k (h.latches + h.outputs + h.bads + h.constraints) then h.inputs + k else h.inputs + h.justice + k

-- ---- texts

-- the lists are a circuit, and the answer is that circuit with the names behind them
pub record AnswersNamed (l : Loose) (names : List ℕ) (answer : Result Circuit Stop) : Type 0 where
  pub circuit : Circuit
  pub is_renumbered : IsRenumbered l circuit
  pub is : answer ≡ names_at circuit names

-- a line uses a variable that none defines, and the answer is a stop at the first such line
pub record AnswersUndefined (h : Counts) (text : List ℕ) (l : Loose) (answer : Result Circuit Stop) : Type 0 where
  pub line : ℕ
  pub undefined : first_undefined l ≡ Some line
  pub is : answer ≡ Err (stop (behind_lines (lines_before h line) text) why.Undefined)

-- all variables are defined, and gates depend on themselves: the answer is a stop at the first gate that leads to a cycle; the lines of gates are the last of those that use literals
pub record AnswersCycle (h : Counts) (text : List ℕ) (l : Loose) (answer : Result Circuit Stop) : Type 0 where
  pub gate : ℕ
  pub known : first_undefined l ≡ None
  pub cyclic : IsFirstCyclic l gate
  pub is : answer ≡ Err (stop (behind_lines (lines_before h (length (used_lines l) - length l.gates + gate)) text) why.Cycle)

-- what the lists of a file, or where reading them stops, have for an answer
abbrev pub AnswersLists : Counts → List ℕ → Result (Loose × List ℕ) Stop → Result Circuit Stop → Type 0
AnswersLists h text (Ok x) answer = AnswersNamed x.0 x.1 answer ⊎ (AnswersUndefined h text x.0 answer ⊎ AnswersCycle h text x.0 answer)
AnswersLists h text (Err e) answer = answer ≡ Err e

-- ---- both forms

-- what stands behind a header of a form has for an answer
abbrev pub AnswersBody : Form → Counts → List ℕ → Result Circuit Stop → Type 0
AnswersBody Ascii h text answer = AnswersLists h text (lists_of_file h text) answer
AnswersBody Binary h text answer = answer ≡ binary_at h text

-- what a header and the text behind it, or where reading a header stops, have for an answer
abbrev pub AnswersHeader : Result ((Form × Counts) × List ℕ) Stop → Result Circuit Stop → Type 0
AnswersHeader (Ok x) answer = AnswersBody x.0.0 x.0.1 x.1 answer
AnswersHeader (Err e) answer = answer ≡ Err e

-- reading a text: the circuit that it spells, or where reading stops; the first word decides the form
unfoldable pub AnswersText : List ℕ → Result Circuit Stop → Type 0
AnswersText text answer = AnswersHeader (line_at header_of text) answer

-- reading a text stops with this fault
pub record IsAsciiFaultOf (text : List ℕ) (e : ReadFault) : Type 0 where
  pub stop : Stop
  pub stops : AnswersText text (Err stop)
  pub is : e ≡ fault_of text stop

-- a text that spells a circuit was read as it, where neither the device failed nor memory ran out
abbrev pub GivesCircuit : Result Circuit ReadFault → Circuit → Type 0
GivesCircuit (Ok d) c = d ≡ c
GivesCircuit (Err e) c = (e.why ≡ why.Device) ⊎ (e.why ≡ why.NoMemory)
