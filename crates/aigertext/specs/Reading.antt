-- Reading a circuit's text from left to right, with the first fault that is met.
use Rattle.std.specs.Prelude.{◌≡◌, ℕ, zero, suc, ◌+◌, ◌-◌, ◌*◌, List, [], ◌∷◌, ◌++◌, length, take, drop, get_or, Option, Some, None, Result, Ok, Err, ◌==◌, ◌||◌, nat_le, nat_lt, if◌then◌else◌, codes}
use Rattle.std.specs.List.{find, list_all, sum}
use Rattle.std.specs.Str.{bytes_eq}
use Rattle.base.specs.Lines.{text_of_lines, onto_first, whole_lines, unfinished}
use Rattle.base.specs.Decimals.{number_of}
use Rattle.deltas.specs.declared.reading.DeltaFault.{DeltaFault}
use Rattle.deltas.specs.declared.reading.DeltaFault.TheVariants as delta_fault
use Rattle.deltas.specs.Deltas.{number_at}
use Rattle.aiger.specs.declared.circuit.Gate.{Gate}
use Rattle.aiger.specs.declared.circuit.Latch.{Latch}
use Rattle.aiger.specs.declared.circuit.Reset.{Reset}
use Rattle.aiger.specs.declared.circuit.Reset.TheVariants as reset
use Rattle.aiger.specs.declared.circuit.Section.{Section}
use Rattle.aiger.specs.declared.fault.CircuitFault.{CircuitFault}
use Rattle.aiger.specs.Limits.{greatest_count}
use Rattle.aiger.specs.Circuit.{Circuit, letter, all_sections, with_name, name_refusal}
use Rattle.aigertext.specs.declared.reading.counts.Counts.{Counts}
use Rattle.aigertext.specs.declared.fault.ReadFault.{ReadFault}
use Rattle.aigertext.specs.declared.fault.Stop.{Stop}
use Rattle.aigertext.specs.declared.fault.Why.{Why}
use Rattle.aigertext.specs.declared.fault.Why.TheVariants as why
use Rattle.aigertext.specs.declared.forms.Form.{Form}
use Rattle.aigertext.specs.declared.forms.Form.TheVariants.{Ascii, Binary}

-- ---- faults

-- what a value gives to the next step; the first fault ends all steps
infixl 10 ◌>>=◌
abbrev pub ◌>>=◌ : {A B E : Type 0} → Result A E → (A → Result B E) → Result B E
(Ok x) >>= f = f x
(Err e) >>= f = Err e

-- reading stops at the front of a text
abbrev pub stop : List ℕ → Why → Stop
stop text w = record { left = length text; why = w }

-- what the front of a text says; its why is told with its place
abbrev pub said_at_front : {A : Type 0} → List ℕ → Result A Why → Result A Stop
said_at_front text (Ok x) = Ok x
said_at_front text (Err w) = Err (stop text w)

-- what a function returned, seen by view, is what reading gives
abbrev pub IsAsRead : {X Y E : Type 0} → (X → Y) → Result X E → Result Y E → Type 0
IsAsRead view (Ok x) read = read ≡ Ok (view x)
IsAsRead view (Err e) read = read ≡ Err e

-- what an option has, or a why where it has nothing
abbrev pub some_or : {A : Type 0} → Why → Option A → Result A Why
some_or w (Some x) = Ok x
some_or w None = Err w

-- ---- lines and their fields

abbrev pub onto_front : ℕ → Option (List ℕ × List ℕ) → Option (List ℕ × List ℕ)
onto_front b None = None
onto_front b (Some x) = Some (b ∷ x.0, x.1)

-- the bytes before the first of a kind and those behind it, where there is one
abbrev pub cut_at_byte : ℕ → List ℕ → Option (List ℕ × List ℕ)
cut_at_byte byte [] = None
cut_at_byte byte (b ∷ bs) = if b == byte then Some ([], bs) else onto_front b (cut_at_byte byte bs)

-- the parts of a line between its spaces
abbrev pub fields : List ℕ → List (List ℕ)
fields [] = [] ∷ []
fields (b ∷ bs) = if b == 32 then [] ∷ fields bs else onto_first b (fields bs)

-- the same behind a field: nothing where the line ended, else what follows its space
abbrev pub fields_behind : List ℕ → List (List ℕ)
fields_behind [] = []
fields_behind (b ∷ bs) = fields bs

-- what the first line of a text says, and the text behind it
abbrev pub cut_line : {A : Type 0} → (List ℕ → Result A Why) → List ℕ → Option (List ℕ × List ℕ) → Result (A × List ℕ) Stop
cut_line says text None = Err (stop text why.Truncated)
cut_line says text (Some x) = do
  a ← said_at_front text (says x.0)
  Ok (a, x.1)

abbrev pub line_at : {A : Type 0} → (List ℕ → Result A Why) → List ℕ → Result (A × List ℕ) Stop
line_at says text = cut_line says text (cut_at_byte 10 text)

-- what so many lines say, one after the other, and the text behind them; what a line says goes on to the next one
abbrev pub lines_at : {A S : Type 0} → (S → List ℕ → Result A Why) → (S → A → S) → S → ℕ → List ℕ → Result (List A × List ℕ) Stop
lines_at says next s zero text = Ok ([], text)
lines_at says next s (suc n) text = do
  x ← line_at (says s) text
  xs ← lines_at says next (next s x.0) n x.1
  Ok (x.0 ∷ xs.0, xs.1)

-- ---- header

-- the numbers that fields are
abbrev pub numbers_in : List (List ℕ) → Result (List ℕ) Why
numbers_in [] = Ok []
numbers_in (field ∷ rest) = do
  n ← some_or why.BadHeader (number_of field)
  ns ← numbers_in rest
  Ok (n ∷ ns)

-- the counts that numbers are; one that is left out is 0
abbrev pub counts_at : List ℕ → Counts
counts_at ns =
    record {
      variables = get_or ns 0 0;
      inputs = get_or ns 1 0;
      latches = get_or ns 2 0;
      outputs = get_or ns 3 0;
      gates = get_or ns 4 0;
      bads = get_or ns 5 0;
      constraints = get_or ns 6 0;
      justice = get_or ns 7 0;
      fair = get_or ns 8 0;
    }

-- five to nine numbers, each of which is at most 2^30
unfoldable pub counts_of : List ℕ → Result Counts Why
counts_of ns =
    if nat_lt (length ns) 5 || nat_lt 9 (length ns) then Err why.BadHeader
    else (if list_all (λ n. nat_le n greatest_count) ns then Ok (counts_at ns) else Err why.TooBig)

-- the counts, where the greatest variable fits what it counts: in the binary form it is the sum, in the ascii form at least that
unfoldable pub fitting : Form → Counts → Result Counts Why
fitting Ascii h = if nat_lt h.variables (h.inputs + h.latches + h.gates) then Err why.CountsDisagree else Ok h
fitting Binary h = if h.variables == h.inputs + h.latches + h.gates then Ok h else Err why.CountsDisagree

-- the form that a word is of
unfoldable pub header_form : List ℕ → Result Form Why
header_form word = if bytes_eq word (codes "aag") then Ok Ascii else (if bytes_eq word (codes "aig") then Ok Binary else Err why.BadHeader)

-- the counts that fields are
abbrev pub counts_told : List (List ℕ) → Result Counts Why
counts_told fields = numbers_in fields >>= counts_of

unfoldable pub header_fields : List (List ℕ) → Result (Form × Counts) Why
header_fields [] = Err why.BadHeader
header_fields (word ∷ rest) = do
  form ← header_form word
  h ← counts_told rest
  fits ← fitting form h
  Ok (form, fits)

-- what a header says
abbrev pub header_of : List ℕ → Result (Form × Counts) Why
header_of line = header_fields (fields line)

-- ---- latches, literals and sizes

-- a number that is at most another
abbrev pub within : Why → ℕ → Option ℕ → Result ℕ Why
within w greatest None = Err w
within w greatest (Some n) = if nat_le n greatest then Ok n else Err w

-- the literal of a line
unfoldable pub literal_on : ℕ → List ℕ → Result ℕ Why
literal_on greatest line = within why.BadNumber greatest (number_of line)

-- how a latch begins
abbrev pub reset_of : ℕ → Option ℕ → Result Reset Why
reset_of own None = Err why.BadLatch
reset_of own (Some n) = if n == 0 then Ok reset.Zero else (if n == 1 then Ok reset.One else (if n == own then Ok reset.Free else Err why.BadLatch))

-- the same of the fields behind the next literal: none stands for 0
abbrev pub reset_on : ℕ → List (List ℕ) → Result Reset Why
reset_on own [] = Ok reset.Zero
reset_on own (field ∷ []) = reset_of own (number_of field)
reset_on own (field ∷ more ∷ others) = Err why.BadLatch

-- a latch of the binary form: its next literal, and how it begins
unfoldable pub next_fields : ℕ → ℕ → List (List ℕ) → Result Latch Why
next_fields greatest own [] = Err why.BadLatch
next_fields greatest own (next ∷ others) = do
  n ← within why.BadLatch greatest (number_of next)
  r ← reset_on own others
  Ok (record { next = n; reset = r })

abbrev pub next_of : ℕ → ℕ → List ℕ → Result Latch Why
next_of greatest own line = next_fields greatest own (fields line)

-- the size of a justice property, where those before it have so many literals
abbrev pub size_within : ℕ → Option ℕ → Result ℕ Why
size_within before None = Err why.BadNumber
size_within before (Some n) = if nat_le n (greatest_count - before) then Ok n else Err why.TooBig

unfoldable pub size_of : ℕ → List ℕ → Result ℕ Why
size_of before line = size_within before (number_of line)

-- so many latches, the first of which has the given literal
abbrev pub nexts_at : ℕ → ℕ → ℕ → List ℕ → Result (List Latch × List ℕ) Stop
nexts_at greatest own n text = lines_at (next_of greatest) (λ o l. o + 2) own n text

-- so many literals
abbrev pub literals_at : ℕ → ℕ → List ℕ → Result (List ℕ × List ℕ) Stop
literals_at greatest n text = lines_at literal_on (λ g l. g) greatest n text

-- so many sizes
abbrev pub sizes_at : ℕ → ℕ → List ℕ → Result (List ℕ × List ℕ) Stop
sizes_at before n text = lines_at size_of (λ b size. b + size) before n text

-- ---- gates of the binary form

-- why a delta is none
abbrev pub delta_why : DeltaFault → Why
delta_why delta_fault.Truncated = why.Truncated
delta_why delta_fault.NotShortest = why.DeltaNotShortest
delta_why delta_fault.TooLong = why.DeltaTooLong

-- what was read of a delta, whose why is one of a circuit's text
abbrev pub delta_told : Result (ℕ × List ℕ) DeltaFault → Result (ℕ × List ℕ) Why
delta_told (Ok x) = Ok x
delta_told (Err e) = Err (delta_why e)

-- a delta, and the text behind it
unfoldable pub delta_at : List ℕ → Result (ℕ × List ℕ) Why
delta_at text = delta_told (number_at text)

-- the greater operand of a gate with this literal, and the text behind its delta
abbrev pub below : ℕ → ℕ × List ℕ → Result (ℕ × List ℕ) Why
below own d = if (d.0 == 0) || nat_lt own d.0 then Err why.GateOrder else Ok (own - d.0, d.1)

-- the smaller one
abbrev pub at_or_below : ℕ → ℕ × List ℕ → Result (ℕ × List ℕ) Why
at_or_below first d = if nat_lt first d.0 then Err why.GateOrder else Ok (first - d.0, d.1)

-- a gate with this literal, and the text behind it
unfoldable pub gate_at : ℕ → List ℕ → Result (Gate × List ℕ) Stop
gate_at own text = do
  x ← said_at_front text (delta_at text >>= below own)
  y ← said_at_front x.1 (delta_at x.1 >>= at_or_below x.0)
  Ok (record { rhs0 = x.0; rhs1 = y.0 }, y.1)

-- so many gates, the first of which has the given literal
abbrev pub gates_at : ℕ → ℕ → List ℕ → Result (List Gate × List ℕ) Stop
gates_at own zero text = Ok ([], text)
gates_at own (suc n) text = do
  g ← gate_at own text
  gs ← gates_at (own + 2) n g.1
  Ok (g.0 ∷ gs.0, gs.1)

-- ---- names

-- the section that a letter stands for
unfoldable pub section_with_letter : ℕ → Option Section
section_with_letter b = find (λ s. letter s == b) all_sections

-- the circuit with a name more, where it is not refused
abbrev pub name_accepted : Circuit → Option CircuitFault → Result Circuit Why
name_accepted c None = Ok c
name_accepted c (Some fault) = Err why.BadSymbol

-- the circuit with the name that a line gives
abbrev pub named_by : Circuit → Section → Option (List ℕ × List ℕ) → Result Circuit Why
named_by c s None = Err why.BadSymbol
named_by c s (Some x) = do
  position ← some_or why.BadSymbol (number_of x.0)
  name_accepted (with_name c s position x.1) (name_refusal c s position x.1)

unfoldable pub name_on : Circuit → List ℕ → Result Circuit Why
name_on c [] = Err why.BadSymbol
name_on c (b ∷ bs) = do
  s ← some_or why.BadSymbol (section_with_letter b)
  named_by c s (cut_at_byte 32 bs)

-- the circuit with the names that lines give, up to a line `c`; the last line has no byte 10
abbrev pub names_on : Circuit → List (List ℕ) → List ℕ → Result Circuit Stop
names_on c [] [] = Ok c
names_on c [] (b ∷ bs) = Err (stop (b ∷ bs) why.Truncated)
names_on c (line ∷ lines) last =
    if bytes_eq line (codes "c") then Ok c
    else (said_at_front (text_of_lines (line ∷ lines) ++ last) (name_on c line) >>= (λ d. names_on d lines last))

-- the same of a text
abbrev pub names_at : Circuit → List ℕ → Result Circuit Stop
names_at c text = names_on c (whole_lines text) (unfinished text)

-- ---- texts

-- literals as lists of these sizes
abbrev pub sized_lists : List ℕ → List ℕ → List (List ℕ)
sized_lists [] literals = []
sized_lists (n ∷ ns) literals = take n literals ∷ sized_lists ns (drop n literals)

-- so many justice properties: the sizes of all, then the literals of all
abbrev pub justice_at : ℕ → ℕ → List ℕ → Result (List (List ℕ) × List ℕ) Stop
justice_at greatest n text = do
  s ← sizes_at 0 n text
  j ← literals_at greatest (sum s.0) s.1
  Ok (sized_lists s.0 j.0, j.1)

-- the literals of outputs, bad properties and constraints, those of each justice property, and the fairness constraints
pub record Properties : Type 0 where
  pub outputs : List ℕ
  pub bads : List ℕ
  pub constraints : List ℕ
  pub justice : List (List ℕ)
  pub fair : List ℕ

-- the properties that a header counts, and the text behind them
unfoldable pub properties_at : Counts → List ℕ → Result (Properties × List ℕ) Stop
properties_at h text = do
  o ← literals_at (2 * h.variables + 1) h.outputs text
  b ← literals_at (2 * h.variables + 1) h.bads o.1
  c ← literals_at (2 * h.variables + 1) h.constraints b.1
  j ← justice_at (2 * h.variables + 1) h.justice c.1
  f ← literals_at (2 * h.variables + 1) h.fair j.1
  Ok (record { outputs = o.0; bads = b.0; constraints = c.0; justice = j.0; fair = f.0 }, f.1)

-- a circuit without names
abbrev pub nameless : ℕ → List Latch → Properties → List Gate → Circuit
nameless inputs latches p gates =
    record {
      inputs = inputs;
      latches = latches;
      gates = gates;
      outputs = p.outputs;
      bads = p.bads;
      constraints = p.constraints;
      justice = p.justice;
      fair = p.fair;
      names = [];
    }

-- the circuit that stands behind a header of the binary form
unfoldable pub binary_at : Counts → List ℕ → Result Circuit Stop
binary_at h text = do
  l ← nexts_at (2 * h.variables + 1) (2 * suc h.inputs) h.latches text
  p ← properties_at h l.1
  g ← gates_at (2 * suc (h.inputs + h.latches)) h.gates p.1
  names_at (nameless h.inputs l.0 p.0 g.0) g.1

-- the place of a fault, in bytes from 0
abbrev pub fault_of : List ℕ → Stop → ReadFault
fault_of text s = record { place = length text - s.left; why = s.why }
