-- Which texts stand for which circuits ("AIGER 1.9 and Beyond", the binary and the ascii format): all spellings that the format allows.
use Rattle.std.specs.Prelude.{◌≡◌, ℕ, suc, ◌+◌, ◌*◌, ◌≤◌, List, [], ◌∷◌, ◌++◌, length, replicate, Option, None, IfSome, flat_map, decimal, ◌⊎◌, All}
use Rattle.std.specs.List.{concat}
use Rattle.aiger.specs.declared.circuit.Latch.{Latch}
use Rattle.aiger.specs.declared.circuit.Reset.{Reset}
use Rattle.aiger.specs.declared.circuit.Reset.TheVariants.{Zero, One, Free}
use Rattle.aiger.specs.declared.circuit.Section.{Section}
use Rattle.aigerlists.specs.declared.loose.GateLine.{GateLine}
use Rattle.aigerlists.specs.declared.loose.LatchLine.{LatchLine}
use Rattle.aiger.specs.Circuit.{Circuit, IsCircuit, letter, with_name, name_refusal}
use Rattle.aiger.specs.Limits.{greatest_count}
use Rattle.aigerlists.specs.Loose.{Loose, IsLoose, defined_count}
use Rattle.aigerlists.specs.Renumbering.{IsRenumbered}
use Rattle.aigertext.specs.declared.reading.counts.Counts.{Counts}
use Rattle.aigertext.specs.declared.forms.Form.{Form}
use Rattle.aigertext.specs.declared.forms.Form.TheVariants.{Ascii, Binary}
use Rattle.aigertext.specs.Ascii.{numbers_line, form_word, literal_lines, justice_lines, property_lines}
use Rattle.aigertext.specs.Binary.{gates_text}
use Rattle.aigertext.specs.Counts.{first_of_counts, last_of_counts, counts_in, counts_of_file}

-- a header: the form's word, the first five numbers and a front of the last four, behind which all are 0
pub record IsHeader (form : Form) (h : Counts) (bytes : List ℕ) : Type 0 where
  pub kept : List ℕ
  pub dropped : ℕ
  pub counts : kept ++ replicate dropped 0 ≡ last_of_counts h
  pub spelled : bytes ≡ form_word form ++ 32 ∷ numbers_line (first_of_counts h ++ kept)

-- the numbers that say how a latch begins: 0 may be left out, and its own literal stands for no initial value
abbrev pub IsReset : ℕ → Reset → List ℕ → Type 0
IsReset own Zero numbers = (numbers ≡ []) ⊎ (numbers ≡ 0 ∷ [])
IsReset own One numbers = numbers ≡ 1 ∷ []
IsReset own Free numbers = numbers ≡ own ∷ []

-- the line of a latch in the binary form: its next literal, and how it begins
pub record IsNextLine (own : ℕ) (l : Latch) (bytes : List ℕ) : Type 0 where
  pub reset : List ℕ
  pub is_reset : IsReset own l.reset reset
  pub spelled : bytes ≡ numbers_line (l.next ∷ reset)

-- lines of latches, the first of which has the given literal
abbrev pub AreNextLines : ℕ → List Latch → List ℕ → Type 0
AreNextLines own [] bytes = bytes ≡ []
AreNextLines own (l ∷ ls) bytes =
    (line : List ℕ) × ((rest : List ℕ) × ((bytes ≡ line ++ rest) × IsNextLine own l line × AreNextLines (own + 2) ls rest))

-- a name that a line gives to a position of a section
pub record Given : Type 0 where
  pub section : Section
  pub position : ℕ
  pub name : List ℕ

-- its line: the letter with the position, a space, the name, and byte 10
abbrev pub given_line : Given → List ℕ
given_line g = letter g.section ∷ decimal g.position ++ 32 ∷ g.name ++ 10 ∷ []

-- names given in turn, each of which the circuit takes, make of a circuit another
abbrev pub GiveNames : Circuit → List Given → Circuit → Type 0
GiveNames c [] d = c ≡ d
GiveNames c (g ∷ gs) d =
    (name_refusal c g.section g.position g.name ≡ None) × GiveNames (with_name c g.section g.position g.name) gs d

-- a comment: none, or a line `c` and any bytes
abbrev pub IsComment : List ℕ → Type 0
IsComment bytes = (bytes ≡ []) ⊎ ((any : List ℕ) × (bytes ≡ 99 ∷ 10 ∷ any))

-- what stands behind the gates: names in any order, and a comment
pub record IsEnd (c : Circuit) (bytes : List ℕ) : Type 0 where
  pub given : List Given
  pub names : GiveNames (record c { names = [] }) given c
  pub comment : List ℕ
  pub is_comment : IsComment comment
  pub spelled : bytes ≡ flat_map given_line given ++ comment

-- a binary text stands for a circuit: header, latches, properties, gates, names and comment
pub record IsBinaryText (text : List ℕ) (c : Circuit) : Type 0 where
  pub header : List ℕ
  pub is_header : IsHeader Binary (counts_in c) header
  pub latches : List ℕ
  pub are_latches : AreNextLines (2 * suc c.inputs) c.latches latches
  pub end : List ℕ
  pub is_end : IsEnd c end
  pub valid : IsCircuit c
  pub whole :
      text ≡ header ++ (latches ++ (property_lines c ++ (gates_text Binary (suc (c.inputs + length c.latches)) c.gates ++ end)))

-- ---- the ascii form

-- a line for each thing of a section
abbrev pub AreLines : {A : Type 0} → (A → List ℕ → Type 0) → List A → List ℕ → Type 0
AreLines IsLine [] bytes = bytes ≡ []
AreLines IsLine (x ∷ xs) bytes =
    (line : List ℕ) × ((rest : List ℕ) × ((bytes ≡ line ++ rest) × IsLine x line × AreLines IsLine xs rest))

-- the line of an input: its literal
abbrev pub IsInputLine : ℕ → List ℕ → Type 0
IsInputLine lit bytes = bytes ≡ numbers_line (lit ∷ [])

-- the line of a latch: its literal, its next literal, and how it begins
pub record IsLatchLine (l : LatchLine) (bytes : List ℕ) : Type 0 where
  pub reset : List ℕ
  pub is_reset : IsReset l.current l.reset reset
  pub spelled : bytes ≡ numbers_line (l.current ∷ l.next ∷ reset)

-- the line of a gate: its literal and its operands
abbrev pub IsGateLine : GateLine → List ℕ → Type 0
IsGateLine g bytes = bytes ≡ numbers_line (g.lhs ∷ g.rhs0 ∷ g.rhs1 ∷ [])

-- the lines of outputs, bad properties, constraints, justice properties and fairness constraints
abbrev pub use_lines : Loose → List ℕ
use_lines l =
    literal_lines l.outputs ++ (literal_lines l.bads ++ (literal_lines l.constraints
    ++ (justice_lines l.justice ++ literal_lines l.fair)))

-- each literal of the lists of a file is at most the greatest
pub record AreUpTo (greatest : ℕ) (l : Loose) : Type 0 where
  pub inputs : All (λ n. n ≤ greatest) l.inputs
  pub latches : All (λ line. (line.current ≤ greatest) × (line.next ≤ greatest)) l.latches
  pub outputs : All (λ n. n ≤ greatest) l.outputs
  pub bads : All (λ n. n ≤ greatest) l.bads
  pub constraints : All (λ n. n ≤ greatest) l.constraints
  pub justice : All (λ n. n ≤ greatest) (concat l.justice)
  pub fair : All (λ n. n ≤ greatest) l.fair
  pub gates : All (λ line. (line.lhs ≤ greatest) × (line.rhs0 ≤ greatest) × (line.rhs1 ≤ greatest)) l.gates

-- an ascii text stands for a circuit: header, inputs, latches, properties, gates, names and comment, where the circuit is the lists of the file with the numbers of a circuit, whose greatest variable the header tells
pub record IsAsciiText (text : List ℕ) (c : Circuit) : Type 0 where
  pub lists : Loose
  pub valid : IsLoose lists
  pub unnamed : lists.names ≡ []
  pub greatest : ℕ
  pub small : greatest ≤ greatest_count
  pub enough : defined_count lists ≤ greatest
  pub literals : AreUpTo (2 * greatest + 1) lists
  pub header : List ℕ
  pub is_header : IsHeader Ascii (counts_of_file greatest lists) header
  pub inputs : List ℕ
  pub are_inputs : AreLines IsInputLine lists.inputs inputs
  pub latches : List ℕ
  pub are_latches : AreLines IsLatchLine lists.latches latches
  pub gates : List ℕ
  pub are_gates : AreLines IsGateLine lists.gates gates
  pub end : List ℕ
  pub is_end : IsEnd c end
  pub is_renumbered : IsRenumbered lists (record c { names = [] })
  pub whole : text ≡ header ++ (inputs ++ (latches ++ (use_lines lists ++ (gates ++ end))))

-- a text spells a circuit: it stands for it in the ascii form or in the binary form
abbrev pub SpellsCircuit : List ℕ → Circuit → Type 0
SpellsCircuit text c = IsAsciiText text c ⊎ IsBinaryText text c

-- the bytes of a source, where it knows them, are a text of a circuit, of either form
abbrev pub IsCircuitText : Option (List ℕ) → Circuit → Type 0
IsCircuitText known circuit = IfSome known (λ text. SpellsCircuit text circuit)
