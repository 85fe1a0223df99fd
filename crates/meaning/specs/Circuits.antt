-- Beginnings of texts of circuits (this project's).
use Rattle.std.specs.Prelude.{◌≡◌, ℕ, List, [], ◌∷◌, ◌++◌, take, ◌⊎◌, codes}
use Rattle.aiger.specs.Circuit.{Circuit}
use Rattle.aigertext.specs.declared.fault.Why.TheVariants as why
use Rattle.aigertext.specs.declared.fault.ReadFault.{ReadFault}
use Rattle.aigertext.specs.AsciiReading.{IsAsciiFaultOf}
use Rattle.aigertext.specs.Spelling.{SpellsCircuit}
use Rattle.base.specs.Lines.{IsLine}
use Rattle.meaning.specs.Pieces.{IsWholeLine, IsWholeDelta, IsPartOfDelta, IsLineOrDelta, IsFirstFault}

-- a text of the ascii form begins with its word
pub record SaysAscii (text : List ℕ) : Type 0 where
  pub rest : List ℕ
  pub is : text ≡ codes "aag" ++ rest

-- some bytes behind a text make it one of a circuit
pub record BeginsCircuit (text : List ℕ) : Type 0 where
  pub more : List ℕ
  pub circuit : Circuit
  pub spells : SpellsCircuit (text ++ more) circuit

-- a fault of lists that are whole: a line uses a variable that none defines, or a gate depends on itself
pub record HasFaultOfLists (text : List ℕ) : Type 0 where
  pub fault : ReadFault
  pub is : IsAsciiFaultOf text fault
  pub why : (fault.why ≡ why.Undefined) ⊎ (fault.why ≡ why.Cycle)

-- a text of a circuit, or one that has whole lists and is none by a fault of these
abbrev pub HasLists : List ℕ → Type 0
HasLists text = ((c : Circuit) × SpellsCircuit text c) ⊎ HasFaultOfLists text

-- some bytes behind a text make it one that has lists
pub record BeginsLists (text : List ℕ) : Type 0 where
  pub more : List ℕ
  pub has : HasLists (text ++ more)

-- a delta stands next in a text: one of the bytes 0 and 1 may, with which no line of it begins
abbrev pub TakesDelta : List ℕ → Type 0
TakesDelta text = BeginsCircuit (text ++ 0 ∷ []) ⊎ BeginsCircuit (text ++ 1 ∷ [])

-- a first fault is that of a line before the gates of the binary form, or that of a delta, or that of a line behind the gates, where a whole text of a circuit stands before it
unfoldable pub IsFirstInBinary : Type 0 → List ℕ → ℕ → Type 0
IsFirstInBinary told text place =
    ((¬ TakesDelta (take place text)) × IsFirstFault IsWholeLine IsWholeLine IsLine BeginsCircuit told text place)
    ⊎ ((TakesDelta (take place text) × IsFirstFault IsLineOrDelta IsWholeDelta IsPartOfDelta BeginsCircuit told text place)
    ⊎ (((c : Circuit) × SpellsCircuit (take place text) c) × IsFirstFault IsLineOrDelta IsWholeLine IsLine BeginsCircuit told text place))
