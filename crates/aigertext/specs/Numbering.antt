-- What literals of a circuit the literals of the text are that it is read from ("AIGER 1.9 and Beyond", ascii and binary format).
use Rattle.std.specs.Prelude.{◌≡◌, ℕ, List, [], Option, None, Result, Ok, Err}
use Rattle.aigerlists.specs.declared.numbered.Numbered.{Numbered}
use Rattle.aiger.specs.Circuit.{Circuit}
use Rattle.aigerlists.specs.Loose.{Loose}
use Rattle.aigerlists.specs.Renumbering.{IsNumberingOf}
use Rattle.aigertext.specs.declared.reading.counts.Counts.{Counts}
use Rattle.aigertext.specs.declared.fault.ReadFault.{ReadFault}
use Rattle.aigertext.specs.declared.forms.Form.{Form}
use Rattle.aigertext.specs.declared.forms.Form.TheVariants.{Ascii, Binary}
use Rattle.aigertext.specs.Reading.{line_at, header_of}
use Rattle.aigertext.specs.AsciiReading.{lists_of_file}

-- the lists that stand behind a header of the ascii form are by these numbers the circuit without its names
pub record IsNumberingOfLists (h : Counts) (text : List ℕ) (c : Circuit) (numbering : Option (List ℕ)) : Type 0 where
  pub lists : Loose
  pub names : List ℕ
  pub read : lists_of_file h text ≡ Ok (lists, names)
  pub numbers : IsNumberingOf lists (record c { names = [] }) numbering

-- the same of what stands behind a header of a form: in the binary form each variable has its own number
abbrev pub IsNumberingOfBody : Form → Counts → List ℕ → Circuit → Option (List ℕ) → Type 0
IsNumberingOfBody Ascii h text c numbering = IsNumberingOfLists h text c numbering
IsNumberingOfBody Binary h text c numbering = numbering ≡ None

-- the same of a text, whose first word decides the form
pub record IsNumberingOfText (text : List ℕ) (c : Circuit) (numbering : Option (List ℕ)) : Type 0 where
  pub form : Form
  pub counts : Counts
  pub behind : List ℕ
  pub header : line_at header_of text ≡ Ok ((form, counts), behind)
  pub body : IsNumberingOfBody form counts behind c numbering

-- what was read, without its numbers
abbrev pub without_numbers : Result Numbered ReadFault → Result Circuit ReadFault
without_numbers (Ok x) = Ok x.circuit
without_numbers (Err e) = Err e
