use Rattle.aigertext.specs.declared.forms.Form.TheVariants.{Ascii, Binary}
use Rattle.aigertext.specs.Binary.{ascii_text, binary_text}
use Rattle.aigertext.proofs.AsciiStandsLemmas.{ascii-read}
use Rattle.aigertext.proofs.AsciiWrittenLemmas.{written_ascii}
use Rattle.aigertext.proofs.StandsLemmas.{stands-read}
use Rattle.aigertext.proofs.WrittenLemmas.{written_stands}
use Rattle.aigertext.proofs.laws.read_back.Goals as goal

pub returns-clause-ascii : goal.returns-clause-ascii
returns-clause-ascii c = written_ascii c.own_numbers.ensures.valid c.own_numbers.ensures.numbered c.own_numbers.ensures.many

pub returns-clause-binary : goal.returns-clause-binary
returns-clause-binary c = written_stands

pub returns-clause-read : goal.returns-clause-read
returns-clause-read c Ascii circuit valid =
    ascii-read c.one_renumbering.ensures.circuit (ascii_text circuit) circuit (written_ascii c.own_numbers.ensures.valid c.own_numbers.ensures.numbered c.own_numbers.ensures.many circuit valid)
returns-clause-read c Binary circuit valid = stands-read (binary_text circuit) circuit (written_stands circuit valid)
