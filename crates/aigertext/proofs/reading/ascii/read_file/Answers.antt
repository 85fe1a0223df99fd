use Rattle.aigertext.proofs.AsciiStandsLemmas.{file_numbers}
use Rattle.aigertext.proofs.reading.ascii.read_file.Goals as goal

pub returns-clause-numbering : goal.returns-clause-numbering
returns-clause-numbering c =
    file_numbers c.one_renumbering.ensures.circuit c.args.counts.now c.args.text.now c.read_lists.new.lists c.in_ok-names.names.now c.args.wanted c.named.result c.requires.small c.requires.fits c.in_ok-names.ensures c.named.ensures.numbering
