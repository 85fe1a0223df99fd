use Rattle.aigertext.proofs.HeaderSmallLemmas.{header_says}
use Rattle.aigertext.proofs.reading.lines.header_line.Goals as goal

pub returns-clause-small : goal.returns-clause-small
returns-clause-small c = (header_says c.in_ok-bytes.bytes.now c.in_ok-said.said.0 c.in_ok-said.said.1 (rw c.in_ok-said.ensures at c.header.ensures)).small

pub returns-clause-fits : goal.returns-clause-fits
returns-clause-fits c = (header_says c.in_ok-bytes.bytes.now c.in_ok-said.said.0 c.in_ok-said.said.1 (rw c.in_ok-said.ensures at c.header.ensures)).fits
