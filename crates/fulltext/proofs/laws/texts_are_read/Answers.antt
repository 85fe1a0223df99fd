use Rattle.std.proofs.Common.{sym, ◌∙◌}
use Rattle.fulltext.proofs.StandsLemmas.{ok_items, read_stands, stands_read}
use Rattle.fulltext.proofs.FaultLemmas.{text_fails}
use Rattle.fulltext.proofs.laws.texts_are_read.Goals as goal

pub returns-clause-stands : goal.returns-clause-stands
returns-clause-stands c = read_stands

pub returns-clause-read : goal.returns-clause-read
returns-clause-read c = stands_read

pub returns-clause-same : goal.returns-clause-same
returns-clause-same c text items others s t = ok_items items others (sym (stands_read text items s) ∙ stands_read text others t)

pub returns-clause-fault : goal.returns-clause-fault
returns-clause-fault c = text_fails
