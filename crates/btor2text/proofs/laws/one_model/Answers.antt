use Rattle.std.proofs.Common.{sym, ◌∙◌}
use Rattle.btor2text.proofs.StandsLemmas.{ok_items, stands_read}
use Rattle.btor2text.proofs.laws.one_model.Goals as goal

pub returns-clause-read : goal.returns-clause-read
returns-clause-read c = stands_read

pub returns-clause-same : goal.returns-clause-same
returns-clause-same c = λ text items others stands also. ok_items items others (sym (stands_read text items stands) ∙ stands_read text others also)
