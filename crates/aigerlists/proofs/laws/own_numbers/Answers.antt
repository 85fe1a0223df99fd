use Rattle.aigerlists.proofs.OwnLemmas.{as_many, own_valid, own_renumbered, own_numbering}
use Rattle.aigerlists.proofs.laws.own_numbers.Goals as goal

pub returns-clause-valid : goal.returns-clause-valid
returns-clause-valid x = own_valid

pub returns-clause-numbered : goal.returns-clause-numbered
returns-clause-numbered x = own_renumbered

pub returns-clause-many : goal.returns-clause-many
returns-clause-many x = as_many

pub returns-clause-numbering : goal.returns-clause-numbering
returns-clause-numbering x = own_numbering
