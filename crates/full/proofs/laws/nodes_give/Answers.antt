use Rattle.full.proofs.GivesLemmas.{gives_kept, gives_itself, gives_same, gives_below, line_gives, form_gives}
use Rattle.full.proofs.laws.nodes_give.Goals as goal

pub returns-clause-kept : goal.returns-clause-kept
returns-clause-kept c = gives_kept

pub returns-clause-itself : goal.returns-clause-itself
returns-clause-itself c = gives_itself

pub returns-clause-same : goal.returns-clause-same
returns-clause-same c = gives_same

pub returns-clause-below : goal.returns-clause-below
returns-clause-below c = gives_below

pub returns-clause-line : goal.returns-clause-line
returns-clause-line c = line_gives

pub returns-clause-form : goal.returns-clause-form
returns-clause-form c = form_gives
