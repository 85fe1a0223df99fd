use Rattle.std.proofs.Common.{◌≡◌}
use Rattle.cells.proofs.LineLemmas.{extends_twice, extends_same, extends_line, named_apart, longer, sort_stays, node_stays, frames_stay, gives_stay}
use Rattle.cells.proofs.laws.lists_go_on.Goals as goal

pub returns-clause-twice : goal.returns-clause-twice
returns-clause-twice c = extends_twice

pub returns-clause-same : goal.returns-clause-same
returns-clause-same c = extends_same

pub returns-clause-line : goal.returns-clause-line
returns-clause-line c = extends_line

pub returns-clause-apart : goal.returns-clause-apart
returns-clause-apart c = named_apart

pub returns-clause-longer : goal.returns-clause-longer
returns-clause-longer c = longer

pub returns-clause-sorts : goal.returns-clause-sorts
returns-clause-sorts c = sort_stays

pub returns-clause-nodes : goal.returns-clause-nodes
returns-clause-nodes c = node_stays

pub returns-clause-frames : goal.returns-clause-frames
returns-clause-frames c = λ old new handed value other. frames_stay old new handed (λ g. value g ≡ other g)

pub returns-clause-gives : goal.returns-clause-gives
returns-clause-gives c = gives_stay
