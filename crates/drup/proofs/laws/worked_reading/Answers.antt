use Rattle.drup.proofs.WorkedJudgements.{reads-steps, reads-over_lines, reads-no_literals, reads-word, reads-zeros, reads-within, reads-variable, reads-cut_off}
use Rattle.drup.proofs.laws.worked_reading.Goals as goal

pub returns-clause-steps : goal.returns-clause-steps
returns-clause-steps c = reads-steps

pub returns-clause-over_lines : goal.returns-clause-over_lines
returns-clause-over_lines c = reads-over_lines

pub returns-clause-no_literals : goal.returns-clause-no_literals
returns-clause-no_literals c = reads-no_literals

pub returns-clause-word : goal.returns-clause-word
returns-clause-word c = reads-word

pub returns-clause-zeros : goal.returns-clause-zeros
returns-clause-zeros c = reads-zeros

pub returns-clause-within : goal.returns-clause-within
returns-clause-within c = reads-within

pub returns-clause-variable : goal.returns-clause-variable
returns-clause-variable c = reads-variable

pub returns-clause-cut_off : goal.returns-clause-cut_off
returns-clause-cut_off c = reads-cut_off
