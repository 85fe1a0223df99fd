use Rattle.subcommands.proofs.subjects.tell_line_judged.Goals as goal

pub returns-in-Violated-clause-written : goal.returns-in-Violated-clause-written
returns-in-Violated-clause-written g c = rw c.in-Violated.is (rw c.constraint.ensures at c.tell_numbered.ensures.written)
