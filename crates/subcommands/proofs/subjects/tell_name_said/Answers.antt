use Rattle.subcommands.proofs.subjects.tell_name_said.Goals as goal

pub returns-in-Violated-clause-written : goal.returns-in-Violated-clause-written
returns-in-Violated-clause-written g c = rw c.in-Violated.is (rw c.name.ensures.name at c.tell_name.ensures.written)
