use Rattle.full.proofs.WrittenLemmas.{memory_is_written, exchanged, kept, named_again, without_first}
use Rattle.full.proofs.laws.worked_writing.Goals as goal

pub returns-clause-written : goal.returns-clause-written
returns-clause-written c = memory_is_written

pub returns-clause-exchanged : goal.returns-clause-exchanged
returns-clause-exchanged c = exchanged

pub returns-clause-kept : goal.returns-clause-kept
returns-clause-kept c = kept

pub returns-clause-without : goal.returns-clause-without
returns-clause-without c = without_first

pub returns-clause-named : goal.returns-clause-named
returns-clause-named c = named_again
