use Rattle.std.proofs.Common.{refl}
use Rattle.engine_form.proofs.AssemblyLemmas.{some_bad}
use Rattle.engine_form.proofs.laws.nothing_without_a_bad_property.Goals as goal

pub returns-clause-accepted : goal.returns-clause-accepted
returns-clause-accepted c circuit choice e = some_bad circuit choice e

pub returns-clause-refused : goal.returns-clause-refused
returns-clause-refused c circuit choice justice fair bads = rw (justice, fair, bads) refl
