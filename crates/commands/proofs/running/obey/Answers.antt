use Rattle.std.proofs.Common.{refl}
use Rattle.verbs.proofs.CountLemmas.{as_is, as_was, ends_all, ends_all_as, idle, no_second, unfailed}
use Rattle.commands.proofs.running.obey.Goals as goal

pub returns-in-Text-clause-ends : goal.returns-in-Text-clause-ends
returns-in-Text-clause-ends g c = ends_all_as as_is (unfailed refl) (unfailed refl) as_was idle (ends_all c.obey_on_text.ensures.ends)

pub returns-in-Text-clause-refused_second : goal.returns-in-Text-clause-refused_second
returns-in-Text-clause-refused_second g c = no_second _ c.obey_on_text.ensures.ends

pub returns-in-Model-clause-ends : goal.returns-in-Model-clause-ends
returns-in-Model-clause-ends g c = ends_all_as as_is as_is (unfailed refl) as_was as_was (ends_all c.obey_on_model.ensures.ends)

pub returns-in-Circuit-clause-ends : goal.returns-in-Circuit-clause-ends
returns-in-Circuit-clause-ends g c = ends_all_as as_is as_is (unfailed refl) as_was as_was (ends_all c.obey_on_circuit.ensures.ends)
