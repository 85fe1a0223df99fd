use Rattle.verbs.proofs.CountLemmas.{as_is, as_was, ends_as, unfailed, unrefused}
use Rattle.verbs.proofs.converting.convert.Goals as goal

pub returns-clause-ends : goal.returns-clause-ends
returns-clause-ends g c =
    ends_as (unfailed (c.in_ok-circuit.ensures.ends.counted 0 0 0).0) as_is as_was as_was (unrefused c.write_circuit.ensures.ends)
