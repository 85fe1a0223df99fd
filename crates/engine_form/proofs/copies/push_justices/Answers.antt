use Rattle.engine_form.proofs.CopyLemmas.{next_justice, more_justice}
use Rattle.engine_form.proofs.copies.push_justices.Goals as goal

pub push_justice-requires-clause-defined : goal.push_justice-requires-clause-defined
push_justice-requires-clause-defined c =
    (next_justice c.args.circuit.now c.loop-i.made c.args.made.now c.loop-i.i c.justice.result.now c.justice.ensures.valid c.requires.net c.loop-i.invariant c.justice.ensures.items).0

pub push_justice-requires-clause-few : goal.push_justice-requires-clause-few
push_justice-requires-clause-few c =
    (next_justice c.args.circuit.now c.loop-i.made c.args.made.now c.loop-i.i c.justice.result.now c.justice.ensures.valid c.requires.net c.loop-i.invariant c.justice.ensures.items).1

pub push_justice-requires-clause-small : goal.push_justice-requires-clause-small
push_justice-requires-clause-small c =
    (next_justice c.args.circuit.now c.loop-i.made c.args.made.now c.loop-i.i c.justice.result.now c.justice.ensures.valid c.requires.net c.loop-i.invariant c.justice.ensures.items).2

pub loop-i-preserved : goal.loop-i-preserved
loop-i-preserved c =
    more_justice c.loop-i.made c.args.made.now c.push_justice.new.made c.args.circuit.now.justice c.loop-i.i c.justice.result.now c.loop-i.invariant c.justice.ensures.items c.in_ok-push_justice.ensures
