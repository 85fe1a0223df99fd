use Rattle.std.proofs.Common.{ap}
use Rattle.btor2.specs.Items.{is_state}
use Rattle.blast.proofs.RefusalLemmas.{IsState-at}
use Rattle.blast.proofs.refusals.item_refusal.Goals as goal

pub state_refusal-requires-clause-there : goal.state_refusal-requires-clause-there
state_refusal-requires-clause-there c = (IsState-at c.args.model.now c.args.place c.args.item.now c.args.k c.requires.at (ap is_state c.in-State.is) c.requires.before).within

pub state_refusal-requires-clause-place : goal.state_refusal-requires-clause-place
state_refusal-requires-clause-place c = (IsState-at c.args.model.now c.args.place c.args.item.now c.args.k c.requires.at (ap is_state c.in-State.is) c.requires.before).at
