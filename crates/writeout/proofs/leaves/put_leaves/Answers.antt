use Rattle.writeout.proofs.StandLemmas.{early_no_nexts, leaves_stand, leaves_written, late_at_first, leaf_nodes}
use Rattle.writeout.proofs.leaves.put_leaves.Goals as goal

pub put_any_first-requires : goal.put_any_first-requires
put_any_first-requires c = early_no_nexts c.put_each.new.maker c.in_ok-any.ensures.made.early

pub returns-clause-stands : goal.returns-clause-stands
returns-clause-stands c =
    leaves_stand c.args.full.now c.put_each.new.maker c.put_any_first.new.maker c.put_each.new.nodes.items c.put_each.new.leaves.items c.in_ok-any.any c.in_ok-first.first c.in_ok-any.ensures.made c.in_ok-first.ensures.first

pub returns-clause-leaves : goal.returns-clause-leaves
returns-clause-leaves c =
    leaves_written c.args.full.now c.put_each.new.maker c.put_any_first.new.maker c.put_each.new.nodes.items c.put_each.new.leaves.items c.in_ok-any.any c.in_ok-first.first c.in_ok-any.ensures.made c.in_ok-first.ensures.first

pub returns-clause-late : goal.returns-clause-late
returns-clause-late c =
    late_at_first c.args.full.now c.put_each.new.maker c.put_any_first.new.maker c.put_each.new.nodes.items c.put_each.new.leaves.items c.in_ok-any.any c.in_ok-first.first c.in_ok-any.ensures.made c.in_ok-first.ensures.first

pub returns-clause-nodes : goal.returns-clause-nodes
returns-clause-nodes c =
    leaf_nodes c.args.full.now c.put_each.new.maker c.put_any_first.new.maker c.put_each.new.nodes.items c.put_each.new.leaves.items c.in_ok-any.any c.in_ok-first.first c.in_ok-any.ensures.made
