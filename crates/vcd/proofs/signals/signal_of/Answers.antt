use Rattle.std.proofs.Common.{ℕ, is_some, ap, ◌∙◌}
use Rattle.btor2.specs.Items.{node_width}
use Rattle.vcd.proofs.SignalLemmas.{shown_there}
use Rattle.vcd.proofs.signals.signal_of.Goals as goal

pub node_at-node-requires : goal.node_at-node-requires
node_at-node-requires c =
    ap (λ (id : ℕ). is_some (node_width c.args.model.now id)) c.shown_node.ensures
    ∙ shown_there c.args.model.now c.args.shown c.args.scope c.args.place c.args.item.now c.requires.well_formed c.requires.at c.requires.shown
