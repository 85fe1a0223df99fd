use Rattle.aigerlists.specs.Definitions.{has_variable}
use Rattle.aigerlists.specs.LooseView.{loose_of}
use Rattle.aigerlists.proofs.LooseLemmas.{IsLoose-input, HasSet-input, may_define_here, small_from_test, room_from_test, set_after}
use Rattle.aigerlists.proofs.loose.Loose.push_input.Goals as goal

pub invariant_of-self : goal.invariant_of-self
invariant_of-self c = (
  IsLoose-input (loose_of c.self.inside) c.args.lit c.define.new.lines.items c.define.result c.self.invariant.0
      (may_define_here (loose_of c.self.inside) c.args.self.now c.args.lit c.self.view_is c.if-not-may_define.ensures) (small_from_test c.args.lit c.if-not-is_within.ensures)
      (room_from_test (loose_of c.self.inside) c.args.self.now c.self.view_is c.if-not-has_room.ensures) c.define.ensures.lines c.define.ensures.lines_kept,
  HasSet-input (loose_of c.self.inside) c.args.lit c.define.new.lines.items c.define.result (has_variable c.define.new.defined) (has_variable c.self.inside.defined) c.self.invariant.1
      (set_after c.define.result (has_variable c.self.inside.defined) (has_variable c.define.new.defined) _ _ c.var.ensures c.define.ensures.defined) c.define.ensures.defined_kept
      c.define.ensures.lines c.define.ensures.lines_kept,
)
