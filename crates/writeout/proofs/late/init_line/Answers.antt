use Rattle.std.proofs.Common.{◌≡◌, inl, inr, refl, sym, ◌∙◌}
use Rattle.fullmodel.specs.Lines.{operand_of}
use Rattle.writeout.specs.declared.way.Way.TheVariants as way
use Rattle.writeout.specs.Tables.{writing}
use Rattle.writeout.proofs.GrowLemmas.{nodes_on}
use Rattle.writeout.proofs.OperandLemmas.{ok_with}
use Rattle.writeout.proofs.ConstantLemmas.{zeros_first, ones_first}
use Rattle.writeout.proofs.PutLemmas.{put_later, takes_later, put_open, put_constant}
use Rattle.writeout.proofs.ArmLemmas.{constant_node}
use Rattle.writeout.proofs.late.init_line.Goals as goal

pub put_init-requires-clause-constant : goal.put_init-requires-clause-constant
put_init-requires-clause-constant c =
    constant_node c.args.full.now (writing c.args.tables.now c.args.maker.now) c.args.state (operand_of c.args.value) c.node-constant.result c.know.ensures.model c.requires.stands c.requires.takes c.node-constant.ensures
    (sym c.way_of.ensures ∙ c.in-Constant.is)

pub put_init-requires-in-Zeros-clause-stands : goal.put_init-requires-in-Zeros-clause-stands
put_init-requires-in-Zeros-clause-stands c = nodes_on c.args.full.now (writing c.args.tables.now c.args.maker.now) c.zeros.new.maker c.in_ok-constant-in-Zeros.ensures.grows c.requires.stands

pub put_init-requires-in-Zeros-clause-takes : goal.put_init-requires-in-Zeros-clause-takes
put_init-requires-in-Zeros-clause-takes c =
    takes_later c.args.full.now (writing c.args.tables.now c.args.maker.now) c.zeros.new.maker c.args.state (operand_of c.args.value) c.in_ok-constant-in-Zeros.ensures.grows c.requires.takes

pub put_init-requires-in-Zeros-clause-constant : goal.put_init-requires-in-Zeros-clause-constant
put_init-requires-in-Zeros-clause-constant c =
    zeros_first c.args.full.now (writing c.args.tables.now c.args.maker.now) c.zeros.new.maker c.args.state (operand_of c.args.value) c.in_ok-constant-in-Zeros.constant c.know.ensures.model c.requires.stands c.requires.takes.value c.requires.takes.init
    (sym c.way_of.ensures ∙ c.in-Zeros.is) c.requires.takes.sorts c.in_ok-constant-in-Zeros.ensures.grows c.in_ok-constant-in-Zeros.ensures.constant c.in_ok-constant-in-Zeros.ensures.width

pub put_init-requires-in-Ones-clause-stands : goal.put_init-requires-in-Ones-clause-stands
put_init-requires-in-Ones-clause-stands c = nodes_on c.args.full.now (writing c.args.tables.now c.args.maker.now) c.all_ones.new.maker c.in_ok-constant-in-Ones.ensures.grows c.requires.stands

pub put_init-requires-in-Ones-clause-takes : goal.put_init-requires-in-Ones-clause-takes
put_init-requires-in-Ones-clause-takes c =
    takes_later c.args.full.now (writing c.args.tables.now c.args.maker.now) c.all_ones.new.maker c.args.state (operand_of c.args.value) c.in_ok-constant-in-Ones.ensures.grows c.requires.takes

pub put_init-requires-in-Ones-clause-constant : goal.put_init-requires-in-Ones-clause-constant
put_init-requires-in-Ones-clause-constant c =
    ones_first c.args.full.now (writing c.args.tables.now c.args.maker.now) c.all_ones.new.maker c.args.state (operand_of c.args.value) c.in_ok-constant-in-Ones.constant c.know.ensures.model c.requires.stands c.requires.takes.value c.requires.takes.init
    (sym c.way_of.ensures ∙ c.in-Ones.is) c.requires.takes.sorts c.in_ok-constant-in-Ones.ensures.grows c.in_ok-constant-in-Ones.ensures.constant c.in_ok-constant-in-Ones.ensures.width

pub returns-in-Open : goal.returns-in-Open
returns-in-Open c =
    put_open c.args.full.now (writing c.args.tables.now c.args.maker.now) c.args.maker.now c.args.state (operand_of c.args.value) c.requires.takes
    (elim c.in-Open.is [ inl e ↦ inl (sym c.way_of.ensures ∙ e) | inr e ↦ inr (sym c.way_of.ensures ∙ e) ]) refl

pub returns-in_ok-constant-in-Zeros : goal.returns-in_ok-constant-in-Zeros
returns-in_ok-constant-in-Zeros c =
    ok_with _ _ c.put_init-in-Zeros.result
    (λ r put. put_constant c.args.full.now (writing c.args.tables.now c.args.maker.now) c.put_init-in-Zeros.new.maker c.args.state (operand_of c.args.value)
    (λ first. let apart : way.Zeros ≡ way.First = sym (sym c.way_of.ensures ∙ c.in-Zeros.is) ∙ first in absurd (cc))
    (put_later c.args.full.now (writing c.args.tables.now c.args.maker.now) c.zeros.new.maker c.put_init-in-Zeros.new.maker c.args.state (operand_of c.args.value) c.in_ok-constant-in-Zeros.ensures.grows put))
    c.put_init-in-Zeros.ensures

pub returns-in_ok-constant-in-Ones : goal.returns-in_ok-constant-in-Ones
returns-in_ok-constant-in-Ones c =
    ok_with _ _ c.put_init-in-Ones.result
    (λ r put. put_constant c.args.full.now (writing c.args.tables.now c.args.maker.now) c.put_init-in-Ones.new.maker c.args.state (operand_of c.args.value)
    (λ first. let apart : way.Ones ≡ way.First = sym (sym c.way_of.ensures ∙ c.in-Ones.is) ∙ first in absurd (cc))
    (put_later c.args.full.now (writing c.args.tables.now c.args.maker.now) c.all_ones.new.maker c.put_init-in-Ones.new.maker c.args.state (operand_of c.args.value) c.in_ok-constant-in-Ones.ensures.grows put))
    c.put_init-in-Ones.ensures
