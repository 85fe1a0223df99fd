use Rattle.std.proofs.Common.{inl, inr, refl, sym, ap, ◌∙◌}
use Rattle.btor2.specs.Items.{is_state}
use Rattle.full.specs.Lines.{is_form}
use Rattle.writeout.specs.Nodes.{IsWritten}
use Rattle.writeout.specs.Tables.{writing}
use Rattle.writeout.proofs.OperandLemmas.{ok_with}
use Rattle.writeout.proofs.WholeLemmas.{value_named, needs_operands, other_form}
use Rattle.writeout.proofs.lines.any_form_node.Goals as goal

pub form_node-requires : goal.form_node-requires
form_node-requires g c =
    let value = sym c.is_value.ensures ∙ c.if-is_value.true in
    let named = value_named c.args.body.now c.args.minuses.now g.at.line.says c.requires.1.1.1.0 value in (
      c.requires.0,
      (
        value,
        (
          c.requires.1.1.1.1.0,
          (
            record { place = g.at.place; at = c.requires.1.0 },
            (c.requires.1.1.0, (c.requires.1.1.1.0, needs_operands c.args.full.now (writing c.args.tables.now c.args.maker.now) g.at.line named.0 named.1 c.requires.1.1.1.1.1.1)),
          ),
        ),
      ),
    )

pub state_node-requires : goal.state_node-requires
state_node-requires g c =
    (c.requires.0, (c.requires.1.0, (c.requires.1.1.0, (ap (is_form is_state) c.requires.1.1.1.0 ∙ sym c.is_state.ensures ∙ c.if-is_state.true, (c.requires.1.1.1.1.1.0, c.requires.1.1.1.1.1.1)))))

pub returns-then-is_value : goal.returns-then-is_value
returns-then-is_value g c = ok_with _ (IsWritten c.args.full.now (writing c.args.tables.now c.args.maker.now) c.form_node.new.maker g.at.line c.args.leaf) c.form_node.result (λ r made. inl (made c.args.leaf)) c.form_node.ensures

pub returns-then-is_state : goal.returns-then-is_state
returns-then-is_state g c = ok_with _ (IsWritten c.args.full.now (writing c.args.tables.now c.args.maker.now) c.state_node.new.maker g.at.line c.args.leaf) c.state_node.result (λ r made. inl made) c.state_node.ensures

pub returns-else-is_state : goal.returns-else-is_state
returns-else-is_state g c = inr (refl, refl, other_form c.args.body.now c.args.minuses.now g.at.line.says c.requires.1.1.1.0 (sym c.is_value.ensures ∙ c.if-is_value.false) (sym c.is_state.ensures ∙ c.if-is_state.false))
