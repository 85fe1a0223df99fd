use Rattle.std.proofs.Common.{ℕ, Bool, Option, IfSome, sym, ◌∙◌, subst}
use Rattle.full.specs.Lines.{operand}
use Rattle.writeout.specs.Tables.{writing}
use Rattle.writeout.specs.Forms.{minus_at}
use Rattle.writeout.specs.Nodes.{OperandStands}
use Rattle.writeout.proofs.GrowLemmas.{grows_by_nothing}
use Rattle.writeout.proofs.OperandLemmas.{ok_with}
use Rattle.writeout.proofs.operands.form_operand.Goals as goal

pub returns-in-None-clause-grows : goal.returns-in-None-clause-grows
returns-in-None-clause-grows c = grows_by_nothing c.args.full.now (writing c.args.tables.now c.args.maker.now)

pub returns-in-Some-clause-operand : goal.returns-in-Some-clause-operand
returns-in-Some-clause-operand c =
    let w = writing c.args.tables.now c.operand.new.maker in
    ok_with _ _ c.operand.result
    (λ r stands.
    subst (λ (o : Option ℕ). IfSome o (λ a. OperandStands c.args.full.now w (operand a (minus_at c.args.minuses.now c.args.place)) r)) (sym c.in-Some.is ∙ c.operand_at.ensures.value c.requires.value)
    (subst (λ (m : Bool). OperandStands c.args.full.now w (operand c.in-Some.id m) r) c.minus_at-minus.ensures stands))
    c.operand.ensures.operand
