use Rattle.std.proofs.Common.{refl, ap, ◌∙◌}
use Rattle.btor2.specs.declared.item.Body.TheVariants as body
use Rattle.full.specs.Lines.{operand, form, is_form}
use Rattle.fullmodel.specs.Lines.{operand_of, says_of, line_of}
use Rattle.writeout.specs.Forms.{minus_at}
use Rattle.writeout.specs.LateLines.{is_late}
use Rattle.writeout.specs.Tables.{writing}
use Rattle.writeout.proofs.OperandLemmas.{ok_with}
use Rattle.writeout.proofs.ReadyLemmas.{bad_bit, constraint_bit}
use Rattle.writeout.proofs.DoneLemmas.{nothing_done}
use Rattle.writeout.proofs.ArmLemmas.{no_late_body, no_late_form, line_at, FormAt, init_takes, next_takes, shown_has, bit_by, init_stands, next_stands, bad_stands, constraint_stands, output_stands}
use Rattle.writeout.proofs.late.late_line.Goals as goal

pub returns-in_default : goal.returns-in_default
returns-in_default c =
    nothing_done c.args.full.now (writing c.args.tables.now c.args.maker.now) c.args.place (line_of c.index-lines-place.result)
    (line_at c.args.full.now c.lines.result.now c.args.place c.index-lines-place.result c.lines.ensures.lines c.requires.within c.index-lines-place.is)
    (no_late_form c.index-lines-place.result.says c.in_default.not-Form) c.requires.stands

pub returns-in_default-body : goal.returns-in_default-body
returns-in_default-body c =
    nothing_done c.args.full.now (writing c.args.tables.now c.args.maker.now) c.args.place (line_of c.index-lines-place.result)
    (line_at c.args.full.now c.lines.result.now c.args.place c.index-lines-place.result c.lines.ensures.lines c.requires.within c.index-lines-place.is)
    (ap (λ x. is_form is_late (says_of x)) c.in-Form.is
    ∙ no_late_body c.in-Form.body c.in_default-body.not-Init c.in_default-body.not-Next c.in_default-body.not-Bad c.in_default-body.not-Constraint c.in_default-body.not-Output) c.requires.stands

pub init_line-requires-clause-takes : goal.init_line-requires-clause-takes
init_line-requires-clause-takes c =
    init_takes c.args.full.now (writing c.args.tables.now c.args.maker.now) c.args.place (line_of c.index-lines-place.result) c.in-Init.sort c.in-Init.state c.in-Init.value c.in-Form.minuses.items (operand_of c.operand_by-value.result)
    (record { model = c.know.ensures.model; is = line_at c.args.full.now c.lines.result.now c.args.place c.index-lines-place.result c.lines.ensures.lines c.requires.within c.index-lines-place.is; says = ap says_of c.in-Form.is ∙ ap (λ b. form b c.in-Form.minuses.items) c.in-Init.is })
    (record { is = c.operand_by-value.ensures ∙ ap (λ l. operand c.in-Init.value (minus_at l 1)) c.as_slice.ensures.value }) c.requires.stands

pub returns-in-Init : goal.returns-in-Init
returns-in-Init c =
    ok_with _ _ c.init_line.result
    (λ r put. init_stands c.args.full.now (writing c.args.tables.now c.args.maker.now) c.init_line.new.maker c.args.place (line_of c.index-lines-place.result) c.in-Init.sort c.in-Init.state c.in-Init.value c.in-Form.minuses.items (operand_of c.operand_by-value.result)
    (record { model = c.know.ensures.model; is = line_at c.args.full.now c.lines.result.now c.args.place c.index-lines-place.result c.lines.ensures.lines c.requires.within c.index-lines-place.is; says = ap says_of c.in-Form.is ∙ ap (λ b. form b c.in-Form.minuses.items) c.in-Init.is })
    (record { is = c.operand_by-value.ensures ∙ ap (λ l. operand c.in-Init.value (minus_at l 1)) c.as_slice.ensures.value }) c.requires.stands put)
    c.init_line.ensures

pub next_line-requires-clause-takes : goal.next_line-requires-clause-takes
next_line-requires-clause-takes c =
    next_takes c.args.full.now (writing c.args.tables.now c.args.maker.now) c.args.place (line_of c.index-lines-place.result) c.in-Next.sort c.in-Next.state c.in-Next.value c.in-Form.minuses.items (operand_of c.operand_by-value-in-Next.result)
    (record { model = c.know.ensures.model; is = line_at c.args.full.now c.lines.result.now c.args.place c.index-lines-place.result c.lines.ensures.lines c.requires.within c.index-lines-place.is; says = ap says_of c.in-Form.is ∙ ap (λ b. form b c.in-Form.minuses.items) c.in-Next.is })
    (record { is = c.operand_by-value-in-Next.ensures ∙ ap (λ l. operand c.in-Next.value (minus_at l 1)) c.as_slice-in-Next.ensures.value }) c.requires.stands

pub returns-in-Next : goal.returns-in-Next
returns-in-Next c =
    ok_with _ _ c.next_line.result
    (λ r put. next_stands c.args.full.now (writing c.args.tables.now c.args.maker.now) c.next_line.new.maker c.args.place (line_of c.index-lines-place.result) c.in-Next.sort c.in-Next.state c.in-Next.value c.in-Form.minuses.items (operand_of c.operand_by-value-in-Next.result)
    (record { model = c.know.ensures.model; is = line_at c.args.full.now c.lines.result.now c.args.place c.index-lines-place.result c.lines.ensures.lines c.requires.within c.index-lines-place.is; says = ap says_of c.in-Form.is ∙ ap (λ b. form b c.in-Form.minuses.items) c.in-Next.is })
    (record { is = c.operand_by-value-in-Next.ensures ∙ ap (λ l. operand c.in-Next.value (minus_at l 1)) c.as_slice-in-Next.ensures.value }) c.requires.stands put)
    c.next_line.ensures

pub bad_line-requires-clause-node : goal.bad_line-requires-clause-node
bad_line-requires-clause-node c =
    shown_has c.args.full.now (writing c.args.tables.now c.args.maker.now) c.args.place (line_of c.index-lines-place.result) (body.Bad c.in-Bad.operand) c.in-Bad.operand c.in-Form.minuses.items (operand_of c.operand_by-value-in-Bad.result)
    (record { model = c.know.ensures.model; is = line_at c.args.full.now c.lines.result.now c.args.place c.index-lines-place.result c.lines.ensures.lines c.requires.within c.index-lines-place.is; says = ap says_of c.in-Form.is ∙ ap (λ b. form b c.in-Form.minuses.items) c.in-Bad.is })
    refl (record { is = c.operand_by-value-in-Bad.ensures ∙ ap (λ l. operand c.in-Bad.operand (minus_at l 0)) c.as_slice-in-Bad.ensures.value }) c.requires.stands

pub bad_line-requires-clause-bit : goal.bad_line-requires-clause-bit
bad_line-requires-clause-bit c =
    bit_by c.args.full.now c.in-Bad.operand c.in-Form.minuses.items (operand_of c.operand_by-value-in-Bad.result) (record { is = c.operand_by-value-in-Bad.ensures ∙ ap (λ l. operand c.in-Bad.operand (minus_at l 0)) c.as_slice-in-Bad.ensures.value })
    (let at : FormAt c.args.full.now c.args.place (line_of c.index-lines-place.result) (body.Bad c.in-Bad.operand) c.in-Form.minuses.items = (record { model = c.know.ensures.model; is = line_at c.args.full.now c.lines.result.now c.args.place c.index-lines-place.result c.lines.ensures.lines c.requires.within c.index-lines-place.is; says = ap says_of c.in-Form.is ∙ ap (λ b. form b c.in-Form.minuses.items) c.in-Bad.is }) in bad_bit c.args.full.now c.args.place (line_of c.index-lines-place.result) c.in-Bad.operand c.in-Form.minuses.items at.model at.is at.says)

pub returns-in-Bad : goal.returns-in-Bad
returns-in-Bad c =
    ok_with _ _ c.bad_line.result
    (λ r put. bad_stands c.args.full.now (writing c.args.tables.now c.args.maker.now) c.bad_line.new.maker c.args.place (line_of c.index-lines-place.result) c.in-Bad.operand c.in-Form.minuses.items (operand_of c.operand_by-value-in-Bad.result)
    (record { model = c.know.ensures.model; is = line_at c.args.full.now c.lines.result.now c.args.place c.index-lines-place.result c.lines.ensures.lines c.requires.within c.index-lines-place.is; says = ap says_of c.in-Form.is ∙ ap (λ b. form b c.in-Form.minuses.items) c.in-Bad.is })
    (record { is = c.operand_by-value-in-Bad.ensures ∙ ap (λ l. operand c.in-Bad.operand (minus_at l 0)) c.as_slice-in-Bad.ensures.value }) c.requires.stands put)
    c.bad_line.ensures

pub constraint_line-requires-clause-node : goal.constraint_line-requires-clause-node
constraint_line-requires-clause-node c =
    shown_has c.args.full.now (writing c.args.tables.now c.args.maker.now) c.args.place (line_of c.index-lines-place.result) (body.Constraint c.in-Constraint.operand) c.in-Constraint.operand c.in-Form.minuses.items (operand_of c.operand_by-value-in-Constraint.result)
    (record { model = c.know.ensures.model; is = line_at c.args.full.now c.lines.result.now c.args.place c.index-lines-place.result c.lines.ensures.lines c.requires.within c.index-lines-place.is; says = ap says_of c.in-Form.is ∙ ap (λ b. form b c.in-Form.minuses.items) c.in-Constraint.is })
    refl (record { is = c.operand_by-value-in-Constraint.ensures ∙ ap (λ l. operand c.in-Constraint.operand (minus_at l 0)) c.as_slice-in-Constraint.ensures.value }) c.requires.stands

pub constraint_line-requires-clause-bit : goal.constraint_line-requires-clause-bit
constraint_line-requires-clause-bit c =
    bit_by c.args.full.now c.in-Constraint.operand c.in-Form.minuses.items (operand_of c.operand_by-value-in-Constraint.result) (record { is = c.operand_by-value-in-Constraint.ensures ∙ ap (λ l. operand c.in-Constraint.operand (minus_at l 0)) c.as_slice-in-Constraint.ensures.value })
    (let at : FormAt c.args.full.now c.args.place (line_of c.index-lines-place.result) (body.Constraint c.in-Constraint.operand) c.in-Form.minuses.items = (record { model = c.know.ensures.model; is = line_at c.args.full.now c.lines.result.now c.args.place c.index-lines-place.result c.lines.ensures.lines c.requires.within c.index-lines-place.is; says = ap says_of c.in-Form.is ∙ ap (λ b. form b c.in-Form.minuses.items) c.in-Constraint.is }) in constraint_bit c.args.full.now c.args.place (line_of c.index-lines-place.result) c.in-Constraint.operand c.in-Form.minuses.items at.model at.is at.says)

pub returns-in-Constraint : goal.returns-in-Constraint
returns-in-Constraint c =
    ok_with _ _ c.constraint_line.result
    (λ r put. constraint_stands c.args.full.now (writing c.args.tables.now c.args.maker.now) c.constraint_line.new.maker c.args.place (line_of c.index-lines-place.result) c.in-Constraint.operand c.in-Form.minuses.items (operand_of c.operand_by-value-in-Constraint.result)
    (record { model = c.know.ensures.model; is = line_at c.args.full.now c.lines.result.now c.args.place c.index-lines-place.result c.lines.ensures.lines c.requires.within c.index-lines-place.is; says = ap says_of c.in-Form.is ∙ ap (λ b. form b c.in-Form.minuses.items) c.in-Constraint.is })
    (record { is = c.operand_by-value-in-Constraint.ensures ∙ ap (λ l. operand c.in-Constraint.operand (minus_at l 0)) c.as_slice-in-Constraint.ensures.value }) c.requires.stands put)
    c.constraint_line.ensures

pub output_line-requires-clause-node : goal.output_line-requires-clause-node
output_line-requires-clause-node c =
    shown_has c.args.full.now (writing c.args.tables.now c.args.maker.now) c.args.place (line_of c.index-lines-place.result) (body.Output c.in-Output.operand) c.in-Output.operand c.in-Form.minuses.items (operand_of c.operand_by-value-in-Output.result)
    (record { model = c.know.ensures.model; is = line_at c.args.full.now c.lines.result.now c.args.place c.index-lines-place.result c.lines.ensures.lines c.requires.within c.index-lines-place.is; says = ap says_of c.in-Form.is ∙ ap (λ b. form b c.in-Form.minuses.items) c.in-Output.is })
    refl (record { is = c.operand_by-value-in-Output.ensures ∙ ap (λ l. operand c.in-Output.operand (minus_at l 0)) c.as_slice-in-Output.ensures.value }) c.requires.stands

pub returns-in-Output : goal.returns-in-Output
returns-in-Output c =
    ok_with _ _ c.output_line.result
    (λ r put. output_stands c.args.full.now (writing c.args.tables.now c.args.maker.now) c.output_line.new.maker c.args.place (line_of c.index-lines-place.result) c.in-Output.operand c.in-Form.minuses.items (operand_of c.operand_by-value-in-Output.result)
    (record { model = c.know.ensures.model; is = line_at c.args.full.now c.lines.result.now c.args.place c.index-lines-place.result c.lines.ensures.lines c.requires.within c.index-lines-place.is; says = ap says_of c.in-Form.is ∙ ap (λ b. form b c.in-Form.minuses.items) c.in-Output.is })
    (record { is = c.operand_by-value-in-Output.ensures ∙ ap (λ l. operand c.in-Output.operand (minus_at l 0)) c.as_slice-in-Output.ensures.value }) c.requires.stands put)
    c.output_line.ensures
