use Rattle.std.proofs.Common.{ℕ, Some, sym, ap, ap₂, ◌∙◌, [], ◌∷◌}
use Rattle.full.specs.Lines.{words, arrays}
use Rattle.fullmodel.specs.Lines.{operand_of}
use Rattle.writeout.specs.Nodes.{FirstWordStands, fills}
use Rattle.writeout.specs.Tables.{writing}
use Rattle.writeout.specs.Widths.{index_bits, element_bits}
use Rattle.writeout.proofs.GrowLemmas.{grows_on, nodes_on}
use Rattle.writeout.proofs.StepLemmas.{extends_grows}
use Rattle.writeout.proofs.OperandLemmas.{ok_with₂, ok_any}
use Rattle.writeout.proofs.ChoiceLemmas.{cells_agree, same_agrees, same_first, cells_first}
use Rattle.writeout.proofs.choices.first_word.Goals as goal

pub returns-then-fills-clause-value : goal.returns-then-fills-clause-value
returns-then-fills-clause-value c =
    let full = c.args.full.now in
    let o = operand_of c.args.value in
    let w1 = writing c.args.tables.now c.operand.new.maker in
    let yes = ap₂ fills (sym c.sort_of_node-sort.ensures.sort) (sym c.sort_of_node.ensures.sort) ∙ sym c.fills.ensures ∙ c.if-fills.true in
    let own = cells_agree full c.args.id o c.requires.agrees yes in
    let k = c.index_bits.ensures ∙ ap index_bits (c.sort_of_node-sort.ensures.sort ∙ own.of_state) in
    let n = c.element_bits.ensures ∙ ap element_bits (c.sort_of_node-sort.ensures.sort ∙ own.of_state) in
    ok_with₂ _ _ (FirstWordStands full (writing c.args.tables.now c.repeat.new.self) c.args.id o) c.repeat.result
    (λ r gives new.
    cells_first full w1 c.repeat.new.self c.args.id o c.in_ok-v.v c.index_bits.result c.element_bits.result r c.in_ok-v.ensures.stands (own.of_state ∙ ap₂ (λ (x y : ℕ). Some (arrays x y)) (sym k) (sym n)) (own.of_value ∙ ap (λ (y : ℕ). Some (words y)) (sym n))
    c.in_ok-v.ensures.operand c.repeat.ensures.extends new gives)
    c.repeat.ensures.node c.repeat.ensures.new

pub returns-then-fills-clause-grows : goal.returns-then-fills-clause-grows
returns-then-fills-clause-grows c =
    let full = c.args.full.now in
    let w1 = writing c.args.tables.now c.operand.new.maker in
    ok_any _ c.repeat.result
    (grows_on full (writing c.args.tables.now c.args.maker.now) c.operand.new.maker c.repeat.new.self c.in_ok-v.ensures.grows
    (extends_grows full w1 c.repeat.new.self (c.in_ok-v.v ∷ []) c.in_ok-v.ensures.stands (c.in_ok-v.ensures.operand.other, tt) c.repeat.ensures.extends))

pub returns-then-fills-clause-stands : goal.returns-then-fills-clause-stands
returns-then-fills-clause-stands c =
    let full = c.args.full.now in
    let w1 = writing c.args.tables.now c.operand.new.maker in
    ok_any _ c.repeat.result
    (nodes_on full w1 c.repeat.new.self (extends_grows full w1 c.repeat.new.self (c.in_ok-v.v ∷ []) c.in_ok-v.ensures.stands (c.in_ok-v.ensures.operand.other, tt) c.repeat.ensures.extends) c.in_ok-v.ensures.stands)

pub returns-else-fills-clause-value : goal.returns-else-fills-clause-value
returns-else-fills-clause-value c =
    let full = c.args.full.now in
    let o = operand_of c.args.value in
    let w1 = writing c.args.tables.now c.operand.new.maker in
    let same = ap₂ fills (sym c.sort_of_node-sort.ensures.sort) (sym c.sort_of_node.ensures.sort) ∙ sym c.fills.ensures ∙ c.if-fills.false in
    same_first full w1 c.args.id o c.in_ok-v.v (same_agrees full c.args.id o c.requires.agrees same) c.in_ok-v.ensures.operand
