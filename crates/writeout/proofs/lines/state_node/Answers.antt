use Rattle.std.proofs.Common.{◌≡◌, ℕ, true, false, option_map, subst, sym, ap, ◌∙◌}
use Rattle.fullmodel.specs.Lines.{operand_of}
use Rattle.writeout.specs.declared.way.Way.TheVariants as way
use Rattle.writeout.specs.Tables.{writing}
use Rattle.writeout.specs.Ways.{way_of, is_first}
use Rattle.writeout.proofs.EndLemmas.{open_way}
use Rattle.writeout.proofs.WholeLemmas.{first_yes, first_no, leaf_made}
use Rattle.writeout.proofs.lines.state_node.Goals as goal

pub unreachable-requires : goal.unreachable-requires
unreachable-requires g c =
    let full = c.args.full.now in
    let is : is_first (way_of full c.args.id) ≡ true = ap is_first (sym c.way_of.ensures) ∙ sym c.is_first.ensures ∙ c.if-is_first.true in
    open_way full c.args.id (sym c.init_of.ensures ∙ ap (option_map operand_of) c.in-None.is) (first_yes (way_of full c.args.id) is)

pub returns-else-is_first : goal.returns-else-is_first
returns-else-is_first g c =
    let full = c.args.full.now in
    let no : is_first (way_of full c.args.id) ≡ false = ap is_first (sym c.way_of.ensures) ∙ sym c.is_first.ensures ∙ c.if-is_first.false in
    leaf_made full (writing c.args.tables.now c.args.maker.now) g.at.line g.at.place c.args.leaf c.requires.0 c.requires.1.0 c.requires.1.1.1.0 c.requires.1.1.1.1.0
    (λ by. first_no (way_of full c.args.id) no (subst (λ (n : ℕ). way_of full n ≡ way.First) c.requires.1.1.0 by))
