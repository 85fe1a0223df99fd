use Rattle.std.proofs.Common.{List, ℕ, ◌∷◌, [], ◌++◌, ap, ◌∙◌}
use Rattle.blast.specs.Table.{MakesRow}
use Rattle.blast.proofs.NodeRows.{LowersFront-push}
use Rattle.blast.proofs.nodes.lower_item.Goals as goal

pub returns-in-Ok-clause-ok : goal.returns-in-Ok-clause-ok
returns-in-Ok-clause-ok g c =
    let made = g.G.Gates.made in
    let row = c.in_ok-bits.bits.items in
    let makes : MakesRow c.args.model.now (made c.args.gates.now) (made c.line_row.new.gates) c.args.item.now row = c.in_ok-bits.ensures.ok in
    LowersFront-push c.args.model.now c.args.place (made c.args.gates.now) (made c.line_row.new.gates) c.args.table.now c.push.new.self c.args.next.now c.line_row.new.next c.args.item.now row
    c.requires.front c.requires.at makes (c.in-Ok.ensures.ok ∙ ap (λ (l : List ℕ). c.args.table.now ++ l ∷ []) c.as_slice.ensures.value) c.in_ok-bits.ensures.next
