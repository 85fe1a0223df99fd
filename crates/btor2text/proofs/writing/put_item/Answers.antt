use Rattle.std.proofs.Common.{◌≡◌, ◌++◌, [], List, ℕ, decimal, sym, ap, ◌∙◌}
use Rattle.base.proofs.PenLemmas.{writes_line}
use Rattle.btor2text.specs.Writing.{in_front, head_tokens, justice_operands, written_line}
use Rattle.btor2text.proofs.WritingLemmas.{no_operands, whole_line}
use Rattle.btor2text.proofs.writing.put_item.Goals as goal

pub returns : goal.returns
returns g c =
    let x = c.args.item.now in
    let none : justice_operands x.body ≡ [] = sym c.operands-operands.ensures ∙ no_operands c.operands-operands.result.now c.if-not-is_empty.ensures in
    let line : c.add_head.new.line ≡ written_line x = c.add_head.ensures ∙ ap (λ (l : List ℕ). decimal x.id ++ in_front (head_tokens x.body) l) c.make_end.ensures.end ∙ sym (whole_line x none) in
    rw line at (writes_line {p = c.args.pen.now} c.put_line.ensures)
