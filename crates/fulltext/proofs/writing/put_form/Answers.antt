use Rattle.std.proofs.Common.{◌≡◌, ◌++◌, List, ℕ, false, nat_eq, length, map, decimal, sym, ap, ◌∙◌}
use Rattle.base.proofs.PenLemmas.{writes_line, writes_then}
use Rattle.btor2.specs.Items.{operands}
use Rattle.btor2text.specs.Writing.{in_front, justice_operands}
use Rattle.full.specs.Lines.{with_minuses, form}
use Rattle.fulltext.specs.Spelling.{operand_token}
use Rattle.fulltext.specs.Reading.{numbered}
use Rattle.fulltext.specs.Writing.{head_tokens, tail_tokens, written_line}
use Rattle.fulltext.proofs.WritingLemmas.{form_line, form_pieces}
use Rattle.fulltext.proofs.writing.put_form.Goals as goal

pub returns-then-not-is_empty : goal.returns-then-not-is_empty
returns-then-not-is_empty g c =
    let nodes = c.justice_operands-nodes in
    let some : false ≡ nat_eq (length (justice_operands c.args.body.now)) 0 = c.if-not-is_empty.ensures ∙ ap (λ (l : List ℕ). nat_eq (length l) 0) nodes.ensures in
    rw (form_pieces c.args.id c.args.symbol.now c.args.body.now c.args.minuses.now some) (writes_then c.put_head.ensures (writes_then (rw nodes.ensures at c.put_operands.ensures) c.put_end.ensures))

pub returns : goal.returns
returns g c =
    let b = c.args.body.now in
    let ms = c.args.minuses.now in
    let ids = map operand_token (with_minuses (operands b) ms) in
    let behind = ap (in_front (tail_tokens b)) c.make_end.ensures.end in
    let tail = ap (in_front ids) (c.add_tail.ensures.tokens ∙ behind) in
    let head = ap (in_front (head_tokens b)) (c.add_operands.ensures.tokens ∙ tail) in
    let line : c.number.new.self ≡ written_line (numbered c.args.id c.args.symbol.now (form b ms)) = c.number.ensures.digits ∙ ap (λ (l : List ℕ). decimal c.args.id ++ l) (c.add_head.ensures.tokens ∙ head) ∙ sym (form_line c.args.id c.args.symbol.now b ms) in
    rw line at (writes_line {p = c.args.pen.now} c.put_line.ensures)
