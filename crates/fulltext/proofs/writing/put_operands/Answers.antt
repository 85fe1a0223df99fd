use Rattle.std.proofs.Common.{◌≡◌, [], ◌∷◌, ℕ, List, get_or, map, refl, ap, ◌∙◌, arith}
use Rattle.base.proofs.PenLemmas.{write_more, writes_line}
use Rattle.btor2text.specs.Writing.{in_front}
use Rattle.full.specs.Lines.{with_minuses}
use Rattle.fulltext.specs.Spelling.{operand_token}
use Rattle.fulltext.proofs.WritingLemmas.{operands_at}
use Rattle.fulltext.proofs.writing.put_operands.Goals as goal

pub loop-node-preserved : goal.loop-node-preserved
loop-node-preserved g c =
    let i = c.loop-node.node-index in
    let nodes = c.args.nodes.now in
    let token = map operand_token (with_minuses (get_or nodes i 0 ∷ []) c.loop-node.signs.now) in
    let own : c.add_one.new.line ≡ in_front token [] = c.add_one.ensures.tokens ∙ ap (λ (l : List ℕ). in_front token l) c.clear.ensures in
    let line = rw own at (writes_line {p = c.loop-node.pen} c.put_line.ensures) in
    rw c.behind_first-signs.ensures (write_more c.loop-node.invariant line (operands_at i nodes (get_or nodes i 0) 0 c.loop-node.signs.now (omega arith) refl))
