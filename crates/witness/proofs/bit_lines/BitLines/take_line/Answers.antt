use Rattle.std.proofs.Common.{◌++◌, ℕ, true, List, sym, subst}
use Rattle.base.specs.Lines.{whole_lines, unfinished}
use Rattle.witness.specs.CutLines.{AreFront}
use Rattle.witness.specs.BitStands.{IsOfBitLines, line_room}
use Rattle.witness.proofs.TextEndLemmas.{whole_lines-line_end, unfinished-line_end}
use Rattle.witness.proofs.CutLineLemmas.{whole_front}
use Rattle.witness.proofs.bit_lines.BitLines.take_line.Goals as goal

pub returns : goal.returns
returns c circuit text stands =
    let line : List ℕ = c.args.line.now in
    let front : AreFront (line_room circuit) line true (unfinished text ++ line) = subst (λ (l : List ℕ). AreFront (line_room circuit) line true (l ++ line)) (sym stands.1) (whole_front (line_room circuit) line) in (
      subst (IsOfBitLines circuit c.take.new.self) (sym (whole_lines-line_end text line c.requires)) (c.take.ensures.lines circuit (whole_lines text) (unfinished text ++ line) stands.0 front).0,
      unfinished-line_end text line,
    )
