use Rattle.std.proofs.Common.{inl, inr, ap, ◌∙◌}
use Rattle.base.proofs.PenLemmas.{writes_then}
use Rattle.wide.specs.Lines.{number_of_digits}
use Rattle.fullmodel.specs.declared.line.Says.{Says}
use Rattle.fullmodel.specs.Lines.{says_of}
use Rattle.fulltext.specs.Reading.{numbered}
use Rattle.fulltext.specs.Writing.{written_line}
use Rattle.fulltext.specs.Pieces.{IsArrayLine}
use Rattle.fulltext.proofs.WritingLemmas.{constant_pieces, array_line}
use Rattle.fulltext.proofs.writing.put_line.Goals as goal

pub returns-in-Constant : goal.returns-in-Constant
returns-in-Constant g c =
    let x = c.args.line.now in
    let k = c.in-Constant in
    let whole = ap (λ (s : Says). written_line (numbered x.id x.symbol (says_of s))) k.is ∙ constant_pieces x.id x.symbol k.spelling k.sort k.count (number_of_digits k.number.items) in
    rw whole (writes_then c.put_constant_head.ensures (writes_then (rw c.as_slice-in-Constant.ensures.value at c.put_token.ensures) c.put_end.ensures))

pub returns-in-ArraySort : goal.returns-in-ArraySort
returns-in-ArraySort g c =
    let x = c.args.line.now in
    let none : IsArrayLine (says_of x.says) = elim c.in-ArraySort.is [ inl a ↦ rw a.2 tt | inr b ↦ elim b [ inl r ↦ rw r.3 tt | inr w ↦ rw w.4 tt ] ] in
    rw (array_line x.id x.symbol (says_of x.says) none) c.put_array.ensures
