use Rattle.std.proofs.Common.{◌≡◌, ◌+◌, ◌-◌, ◌∙◌, sym, ap, arith}
use Rattle.aigertext.specs.Reading.{cut_at_byte}
use Rattle.aigertext.specs.AsciiReading.{behind_line}
use Rattle.aigertext.proofs.FrontLemmas.{cut-none, cut-at}
use Rattle.aigertext.proofs.PassOverLemmas.{skip_one}
use Rattle.aigertext.proofs.reading.ascii.skip_lines.Goals as goal
use Rattle.aigertext.proofs.reading.ascii.skip_lines.Goals.{in-None, in-Some}

pub loop-index-preserved : goal.loop-index-preserved
loop-index-preserved c =
    let text = c.loop-index.rest.now in
    let one : c.match-next_line.rest.now ≡ behind_line text (cut_at_byte 10 text) =
    elim c.match-next_line.branch [
      | in-None w ↦ rw w.rest-is (sym (ap (behind_line text) (cut-none 10 text w.in-None.ensures)))
      | in-Some w ↦ rw w.rest-is (sym (ap (behind_line text) (cut-at 10 text w.in-Some.field-0-0.now w.in-Some.behind.now w.in-Some.ensures.0 w.in-Some.ensures.1)))
    ] in
    skip_one (c.args.count - c.loop-index._index) (c.args.count - (c.loop-index._index + 1)) text c.match-next_line.rest.now (omega arith) one ∙ c.loop-index.invariant
