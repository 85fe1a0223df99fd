use Rattle.std.proofs.Common.{length, ap, ap₂, ◌∙◌}
use Rattle.std.specs.String.{string_bytes}
use Rattle.vectors.specs.Vectors.{report}
use Rattle.vectors.proofs.DifferingLemmas.{tells_by_lines, length-numbered}
use Rattle.vectors.proofs.judging.judged.Goals as goal

pub returns : goal.returns
returns c = λ all are.
    let count = c.len.ensures ∙ (c.differing.new.vectors.ok.0 ∙ (c.in_ok-differing.ensures.kept ∙ (ap length are ∙ length-numbered 1 all))) in
    tells_by_lines all c.in_ok-differing.differing.items (string_bytes c.in_ok-text.text) c.in_ok-differing.differing.len c.is_empty.result (c.in_ok-differing.ensures.lines all are) c.in_ok-differing.differing.ok.0 c.is_empty.ensures
    (c.in_ok-text.ensures ∙ ap₂ report c.as_slice.ensures.value count)
