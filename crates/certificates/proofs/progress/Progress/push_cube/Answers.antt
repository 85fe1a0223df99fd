use Rattle.std.proofs.Common.{◌≡◌, List, ℕ, Ok, sym, ap, ◌∙◌}
use Rattle.certificates.specs.Reading.{CubesReading, line_words, parts_of, plain_cube}
use Rattle.certificates.proofs.ReaderLemmas.{refused_cube}
use Rattle.certificates.proofs.progress.Progress.push_cube.Goals as goal

pub returns-in-Err-push-clause-err : goal.returns-in-Err-push-clause-err
returns-in-Err-push-clause-err c =
    let i = c.self.inside in
    let r : CubesReading = record { expected = i.expected; width = i.width; left = i.left; named = i.named.items; cubes = i.kept.cubes } in
    let plain : plain_cube i.named.items i.width (parts_of (line_words c.args.line.now)) ≡ Ok c.as_slice-2.result.now =
    ap (λ (xs : List ℕ). plain_cube xs i.width (parts_of (line_words c.args.line.now))) (sym c.as_slice.ensures.value) ∙ (c.in-Ok.ensures.ok ∙ ap Ok (sym c.as_slice-2.ensures.value)) in
    rw (← c.self.view_is) (refused_cube i.kept.latches i.named.items i.width (parts_of (line_words c.args.line.now)) r c.as_slice-2.result.now c.in-Err-push.why c.self.invariant plain c.in-Err-push.ensures.refused)
