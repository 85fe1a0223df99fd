use Rattle.std.proofs.Common.{length, inl, inr}
use Rattle.tidy.proofs.RunLemmas.{copied_run, gone_run, front_is_line}
use Rattle.tidy.proofs.tidier.Tidier.run.Goals as goal

pub returns-in-Copied-clause-run : goal.returns-in-Copied-clause-run
returns-in-Copied-clause-run c =
    let is_line = front_is_line (length c.args.bytes.now) c.args.bytes.now c.requires in
    elim c.in-Copied.is [ inl is ↦ copied_run c.args.self _ is is_line | inr is ↦ gone_run c.args.self _ is is_line ]
