use Rattle.aigertext.proofs.writing.write.Goals as goal

pub returns : goal.returns
returns g c =
    let w = c.finish.ensures _ _ _ c.new-pen.ensures.kept c.new-pen.ensures.well c.put_text.ensures in
    record { ok = w.ok; err = w.err; failures = w.failures }
