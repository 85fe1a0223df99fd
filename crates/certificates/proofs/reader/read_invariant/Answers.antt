use Rattle.std.proofs.Common.{◌≡◌, ◌⊎◌, inl, inr, true, false, Ok, Err, IfSome, rules, ⊎_elim, sym, ◌∙◌}
use Rattle.std.specs.Io.KnownBytes.{prepend_known}
use Rattle.certificates.specs.declared.why.InvariantWhy.TheVariants as why
use Rattle.base.specs.Lines.{line_after}
use Rattle.certificates.specs.Reading.{admit_cube_line, ended}
use Rattle.certificates.specs.Reader.{Lines, GivesCubes, lines_begun}
use Rattle.certificates.specs.Texts.{SaysCubes}
use Rattle.certificates.proofs.ReaderLemmas.{step_agrees, step_fault, step_last, agree_trans, agree_gives, ok_weaker, err_weaker}
use Rattle.certificates.proofs.SaidLemmas.{gives_said}
use Rattle.certificates.proofs.TextFaultLemmas.{line_is_of_text, end_is_of_text}
use Rattle.certificates.proofs.reader.read_invariant.Goals as goal

pub returns-then-not-is_whole-clause-reads : goal.returns-then-not-is_whole-clause-reads
returns-then-not-is_whole-clause-reads g c =
    let p : Lines = c.loop-is_whole.progress in
    let w : c.in-Ok.is_whole ≡ false = search rules in
    let next : c.saturating_add-number.result ≡ line_after c.loop-is_whole.number = c.saturating_add-number.ensures in
    ok_weaker c.finish.result (λ v. ended c.saturating_add-number.result (admit_cube_line p.latches p.reading c.rest.result.now) ≡ Ok v.cubes) (λ v. GivesCubes 0 (lines_begun c.args.latches) (g.S.Source.to_come c.args.source.now) (Ok v.cubes))
    (λ v h.
    agree_gives (g.S.Source.to_come c.args.source.now) (prepend_known c.loop-is_whole.lines.rest (g.S.Source.to_come c.loop-is_whole.source)) 0 c.loop-is_whole.number (lines_begun c.args.latches) p (Ok v.cubes) c.loop-is_whole.invariant.same
    (step_last c.in-Ok.is_whole c.loop-is_whole.lines c.advance.new.self (g.S.Source.to_come c.loop-is_whole.source) (g.S.Source.to_come c.advance.new.source) c.loop-is_whole.number c.saturating_add-number.result p c.rest.result.now (Ok v.cubes) w c.in-Ok.ensures.bytes c.rest.ensures next h))
    c.finish.ensures.ok

pub returns-then-not-is_whole-clause-says : goal.returns-then-not-is_whole-clause-says
returns-then-not-is_whole-clause-says g c =
    ok_weaker c.finish.result (λ v. GivesCubes 0 (lines_begun c.args.latches) (g.S.Source.to_come c.args.source.now) (Ok v.cubes)) (λ v. IfSome (g.S.Source.to_come c.args.source.now) (λ text. SaysCubes c.args.latches text v.cubes))
    (λ v h. gives_said c.args.latches (g.S.Source.to_come c.args.source.now) v.cubes h)
    (returns-then-not-is_whole-clause-reads g c)

pub returns-then-not-is_whole-clause-fault : goal.returns-then-not-is_whole-clause-fault
returns-then-not-is_whole-clause-fault g c =
    let p : Lines = c.loop-is_whole.progress in
    let w : c.in-Ok.is_whole ≡ false = search rules in
    let next : c.saturating_add-number.result ≡ line_after c.loop-is_whole.number = c.saturating_add-number.ensures in
    err_weaker c.finish.result (λ e. (e.why ≡ why.NoMemory) ⊎ (ended c.saturating_add-number.result (admit_cube_line p.latches p.reading c.rest.result.now) ≡ Err e))
    (λ e. (e.why ≡ why.NoMemory) ⊎ ((e ≡ record { line = 0; why = why.Device }) ⊎ GivesCubes 0 (lines_begun c.args.latches) (g.S.Source.to_come c.args.source.now) (Err e)))
    (λ e h.
    ⊎_elim
    (λ (m : e.why ≡ why.NoMemory). inl m)
    (λ (t : ended c.saturating_add-number.result (admit_cube_line p.latches p.reading c.rest.result.now) ≡ Err e).
    inr (inr
    (agree_gives (g.S.Source.to_come c.args.source.now) (prepend_known c.loop-is_whole.lines.rest (g.S.Source.to_come c.loop-is_whole.source)) 0 c.loop-is_whole.number (lines_begun c.args.latches) p (Err e) c.loop-is_whole.invariant.same
    (step_last c.in-Ok.is_whole c.loop-is_whole.lines c.advance.new.self (g.S.Source.to_come c.loop-is_whole.source) (g.S.Source.to_come c.advance.new.source) c.loop-is_whole.number c.saturating_add-number.result p c.rest.result.now (Err e) w c.in-Ok.ensures.bytes c.rest.ensures next t))))
    h)
    c.finish.ensures.err

pub returns-in-Err-take-clause-fault : goal.returns-in-Err-take-clause-fault
returns-in-Err-take-clause-fault g c =
    let p : Lines = c.loop-is_whole.progress in
    let w : c.in-Ok.is_whole ≡ true = search rules in
    let next : c.saturating_add-number.result ≡ line_after c.loop-is_whole.number = c.saturating_add-number.ensures in
    ⊎_elim
    (λ (m : c.in-Err-take.why ≡ why.NoMemory). inl m)
    (λ (t : admit_cube_line p.latches p.reading c.line.result.now ≡ Err c.in-Err-take.why).
    inr (inr
    (agree_gives (g.S.Source.to_come c.args.source.now) (prepend_known c.loop-is_whole.lines.rest (g.S.Source.to_come c.loop-is_whole.source)) 0 c.loop-is_whole.number (lines_begun c.args.latches) p (Err (record { line = c.saturating_add-number.result; why = c.in-Err-take.why })) c.loop-is_whole.invariant.same
    (step_fault c.in-Ok.is_whole c.loop-is_whole.lines c.advance.new.self (g.S.Source.to_come c.loop-is_whole.source) (g.S.Source.to_come c.advance.new.source) c.loop-is_whole.number c.saturating_add-number.result p c.line.result.now c.in-Err-take.why w c.in-Ok.ensures.bytes c.line.ensures next t))))
    c.in-Err-take.ensures.err

pub returns-then-not-is_whole-clause-apart : goal.returns-then-not-is_whole-clause-apart
returns-then-not-is_whole-clause-apart g c =
    let p : Lines = c.loop-is_whole.progress in
    err_weaker c.finish.result (λ e. (e.why ≡ why.NoMemory) ⊎ (ended c.saturating_add-number.result (admit_cube_line p.latches p.reading c.rest.result.now) ≡ Err e)) (λ e. e.why ≡ why.Device → e ≡ record { line = 0; why = why.Device })
    (λ e h is.
    ⊎_elim
    (λ (m : e.why ≡ why.NoMemory). let no : why.NoMemory ≡ why.Device = sym m ∙ is in absurd (cc))
    (λ (t : ended c.saturating_add-number.result (admit_cube_line p.latches p.reading c.rest.result.now) ≡ Err e). absurd (end_is_of_text p.latches c.saturating_add-number.result p.reading c.rest.result.now e t is))
    h)
    c.finish.ensures.err

pub returns-in-Err-take-clause-apart : goal.returns-in-Err-take-clause-apart
returns-in-Err-take-clause-apart g c = λ is.
    let p : Lines = c.loop-is_whole.progress in
    ⊎_elim
    (λ (m : c.in-Err-take.why ≡ why.NoMemory). let no : why.NoMemory ≡ why.Device = sym m ∙ is in absurd (cc))
    (λ (t : admit_cube_line p.latches p.reading c.line.result.now ≡ Err c.in-Err-take.why). absurd (line_is_of_text p.latches p.reading c.line.result.now c.in-Err-take.why t is))
    c.in-Err-take.ensures.err

pub loop-is_whole-preserved : goal.loop-is_whole-preserved
loop-is_whole-preserved g c =
    let p : Lines = c.loop-is_whole.progress in
    let w : c.in-Ok.is_whole ≡ true = search rules in
    let next : c.saturating_add-number.result ≡ line_after c.loop-is_whole.number = c.saturating_add-number.ensures in
    record {
      same =
          agree_trans (g.S.Source.to_come c.args.source.now) (prepend_known c.loop-is_whole.lines.rest (g.S.Source.to_come c.loop-is_whole.source)) (prepend_known c.advance.new.self.rest (g.S.Source.to_come c.advance.new.source)) 0 c.loop-is_whole.number c.saturating_add-number.result (lines_begun c.args.latches) p c.take.new.self c.loop-is_whole.invariant.same
          (step_agrees c.in-Ok.is_whole c.loop-is_whole.lines c.advance.new.self (g.S.Source.to_come c.loop-is_whole.source) (g.S.Source.to_come c.advance.new.source) c.loop-is_whole.number c.saturating_add-number.result p c.take.new.self c.line.result.now w c.in-Ok.ensures.bytes c.line.ensures next c.in-Ok-take.ensures.latches c.in-Ok-take.ensures.ok);
      latches = search rules;
      counted = search rules;
    }
