use Rattle.std.proofs.Common.{rules, ◌≡◌, false, sym, ap, subst, ◌∙◌}
use Rattle.std.specs.Io.KnownBytes.{prepend_known}
use Rattle.restore.specs.declared.place.Place.{Place}
use Rattle.restore.specs.Steps.{FramesReader, may_follow}
use Rattle.restore.proofs.StepLemmas.{ends_steps}
use Rattle.restore.proofs.frame_reader.FrameReader.advance.Goals as goal

pub returns-clause-steps : goal.returns-clause-steps
returns-clause-steps g c =
    let at : c.loop-self.self.place ≡ c.place-2.result = sym (ap (λ (r : FramesReader). r.place) c.self-2.view_is) ∙ sym c.place-2.ensures in
    let closed : may_follow c.place-2.result ≡ false = search rules in
    ends_steps c.end.result c.args.self.now c.loop-self.self c.place-2.result (prepend_known c.args.self.now.rest (g.S.Source.to_come c.args.source.now)) (prepend_known c.loop-self.self.rest (g.S.Source.to_come c.loop-self.source)) (prepend_known c.loop-self.self.rest (g.S.Source.to_come c.end.new.source)) (g.S.Source.to_come c.end.new.source) (g.S.Source.failures c.loop-self.source) (g.S.Source.failures c.end.new.source) c.loop-self.invariant.left (subst (λ (p : Place). may_follow p ≡ false) (sym at) closed) at c.end.ensures.none c.end.ensures.fault
