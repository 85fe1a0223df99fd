use Rattle.std.proofs.Common.{◌+◌, drop, ap, ◌∙◌}
use Rattle.std.proofs.lemmas.List.{drop_more}
use Rattle.drup.specs.Propagation.{Literals}
use Rattle.drup.specs.Marked.{set_of}
use Rattle.drup.specs.Named.{clause_of}
use Rattle.drup.specs.Hints.{follow}
use Rattle.drup.proofs.hints.follow.Goals as goal

pub loop-hint-preserved : goal.loop-hint-preserved
loop-hint-preserved c = record {
  leads = c.loop-hint.invariant.leads
      ∙ ap (follow (clause_of c.args.named.now) (set_of c.loop-hint.trail)) (drop_more c.args.hints.now c.loop-hint.hint-index 0 c.loop-hint-test.true)
      ∙ c.in-None.ensures.leads (λ (t : Literals). follow (clause_of c.args.named.now) t (drop (c.loop-hint.hint-index + 1) c.args.hints.now));
  as_many = c.in-None.ensures.as_many ∙ c.loop-hint.invariant.as_many;
}
