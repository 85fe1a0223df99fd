use Rattle.std.proofs.Common.{sym, ap, ◌∙◌}
use Rattle.drup.specs.Marked.{set_of}
use Rattle.drup.specs.Hints.{by_clause}
use Rattle.drup.proofs.HintLemmas.{open_below, named_below}
use Rattle.drup.proofs.hints.take_hint.Goals as goal

pub returns-in-None-clause-leads : goal.returns-in-None-clause-leads
returns-in-None-clause-leads c rest = ap (by_clause rest (set_of c.args.trail.now)) c.in-None.ensures

pub mark-requires : goal.mark-requires
mark-requires c = record {
  inside = open_below _ (set_of c.args.trail.now) c.in-Some.clause.now c.in-Only.literal (named_below c.args.named.now _ c.args.hint c.in-Some.clause.now c.requires.named c.in-Some.ensures) (sym c.open_in.ensures ∙ c.in-Only.is);
}
