use Rattle.std.proofs.Common.{◌<◌, ◌++◌, [], ◌∷◌, length, sym, ◌∙◌, arith}
use Rattle.order.specs.declared.walk.Progress.TheVariants.{New, Started}
use Rattle.order.specs.Walk.{IsChain}
use Rattle.order.proofs.WalkLemmas.{no_top, read_progress, set_same, none_new_set, underway_start}
use Rattle.order.proofs.walk.Walk.visit.Goals as goal

pub walking-init : goal.walking-init
walking-init c =
    let inside : c.args.first < length c.args.self.now.progress.items = omega (arith, c.requires.underway.as_many, c.requires.inside) in
    let new = read_progress c.args.self.now.progress.items c.args.first c.index.result.now New inside c.index.ensures c.in-New.is in
    let chain : IsChain c.args.needs.now (c.args.self.now.stack.items ++ c.args.first ∷ []) = rw c.requires.empty tt in
    rw (c.in_ok-start.ensures.progress, c.in_ok-start.ensures.stack, c.in_ok-start.ensures.order)
    record {
      underway = underway_start c.args.needs.now c.args.self.now.progress.items c.args.self.now.stack.items c.args.self.now.order.items c.args.first c.requires.underway new chain;
      first = λ e. let now = set_same c.args.self.now.progress.items c.args.first (Started 0) inside in cc;
      none_new = none_new_set c.args.self.now.progress.items c.args.first (Started 0) inside (λ e. cc);
    }

pub returns-clause-empty : goal.returns-clause-empty
returns-clause-empty c = no_top c.walking.self.stack.items (sym c.top.ensures ∙ c.in_default-top.is)
