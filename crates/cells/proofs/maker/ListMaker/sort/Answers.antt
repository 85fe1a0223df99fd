use Rattle.std.proofs.Common.{nat_eq}
use Rattle.std.specs.HashMap.{get}
use Rattle.cells.proofs.LineLemmas.{extends_sort, sort_made}
use Rattle.cells.proofs.KeptLemmas.{sorts_kept}
use Rattle.cells.proofs.SoundLemmas.{sound_sort}
use Rattle.cells.proofs.maker.ListMaker.sort.Goals as goal

pub put-requires-clause-sound : goal.put-requires-clause-sound
put-requires-clause-sound c = sound_sort c.args.self.now c.args.width c.requires.least c.requires.most

pub returns-in_err-keep_sort-clause-extends : goal.returns-in_err-keep_sort-clause-extends
returns-in_err-keep_sort-clause-extends c = extends_sort c.args.self.now c.put.new.self c.self-2.inside.model c.in_ok-id.id c.args.width c.in_ok-id.ensures.line.0 c.self-2.view_is

pub invariant_of-self-2 : goal.invariant_of-self-2
invariant_of-self-2 c =
    let made = sort_made c.args.self.now c.put.new.self c.self-2.inside.model c.in_ok-id.id c.args.width c.in_ok-id.ensures.line.0 c.in_ok-id.ensures.line.2 c.self-2.view_is in
    record {
      numbered = c.self-2.invariant.numbered;
      sorts = sorts_kept c.self-2.inside.model (get nat_eq c.self-2.inside.sorts) (get nat_eq c.keep_sort.new.sorts) c.args.width c.in_ok-id.id made c.in_ok-keep_sort.ensures.ok c.self-2.invariant.sorts;
    }

pub returns-clause-sort : goal.returns-clause-sort
returns-clause-sort c = sort_made c.args.self.now c.put.new.self c.self-2.inside.model c.in_ok-id.id c.args.width c.in_ok-id.ensures.line.0 c.in_ok-id.ensures.line.2 c.self-2.view_is

pub returns-clause-extends : goal.returns-clause-extends
returns-clause-extends c = extends_sort c.args.self.now c.put.new.self c.self-2.inside.model c.in_ok-id.id c.args.width c.in_ok-id.ensures.line.0 c.self-2.view_is
