use Rattle.std.proofs.Common.{sym, subst}
use Rattle.spread.specs.Stands.{Spreader, StandsFor}
use Rattle.spread.proofs.SpreaderLemmas.{rest_taken}
use Rattle.spread.proofs.spreader.Spreader.take_rest.Goals as goal

pub returns : goal.returns
returns c shape narrow text is h =
    let k = subst (λ (s : Spreader). StandsFor shape narrow s text) (sym c.self.view_is) h in
    rest_taken shape narrow text c.args.rest.now _ c.feed.new.self is k c.feed.ensures
