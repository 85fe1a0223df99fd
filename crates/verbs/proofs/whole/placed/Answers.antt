use Rattle.std.proofs.Common.{◌∙◌, ℕ, List, subst}
use Rattle.std.specs.List.{AllZip}
use Rattle.fitting.specs.Laid.{IsLaid}
use Rattle.verbs.proofs.WholeLemmas.{are_words, both_words}
use Rattle.verbs.proofs.whole.placed.Goals as goal

pub fit_with_places-requires : goal.fit_with_places-requires
fit_with_places-requires c =
    let celled = c.args.celled in
    let w = c.requires.written.0 in
    let has = c.requires.written.1 in
    let leaves = are_words w.wide w.cells.layout celled.list _ celled.leaves.items has.leaves in
    let nodes = are_words w.wide w.cells.layout celled.list _ celled.nodes.items has.nodes in
    rw c.as_slice.ensures.value (rw c.in_ok-nodes.ensures.nodes (both_words celled.list celled.leaves.items celled.nodes.items leaves nodes))

pub returns-in-Ok-clause-placed : goal.returns-in-Ok-clause-placed
returns-in-Ok-clause-placed c = λ w has.
    let celled = c.args.celled in
    let is = c.as_slice.ensures.value ∙ c.in_ok-nodes.ensures.nodes in
    record {
      fit = c.in-Ok.ensures.fits.0;
      state_words = record {
        state_nodes = has;
        places = subst (λ (ns : List ℕ). AllZip (IsLaid celled.list c.in-Ok.fitted.model c.in-Ok.ensures.fits.0.layout) ns c.in-Ok.fitted.places) is c.in-Ok.ensures.fits.1;
      };
    }
