use Rattle.std.proofs.Common.{◌≤◌, ℕ, List, Option, refl, sym, subst, ◌∙◌}
use Rattle.btor2.specs.Check.{IsWellFormed}
use Rattle.pieces.specs.Cuts.{widths}
use Rattle.fitting.specs.Fitted.{most_bits}
use Rattle.fitting.specs.Names.{word_names}
use Rattle.fitting.specs.Steps.{leaf_body, AddsLeaves}
use Rattle.fitting.specs.Tables.{table_of}
use Rattle.fitting.proofs.FormLemmas.{leaf_fitted}
use Rattle.fitting.proofs.FitterLemmas.{ok_then, put_as, sort_of, leaf_named}
use Rattle.fitting.proofs.fitter.Fitter.add_leaf.Goals as goal

pub leaves-requires-clause-least : goal.leaves-requires-clause-least
leaves-requires-clause-least g c =
    let sort = sort_of g.at.wide (table_of c.args.self.now) c.args.self.now.maker (leaf_body c.args.is_input c.args.sort) c.args.sort c.requires.0 (leaf_named c.args.is_input c.args.sort) c.requires.1.0.sort in
    subst (λ (n : ℕ). 1 ≤ n) (sym (c.width-width.ensures ∙ sort.kept)) sort.least

pub leaves-requires-clause-most : goal.leaves-requires-clause-most
leaves-requires-clause-most g c =
    let sort = sort_of g.at.wide (table_of c.args.self.now) c.args.self.now.maker (leaf_body c.args.is_input c.args.sort) c.args.sort c.requires.0 (leaf_named c.args.is_input c.args.sort) c.requires.1.0.sort in
    subst (λ (n : ℕ). n ≤ most_bits) (sym (c.width-width.ensures ∙ sort.kept)) sort.most

pub returns-clause-fitted : goal.returns-clause-fitted
returns-clause-fitted g c =
    let sort = sort_of g.at.wide (table_of c.args.self.now) c.args.self.now.maker (leaf_body c.args.is_input c.args.sort) c.args.sort c.requires.0 (leaf_named c.args.is_input c.args.sort) c.requires.1.0.sort in
    let nodes = c.in_ok-nodes.nodes.items in
    ok_then _ _ c.put.result
    (λ put.
    leaf_fitted c.args.is_input g.at.wide (table_of c.args.self.now) _ c.args.self.now.maker c.leaves.new.maker c.args.id c.args.sort g.at.symbol sort.bits nodes c.requires.0 (subst IsWellFormed c.model.ensures c.items-items.ensures.well_formed) c.requires.1.0 sort.is
    c.in_ok-nodes.ensures.nodes (c.in_ok-nodes.ensures.width ∙ c.width-width.ensures ∙ sort.kept) c.in_ok-nodes.ensures.cut
    (subst (λ (s : Option (List ℕ)). AddsLeaves c.args.is_input c.args.self.now.maker c.leaves.new.maker nodes (word_names s (widths nodes))) (sym c.requires.1.1) c.in_ok-nodes.ensures.adds) (λ k. refl) (put_as _ _ _ _ _ c.as_slice.ensures.value put)) c.put.ensures.word
