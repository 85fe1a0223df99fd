use Rattle.std.proofs.Common.{◌≡◌, ◌≤◌, ℕ, true, refl, sym, subst, ◌∙◌, unwrap_or}
use Rattle.btor2.specs.Check.{IsWellFormed}
use Rattle.btor2.specs.Items.{constant_word}
use Rattle.pieces.specs.Lines.{named}
use Rattle.pieces.specs.Nodes.{MakesWord}
use Rattle.fitting.specs.Fitted.{most_bits, constant_fits_word}
use Rattle.fitting.specs.Tables.{table_of}
use Rattle.fitting.proofs.ConstantLemmas.{constant_names, fits_sort, constant_fitted}
use Rattle.fitting.proofs.FitterLemmas.{ok_then, put_as, sort_of}
use Rattle.fitting.proofs.fitter.Fitter.add_constant.Goals as goal

pub constant_word-requires-clause-least : goal.constant_word-requires-clause-least
constant_word-requires-clause-least g c =
    let sort = sort_of g.at.wide (table_of c.args.self.now) c.args.self.now.maker c.args.body.now c.args.sort c.requires.0 (constant_names c.args.body.now c.args.sort c.requires.1.1.0 c.requires.1.1.1) c.requires.1.0.sort in
    subst (λ (n : ℕ). 1 ≤ n) (sym (c.width-width.ensures ∙ sort.kept)) sort.least

pub constant_word-requires-clause-most : goal.constant_word-requires-clause-most
constant_word-requires-clause-most g c =
    let sort = sort_of g.at.wide (table_of c.args.self.now) c.args.self.now.maker c.args.body.now c.args.sort c.requires.0 (constant_names c.args.body.now c.args.sort c.requires.1.1.0 c.requires.1.1.1) c.requires.1.0.sort in
    subst (λ (n : ℕ). n ≤ most_bits) (sym (c.width-width.ensures ∙ sort.kept)) sort.most

pub constant_word-requires-clause-fits : goal.constant_word-requires-clause-fits
constant_word-requires-clause-fits g c =
    let names = constant_names c.args.body.now c.args.sort c.requires.1.1.0 c.requires.1.1.1 in
    let sort = sort_of g.at.wide (table_of c.args.self.now) c.args.self.now.maker c.args.body.now c.args.sort c.requires.0 names c.requires.1.0.sort in
    subst (λ (n : ℕ). constant_fits_word n c.args.body.now ≡ true) (sym (c.width-width.ensures ∙ sort.kept ∙ sym sort.own)) (fits_sort g.at.wide c.args.body.now c.args.sort names c.requires.1.0.constant)

pub returns-clause-fitted : goal.returns-clause-fitted
returns-clause-fitted g c =
    let names = constant_names c.args.body.now c.args.sort c.requires.1.1.0 c.requires.1.1.1 in
    let sort = sort_of g.at.wide (table_of c.args.self.now) c.args.self.now.maker c.args.body.now c.args.sort c.requires.0 names c.requires.1.0.sort in
    let nodes = c.in_ok-nodes.nodes.items in
    let new = c.constant_word.new.maker in
    ok_then _ _ c.put.result
    (λ put.
    constant_fitted g.at.wide (table_of c.args.self.now) _ c.args.self.now.maker new (named c.args.id g.at.symbol c.args.body.now) c.args.sort sort.bits nodes c.requires.0 (subst IsWellFormed c.model.ensures c.items-items.ensures.well_formed) c.requires.1.0 c.requires.1.1.0 c.requires.1.1.1 sort.is
    c.in_ok-nodes.ensures.extends (subst (λ (n : ℕ). MakesWord new n (λ g. unwrap_or (constant_word n c.args.body.now) 0) nodes) (c.width-width.ensures ∙ sort.kept) c.in_ok-nodes.ensures.word) c.in_ok-nodes.ensures.constants c.in_ok-nodes.ensures.cut (λ k. refl) (put_as _ _ _ _ _ c.as_slice.ensures.value put))
    c.put.ensures.word
