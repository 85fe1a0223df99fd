use Rattle.std.proofs.Common.{◌%◌, ◌^◌, refl, subst, unwrap_or}
use Rattle.btor2.specs.Items.{constant_word}
use Rattle.btor2.specs.Check.{IsWellFormed}
use Rattle.pieces.specs.Lines.{named}
use Rattle.pieces.specs.Constants.{digits_value}
use Rattle.fitting.specs.Tables.{table_of}
use Rattle.fitting.proofs.OperatorLemmas.{words_same}
use Rattle.fitting.proofs.ConstantLemmas.{digits_word, constant_fitted}
use Rattle.fitting.proofs.FitterLemmas.{ok_then, put_as}
use Rattle.fitting.proofs.fitter.Fitter.add_digits.Goals as goal

pub returns-clause-fitted : goal.returns-clause-fitted
returns-clause-fitted g c =
    let v = digits_value c.args.digits.now in
    let b = g.at.body in
    let own = digits_word g.at.wide (table_of c.args.self.now) c.args.self.now.maker b c.args.sort c.args.width v c.requires.0 c.requires.1.1.0 c.requires.1.1.1.0 c.requires.1.1.1.1.0 c.requires.1.0.constant c.requires.1.1.1.1.1.0 in
    let nodes = c.in_ok-nodes.nodes.items in
    let new = c.constant.new.maker in
    ok_then _ _ c.put.result
    (λ put.
    constant_fitted g.at.wide (table_of c.args.self.now) _ c.args.self.now.maker new (named c.args.id g.at.symbol b) c.args.sort c.args.width nodes c.requires.0 (subst IsWellFormed c.model.ensures c.items-items.ensures.well_formed) c.requires.1.0 c.requires.1.1.0 c.requires.1.1.1.0
    c.requires.1.1.1.1.0 c.in_ok-nodes.ensures.extends (words_same new c.args.width (λ g. v % 2 ^ c.args.width) (λ g. unwrap_or (constant_word c.args.width b) 0) nodes (λ g. own) c.in_ok-nodes.ensures.word) c.in_ok-nodes.ensures.constants c.in_ok-nodes.ensures.cut
    (λ k. refl) (put_as _ _ _ _ _ c.as_slice.ensures.value put))
    c.put.ensures.word
