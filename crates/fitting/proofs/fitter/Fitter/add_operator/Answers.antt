use Rattle.std.proofs.Common.{refl}
use Rattle.pieces.specs.Lines.{named}
use Rattle.pieces.specs.Nodes.{bits_in}
use Rattle.fitting.specs.Tables.{table_of}
use Rattle.fitting.proofs.ValueLemmas.{value_fitted}
use Rattle.fitting.proofs.SoundLemmas.{line_fits, operator_line}
use Rattle.fitting.proofs.FitterLemmas.{ok_then, put_as, operator_plain, operator_no_constant}
use Rattle.fitting.proofs.fitter.Fitter.add_operator.Goals as goal

pub operator_word-requires : goal.operator_word-requires
operator_word-requires g c =
    let x = named c.args.id g.at.symbol c.args.body.now in
    let table = table_of c.args.self.now in
    record {
      ready = (line_fits g.at.wide x table c.args.self.now.maker c.requires.0 c.requires.1.0 c.requires.1.1).ready;
    }

pub returns-clause-fitted : goal.returns-clause-fitted
returns-clause-fitted g c =
    let x = named c.args.id g.at.symbol c.args.body.now in
    let table = table_of c.args.self.now in
    let nodes = c.in_ok-nodes.nodes.items in
    let fits = line_fits g.at.wide x table c.args.self.now.maker c.requires.0 c.requires.1.0 c.requires.1.1 in
    ok_then _ _ c.put.result
    (λ put.
    value_fitted g.at.wide table _ c.args.self.now.maker c.operator_word.new.maker x nodes c.requires.0 c.requires.1.0 (operator_plain c.args.body.now c.requires.1.1) c.in_ok-nodes.ensures.extends
    (operator_line g.at.wide x table c.args.self.now.maker c.operator_word.new.maker nodes fits c.in_ok-nodes.ensures.word c.in_ok-nodes.ensures.cut) (operator_no_constant c.operator_word.new.maker (bits_in nodes) nodes c.args.body.now c.requires.1.1) (λ k. refl) (put_as _ _ _ _ _ c.as_slice.ensures.value put))
    c.put.ensures.word
