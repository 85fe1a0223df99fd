use Rattle.std.proofs.lemmas.Result.{err_from_is_err_and}
use Rattle.btor2text.specs.Tokens.{tokens}
use Rattle.widetext.proofs.StepLemmas.{other_sort, body_fails, symbol_fails, said_is}
use Rattle.widetext.proofs.reading.read_plain.Goals as goal

pub returns-in_err-body : goal.returns-in_err-body
returns-in_err-body c =
    let is = err_from_is_err_and c.from_residual.result c.from_residual.ensures.1 in
    rw (is.1, is.2) (body_fails c.args.model.now c.args.id c.args.form (tokens c.args.line.now) c.requires _ c.in_err-body.ensures)

pub returns-in_err-symbol : goal.returns-in_err-symbol
returns-in_err-symbol c =
    let is = err_from_is_err_and c.from_residual-in_err-symbol.result c.from_residual-in_err-symbol.ensures.1 in
    rw (is.1, is.2) (symbol_fails c.args.model.now c.args.id c.args.form (tokens c.args.line.now) c.requires _ _ c.in_ok-body.ensures c.in_err-symbol.ensures)

pub push-requires : goal.push-requires
push-requires c = other_sort c.args.form (tokens c.args.line.now) _ c.requires c.in_ok-body.ensures

pub returns : goal.returns
returns c = rw (said_is c.args.model.now c.args.id c.args.form (tokens c.args.line.now) c.requires _ _ c.in_ok-body.ensures c.in_ok-symbol.ensures) c.push.ensures
