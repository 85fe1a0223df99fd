use Rattle.std.proofs.lemmas.Result.{err_from_is_err_and}
use Rattle.btor2text.specs.Tokens.{tokens}
use Rattle.fulltext.proofs.StepLemmas.{says_fail, symbol_fails, plain_is}
use Rattle.fulltext.proofs.reading.read_plain.Goals as goal

pub returns-in_err-says : goal.returns-in_err-says
returns-in_err-says c =
    let is = err_from_is_err_and c.from_residual.result c.from_residual.ensures.1 in
    rw (is.1, is.2) (says_fail c.args.model.now c.args.id c.args.kind (tokens c.args.line.now) c.args.minuses.items _ c.in_err-says.ensures.read)

pub returns-in_err-symbol : goal.returns-in_err-symbol
returns-in_err-symbol c =
    let is = err_from_is_err_and c.from_residual-in_err-symbol.result c.from_residual-in_err-symbol.ensures.1 in
    rw (is.1, is.2) (symbol_fails c.args.model.now c.args.id c.args.kind (tokens c.args.line.now) c.args.minuses.items _ _ c.in_ok-says.ensures.read c.in_err-symbol.ensures)

pub returns : goal.returns
returns c = rw (plain_is c.args.model.now c.args.id c.args.kind (tokens c.args.line.now) c.args.minuses.items _ _ c.in_ok-says.ensures.read c.in_ok-symbol.ensures) c.push.ensures
