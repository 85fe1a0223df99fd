use Rattle.std.proofs.Common.{◌≡◌, Ok, inr, rules}
use Rattle.std.proofs.lemmas.Result.{err_from_is_err_and}
use Rattle.btor2text.specs.Tokens.{tokens}
use Rattle.btor2text.specs.Reading.{sort_at}
use Rattle.widetext.specs.Constants.{GivesDigits}
use Rattle.fulltext.proofs.StepLemmas.{sort_fails, digits_fail, name_fails, constant_is}
use Rattle.fulltext.proofs.reading.read_constant.Goals as goal

pub returns-in_err-sort : goal.returns-in_err-sort
returns-in_err-sort c =
    let is = err_from_is_err_and c.from_residual.result c.from_residual.ensures.1 in
    rw (is.1, is.2) (inr (sort_fails c.args.model.now c.args.id c.args.constant (tokens c.args.line.now) _ c.in_err-sort.ensures))

pub returns-in_err-spelling : goal.returns-in_err-spelling
returns-in_err-spelling c =
    let is = err_from_is_err_and c.from_residual-in_err-spelling.result c.from_residual-in_err-spelling.ensures.1 in
    let sort : sort_at (tokens c.args.line.now) ≡ Ok (c.in_ok-sort.sort, tokens c.in_ok-sort.rest.now) = search rules in
    rw (is.1, is.2) (inr (digits_fail c.args.model.now c.args.id c.args.constant (tokens c.args.line.now) _ _ sort (c.in_err-spelling.ensures c.in_ok-sort.sort)))

pub returns-in_err-symbol : goal.returns-in_err-symbol
returns-in_err-symbol c =
    let is = err_from_is_err_and c.from_residual-in_err-symbol.result c.from_residual-in_err-symbol.ensures.1 in
    let sort : sort_at (tokens c.args.line.now) ≡ Ok (c.in_ok-sort.sort, tokens c.in_ok-sort.rest.now) = search rules in
    let digits : GivesDigits c.args.constant (tokens c.in_ok-sort.rest.now) c.in_ok-spelling.spelling c.in_ok-spelling.digits.now c.in_ok-spelling.rest.now = search rules in
    rw (is.1, is.2) (name_fails c.args.model.now c.args.id c.args.constant (tokens c.args.line.now) _ _ _ sort (digits.says c.in_ok-sort.sort) c.in_err-symbol.ensures)

pub returns : goal.returns
returns c =
    let sort : sort_at (tokens c.args.line.now) ≡ Ok (c.in_ok-sort.sort, tokens c.in_ok-sort.rest.now) = search rules in
    let digits : GivesDigits c.args.constant (tokens c.in_ok-sort.rest.now) c.in_ok-spelling.spelling c.in_ok-spelling.digits.now c.in_ok-spelling.rest.now = search rules in
    rw (constant_is c.args.model.now c.args.id c.args.constant (tokens c.args.line.now) _ _ _ sort (digits.says c.in_ok-sort.sort) c.in_ok-symbol.ensures) c.add_constant.ensures
