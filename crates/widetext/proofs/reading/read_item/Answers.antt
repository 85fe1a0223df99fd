use Rattle.std.proofs.Common.{◌≡◌, Ok, inr, rules}
use Rattle.std.proofs.lemmas.Result.{err_from_is_err_and}
use Rattle.btor2text.specs.Tokens.{tokens}
use Rattle.btor2text.specs.Reading.{plain_at, form_at}
use Rattle.widetext.proofs.StepLemmas.{id_fails, form_fails, item_is}
use Rattle.widetext.proofs.reading.read_item.Goals as goal

pub returns-in_err-id : goal.returns-in_err-id
returns-in_err-id c =
    let is = err_from_is_err_and c.from_residual.result c.from_residual.ensures.1 in
    rw (is.1, is.2) (inr (id_fails c.args.model.now (tokens c.args.line.now) _ c.in_err-id.ensures))

pub returns-in_err-form : goal.returns-in_err-form
returns-in_err-form c =
    let is = err_from_is_err_and c.from_residual-in_err-form.result c.from_residual-in_err-form.ensures.1 in
    let id : plain_at (tokens c.args.line.now) ≡ Ok (c.in_ok-id.id, tokens c.in_ok-id.rest.now) = search rules in
    rw (is.1, is.2) (inr (form_fails c.args.model.now (tokens c.args.line.now) _ _ id c.in_err-form.ensures))

pub returns-in-Constant : goal.returns-in-Constant
returns-in-Constant c =
    let id : plain_at (tokens c.args.line.now) ≡ Ok (c.in_ok-id.id, tokens c.in_ok-id.rest.now) = search rules in
    let form : form_at (tokens c.in_ok-id.rest.now) ≡ Ok (c.in_ok-form.form, tokens c.in_ok-form.rest.now) = search rules in
    rw (item_is c.args.model.now (tokens c.args.line.now) _ _ id form, c.in-Constant.is) c.read_constant.ensures

pub returns-in_default : goal.returns-in_default
returns-in_default c =
    let id : plain_at (tokens c.args.line.now) ≡ Ok (c.in_ok-id.id, tokens c.in_ok-id.rest.now) = search rules in
    let form : form_at (tokens c.in_ok-id.rest.now) ≡ Ok (c.in_ok-form.form, tokens c.in_ok-form.rest.now) = search rules in
    rw (item_is c.args.model.now (tokens c.args.line.now) _ _ id form) c.read_plain.ensures
