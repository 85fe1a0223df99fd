use Rattle.std.proofs.Common.{◌≡◌, Ok, inr, rules}
use Rattle.std.proofs.lemmas.Result.{err_from_is_err_and}
use Rattle.btor2text.specs.Tokens.{tokens}
use Rattle.btor2text.specs.Reading.{plain_at}
use Rattle.fulltext.specs.Reading.{kind_at}
use Rattle.fulltext.proofs.StepLemmas.{id_fails, kind_fails, line_is}
use Rattle.fulltext.proofs.reading.read_tokens.Goals as goal

pub returns-in_err-id : goal.returns-in_err-id
returns-in_err-id c =
    let is = err_from_is_err_and c.from_residual.result c.from_residual.ensures.1 in
    rw (is.1, is.2) (inr (id_fails c.args.model.now (tokens c.args.line.now) _ c.in_err-id.ensures))

pub returns-in_err-kind : goal.returns-in_err-kind
returns-in_err-kind c =
    let is = err_from_is_err_and c.from_residual-in_err-kind.result c.from_residual-in_err-kind.ensures.1 in
    let id : plain_at (tokens c.args.line.now) ≡ Ok (c.in_ok-id.id, tokens c.in_ok-id.rest.now) = search rules in
    rw (is.1, is.2) (inr (kind_fails c.args.model.now (tokens c.args.line.now) _ _ id c.in_err-kind.ensures))

pub returns-in-Form : goal.returns-in-Form
returns-in-Form c =
    let id : plain_at (tokens c.args.line.now) ≡ Ok (c.in_ok-id.id, tokens c.in_ok-id.rest.now) = search rules in
    let kind : kind_at (tokens c.in_ok-id.rest.now) ≡ Ok (c.in_ok-kind.kind, tokens c.in_ok-kind.rest.now) = search rules in
    rw (line_is c.args.model.now (tokens c.args.line.now) _ _ id kind, c.in-Form.is) c.read_form.ensures

pub returns-in_default : goal.returns-in_default
returns-in_default c =
    let id : plain_at (tokens c.args.line.now) ≡ Ok (c.in_ok-id.id, tokens c.in_ok-id.rest.now) = search rules in
    let kind : kind_at (tokens c.in_ok-id.rest.now) ≡ Ok (c.in_ok-kind.kind, tokens c.in_ok-kind.rest.now) = search rules in
    rw (line_is c.args.model.now (tokens c.args.line.now) _ _ id kind) c.read_said.ensures
