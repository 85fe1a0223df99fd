use Rattle.std.proofs.Common.{Ok}
use Rattle.btor2text.specs.Tokens.{tokens}
use Rattle.widetext.proofs.StepLemmas.{other_sort}
use Rattle.fulltext.proofs.SaysLemmas.{form_ok, form_fails}
use Rattle.fulltext.proofs.says.form_at.Goals as goal

pub returns-in-Ok-clause-read : goal.returns-in-Ok-clause-read
returns-in-Ok-clause-read c = form_ok c.args.form (tokens c.args.line.now) c.args.minuses.items (c.in-Ok.body, tokens c.in-Ok.rest.now) c.requires c.in-Ok.ensures

pub returns-in-Ok-clause-digits : goal.returns-in-Ok-clause-digits
returns-in-Ok-clause-digits c = other_sort c.args.form (tokens c.args.line.now) (c.in-Ok.body, tokens c.in-Ok.rest.now) c.requires c.in-Ok.ensures

pub returns-in-Err-clause-read : goal.returns-in-Err-clause-read
returns-in-Err-clause-read c = form_fails c.args.form (tokens c.args.line.now) c.args.minuses.items c.in-Err.why c.requires c.in-Err.ensures
