use Rattle.std.proofs.Common.{Ok}
use Rattle.btor2text.specs.Tokens.{tokens}
use Rattle.fullmodel.specs.Lines.{says_of}
use Rattle.fulltext.proofs.SaysLemmas.{gives_write, write_fails}
use Rattle.fulltext.proofs.says.write_at.Goals as goal

pub returns-in-Ok-clause-read : goal.returns-in-Ok-clause-read
returns-in-Ok-clause-read c = gives_write (λ x. (says_of x.0, tokens x.1.now)) c.write_before.result (tokens c.args.line.now) c.args.minuses.now (c.in-Ok.body, tokens c.in-Ok.rest.now) c.in-Ok.ensures c.write_before.ensures.read

pub returns-in-Err-clause-read : goal.returns-in-Err-clause-read
returns-in-Err-clause-read c = write_fails (tokens c.args.line.now) c.args.minuses.now c.in-Err.why c.in-Err.ensures
