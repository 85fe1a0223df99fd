use Rattle.std.proofs.Common.{◌∙◌}
use Rattle.spread.proofs.SpreaderLemmas.{nothing_taken}
use Rattle.spread.proofs.spreader.Spreader.new.Goals as goal

pub returns-in-Ok-Ok-clause-ok : goal.returns-in-Ok-Ok-clause-ok
returns-in-Ok-Ok-clause-ok c shape states inputs = nothing_taken shape c.args.narrow.now c.in_ok-judge.judge c.in-Ok-Ok.states c.in-Ok-Ok.inputs c.in_ok-judge.ensures.ok (c.in-Ok-Ok.ensures ∙ states) (c.in-Ok-Ok.ensures' ∙ inputs)
