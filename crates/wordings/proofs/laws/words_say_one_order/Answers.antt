use Rattle.wordings.proofs.OneOrder.{one_order}
use Rattle.wordings.proofs.laws.words_say_one_order.Goals as goal

pub returns-clause-task : goal.returns-clause-task
returns-clause-task c = λ words o p s t. (one_order words o p s t).task

pub returns-clause-told : goal.returns-clause-told
returns-clause-told c = λ words o p s t. let same = one_order words o p s t in (same.named, same.as_json, same.progress)

pub returns-clause-asked : goal.returns-clause-asked
returns-clause-asked c = λ words o p s t. (one_order words o p s t).asked

pub returns-clause-form : goal.returns-clause-form
returns-clause-form c = λ words o p s t. (one_order words o p s t).form

pub returns-clause-first : goal.returns-clause-first
returns-clause-first c = λ words o p s t. (one_order words o p s t).first

pub returns-clause-second : goal.returns-clause-second
returns-clause-second c = λ words o p s t. (one_order words o p s t).second

pub returns-clause-third : goal.returns-clause-third
returns-clause-third c = λ words o p s t. (one_order words o p s t).third

pub returns-clause-output : goal.returns-clause-output
returns-clause-output c = λ words o p s t. (one_order words o p s t).output
