use Rattle.std.proofs.Common.{rules, ◌≡◌, Err, refl}
use Rattle.verbs.proofs.CountLemmas.{as_is, as_was, ends_as, handed_on, unfailed}
use Rattle.verbs.proofs.WholeLemmas.{never_refused, not_fit_whole, over_text}
use Rattle.verbs.proofs.unfitting.judge_by_whole.Goals as goal

pub returns-in_err-whole-clause-refused : goal.returns-in_err-whole-clause-refused
returns-in_err-whole-clause-refused g c =
    let is : c.from_residual-in_err-whole.result ≡ Err c.in_err-whole.field-0.0 = search rules in
    rw is (not_fit_whole c.args.text.now c.in_ok-model.model c.in_err-whole.field-0.0 c.requires.not_profile c.in_ok-model.ensures.stands c.in_err-whole.ensures.refused)

pub returns-in_err-whole-clause-ends : goal.returns-in_err-whole-clause-ends
returns-in_err-whole-clause-ends g c =
    let is : c.from_residual-in_err-whole.result ≡ Err c.in_err-whole.field-0.0 = search rules in
    ends_as as_is (unfailed refl) as_was as_was (handed_on is c.in_err-whole.ensures.ends)

pub returns-clause-judged : goal.returns-clause-judged
returns-clause-judged g c = over_text c.judge_whole.result c.args.text.now c.in_ok-model.model _ c.in_ok-model.ensures.stands c.judge_whole.ensures.judged

pub returns-clause-refused : goal.returns-clause-refused
returns-clause-refused g c = never_refused c.judge_whole.result _ c.judge_whole.ensures.refused
