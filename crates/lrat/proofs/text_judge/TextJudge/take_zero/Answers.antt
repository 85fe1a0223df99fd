use Rattle.std.proofs.Common.{ℕ, List, ◌++◌, take, get_or, refl, subst, arith}
use Rattle.lrat.specs.WordsAt.{IsWordOf, IsWordAt}
use Rattle.lrat.proofs.WordAtLemmas.{first_there}
use Rattle.lrat.proofs.TextJudgeLemmas.{taken_word, ready_between}
use Rattle.lrat.proofs.text_judge.TextJudge.take_zero.Goals as goal

pub returns-in-Some-clause-stands : goal.returns-in-Some-clause-stands
returns-in-Some-clause-stands c f text stands =
    let bytes : List ℕ = c.args.bytes.now in
    let here : IsWordAt bytes c.args.at c.in-Some.zero = c.in-Some.ensures in
    let first = first_there bytes here.word c.args.at c.in-Some.zero.end here.is here.some (omega (arith, c.if-at-bytes.false)) in
    taken_word f c.take_whole.new.self text bytes c.args.at (get_or bytes c.in-Some.zero.end 0) c.in-Some.zero here (get_or bytes c.args.at 0) first.0 first.1 refl
    (c.take_whole.ensures.stands f (text ++ take c.args.at bytes) (get_or bytes c.args.at 0) first.0 (subst (IsWordOf c.in-Some.zero.token) first.1 here.of) (ready_between c.args.self.now (get_or bytes c.args.at 0) c.requires.ready) stands)
