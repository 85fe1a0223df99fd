use Rattle.std.proofs.Common.{ℕ, List, ◌++◌, take, get_or, Option, IfSome, refl, subst}
use Rattle.lrat.specs.declared.word_at.WordAt.{WordAt}
use Rattle.lrat.specs.WordsAt.{IsWordOf, IsWordAt}
use Rattle.lrat.proofs.WordAtLemmas.{first_there}
use Rattle.lrat.proofs.TextJudgeLemmas.{taken_word}
use Rattle.lrat.proofs.text_judge.TextJudge.take_found.Goals as goal

pub returns-in-Some-clause-stands : goal.returns-in-Some-clause-stands
returns-in-Some-clause-stands c f text stands =
    let bytes : List ℕ = c.args.bytes.now in
    let here : IsWordAt bytes c.args.at c.in-Some.word = subst (λ (o : Option WordAt). IfSome o (λ w. IsWordAt bytes c.args.at w)) c.in-Some.is c.requires.word in
    let first = first_there bytes here.word c.args.at c.in-Some.word.end here.is here.some c.requires.inside in
    taken_word f c.take_whole.new.self text bytes c.args.at (get_or bytes c.in-Some.word.end 0) c.in-Some.word here (get_or bytes c.args.at 0) first.0 first.1 refl
    (c.take_whole.ensures.stands f (text ++ take c.args.at bytes) (get_or bytes c.args.at 0) first.0 (subst (IsWordOf c.in-Some.word.token) first.1 here.of) c.requires.between stands)
