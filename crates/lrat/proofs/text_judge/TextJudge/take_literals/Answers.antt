use Rattle.std.proofs.Common.{ℕ, ◌<◌, List, ◌++◌, take, get_or, refl, subst, arith}
use Rattle.std.proofs.lemmas.Bool.{ne_eqb}
use Rattle.lrat.specs.Words.{signed}
use Rattle.lrat.specs.WordsAt.{IsWordOf, IsWordAt}
use Rattle.lrat.proofs.WordAtLemmas.{first_there, word_order}
use Rattle.lrat.proofs.TextJudgeLemmas.{taken_word}
use Rattle.lrat.proofs.text_judge.TextJudge.take_literals.Goals as goal

pub loop-next-preserved : goal.loop-next-preserved
loop-next-preserved c =
    let bytes : List ℕ = c.args.bytes.now in
    let end : ℕ = c.in-Some.behind in
    let here : IsWordAt bytes c.loop-next.next (record { token = signed c.in-Some.negative c.in-Some.number; end = end }) = c.in-Some.ensures in
    let first = first_there bytes here.word c.loop-next.next end here.is here.some c.loop-next-test.true in
    let order : c.loop-next.next < end = word_order bytes c.loop-next.next (record { token = signed c.in-Some.negative c.in-Some.number; end = end }) c.loop-next-test.true here in
    record {
      stands = λ f text stands.
          taken_word f c.take_literal.new.self text bytes c.loop-next.next (get_or bytes end 0) (record { token = signed c.in-Some.negative c.in-Some.number; end = end }) here (get_or bytes c.loop-next.next 0) first.0 first.1 refl
          (c.take_literal.ensures.stands f (text ++ take c.loop-next.next bytes) (get_or bytes c.loop-next.next 0) first.0 (get_or bytes end 0) (subst (IsWordOf (signed c.in-Some.negative c.in-Some.number)) first.1 here.of) (ne_eqb (get_or bytes end 0) 10 c.if-bytes-behind-eq10.false) here.behind
          (c.loop-next.invariant.stands f text stands));
      ready = c.take_literal.ensures.ready;
      behind = omega (arith, order, c.loop-next.invariant.behind);
      within = omega (arith, here.inside);
    }
