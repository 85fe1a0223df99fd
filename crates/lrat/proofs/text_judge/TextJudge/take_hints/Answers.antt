use Rattle.std.proofs.Common.{ℕ, List, ◌++◌, take, get_or, refl, subst, arith}
use Rattle.std.proofs.lemmas.Bool.{ne_eqb}
use Rattle.lrat.specs.declared.token.Token.TheVariants as token
use Rattle.lrat.specs.WordsAt.{IsNumberAt, IsWordOf, IsWordAt}
use Rattle.lrat.proofs.WordAtLemmas.{number_word, first_there}
use Rattle.lrat.proofs.TextJudgeLemmas.{taken_word}
use Rattle.lrat.proofs.text_judge.TextJudge.take_hints.Goals as goal

pub loop-next-preserved : goal.loop-next-preserved
loop-next-preserved c =
    let bytes : List ℕ = c.args.bytes.now in
    let end : ℕ = c.in-Some.end in
    let there : IsNumberAt bytes c.loop-next.next c.in-Some.number end = c.in-Some.ensures in
    let here : IsWordAt bytes c.loop-next.next (record { token = token.Number c.in-Some.number; end = end }) = number_word bytes c.loop-next.next c.in-Some.number end there in
    let first = first_there bytes here.word c.loop-next.next end here.is here.some c.loop-next-test.true in
    record {
      stands = λ f text stands.
          taken_word f c.take_hint.new.self text bytes c.loop-next.next (get_or bytes end 0) (record { token = token.Number c.in-Some.number; end = end }) here (get_or bytes c.loop-next.next 0) first.0 first.1 refl
          (c.take_hint.ensures.stands f (text ++ take c.loop-next.next bytes) (get_or bytes c.loop-next.next 0) first.0 (get_or bytes end 0) (subst (IsWordOf (token.Number c.in-Some.number)) first.1 here.of) (ne_eqb (get_or bytes end 0) 10 c.if-bytes-end-eq10.false) there.behind
          (c.loop-next.invariant.stands f text stands));
      ready = c.take_hint.ensures.ready;
      behind = omega (arith, there.order, c.loop-next.invariant.behind);
      within = omega (arith, there.inside);
    }
