use Rattle.std.proofs.Common.{ap, sym, subst, ◌∙◌, ◌++◌, take, arith}
use Rattle.lrat.specs.declared.scan.Scan.{Scan}
use Rattle.lrat.specs.Scans.{BeginsNumber}
use Rattle.lrat.proofs.CodedLemmas.{word_there}
use Rattle.lrat.proofs.lrat_judge.LratJudge.take_hints.Goals as goal

pub loop-next-preserved : goal.loop-next-preserved
loop-next-preserved c = record {
  stands = λ f text b.
      word_there f c.take_hint.new.self text c.args.bytes.now c.in-Some.ensures.word c.loop-next.next c.in-Some.end c.in-Some.ensures.is
      (c.take_hint.ensures.stands f (text ++ take c.loop-next.next c.args.bytes.now) c.in-Some.ensures.word c.in-Some.ensures.writes (c.loop-next.invariant.stands f text b));
  form = c.take_hint.ensures.form ∙ c.loop-next.invariant.form;
  begins = subst BeginsNumber (sym c.take_hint.ensures.scan) c.loop-next.invariant.begins;
  spot = ap (λ (s : Scan). s.spot) c.take_hint.ensures.scan ∙ c.loop-next.invariant.spot;
  behind = omega (arith, c.in-Some.ensures.order, c.loop-next.invariant.behind);
  within = c.in-Some.ensures.inside;
}
