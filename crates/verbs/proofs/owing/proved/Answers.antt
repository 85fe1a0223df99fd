use Rattle.std.proofs.Common.{Err, refl, sym, subst}
use Rattle.drup.specs.declared.judgement.Judgement.{Judgement}
use Rattle.verbs.specs.declared.refusals.Refusal.{Refusal}
use Rattle.verbs.specs.Statuses.{CountsAll}
use Rattle.verbs.proofs.CertificateLemmas.{counted_proof}
use Rattle.verbs.proofs.owing.proved.Goals as goal

pub returns-in-Ok-clause-ends : goal.returns-in-Ok-clause-ends
returns-in-Ok-clause-ends g c = record { counted = λ f s o e. ((refl, refl, refl, refl), (c.in-Ok.ensures.counted 0).1); unwritten = tt; unwritten_second = tt; untold = tt }

pub returns-in-Err-clause-ends : goal.returns-in-Err-clause-ends
returns-in-Err-clause-ends g c = record {
  counted = λ f s o e.
      let third = g.T.Source.failures c.args.third.now in
      let third' = g.T.Source.failures c.judge_proof.new.proof in
      let Counted : Refusal → Type 0 = λ r. CountsAll {T = Judgement} (Err r) f f s s third third' o o e e in
      subst Counted (sym c.from.ensures) (counted_proof c.in-Err.fault f s third third' o e c.in-Err.ensures.fault c.in-Err.ensures.counted);
  unwritten = tt;
  unwritten_second = tt;
  untold = tt;
}
