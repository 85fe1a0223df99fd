use Rattle.std.proofs.Common.{ℕ, List, Option, IfOk, IfSome, OnErr, OnOk, subst}
use Rattle.std.specs.Io.KnownBytes.{Appends}
use Rattle.base.specs.Device.{AppendsBeginning}
use Rattle.witness.specs.Judgements.{Judges}
use Rattle.spread.specs.Answers.{KeepsJudgement}
use Rattle.spread.specs.Spread.{IsShort, spread_text}
use Rattle.spread.proofs.SourceLemmas.{same_source}
use Rattle.spread.proofs.spreading.spread.Goals as goal

pub returns-clause-judged : goal.returns-clause-judged
returns-clause-judged g c = λ wide of.
    subst (λ (o : Option (List ℕ)). IfOk c.spread_by.result (λ judgement. IfSome o (λ text. IsShort text → Judges wide text judgement))) (same_source (g.S.Source.to_come c.args.source.now)) (c.spread_by.ensures.judged wide of)

pub returns-clause-kept : goal.returns-clause-kept
returns-clause-kept g c = λ wide of.
    subst (λ (o : Option (List ℕ)). IfOk c.spread_by.result (λ judgement. IfSome o (λ text. IsShort text → KeepsJudgement wide c.args.narrow.now text judgement))) (same_source (g.S.Source.to_come c.args.source.now)) (c.spread_by.ensures.kept wide of)

pub returns-clause-written : goal.returns-clause-written
returns-clause-written g c =
    subst (λ (o : Option (List ℕ)). OnOk c.spread_by.result (IfSome o (λ text. IsShort text → Appends (g.K.Sink.written c.args.sink.now) (g.K.Sink.written c.spread_by.new.sink) (spread_text c.args.shape.now text)))) (same_source (g.S.Source.to_come c.args.source.now)) c.spread_by.ensures.written

pub returns-clause-beginning : goal.returns-clause-beginning
returns-clause-beginning g c =
    subst (λ (o : Option (List ℕ)). OnErr c.spread_by.result (IfSome o (λ text. IsShort text → AppendsBeginning (g.K.Sink.written c.args.sink.now) (g.K.Sink.written c.spread_by.new.sink) (spread_text c.args.shape.now text)))) (same_source (g.S.Source.to_come c.args.source.now)) c.spread_by.ensures.beginning
