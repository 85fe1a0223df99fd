use Rattle.std.proofs.Common.{◌≡◌, sym, subst}
use Rattle.std.specs.Prelude.{IfOk}
use Rattle.drup.specs.Hints.{HintedReading, judge_hinted}
use Rattle.lrat.specs.StepReaders.{StepReader, reader_of, HasRead}
use Rattle.lrat.proofs.StepReaderLemmas.{judged_as}
use Rattle.lrat.proofs.step_reader.StepReader.judgement.Goals as goal

pub returns : goal.returns
returns c f reading h =
    let own : HasRead f (reader_of c.self.inside) reading = subst (λ (x : StepReader). HasRead f x reading) (sym c.self.view_is) h in
    let got = own c.if-failed.false in
    subst (λ (r : HintedReading). IfOk c.finish-judged.result (λ j. j ≡ judge_hinted f r)) (sym got.1.1.1) (judged_as f (reader_of c.self.inside) c.finish-judged.result (c.finish-judged.ensures.steps f) (c.finish-judged.ensures.fault f) got.0 got.1.0 got.1.1.0)
