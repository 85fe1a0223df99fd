use Rattle.std.proofs.Common.{List, ℕ}
use Rattle.unfit.specs.Joined.{lined}
use Rattle.unfit.specs.Unfitted.{unfit_text_with}
use Rattle.unfit.proofs.UnfittingLemmas.{nothing_written}
use Rattle.unfit.proofs.unfitting.unfit_by.Goals as goal

pub returns-in-Err-clause-beginning : goal.returns-in-Err-clause-beginning
returns-in-Err-clause-beginning g c =
    nothing_written (g.S.Source.to_come c.args.source.now) (g.K.Sink.written c.args.sink.now)
    (λ (text : List ℕ). unfit_text_with (lined c.args.shape.now (g.T.Titles.symbols c.args.states.now) (g.T.Titles.symbols c.args.inputs.now) c.args.named (g.T.Titles.fronts c.args.states.now) (g.T.Titles.fronts c.args.inputs.now)) c.args.narrow.now text)
