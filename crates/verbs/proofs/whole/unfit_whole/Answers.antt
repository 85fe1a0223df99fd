use Rattle.std.proofs.Common.{ℕ}
use Rattle.verbs.proofs.UnfittingLemmas.{none_named}
use Rattle.verbs.proofs.WholeLemmas.{of_whole, unfitted_by}
use Rattle.verbs.proofs.whole.unfit_whole.Goals as goal

pub returns-in-Ok-clause-unfitted : goal.returns-in-Ok-clause-unfitted
returns-in-Ok-clause-unfitted g c =
    let full = c.args.model.now in
    let w = c.args.whole.now in
    let h = c.requires.whole in
    let laws = c.cells_are_words.ensures in
    let of = of_whole full w h (laws.words full h.celled h.written) (laws.model full h.celled h.written) in
    unfitted_by c.args.named full w c.in_ok-names.names h c.in_ok-names.ensures _ _ _ c.in-Ok.judgement c.in-Ok.ensures.judged c.in-Ok.ensures.written (c.in-Ok.ensures.kept full h.written.places h.written.wide h.written.cells.layout h.celled of)

pub returns-clause-refused : goal.returns-clause-refused
returns-clause-refused g c =
    let h = c.requires.whole in
    rw c.from.ensures (none_named ℕ h.celled c.args.whole.now.narrow c.in-Err.fault _ h.placed.fit (c.cells_are_words.ensures.nexts c.args.model.now h.celled h.written) c.in-Err.ensures.answer)
