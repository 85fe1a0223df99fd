use Rattle.std.proofs.Common.{ℕ}
use Rattle.verbs.proofs.UnfittingLemmas.{none_named_judging}
use Rattle.verbs.proofs.WholeLemmas.{of_whole}
use Rattle.verbs.proofs.whole.judge_whole_with_rises.Goals as goal

pub judge_full_with_rises-requires : goal.judge_full_with_rises-requires
judge_full_with_rises-requires g c =
    let full = c.args.model.now in
    let h = c.requires.whole in
    let laws = c.cells_are_words.ensures in
    record { fitted = (full, h.written.places, h.written.wide, h.written.cells.layout, h.celled, of_whole full c.args.whole.now h (laws.words full h.celled h.written) (laws.model full h.celled h.written)) }

pub returns-in-Ok-clause-judged : goal.returns-in-Ok-clause-judged
returns-in-Ok-clause-judged g c =
    let full = c.args.model.now in
    let h = c.requires.whole in
    let laws = c.cells_are_words.ensures in
    c.in-Ok.ensures.rises full h.written.places h.written.wide h.written.cells.layout h.celled (of_whole full c.args.whole.now h (laws.words full h.celled h.written) (laws.model full h.celled h.written))

pub returns-in-Err-clause-refused : goal.returns-in-Err-clause-refused
returns-in-Err-clause-refused g c =
    let h = c.requires.whole in
    rw c.from.ensures (none_named_judging ℕ h.celled c.args.whole.now.narrow c.in-Err.fault _ h.placed.fit (c.cells_are_words.ensures.nexts c.args.model.now h.celled h.written) c.in-Err.ensures.answer)
