use Rattle.std.proofs.Common.{ℕ}
use Rattle.verbs.proofs.UnfittingLemmas.{none_named}
use Rattle.verbs.proofs.WholeLemmas.{of_whole, spread_by}
use Rattle.verbs.proofs.whole.spread_whole.Goals as goal

pub spread_full-requires : goal.spread_full-requires
spread_full-requires g c =
    let full = c.args.model.now in
    let h = c.requires.whole in
    let laws = c.cells_are_words.ensures in
    record { fitted = (full, h.written.places, h.written.wide, h.written.cells.layout, h.celled, of_whole full c.args.whole.now h (laws.words full h.celled h.written) (laws.model full h.celled h.written)) }

pub returns-in-Ok-clause-spread : goal.returns-in-Ok-clause-spread
returns-in-Ok-clause-spread g c =
    let full = c.args.model.now in
    let w = c.args.whole.now in
    let h = c.requires.whole in
    let laws = c.cells_are_words.ensures in
    let of = of_whole full w h (laws.words full h.celled h.written) (laws.model full h.celled h.written) in
    let wide = h.written.wide in
    let places = h.written.places in
    let layout = h.written.cells.layout in
    spread_by full w h _ _ _ c.in-Ok.judgement (c.in-Ok.ensures.judged full places wide layout h.celled of) (c.in-Ok.ensures.written full places wide layout h.celled of) (c.in-Ok.ensures.kept full places wide layout h.celled of)

pub returns-in-Err-clause-refused : goal.returns-in-Err-clause-refused
returns-in-Err-clause-refused g c =
    let h = c.requires.whole in
    rw c.from.ensures (none_named ℕ h.celled c.args.whole.now.narrow c.in-Err.fault _ h.placed.fit (c.cells_are_words.ensures.nexts c.args.model.now h.celled h.written) c.in-Err.ensures.answer)
