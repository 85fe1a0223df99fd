use Rattle.std.proofs.Common.{◌<◌, ◌^◌, List, IfSome, length, slice_index, subst, sym, arith}
use Rattle.btor2.specs.declared.item.Item.{Item}
use Rattle.btor2.specs.Items.{is_state}
use Rattle.btor2.specs.Lists.{places, width_at}
use Rattle.witness.specs.Texts.{widths_of}
use Rattle.witness.specs.Fits.{PairFits}
use Rattle.witness.specs.WordPlays.{WordPlay}
use Rattle.witness.proofs.ShapeLemmas.{length-widths, fits_at_place}
use Rattle.witness.proofs.word_play.WordPlay.give_state.Goals as goal

pub set_state-requires-clause-there : goal.set_state-requires-clause-there
set_state-requires-clause-there c =
    let fits : PairFits (widths_of is_state c.self.inside.model.now) (c.args.index, c.args.word) = subst (λ (q : WordPlay). PairFits (widths_of is_state q.items) (c.args.index, c.args.word)) (sym c.self.view_is) c.requires in
    subst (λ (l : List Item). c.args.index < length (places is_state 0 l)) (sym c.self.invariant.0) (omega (arith, fits.index, length-widths is_state c.self.inside.model.now))

pub set_state-requires-clause-fits : goal.set_state-requires-clause-fits
set_state-requires-clause-fits c =
    let fits : PairFits (widths_of is_state c.self.inside.model.now) (c.args.index, c.args.word) = subst (λ (q : WordPlay). PairFits (widths_of is_state q.items) (c.args.index, c.args.word)) (sym c.self.view_is) c.requires in
    subst (λ (l : List Item). IfSome (width_at l (slice_index (places is_state 0 l) c.args.index)) (λ n. c.args.word < 2 ^ n)) (sym c.self.invariant.0)
    (fits_at_place is_state c.self.inside.model.now c.args.index c.args.word c.items-items.ensures.well_formed fits)

pub give-requires : goal.give-requires
give-requires c =
    let fits : PairFits (widths_of is_state c.self.inside.model.now) (c.args.index, c.args.word) = subst (λ (q : WordPlay). PairFits (widths_of is_state q.items) (c.args.index, c.args.word)) (sym c.self.view_is) c.requires in
    omega (arith, fits.index, length-widths is_state c.self.inside.model.now, c.self.invariant.1)
