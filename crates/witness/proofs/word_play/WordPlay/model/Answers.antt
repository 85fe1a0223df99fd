use Rattle.std.proofs.Common.{◌<◌, ◌^◌, ℕ, List, length, subst, arith}
use Rattle.btor2.specs.Items.{is_state, is_input}
use Rattle.btor2.specs.declared.item.Item.{Item}
use Rattle.witness.specs.Texts.{shape_of}
use Rattle.witness.specs.KeptLines.{IsNarrowShape}
use Rattle.witness.specs.WordPlays.{WordPlay}
use Rattle.witness.proofs.ShapeLemmas.{widths_small}
use Rattle.witness.proofs.word_play.WordPlay.model.Goals as goal

pub returns-clause-small : goal.returns-clause-small
returns-clause-small c =
    let items : List Item = c.self.inside.model.now in
    let states = subst (λ (l : List ℕ). length l < 2 ^ 64) c.states-states.ensures (omega arith) in
    let inputs = subst (λ (l : List ℕ). length l < 2 ^ 64) c.inputs-inputs.ensures (omega arith) in
    subst (λ (p : WordPlay). IsNarrowShape (shape_of p.items)) c.self.view_is
    (record { states = widths_small is_state items c.items-items.ensures.well_formed states; inputs = widths_small is_input items c.items-items.ensures.well_formed inputs })
