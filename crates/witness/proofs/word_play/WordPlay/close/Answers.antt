use Rattle.std.proofs.Common.{◌≡◌, ◌==◌, length, if◌then◌else◌, ℕ, Bool, List, [], ◌∷◌, ◌++◌, Option, None, refl, sym, ap, ap₂, subst, ◌∙◌, arith}
use Rattle.std.specs.Option.{option_or}
use Rattle.base.specs.Fixed.{refilled}
use Rattle.base.proofs.FixedLemmas.{refilled_is}
use Rattle.btor2.specs.declared.item.Item.{Item}
use Rattle.btor2.specs.Items.{is_bad}
use Rattle.runs.specs.Run.{Run}
use Rattle.btor2.specs.Reachability.{nodes_of}
use Rattle.witness.specs.Judgements.{first_different, violated_at}
use Rattle.witness.specs.Fits.{RisesIn}
use Rattle.witness.specs.WordPlays.{WordPlay, Plays, nothing_given}
use Rattle.witness.proofs.WordPlayLemmas.{Closes, plays_more}
use Rattle.witness.proofs.word_play.WordPlay.close.Goals as goal

pub returns-clause-more : goal.returns-clause-more
returns-clause-more c frames here plays few =
    let items : List Item = c.self.inside.model.now in
    let p : WordPlay = record { items = c.self.inside.model.now; run = c.self.inside.run; states_given = c.self.inside.states_given; inputs_given = c.self.inside.inputs_given; differs = c.self.inside.differs; frames = c.self.inside.frames; breach = c.self.inside.breach; rose = c.self.inside.rose } in
    let now : Plays items frames here p = subst (λ (q : WordPlay). Plays q.items frames here q) (sym c.self.view_is) plays in
    let settled : Run = c.settle.new.self in
    let new : WordPlay = record { items = c.self.inside.model.now; run = c.settle.new.self; states_given = c.clear.new.self; inputs_given = c.clear-2.new.self; differs = c.note_difference.new.found; frames = c.add_one.new.self; breach = c.note_breach.new.found; rose = c.note_rises.new.rose } in
    let same : settled.items ≡ items = ap (λ (r : Run). r.items) c.settle.ensures ∙ (c.go_on.ensures.same ∙ now.run) in
    let closes : Closes items settled p new =
    record {
      same = refl;
      differs = λ f h. c.note_difference.ensures f h ∙ ap (λ (n : ℕ). if n == 0 then first_different items f else p.differs) c.count-frames.ensures.count;
      frames = c.add_one.ensures;
      run = refl;
      breach = λ f h. c.note_breach.ensures ∙ ap₂ (λ (n : ℕ) (o : Option ℕ). option_or p.breach (violated_at n o None)) c.count-frames.ensures.count (c.first_violated-violated.ensures f h);
      rose = λ f h.
          subst (λ (l : List Item). RisesIn (nodes_of is_bad l) f c.self.inside.rose c.note_rises.new.rose) same
          (subst (λ (r : List Bool). RisesIn (nodes_of is_bad settled.items) f r c.note_rises.new.rose) c.as_mut_slice.ensures.value (c.note_rises.ensures f h));
      states_clear = c.clear.ensures.none;
      inputs_clear = c.clear-2.ensures.none;
    } in
    let made : List Bool → WordPlay = λ rose. record { items = c.self.inside.model.now; run = c.settle.new.self; states_given = c.clear.new.self; inputs_given = c.clear-2.new.self; differs = c.note_difference.new.found; frames = c.add_one.new.self; breach = c.note_breach.new.found; rose = rose } in
    let rose_back = refilled_is c.self.inside.rose c.note_rises.new.rose (omega (arith, ap length c.as_mut_slice.ensures.value)) in
    let more = plays_more items here p new c.go_on.new.run settled c.items-items.ensures.well_formed c.go_on.ensures.goes c.settle.ensures closes frames now few in
    subst (λ (l : List Item). Plays l (frames ++ here ∷ []) nothing_given (made (refilled c.self.inside.rose c.note_rises.new.rose))) (ap (λ (q : WordPlay). q.items) c.self.view_is)
    (subst (λ (r : List Bool). Plays items (frames ++ here ∷ []) nothing_given (made r)) (sym rose_back) more)
