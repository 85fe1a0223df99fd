use Rattle.std.proofs.Common.{List, ℕ, ◌++◌, ◌∷◌, [], ◌==◌, refl, ap, subst, append-nil, ◌∙◌, arith, map}
use Rattle.std.specs.Vec.{with_items}
use Rattle.std.proofs.lemmas.List.{with_items_is}
use Rattle.base.proofs.PenLemmas.{writes_none}
use Rattle.witness.specs.WordStands.{StandsForWitness}
use Rattle.vcd.specs.declared.signals.Signal.{Signal}
use Rattle.vcd.specs.Dumps.{moment}
use Rattle.vcd.specs.Stands.{with_word, changes, told_word}
use Rattle.vcd.proofs.WaverLemmas.{none_closed, one_closed}
use Rattle.vcd.proofs.waver.Waver.take_line.Goals as goal

pub returns-else-closed_frames-closed : goal.returns-else-closed_frames-closed
returns-else-closed_frames-closed g c =
    rw (← c.self.view_is) (record {
      put = [];
      writes = writes_none;
      waves = λ s items text put h.
          let stands = subst (λ (l : List ℕ). StandsForWitness items c.feed.new.self (text ++ l)) c.requires.whole (c.feed.ensures items text h.judge) in
          rw (append-nil put) (none_closed s items text c.args.line.now put (record { judge = c.self.inside.judge; signals = c.self.inside.signals.items }) c.requires.is_line h
          (record { judge = c.feed.new.self; signals = c.self.inside.signals.items }) stands c.closed_frames-closed.result c.closed_frames.result
          (c.closed_frames-closed.ensures items text h.judge) (c.closed_frames.ensures items _ stands) c.if-closed_frames-closed.false refl);
    })

pub returns-then-closed_frames-closed : goal.returns-then-closed_frames-closed
returns-then-closed_frames-closed g c =
    rw (← c.self.view_is) (record {
      put = c.put_frame.ensures.puts.put;
      writes = c.put_frame.ensures.puts.writes;
      waves = λ s items text put h.
          let stands = subst (λ (l : List ℕ). StandsForWitness items c.feed.new.self (text ++ l)) c.requires.whole (c.feed.ensures items text h.judge) in
          let back = with_items_is c.self.inside.signals c.put_frame.new.signals (omega arith) in
          let lent = c.as_mut_slice.ensures.value in
          one_closed s items text c.args.line.now put (record { judge = c.self.inside.judge; signals = c.self.inside.signals.items }) c.requires.is_line h
          (record { judge = c.feed.new.self; signals = (with_items c.self.inside.signals c.put_frame.new.signals).items }) stands c.closed_frames-closed.result c.closed_frames.result
          (c.closed_frames-closed.ensures items text h.judge) (c.closed_frames.ensures items _ stands) c.put_frame.ensures.puts.put c.if-closed_frames-closed.true
          (λ f shows. c.put_frame.ensures.puts.is items f shows ∙ ap (λ (l : List Signal). (moment c.closed_frames-closed.result ++ 10 ∷ []) ++ changes (c.closed_frames-closed.result == 0) (told_word items f) l) lent)
          (λ f shows. back ∙ c.put_frame.ensures.kept items f shows ∙ ap (map (with_word (told_word items f))) lent);
    })
