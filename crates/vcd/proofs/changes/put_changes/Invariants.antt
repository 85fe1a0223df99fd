use Rattle.std.proofs.Common.{◌≡◌, ◌≤◌, ◌++◌, List, All, drop, length, map, take}
use Rattle.btor2.specs.declared.item.Item.{Item}
use Rattle.btor2.specs.Trace.{Frame}
use Rattle.vcd.specs.Stands.{Shows, WritesSome, told_word, changes, with_word}
use Rattle.vcd.proofs.changes.put_changes.Given as goal

abbrev pub invariant-loop-at : goal.invariant-loop-at
invariant-loop-at g l = record {
  puts : WritesSome g.K.Sink.written g.K.Sink.failures l.initial.sink l.sink l.initial.pen l.pen
      (λ put. (items : List Item) (f : Frame) → Shows l.judge items f → put ++ changes l.first (told_word items f) (drop l.at l.fn.signals) ≡ changes l.first (told_word items f) l.fn.signals);
  kept : (items : List Item) (f : Frame) → Shows l.judge items f → l.signals ≡ map (with_word (told_word items f)) (take l.at l.fn.signals) ++ drop l.at l.fn.signals;
  allowed : All (λ s. s.width ≤ 64) l.signals;
  many : length l.signals ≡ length l.fn.signals;
}
