use Rattle.std.proofs.Common.{◌≡◌, ◌<◌, ◌≤◌, ℕ, List, length, option_map, slice_get}
use Rattle.btor2.specs.declared.item.Item.{Item}
use Rattle.btor2.specs.Trace.{Frame}
use Rattle.witness.specs.ClosedWords.{IsClosedTrace}
use Rattle.witness.specs.Reached.{word_reached}
use Rattle.witness.specs.WordStands.{StandsForWitness}
use Rattle.rises.specs.Notes.{noted}
use Rattle.rises.proofs.word_noter.note_words.Given as goal

-- those below are noted, and the others as they were
abbrev pub invariant-loop-position : goal.invariant-loop-position
invariant-loop-position l = record {
  many : length l.firsts ≡ length l.initial.firsts;
  below : (items : List Item) (text : List ℕ) (fs : List Frame) → StandsForWitness items l.judge text → IsClosedTrace items text fs → (k : ℕ) → k < l.position → slice_get l.firsts k ≡ option_map (noted (word_reached items text fs k) l.frame) (slice_get l.initial.firsts k);
  above : (k : ℕ) → l.position ≤ k → slice_get l.firsts k ≡ slice_get l.initial.firsts k;
}
