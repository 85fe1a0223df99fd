use Rattle.std.proofs.Common.{◌≡◌, ℕ, ◌<◌, false, slice_index}
use Rattle.btor2.specs.Items.{is_state}
use Rattle.btor2.specs.Lists.{places, is_free_at}
use Rattle.witness.proofs.word_reader.has_free.Given as goal

-- those before are not free
abbrev pub invariant-loop-k : goal.invariant-loop-k
invariant-loop-k l = (i : ℕ) → i < l.k → is_free_at l.model (slice_index (places is_state 0 l.model) i) ≡ false
