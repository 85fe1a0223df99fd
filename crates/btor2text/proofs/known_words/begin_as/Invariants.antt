use Rattle.std.proofs.Common.{◌≡◌, ℕ, ◌<◌, ◌==◌, true, false, slice_index}
use Rattle.btor2text.proofs.known_words.begin_as.Given as goal

-- the bytes before are those of the text, wherever that has another one than 0
abbrev pub invariant-loop-at : goal.invariant-loop-at
invariant-loop-at l = l.same ≡ true → (j : ℕ) → j < l.at → (slice_index l.text j == 0) ≡ false → slice_index l.bytes j ≡ slice_index l.text j
