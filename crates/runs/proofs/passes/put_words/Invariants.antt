use Rattle.std.proofs.Common.{◌≡◌, ◌≢◌, ℕ, ◌<◌, length, get_or}
use Rattle.runs.proofs.passes.put_words.Given as goal

abbrev pub invariant-loop-k : goal.invariant-loop-k
invariant-loop-k l =
    record {
      put : (j : ℕ) → j < l.k → get_or l.values (get_or l.places j 0) 0 ≡ get_or l.words j 0;
      others : (p : ℕ) → ((j : ℕ) → j < l.k → get_or l.places j 0 ≢ p) → get_or l.values p 0 ≡ get_or l.fn.values p 0;
      as_many : length l.values ≡ length l.fn.values;
    }
