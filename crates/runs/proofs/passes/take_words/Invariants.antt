use Rattle.std.proofs.Common.{◌≡◌, ℕ, ◌<◌, None, get_or}
use Rattle.base.specs.Steps.{more_steps}
use Rattle.runs.specs.Nodes.{word_where}
use Rattle.runs.proofs.passes.take_words.Given as goal

abbrev pub invariant-loop-k : goal.invariant-loop-k
invariant-loop-k l =
    record {
      taken : (j : ℕ) → j < l.k → get_or l.taken j 0 ≡ word_where l.values (get_or l.places j None);
      steps : l.tally ≡ more_steps l.k l.fn.tally;
    }
