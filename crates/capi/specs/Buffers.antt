-- What exported calls put into their callers' buffers.
use Rattle.std.specs.Prelude.{◌≡◌, ◌<◌, ◌≤◌, ◌++◌, ℕ, List, length, drop}

-- some bytes, or other things, that are so stand at the front of a buffer, behind them it is as it was, and their number is told
pub record Fills {T : Type 0} (IsSo : List T → Type 0) (old new : List T) (needed : ℕ) : Type 0 where
  pub bytes : List T
  pub is_so : IsSo bytes
  pub number : needed ≡ length bytes
  pub room : length bytes ≤ length old
  pub filled : new ≡ bytes ++ drop (length bytes) old

-- some bytes, or other things, that are so are more than a buffer has room for, which stays as it was, and their number is told
pub record Needs {T : Type 0} (IsSo : List T → Type 0) (old new : List T) (needed : ℕ) : Type 0 where
  pub bytes : List T
  pub is_so : IsSo bytes
  pub number : needed ≡ length bytes
  pub small : length old < length bytes
  pub stays : new ≡ old
