-- What two devices for trials keep: one fails at a call that was chosen, one hands on few bytes a call. What they do to bytes and failures is in words of `Device`, about the device inside.
use Rattle.std.specs.Prelude.{ℕ, zero, suc, Bool, true, false, Option, None, Some}
use Rattle.base.specs.Steps.{one_more}

-- a device, and how many calls come before the one that fails; nothing, where that one was made
pub record Due (T : Type 0) : Type 0 where
  pub inner : T
  pub before : Option ℕ

-- a device, and how many bytes one of its calls hands on at most
pub record Chopped (T : Type 0) : Type 0 where
  pub inner : T
  pub most : ℕ

-- the call that comes is the one that fails
abbrev pub is_due : Option ℕ → Bool
is_due None = false
is_due (Some zero) = true
is_due (Some (suc k)) = false

-- one call later
abbrev pub one_later : Option ℕ → Option ℕ
one_later None = None
one_later (Some zero) = None
one_later (Some (suc k)) = Some k

-- the failures of the device inside, and the one that was chosen where it came
abbrev pub all_failures : Option ℕ → ℕ → ℕ
all_failures None inside = one_more inside
all_failures (Some k) inside = inside
