-- What the frames of a system show, be it a model or a circuit, and whether a bad property rises ("Btor2, BtorMC and Boolector 3.0" and "AIGER 1.9 and Beyond":
-- a bad property is reached where it is 1 in a frame and every constraint is 1 in that frame and in those before it).
use Rattle.std.specs.Prelude.{ℕ, Bool, false, ◌&&◌, ◌||◌, List, [], ◌∷◌, slice_get, unwrap_or}
use Rattle.std.specs.List.{list_all, list_any}

-- what a frame shows: of each bad property whether it rises in it, and of each constraint whether it holds
pub record Shown : Type 0 where
  pub bads : List Bool
  pub constraints : List Bool

-- the bad property with a number, counted from 0, is 1 in a frame; one that is not there is not
abbrev pub is_bad_in : ℕ → Shown → Bool
is_bad_in b s = unwrap_or (slice_get s.bads b) false

-- it is 1 in one of some frames
abbrev pub rises_in_some : ℕ → List Shown → Bool
rises_in_some b shown = list_any (is_bad_in b) shown

-- in one of some frames the bad property with a number rises, and in it and in each frame before it all constraints hold
abbrev pub rises_within : ℕ → List Shown → Bool
rises_within b [] = false
rises_within b (s ∷ more) = list_all (λ holds. holds) s.constraints && (is_bad_in b s || rises_within b more)
