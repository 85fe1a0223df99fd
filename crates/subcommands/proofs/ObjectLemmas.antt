-- The claims of an object, one behind the other.
use Rattle.std.proofs.Common.{◌≡◌, ℕ, zero, suc, Bool, ◌||◌, List, [], ◌∷◌, ◌++◌, ◌+◌, ◌<◌, drop, Option, length, option_and_then, slice_get, refl, subst, arith}
use Rattle.subcommands.specs.Objects.{Names, claim_object, claim_objects, is_there}

-- the first frame of a number
abbrev pub first_of : List (Option ℕ) → ℕ → Option ℕ
first_of firsts k = option_and_then (λ first. first) (slice_get firsts k)

claims_step : (all : Names) (b : Bool) (k n : ℕ) (firsts : List (Option ℕ)) → k < length firsts
    → claim_objects all b n (drop k firsts) ≡ claim_object all b n (first_of firsts k) ++ claim_objects all (b || is_there (first_of firsts k)) (suc n) (drop (suc k) firsts)
claims_step all b k n [] there = absurd (omega (arith, there))
claims_step all b zero n (x ∷ xs) there = refl
claims_step all b (suc k) n (x ∷ xs) there = claims_step all b k n xs (omega (arith, there))

pub claims_next : (all : Names) (b : Bool) (k : ℕ) (firsts : List (Option ℕ)) → k < length firsts
    → claim_objects all b k (drop k firsts) ≡ claim_object all b k (first_of firsts k) ++ claim_objects all (b || is_there (first_of firsts k)) (k + 1) (drop (k + 1) firsts)
claims_next all b k firsts there =
    let next : suc k ≡ k + 1 = omega arith in
    subst (λ (n : ℕ). claim_objects all b k (drop k firsts) ≡ claim_object all b k (first_of firsts k) ++ claim_objects all (b || is_there (first_of firsts k)) n (drop n firsts)) next (claims_step all b k k firsts there)
