-- The places of clauses by their sums: a sum goes by the literals in rising order, so clauses with the same literals have one sum.
use Rattle.std.specs.Prelude.{◌≡◌, ℕ, fold, ◌<◌, ◌≤◌, ◌⊎◌, ◌++◌, ◌∷◌, ◌==◌, ◌&&◌, if◌then◌else◌, List, [], Option, Some, None, length, nat_eq, slice_index, slice_index_or, slice_set}
use Rattle.std.specs.HashMap.{get}
use Rattle.std.specs.Hash as fed
use Rattle.std.specs.Hash.DefaultHasher as sip
use Rattle.std.specs.declared.hash.DefaultHasher.{DefaultHasher}
use Rattle.std.specs.Vec.{vec_len, vec_capacity}
use Rattle.indexmap.specs.IndexMap.{spare}
use Rattle.drup.specs.Ordered.{ordered}
use Rattle.drup.specs.declared.places.Places.{Places}

-- the sum of literals in an order: that of SipHash-1-3, to which each literal is given
abbrev pub with_literal : DefaultHasher → ℕ → DefaultHasher
with_literal state l = sip.write state (fed.le_bytes 4 l)

unfoldable pub sum_in_order : List ℕ → ℕ
sum_in_order literals = sip.finish (fold with_literal sip.initial literals)

-- the sum of a clause is that of its literals in rising order
abbrev pub clause_sum : List ℕ → ℕ
clause_sum clause = sum_in_order (ordered clause)

-- a place, or the number that stands for none
abbrev pub or_none : Option ℕ → ℕ
or_none None = 4294967295
or_none (Some k) = k

-- the last place of a sum
abbrev pub last_at : Places → ℕ → ℕ
last_at p s = or_none (get nat_eq p.lasts s)

-- there is room for one place more
pub record HasRoom (p : Places) : Type 0 where
  pub lasts : 0 < spare p.lasts
  pub before : vec_len p.before < vec_capacity p.before

-- the clause at a place stands and has a sum
abbrev pub HasSum : List (List ℕ) → ℕ → ℕ → Type 0
HasSum clauses s k = (0 < length (slice_index_or clauses k [])) × (clause_sum (slice_index_or clauses k []) ≡ s)

-- a place is the last one before another whose clause has a sum, or there is none
pub record IsLatest (clauses : List (List ℕ)) (s bound place : ℕ) : Type 0 where
  pub there : (place ≡ 4294967295) ⊎ ((place < bound) × HasSum clauses s place)
  pub last : (j : ℕ) → j < bound → HasSum clauses s j → (place < bound) × (j ≤ place)

-- for each sum its last place is kept, and for each place the one before it of the same sum
pub record AreLinked (clauses : List (List ℕ)) (last : ℕ → ℕ) (before : List ℕ) : Type 0 where
  pub as_many : length before ≡ length clauses
  pub few : length clauses < 2147483648
  pub lasts : (s : ℕ) → IsLatest clauses s (length clauses) (last s)
  pub befores : (k : ℕ) → 0 < length (slice_index_or clauses k []) → IsLatest clauses (clause_sum (slice_index_or clauses k [])) k (slice_index before k)

-- the link to a place stands behind all places, or at one with the same sum
pub record IsLink (clauses : List (List ℕ)) (last : ℕ → ℕ) (before : List ℕ) (s place behind : ℕ) : Type 0 where
  pub is : ((behind ≡ length clauses) × (last s ≡ place)) ⊎ ((behind < length clauses) × HasSum clauses s behind × (slice_index before behind ≡ place))
  pub latest : IsLatest clauses s behind place

-- a place was put behind the others
pub record IsLinkedBehind (old : Places) (s place : ℕ) (new : Places) : Type 0 where
  pub last : (t : ℕ) → last_at new t ≡ (if t == s then place else last_at old t)
  pub before : new.before.items ≡ old.before.items ++ last_at old s ∷ []

-- a place was taken away, and the link to it leads to the one before it
pub record IsUnlinked (old : Places) (count s place behind : ℕ) (new : Places) : Type 0 where
  pub last : (t : ℕ) → last_at new t ≡ (if behind == count && t == s then slice_index old.before.items place else last_at old t)
  pub before : new.before.items ≡ (if behind == count then old.before.items else slice_set old.before.items behind (slice_index old.before.items place))
