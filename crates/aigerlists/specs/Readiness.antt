-- Gates that wait for others: two slots for each gate say which gate's number an operand waits for.
use Rattle.std.specs.Prelude.{◌≡◌, ℕ, suc, ◌+◌, ◌-◌, ◌*◌, ◌<◌, ◌≤◌, Bool, true, false, ◌&&◌, ◌||◌, not, List, [], ◌∷◌, ◌++◌, length, Option, None, Some, All, slice_index_or, slice_set, nat_lt, nat_eq, count_by, cond, if◌then◌else◌}
use Rattle.std.specs.List.{list_any}
use Rattle.std.specs.Ordering.{nat_cmp}
use Rattle.std.specs.declared.cmp.Ordering.{Ordering}
use Rattle.std.specs.declared.cmp.Reverse.{Reverse}

-- a slot: 0 for an operand that waits for no gate, or the gate's position and 1
abbrev pub slot_at : List ℕ → ℕ → ℕ
slot_at slots s = slice_index_or slots s 0

-- a slot waits for nothing once these gates are done
abbrev pub waits_for_nothing : List ℕ → List ℕ → ℕ → Bool
waits_for_nothing slots done s = nat_eq (slot_at slots s) 0 || list_any (λ g. nat_eq (slot_at slots s) (suc g)) done

-- what a gate waits for once these gates are done: the first of its slots that waits, or 0
abbrev pub awaited : List ℕ → List ℕ → ℕ → ℕ
awaited slots done j = if waits_for_nothing slots done (2 * j) then (if waits_for_nothing slots done (2 * j + 1) then 0 else slot_at slots (2 * j + 1)) else slot_at slots (2 * j)

-- a gate may be next: it is not done, and it waits for nothing
abbrev pub may_be_next : List ℕ → ℕ → List ℕ → ℕ → Bool
may_be_next slots n done j = nat_lt j n && (not (list_any (nat_eq j) done) && nat_eq (awaited slots done j) 0)

-- two slots for each of so many gates
pub record AreSlots (slots : List ℕ) (n : ℕ) : Type 0 where
  pub count : length slots ≡ 2 * n
  pub few : n ≤ 1073741824
  pub within : All (λ slot. slot ≤ n) slots

-- gates by their slots, of which file order has passed those before a bound
pub record Passed : Type 0 where
  pub slots : List ℕ
  pub gates : ℕ
  pub bound : ℕ

-- a gate is before a bound and none of those that are looked at
abbrev pub is_passed : ℕ → List ℕ → ℕ → Bool
is_passed bound away j = nat_lt j bound && not (list_any (nat_eq j) away)

-- a gate stands in the chain of another one
abbrev pub stands : List ℕ → ℕ → List ℕ → List ℕ → ℕ → ℕ → Bool
stands slots bound done away g j = is_passed bound away j && nat_eq (awaited slots done j) (suc g)

-- gates as a chain from a head, each once: a head and a link are a gate's position and 2, and below 2 is the end
abbrev pub IsChain : List ℕ → ℕ → List ℕ → Type 0
IsChain links at [] = at < 2
IsChain links at (j ∷ js) = (at ≡ j + 2) × (list_any (nat_eq j) js ≡ false) × IsChain links (slot_at links (2 * j)) js

-- the chain of each gate has those that stand in it
pub record HasChains (stand : ℕ → ℕ → Bool) (heads links : List ℕ) : Type 0 where
  pub chain : ℕ → List ℕ
  pub are : (g : ℕ) → g < length heads → IsChain links (slice_index_or heads g 0) (chain g)
  pub each : (g j : ℕ) → g < length heads → list_any (nat_eq j) (chain g) ≡ stand g j

-- the links still have the second slots of all gates, and both slots of those from a bound on
pub record KeepsSlots (slots : List ℕ) (bound : ℕ) (links : List ℕ) : Type 0 where
  pub count : length links ≡ length slots
  pub second : (j : ℕ) → slot_at links (2 * j + 1) ≡ slot_at slots (2 * j + 1)
  pub first : (j : ℕ) → bound ≤ j → slot_at links (2 * j) ≡ slot_at slots (2 * j)

-- the order of a heap of gates, of which the first one is the greatest
abbrev pub turns : Reverse ℕ → Reverse ℕ → Ordering
turns x y = nat_cmp y.0 x.0

-- 1 where a test is passed, else 0
abbrev pub one_if : Bool → ℕ
one_if test = cond test 1 0

-- how often a gate is ready: as the one that stands apart, and in a heap
abbrev pub times_ready : Option ℕ → List (Reverse ℕ) → ℕ → ℕ
times_ready None others i = count_by (λ (g : Reverse ℕ). nat_eq g.0 i) others
times_ready (Some first) others i = one_if (nat_eq first i) + count_by (λ (g : Reverse ℕ). nat_eq g.0 i) others

-- the first one is taken from those that are ready, where there is one
abbrev pub IsFirstReady : Option ℕ → (ℕ → ℕ) → (ℕ → ℕ) → Type 0
IsFirstReady None old new = (i : ℕ) → (old i ≡ 0) × (new i ≡ 0)
IsFirstReady (Some g) old new = ((i : ℕ) → new i + one_if (nat_eq g i) ≡ old i) × ((i : ℕ) → i < g → old i ≡ 0)

-- a slot names a gate whose head says that it has no place in the order
abbrev pub is_open : List ℕ → List ℕ → ℕ → Bool
is_open heads links s = not (nat_eq (slot_at links s) 0) && not (nat_eq (slice_index_or heads (slot_at links s - 1) 0) 0)

-- a gate is put in front of the chain of the gate that a slot names
pub record IsPut (j s : ℕ) (heads links heads_put links_put : List ℕ) : Type 0 where
  pub head : heads_put ≡ slice_set heads (slot_at links s - 1) (j + 2)
  pub link : links_put ≡ slice_set links (2 * j) (slice_index_or heads (slot_at links s - 1) 0)

-- a position is the first that passes a test after these
pub record IsFirst (passes : List ℕ → ℕ → Bool) (done : List ℕ) (j : ℕ) : Type 0 where
  pub ready : passes done j ≡ true
  pub first : (i : ℕ) → i < j → passes done i ≡ false

-- positions in turn: each is the first that passes after the ones before it
abbrev pub AreFirst : (List ℕ → ℕ → Bool) → List ℕ → List ℕ → Type 0
AreFirst passes done [] = Unit {0}
AreFirst passes done (j ∷ js) = IsFirst passes done j × AreFirst passes (done ++ j ∷ []) js

-- of so many numbers those of the gates that are done are 0
pub record AreDone (n : ℕ) (done : List ℕ) (heads : List ℕ) : Type 0 where
  pub count : length heads ≡ n
  pub each : (j : ℕ) → j < n → nat_eq (slice_index_or heads j 0) 0 ≡ list_any (nat_eq j) done

-- between two gates: what is done, all of it before a bound, and where each other gate before the bound stands, but for those that are looked at
pub record IsUnderway (slots : List ℕ) (n bound : ℕ) (done away heads links : List ℕ) (ready : ℕ → ℕ) : Type 0 where
  pub are : AreSlots slots n
  pub low : bound ≤ n
  pub kept : KeepsSlots slots bound links
  pub marks : AreDone n done heads
  pub chains : HasChains (stands slots bound done away) heads links
  pub has : (j : ℕ) → ready j ≡ one_if (is_passed bound away j && may_be_next slots n done j)
  pub before : (j : ℕ) → list_any (nat_eq j) done ≡ true → j < bound
  pub closed : (j : ℕ) → list_any (nat_eq j) done ≡ true → awaited slots done j ≡ 0
  pub in_turn : AreFirst (may_be_next slots n) [] done

-- a gate is next, and has left those that are ready
pub record IsTaken (slots : List ℕ) (n bound : ℕ) (done : List ℕ) (gate : ℕ) (heads links : List ℕ) (ready : ℕ → ℕ) : Type 0 where
  pub underway : IsUnderway slots n bound done (gate ∷ []) heads links ready
  pub first : IsFirst (may_be_next slots n) done gate
  pub within : gate < bound

-- all gates in turn, until none may be next
pub record IsWholeOrder (slots : List ℕ) (n : ℕ) (order : List ℕ) (heads : List ℕ) : Type 0 where
  pub in_turn : AreFirst (may_be_next slots n) [] order
  pub done : AreDone n order heads
  pub whole : (j : ℕ) → may_be_next slots n order j ≡ false
