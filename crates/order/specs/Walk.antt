-- What holds while numbers are walked over, from each to what it needs.
use Rattle.std.specs.Prelude.{◌≡◌, ℕ, ◌+◌, ◌-◌, ◌≤◌, ◌==◌, List, [], ◌∷◌, Option, Some, None, length, slice_get, count_by, take, Contains}
use Rattle.std.specs.List.{AllByRecursion}
use Rattle.order.specs.declared.walk.Progress.{Progress}
use Rattle.order.specs.declared.walk.Progress.TheVariants.{New, Started, Done}
use Rattle.order.specs.Orders.{needs_of, StandBehind}

-- how often a number stands on the stack, and in the order, by how far it is
abbrev pub started_of : Option Progress → ℕ
started_of None = 0
started_of (Some New) = 0
started_of (Some (Started place)) = 1
started_of (Some Done) = 0

abbrev pub done_of : Option Progress → ℕ
done_of None = 0
done_of (Some New) = 0
done_of (Some (Started place)) = 0
done_of (Some Done) = 1

-- each of a list needs the next one
abbrev pub IsChain : List (List ℕ) → List ℕ → Type 0
IsChain needs [] = Unit {0}
IsChain needs (k ∷ []) = Unit {0}
IsChain needs (k ∷ next ∷ more) = Contains (needs_of needs k) next × IsChain needs (next ∷ more)

-- A walk is under way: the numbers that are started stand on the stack, those that are done in the order, and each once. Each on the stack needs the next one; of the needs of
-- a number that is started, those that were looked at stand in the order.
pub record IsUnderway (needs : List (List ℕ)) (progress : List Progress) (stack order : List ℕ) : Type 0 where
  pub as_many : length progress ≡ length needs
  pub on_stack : (k : ℕ) → count_by (λ x. x == k) stack ≡ started_of (slice_get progress k)
  pub in_order : (k : ℕ) → count_by (λ x. x == k) order ≡ done_of (slice_get progress k)
  pub chain : IsChain needs stack
  pub looked : (k place : ℕ) → slice_get progress k ≡ Some (Started place) → (place ≤ length (needs_of needs k)) × AllByRecursion (Contains order) (take place (needs_of needs k))
  pub behind : StandBehind needs order

-- no number has become new
abbrev pub NoneBecomesNew : List Progress → List Progress → Type 0
NoneBecomesNew old new = (k : ℕ) → slice_get new k ≡ Some New → slice_get old k ≡ Some New

-- how many steps a walk has left at most: for a number with so many needs, and in all
abbrev pub steps_left : ℕ → Progress → ℕ
steps_left count New = count + 2
steps_left count (Started place) = count - place + 1
steps_left count Done = 0

abbrev pub all_steps_left : List (List ℕ) → List Progress → ℕ
all_steps_left [] progress = 0
all_steps_left (row ∷ needs) [] = 0
all_steps_left (row ∷ needs) (p ∷ progress) = steps_left (length row) p + all_steps_left needs progress
