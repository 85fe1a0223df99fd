-- Lists of numbers, one for each literal.
use Rattle.std.specs.Prelude.{◌≡◌, ℕ, ◌<◌, List, [], map, length, Contains, slice_index_or}
use Rattle.drup.specs.declared.lists.Lists.TheInside.{Inside}

abbrev pub list_at : List (List ℕ) → ℕ → List ℕ
list_at lists l = slice_index_or lists l []

-- of numbers of lists the lists
abbrev pub numbered : List ℕ → List (List ℕ) → List (List ℕ)
numbered numbers lists = map (list_at lists) numbers

-- the first list is empty, each number is one of a list, and no other list is of two literals
pub record AreNumbered (numbers : List ℕ) (lists : List (List ℕ)) : Type 0 where
  pub some : 0 < length lists
  pub none : list_at lists 0 ≡ []
  pub inside : (l : ℕ) → l < length numbers → slice_index_or numbers l 0 < length lists
  pub own : (k l : ℕ) → k < length numbers → l < length numbers → slice_index_or numbers k 0 ≡ slice_index_or numbers l 0 → 0 < slice_index_or numbers k 0 → k ≡ l

-- what contracts see of them
abbrev pub lists_of : Inside → List (List ℕ)
lists_of i = numbered i.numbers.items i.lists

abbrev pub IsLists : Inside → Type 0
IsLists i = AreNumbered i.numbers.items i.lists

-- each list has what it had
pub record IsListed (old new : List (List ℕ)) : Type 0 where
  pub kept : (l n : ℕ) → Contains (list_at old l) n → Contains (list_at new l) n
  pub as_many : length new ≡ length old
