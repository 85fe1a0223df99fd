-- Where the result of a command goes (this project's).
use Rattle.std.specs.Prelude.{◌≡◌, ◌≤◌, ℕ, Bool, true, false, List, [], Option, None, Some, IfSome}

-- what is so of what was written before and is now: on standard output, where nothing was made for a name; else in what was made, in which nothing was before
abbrev pub WritesTo : {R : Type 0} → (R → Option (List ℕ)) → Option R → Option (List ℕ) → Option (List ℕ) → (Option (List ℕ) → Option (List ℕ) → Type 0) → Type 0
WritesTo written None before now P = P before now
WritesTo written (Some made) before now P = (begun : Option (List ℕ)) × (IfSome begun (λ bytes. bytes ≡ []) × P begun (written made))

-- a result has the name that it was to get, exactly where a command is done: it is made where there is such a name, and where there is none it stands on standard output
abbrev pub HasItsName : {R : Type 0} → (R → Option (List ℕ)) → (R → Bool) → Option (List ℕ) → ℕ → Option R → Type 0
HasItsName name is_given output status None = status ≤ 1 → output ≡ None
HasItsName name is_given output status (Some made) = (name made ≡ output) × ((status ≤ 1 → is_given made ≡ true) × (¬ (status ≤ 1) → is_given made ≡ false))
