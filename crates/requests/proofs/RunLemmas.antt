-- What was made for a name, as data.
use Rattle.std.proofs.Common.{ℕ, Bool, List, Option, Some, None}
use Rattle.std.specs.Prelude.{option_map}
use Rattle.commands.specs.Results.{HasItsName, WritesTo}
use Rattle.requests.specs.Runs.{Made}

abbrev pub made_of : {R : Type 0} → (R → Option (List ℕ)) → (R → Option (List ℕ)) → (R → Bool) → R → Made
made_of written name is_given r = record { written = written r; name = name r; is_given = is_given r }

-- the same where something may have been made
abbrev pub made : {R : Type 0} → Option R → (R → Option (List ℕ)) → (R → Option (List ℕ)) → (R → Bool) → Option Made
made r written name is_given = option_map (made_of written name is_given) r

pub named_made : {R : Type 0} (r : Option R) (written name : R → Option (List ℕ)) (is_given : R → Bool) (output : Option (List ℕ)) (status : ℕ) → HasItsName name is_given output status r
    → HasItsName (λ (m : Made). m.name) (λ (m : Made). m.is_given) output status (made r written name is_given)
named_made None written name is_given output status h = h
named_made (Some r) written name is_given output status h = h

pub writes_made : {R : Type 0} (r : Option R) (written name : R → Option (List ℕ)) (is_given : R → Bool) (before now : Option (List ℕ)) (P : Option (List ℕ) → Option (List ℕ) → Type 0) → WritesTo written r before now P
    → WritesTo (λ (m : Made). m.written) (made r written name is_given) before now P
writes_made None written name is_given before now P h = h
writes_made (Some r) written name is_given before now P h = h
