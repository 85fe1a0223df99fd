use Rattle.std.proofs.Common.{◌≡◌, Bool, true, false, None, Some, Ok, Option, refl, if◌then◌else◌}
use Rattle.std.specs.Prelude.{is_some, nat_le}
use Rattle.std.proofs.lemmas.Bool.{leb-false}
use Rattle.aiger.specs.declared.fault.CircuitFault.{CircuitFault}
use Rattle.aiger.specs.declared.fault.CircuitFault.TheVariants.{NoSuchPosition, NameTaken, BadName}
use Rattle.aiger.specs.Net.{IsDefined}
use Rattle.aiger.specs.Circuit.{rank, with_name, with_name_in, net, section_count, name_of, is_name}
use Rattle.aiger.proofs.CircuitLemmas.{IsCircuit-kept, are_kept, kept_name}
use Rattle.aiger.proofs.NameLemmas.{IsName-from_test}
use Rattle.aiger.proofs.PlacedNameLemmas.{sorted-insert_entry}
use Rattle.aiger.proofs.laws.circuit_with_a_name.Goals as goal

-- what a name is that is not refused
taken : (a b c : Bool) → ◌≡◌ {A = Option CircuitFault} (if a then Some NoSuchPosition else (if b then Some NameTaken else (if c then None else Some BadName))) None → (a ≡ false) × (c ≡ true)
taken true b c e = absurd cc
taken false true c e = absurd cc
taken false false true e = (refl, refl)
taken false false false e = absurd cc

pub returns : goal.returns
returns x = λ c s k name valid accepted.
    let t = taken (nat_le (section_count s c) k) (is_some (name_of c s k)) (is_name name) accepted in
    IsCircuit-kept c (with_name c s k name) valid refl
    (kept_name (IsDefined (net c)) c s k name (with_name_in c.names s k name) (Ok tt) refl (are_kept c valid) (leb-false (section_count s c) k t.0) (IsName-from_test name t.1) (sorted-insert_entry (rank s, k) name c.names valid.names.sorted) tt)
