-- What is shared is of the circuit, where the names say so.
use Rattle.std.proofs.Common.{◌≡◌, ℕ, zero, suc, ◌+◌, ◌*◌, ◌≤◌, ◌<◌, Bool, true, false, List, [], ◌∷◌, length, map, All, Option, None, Some, nat_lt, if◌then◌else◌, refl, arith}
use Rattle.std.specs.List.{list_all, range_with_len}
use Rattle.std.proofs.lemmas.Bool.{and_parts}
use Rattle.std.proofs.lemmas.Bool.Decides.{nat_tests}
use Rattle.std.proofs.lemmas.List.Elements.{All-nil, All-cons}
use Rattle.aiger.specs.Net.{Net, variables}
use Rattle.aiger.specs.Circuit.{Circuit, net}
use Rattle.witness_circuits.specs.Mapping.{Mapping, said_by_names, says_some, is_inside, are_inside, in_place, in_order, mapping_of}
use Rattle.witness_circuits.specs.Made.{IsSharedIn}

one_inside : (n : Net) (m : Option ℕ) → is_inside (variables n) m ≡ true → IsSharedIn n m
one_inside n None e = tt
one_inside n (Some l) e = grind (arith, nat_tests)

all_inside : (n : Net) (ms : List (Option ℕ)) → list_all (is_inside (variables n)) ms ≡ true → All (IsSharedIn n) ms
all_inside n [] e = All-nil (IsSharedIn n)
all_inside n (m ∷ ms) e =
    let both = and_parts (is_inside (variables n) m) (list_all (is_inside (variables n)) ms) e in
    All-cons (IsSharedIn n) m ms (one_inside n m both.0) (all_inside n ms both.1)

place_inside : (n : Net) (first count k : ℕ) → first + count ≤ suc (variables n) → IsSharedIn n (in_place first count k)
place_inside n first count k h = by (nat_lt k count) refl
  where
    by : (b : Bool) → nat_lt k count ≡ b → IsSharedIn n (if b then Some (2 * (first + k)) else None)
    by true e = let low : k < count = grind (arith, nat_tests) in omega arith
    by false e = tt

order_inside : (n : Net) (first count a all : ℕ) → first + count ≤ suc (variables n) → All (IsSharedIn n) (map (in_place first count) (range_with_len a all))
order_inside n first count a zero h = All-nil (IsSharedIn n)
order_inside n first count a (suc all) h =
    All-cons (IsSharedIn n) (in_place first count a) (map (in_place first count) (range_with_len (a + 1) all)) (place_inside n first count a h) (order_inside n first count (a + 1) all h)

-- what is shared is of the circuit
pub record AreShared (c : Circuit) (m : Mapping) : Type 0 where
  pub inputs : All (IsSharedIn (net c)) m.inputs
  pub latches : All (IsSharedIn (net c)) m.latches

pub mapping_inside : (n : Option (List ℕ)) (c w : Circuit) → are_inside c (said_by_names n w) ≡ true → AreShared c (mapping_of n c w)
mapping_inside n c w e = by (says_some (said_by_names n w))
  where
    other : Mapping
    other = record { inputs = in_order 1 c.inputs w.inputs; latches = in_order (suc c.inputs) (length c.latches) (length w.latches) }

    by : (b : Bool) → AreShared c (if b then said_by_names n w else other)
    by true =
        let both = and_parts (list_all (is_inside (variables (net c))) (said_by_names n w).inputs) (list_all (is_inside (variables (net c))) (said_by_names n w).latches) e in
        record { inputs = all_inside (net c) (said_by_names n w).inputs both.0; latches = all_inside (net c) (said_by_names n w).latches both.1 }
    by false =
        record {
          inputs = order_inside (net c) 1 c.inputs 0 w.inputs (omega arith);
          latches = order_inside (net c) (suc c.inputs) (length c.latches) 0 (length w.latches) (omega arith);
        }
