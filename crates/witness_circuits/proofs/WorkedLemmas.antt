-- The circuits of the worked rows.
use Rattle.std.proofs.Common.{◌≡◌, ◌≤◌, All, subst, Bool, List, [], ◌∷◌, Some, sym}
use Rattle.std.specs.Map.{keys_of}
use Rattle.std.specs.List.Sorted.{IsStrictlySortedBy}
use Rattle.std.proofs.lemmas.List.Elements.{All-nil}
use Rattle.base.specs.Literal.{Valuation}
use Rattle.aiger.specs.Limits.{greatest_count}
use Rattle.aiger.specs.Net.{variables, AreOrdered}
use Rattle.aiger.specs.Circuit.{Circuit, IsCircuit, HasFew, HasDefined, IsNamed, NameMap, place_cmp, net}
use Rattle.witness_circuits.specs.Worked.{watcher, output_watcher, watched_latch}
use Rattle.witness_circuits.specs.Guards.{IsBeside, beside}

-- a circuit without names, from the rest of what it keeps
pub plain_circuit : (c : Circuit) → variables (net c) ≤ greatest_count → HasFew c → AreOrdered (net c) → HasDefined (net c) c → c.names ≡ [] → IsCircuit c
unfolding IsStrictlySortedBy
plain_circuit c small few ordered defined none =
    record {
      small = small;
      few = few;
      ordered = ordered;
      defined = defined;
      names = record { sorted = subst (λ (m : NameMap). IsStrictlySortedBy place_cmp (keys_of m)) (sym none) tt; named = subst (All (IsNamed c)) (sym none) (All-nil (IsNamed c)) };
    }

-- the watcher sees the latch
seen_in : (v : Valuation) (b : Bool) (given : List Bool) → b ∷ [] ≡ beside v (Some 2 ∷ []) given → b ≡ v 1
seen_in v b [] e = absurd (cc)
seen_in v b (g ∷ gs) e = cc

pub seen : (v x : Valuation) (own : List Bool) → IsBeside watcher watched_latch v own x → x 1 ≡ v 1
seen v x own b = seen_in v (x 1) b.given b.frame.inputs

pub output_seen : (v x : Valuation) (own : List Bool) → IsBeside output_watcher watched_latch v own x → x 1 ≡ v 1
output_seen v x own b = seen_in v (x 1) b.given b.frame.inputs
