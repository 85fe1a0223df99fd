-- What agrees where valuations do.
use Rattle.std.proofs.Common.{◌≡◌, ℕ, suc, Bool, false, ◌&&◌, not, List, [], ◌∷◌, map, All, Option, Some, None, unwrap_or, refl, ap, ap₂, arith}
use Rattle.std.specs.Prelude.{slice_get}
use Rattle.std.specs.List.{list_all}
use Rattle.std.proofs.lemmas.List.Elements.{All-head, All-tail}
use Rattle.base.specs.Literal.{Valuation, literal_value}
use Rattle.aiger.specs.Net.{variables, IsDefined}
use Rattle.aiger.specs.Circuit.{Circuit, IsCircuit, net}
use Rattle.aiger.specs.Trace.{SameCircuitFrame}
use Rattle.aiger.proofs.TraceLemmas.{literal_value-agree}
use Rattle.witness_circuits.specs.Certificate.{some_or_others, property_candidates, property_fails, bad_rises, constraints_hold}
use Rattle.witness_circuits.specs.Guards.{beside}
use Rattle.witness_circuits.specs.Tests.{claim_holds}
use Rattle.witness_circuits.specs.Made.{IsSharedIn}

-- a defined literal says the same
pub literal_same : (c : Circuit) (v w : Valuation) (l : ℕ) → SameCircuitFrame c v w → IsDefined (net c) l → literal_value v l ≡ literal_value w l
literal_same c v w l same d = literal_value-agree (suc (variables (net c))) v w l (λ k low high. same k low (omega arith)) (omega (arith, d))

literals_same : (c : Circuit) (v w : Valuation) (ls : List ℕ) → SameCircuitFrame c v w → All (IsDefined (net c)) ls → map (literal_value v) ls ≡ map (literal_value w) ls
literals_same c v w [] same all = refl
literals_same c v w (l ∷ ls) same all =
    ap₂ ◌∷◌ (literal_same c v w l same (All-head (IsDefined (net c)) l ls all)) (literals_same c v w ls same (All-tail (IsDefined (net c)) l ls all))

all_same : (c : Circuit) (v w : Valuation) (ls : List ℕ) → SameCircuitFrame c v w → All (IsDefined (net c)) ls → list_all (literal_value v) ls ≡ list_all (literal_value w) ls
all_same c v w [] same all = refl
all_same c v w (l ∷ ls) same all =
    ap₂ ◌&&◌ (literal_same c v w l same (All-head (IsDefined (net c)) l ls all)) (all_same c v w ls same (All-tail (IsDefined (net c)) l ls all))

pub constraints_same : (c : Circuit) (v w : Valuation) → IsCircuit c → SameCircuitFrame c v w → constraints_hold c v ≡ constraints_hold c w
constraints_same c v w valid same = all_same c v w c.constraints same valid.defined.constraints

pub bad_same : (c : Circuit) (k : ℕ) (v w : Valuation) → IsCircuit c → SameCircuitFrame c v w → bad_rises c k v ≡ bad_rises c k w
bad_same c k v w valid same = ap (λ (bs : List Bool). unwrap_or (slice_get bs k) false) (literals_same c v w c.bads same valid.defined.bads)

some_or_defined : (c : Circuit) (bads outputs : List ℕ) → All (IsDefined (net c)) bads → All (IsDefined (net c)) outputs → All (IsDefined (net c)) (some_or_others bads outputs)
some_or_defined c [] outputs a b = b
some_or_defined c (l ∷ ls) outputs a b = a

-- the literals of a property are defined
pub property_defined : (c : Circuit) → IsCircuit c → All (IsDefined (net c)) (property_candidates c)
property_defined c valid = some_or_defined c c.bads c.outputs valid.defined.bads valid.defined.outputs

property_same : (c : Circuit) (v w : Valuation) → IsCircuit c → SameCircuitFrame c v w → property_fails c v ≡ property_fails c w
property_same c v w valid same = ap (λ (bs : List Bool). unwrap_or (slice_get bs 0) false) (literals_same c v w (property_candidates c) same (property_defined c valid))

pub holds_same : (c : Circuit) (v w : Valuation) → IsCircuit c → SameCircuitFrame c v w → claim_holds c v ≡ claim_holds c w
holds_same c v w valid same = ap₂ (λ (a b : Bool). a && not b) (constraints_same c v w valid same) (property_same c v w valid same)

-- what stands beside agreeing valuations is the same
pub beside_same : (c : Circuit) (v w : Valuation) (ms : List (Option ℕ)) (bs : List Bool) → SameCircuitFrame c v w → All (IsSharedIn (net c)) ms → beside v ms bs ≡ beside w ms bs
beside_same c v w [] bs same all = refl
beside_same c v w (m ∷ ms) [] same all = refl
beside_same c v w (None ∷ ms) (b ∷ bs) same all = ap (λ (rest : List Bool). b ∷ rest) (beside_same c v w ms bs same (All-tail (IsSharedIn (net c)) None ms all))
beside_same c v w (Some l ∷ ms) (b ∷ bs) same all =
    ap₂ ◌∷◌ (literal_same c v w l same (All-head (IsSharedIn (net c)) (Some l) ms all)) (beside_same c v w ms bs same (All-tail (IsSharedIn (net c)) (Some l) ms all))

-- what stands beside stands beside again
pub beside_again : (v : Valuation) (ms : List (Option ℕ)) (bs : List Bool) → beside v ms (beside v ms bs) ≡ beside v ms bs
beside_again v [] bs = refl
beside_again v (m ∷ ms) [] = refl
beside_again v (None ∷ ms) (b ∷ bs) = ap (λ (rest : List Bool). b ∷ rest) (beside_again v ms bs)
beside_again v (Some l ∷ ms) (b ∷ bs) = ap (λ (rest : List Bool). literal_value v l ∷ rest) (beside_again v ms bs)
