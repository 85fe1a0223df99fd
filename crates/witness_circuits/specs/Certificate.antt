-- Witness circuits as certificates that a bad property of a circuit never rises ("Certifaiger", and the certificates of the hardware model checking competition
-- from 2024 on): another circuit, with a property of its own that an induction over one step shows, some of whose inputs and latches stand for literals of the first.
use Rattle.std.specs.Prelude.{◌≡◌, ℕ, Bool, true, false, List, [], ◌∷◌, map, slice_get, unwrap_or, Option, None, Some}
use Rattle.std.specs.List.{list_all, AllZip}
use Rattle.aiger.specs.declared.circuit.Latch.{Latch}
use Rattle.base.specs.Literal.{Valuation, literal_value}
use Rattle.aiger.specs.Net.{Satisfies, net_input_bits, latch_bits}
use Rattle.aiger.specs.Circuit.{Circuit, IsCircuit, net}
use Rattle.aiger.specs.Trace.{next_latch_bits, AgreesWithReset, AreInitial}
use Rattle.witness_circuits.specs.Mapping.{Mapping, IsMappingOf}

-- ---- what a valuation says

-- all constraints hold
abbrev pub constraints_hold : Circuit → Valuation → Bool
constraints_hold c v = list_all (literal_value v) c.constraints

-- the bad property with a number rises; one that is not there does not
abbrev pub bad_rises : Circuit → ℕ → Valuation → Bool
bad_rises c k v = unwrap_or (slice_get (map (literal_value v) c.bads) k) false

-- some literals, and where there are none others
abbrev pub some_or_others : List ℕ → List ℕ → List ℕ
some_or_others [] others = others
some_or_others (l ∷ ls) others = l ∷ ls

-- the literals of which the first is true where the property of a witness circuit fails: its bad properties, and where it has none its outputs
abbrev pub property_candidates : Circuit → List ℕ
property_candidates w = some_or_others w.bads w.outputs

-- the property of a witness circuit fails
abbrev pub property_fails : Circuit → Valuation → Bool
property_fails w x = unwrap_or (slice_get (map (literal_value x) (property_candidates w)) 0) false

-- it satisfies the gates, and the constraints hold
pub record MeetsConstraints (c : Circuit) (v : Valuation) : Type 0 where
  pub gates : Satisfies (net c) v
  pub constraints : constraints_hold c v ≡ true

-- its latches agree with their resets
abbrev pub BeginsAtResets : Circuit → Valuation → Type 0
BeginsAtResets c v = AreInitial c.latches (latch_bits (net c) v)

-- one is the next of another: its latches have the bits of the next literals
abbrev pub IsNext : Circuit → Valuation → Valuation → Type 0
IsNext c v next = latch_bits (net c) next ≡ next_latch_bits c v

-- ---- what is shared

-- a bit is that of what it stands for in a valuation of the circuit; one that stands for nothing may be any
abbrev pub AgreesWithShared : Valuation → Option ℕ → Bool → Type 0
AgreesWithShared v None b = Unit {0}
AgreesWithShared v (Some l) b = b ≡ literal_value v l

-- a valuation of the circuit and one of the witness circuit agree in what is shared
pub record AgreeInShared (w : Circuit) (m : Mapping) (v x : Valuation) : Type 0 where
  pub inputs : AllZip (AgreesWithShared v) m.inputs (net_input_bits (net w) x)
  pub latches : AllZip (AgreesWithShared v) m.latches (latch_bits (net w) x)

-- what a latch stands for agrees with its reset; where it stands for nothing, it does
abbrev pub SharedAgreesWithReset : Valuation → Latch → Option ℕ → Type 0
SharedAgreesWithReset v latch None = Unit {0}
SharedAgreesWithReset v latch (Some l) = AgreesWithReset latch.reset (literal_value v l)

-- ---- the five checks

-- the shared latches of a witness circuit begin as their resets say, and its constraints hold
pub record SharedBegin (w : Circuit) (m : Mapping) (v x : Valuation) : Type 0 where
  pub resets : AllZip (SharedAgreesWithReset v) w.latches m.latches
  pub constraints : constraints_hold w x ≡ true

-- the shared latches of a witness circuit, of which one valuation goes with the next one of the circuit, take what they stand for there, and its constraints hold in the next
pub record SharedGoOn (w : Circuit) (m : Mapping) (x next_v next_x : Valuation) : Type 0 where
  pub taken : AllZip (AgreesWithShared next_v) m.latches (next_latch_bits w x)
  pub constraints : constraints_hold w next_x ≡ true

-- a witness circuit certifies a bad property of a circuit. More is accepted than the standard does, never less: in `reset` and `transition` all latches of the circuit
-- begin and go on, and not only those that are shared, which is the same where all are
pub record IsCertificate (c : Circuit) (k : ℕ) (w : Circuit) (m : Mapping) : Type 0 where
  pub circuit : IsCircuit w
  pub mapping : IsMappingOf w m
  pub reset : (v x : Valuation) → MeetsConstraints c v → BeginsAtResets c v → Satisfies (net w) x → AgreeInShared w m v x → SharedBegin w m v x
  pub transition : (v next_v x next_x : Valuation) → MeetsConstraints c v → MeetsConstraints c next_v → IsNext c v next_v → MeetsConstraints w x → AgreeInShared w m v x
      → Satisfies (net w) next_x → AgreeInShared w m next_v next_x → SharedGoOn w m x next_v next_x
  pub property : (v x : Valuation) → MeetsConstraints c v → MeetsConstraints w x → AgreeInShared w m v x → property_fails w x ≡ false → bad_rises c k v ≡ false
  pub base : (x : Valuation) → MeetsConstraints w x → BeginsAtResets w x → property_fails w x ≡ false
  pub step : (x next_x : Valuation) → MeetsConstraints w x → MeetsConstraints w next_x → IsNext w x next_x → property_fails w x ≡ false → property_fails w next_x ≡ false
