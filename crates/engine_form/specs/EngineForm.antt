-- The engine form of a circuit (this project's form, over the traces of "AIGER 1.9 and Beyond"): every latch begins with 0, and there are bad properties alone.
use Rattle.std.specs.Prelude.{◌≡◌, ℕ, zero, suc, ◌+◌, ◌*◌, ◌≤◌, Bool, true, false, ◌&&◌, not, List, [], ◌∷◌, ◌++◌, length, map, replicate, take, drop, slice_get, unwrap_or, max, min, nat_lt, Option, None, Some}
use Rattle.std.specs.List.{list_all, sum_by}
use Rattle.aiger.specs.declared.circuit.Latch.{Latch}
use Rattle.aiger.specs.declared.circuit.Reset.{Reset}
use Rattle.aiger.specs.declared.circuit.Reset.TheVariants.{Zero, One, Free}
use Rattle.base.specs.Literal.{Valuation, literal_value}
use Rattle.aiger.specs.Net.{latch_bits}
use Rattle.aiger.specs.Circuit.{Circuit, IsCircuit, net}
use Rattle.aiger.specs.Trace.{IsCircuitTrace}

-- how many bits a latch's beginning takes from the inputs: one where it has no initial value
abbrev pub taken_bits : Reset → ℕ
taken_bits Zero = 0
taken_bits One = 0
taken_bits Free = 1

-- how many latches have no initial value
abbrev pub free_count : List Latch → ℕ
free_count ls = sum_by (λ latch. taken_bits latch.reset) ls

-- how a latch begins, where these bits are given to it and the latches behind it
abbrev pub first_bit : Reset → List Bool → Bool
first_bit Zero given = false
first_bit One given = true
first_bit Free given = unwrap_or (slice_get given 0) false

-- how latches begin: at their resets, and each without an initial value at the next of the bits that are given
abbrev pub first_bits : List Latch → List Bool → List Bool
first_bits [] given = []
first_bits (latch ∷ more) given = first_bit latch.reset given ∷ first_bits more (drop (taken_bits latch.reset) given)

-- how a circuit begins under the input frames of its engine form: by the bits behind its own inputs in the first of them
abbrev pub begins : Circuit → List (List Bool) → List Bool
begins c [] = first_bits c.latches []
begins c (given ∷ more) = first_bits c.latches (drop c.inputs given)

-- what is kept of a latch's bit in a frame, which is the first or a later one: its negation where the latch begins with 1, and where it has no initial value nothing in the first frame
abbrev pub kept_bit : Bool → Reset → Bool → Bool
kept_bit first Zero b = b
kept_bit first One b = not b
kept_bit first Free b = not first && b

-- what is kept of the bits of latches
abbrev pub kept_bits : Bool → List Latch → List Bool → List Bool
kept_bits first [] bs = []
kept_bits first (latch ∷ more) [] = []
kept_bits first (latch ∷ more) (b ∷ bs) = kept_bit first latch.reset b ∷ kept_bits first more bs

-- a thing that is there where there is something to count
abbrev pub where_some : {A : Type 0} → ℕ → A → List A
where_some zero x = []
where_some (suc n) x = x ∷ []

-- some things, and where there are none another one
abbrev pub or_one : {A : Type 0} → A → List A → List A
or_one x [] = x ∷ []
or_one x (y ∷ ys) = y ∷ ys

-- what an engine form has for each of its latches: what it has for the circuit's, then one where a latch has no initial value, then one where there is a constraint; and where that is nothing one other thing
abbrev pub with_own : {A : Type 0} → Circuit → A → List A → A → A → List A
with_own c none kept started broken = or_one none (kept ++ where_some (free_count c.latches) started ++ where_some (length c.constraints) broken)

-- the latches' bits of an engine form in a frame: those kept of the circuit's latches, then one that is 0 in the first frame alone, then one that says that a constraint was 0 in an earlier frame; `met` says that none was. Where there would be none, one that stays 0
abbrev pub engine_bits : Circuit → Bool → Bool → List Bool → List Bool
engine_bits c first met state = with_own c false (kept_bits first c.latches state) (not first) (not met)

-- how many inputs an engine form has: those of the circuit and one for each latch without an initial value, and one at least
abbrev pub input_count : Circuit → ℕ
input_count c = max 1 (c.inputs + free_count c.latches)

-- how many latches it has: those of the circuit, one where a latch has no initial value, one where there is a constraint, and one at least
abbrev pub latch_count : Circuit → ℕ
latch_count c = max 1 (length c.latches + min 1 (free_count c.latches) + min 1 (length c.constraints))

-- the gates at most: those of the circuit, three for each latch without an initial value, one for each constraint and each bad property
abbrev pub engine_cost : Circuit → ℕ
engine_cost c = length c.gates + 3 * free_count c.latches + length c.constraints + length c.bads

-- the bad properties that are kept: all of them, or the chosen one alone
abbrev pub chosen : Option ℕ → List ℕ → List ℕ
chosen None bads = bads
chosen (Some k) bads = take 1 (drop k bads)

-- whether the chosen property, if one is chosen, is there
abbrev pub has_chosen : Option ℕ → List ℕ → Bool
has_chosen None bads = true
has_chosen (Some k) bads = nat_lt k (length bads)

-- whether all constraints of a circuit hold in a frame
abbrev pub all_hold : Circuit → Valuation → Bool
all_hold c v = list_all (literal_value v) c.constraints

-- a frame of a circuit and one of its engine form go together; `met` says that all constraints held in the frames before
pub record GoesTogether (c : Circuit) (choice : Option ℕ) (d : Circuit) (first met : Bool) (v w : Valuation) : Type 0 where
  pub latches : latch_bits (net d) w ≡ engine_bits c first met (latch_bits (net c) v)
  pub bads : map (literal_value w) d.bads ≡ map (λ l. literal_value v l && (met && all_hold c v)) (chosen choice c.bads)

-- two traces are as long, and go together in each frame
abbrev pub GoTogether : Circuit → Option ℕ → Circuit → Bool → Bool → List Valuation → List Valuation → Type 0
GoTogether c choice d first met [] [] = Unit {0}
GoTogether c choice d first met [] (w ∷ ws) = ⊥
GoTogether c choice d first met (v ∷ vs) [] = ⊥
GoTogether c choice d first met (v ∷ vs) (w ∷ ws) = GoesTogether c choice d first met v w × GoTogether c choice d false (met && all_hold c v) vs ws

-- a circuit is the engine form of another one, with all its bad properties or a chosen one
pub record IsEngineFormOf (c : Circuit) (choice : Option ℕ) (d : Circuit) : Type 0 where
  -- both are circuits; that of which it is the form has no justice and no fairness, and has the chosen property
  pub original : IsCircuit c
  pub no_justice_before : c.justice ≡ []
  pub no_fair_before : c.fair ≡ []
  pub has_bad : has_chosen choice c.bads ≡ true
  pub circuit : IsCircuit d
  -- its inputs are those of the circuit, then one for each latch without an initial value; every latch begins with 0
  pub inputs : d.inputs ≡ input_count c
  pub resets : map (λ latch. latch.reset) d.latches ≡ replicate (latch_count c) Zero
  -- there are bad properties alone, and no names
  pub no_outputs : d.outputs ≡ []
  pub no_constraints : d.constraints ≡ []
  pub no_justice : d.justice ≡ []
  pub no_fair : d.fair ≡ []
  pub no_names : d.names ≡ []
  -- there are at most the stated number of gates
  pub few_gates : length d.gates ≤ engine_cost c
  -- under all input frames, its trace and that of the circuit from the bits that the first frame gives go together
  pub frames : (given : List (List Bool)) (vs ws : List Valuation)
      → IsCircuitTrace c (begins c given) (map (take c.inputs) given) vs → IsCircuitTrace d (replicate (length d.latches) false) given ws
      → GoTogether c choice d true true vs ws
