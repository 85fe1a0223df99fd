-- What the literals that stand for a circuit's variables say in a valuation of its engine form's gates.
use Rattle.std.specs.Prelude.{◌≡◌, ℕ, zero, suc, Option, ◌+◌, ◌*◌, ◌≤◌, nat_lt, Bool, ◌&&◌, not, List, [], ◌∷◌, length, map, All, slice_index, if◌then◌else◌}
use Rattle.std.specs.List.{list_all}
use Rattle.aiger.specs.declared.circuit.Latch.{Latch}
use Rattle.aiger.specs.declared.circuit.Reset.{Reset}
use Rattle.aiger.specs.declared.circuit.Reset.TheVariants.{Zero, One, Free}
use Rattle.base.specs.Literal.{Valuation, negation, literal_value}
use Rattle.aiger.specs.Net.{Net, variables, IsDefined, Satisfies, bits_from}
use Rattle.aiger.specs.Circuit.{Circuit, net, fresh_latch}
use Rattle.gates.specs.Made.{Grows}
use Rattle.gates.specs.Reads.{read, literal_in}
use Rattle.engine_form.specs.declared.sizes.Sizes.{Sizes}
use Rattle.engine_form.specs.EngineForm.{taken_bits, free_count, with_own, input_count, latch_count, engine_cost, chosen}

-- the bit of a latch of the circuit, from what is kept of it, the bit that is given to it, and whether the first frame is over
abbrev pub latch_value : Reset → Bool → Bool → Bool → Bool
latch_value Zero own input started = own
latch_value One own input started = not own
latch_value Free own input started = if started then own else input

-- the bits of latches, whose kept bits and given bits stand from two variables on
abbrev pub read_latches : List Latch → ℕ → ℕ → Bool → Valuation → List Bool
read_latches [] own input started w = []
read_latches (l ∷ ls) own input started w = latch_value l.reset (w own) (w input) started ∷ read_latches ls (suc own) (input + taken_bits l.reset) started w

-- literals that stand for latches
pub record LatchLiteralsRead (old new : Net) (most : ℕ) (latches : List Latch) (own input started : ℕ) (more : List ℕ) : Type 0 where
  pub grows : Grows old new most
  pub defined : All (IsDefined new) more
  pub many : length more ≡ length latches
  pub bits : (w : Valuation) → Satisfies new w → map (literal_value w) more ≡ read_latches latches own input (literal_value w started) w

-- literals that are true where those of bad properties are and another one is
pub record BadLiteralsRead (old new : Net) (table bads : List ℕ) (met : ℕ) (literals : List ℕ) : Type 0 where
  pub grows : Grows old new (length bads)
  pub many : length literals ≡ length bads
  pub defined : All (IsDefined new) literals
  pub bits : (w : Valuation) → Satisfies new w → map (literal_value w) literals ≡ map (λ l. literal_value w (literal_in table l) && literal_value w met) bads

-- the literal that a latch of the form takes for one of the circuit, which takes the first one
abbrev pub kept_literal : Reset → ℕ → ℕ
kept_literal Zero l = l
kept_literal One l = negation l
kept_literal Free l = l

-- the latch that stands for a latch of the circuit
abbrev pub kept_latch : List ℕ → Latch → Latch
kept_latch table latch = record { next = kept_literal latch.reset (literal_in table latch.next); reset = Zero }

-- the latches of the form: those kept, one that takes true, one that takes what says that a constraint was 0; or one that stays 0
abbrev pub form_latches : Circuit → List ℕ → ℕ → List Latch
form_latches c table met = with_own c fresh_latch (map (kept_latch table) c.latches) (record { next = 1; reset = Zero }) (record { next = negation met; reset = Zero })

-- how large an engine form is, and which latches of its own it has
abbrev pub sizes_of : Circuit → Sizes
sizes_of c =
    record {
      inputs = input_count c;
      latches = latch_count c;
      has_free = nat_lt 0 (free_count c.latches);
      has_constraint = nat_lt 0 (length c.constraints);
    }

-- a literal where there is something to count, and else true
abbrev pub literal_where : ℕ → ℕ → ℕ
literal_where zero l = 1
literal_where (suc n) l = l

-- the literal that says that the first frame is over: the latch behind those that stand for the circuit's
abbrev pub started_literal : Circuit → ℕ
started_literal c = literal_where (free_count c.latches) (2 * (suc (input_count c) + length c.latches))

-- the literal that says that no constraint was 0 in an earlier frame: the negation of the last latch
abbrev pub before_literal : Circuit → ℕ
before_literal c = literal_where (length c.constraints) (negation (2 * (input_count c + latch_count c)))

-- literals that stand for all variables of a circuit
pub record TableRead (c : Circuit) (started : ℕ) (old new : Net) (table : List ℕ) : Type 0 where
  pub grows : Grows old new (length c.gates + 3 * free_count c.latches)
  pub zero_is : slice_index table 0 ≡ 0
  pub many : length table ≡ suc (variables (net c))
  pub defined : All (IsDefined new) table
  pub input_bits : (w : Valuation) → bits_from 1 c.inputs (read table w) ≡ bits_from 1 c.inputs w
  pub latch_bits : (w : Valuation) → Satisfies new w → bits_from (suc c.inputs) (length c.latches) (read table w) ≡ read_latches c.latches (suc old.inputs) (suc c.inputs) (literal_value w started) w
  pub gates : (w : Valuation) → Satisfies new w → Satisfies (net c) (read table w)

-- the inputs and latches of an engine form, before a gate is made
abbrev pub bare_net : Circuit → Net
bare_net c = record { inputs = input_count c; latches = latch_count c; gates = [] }

-- literals for "all constraints held so far", of which one says it of the frames before, and for the bad properties
pub record PropertiesRead (c : Circuit) (choice : Option ℕ) (before : ℕ) (old new : Net) (table : List ℕ) (met : ℕ) (bads : List ℕ) : Type 0 where
  pub grows : Grows old new (length c.constraints + length c.bads)
  pub met_defined : IsDefined new met
  pub bads_defined : All (IsDefined new) bads
  pub few_bads : length bads ≤ length c.bads
  pub met_is : (w : Valuation) → Satisfies new w → literal_value w met ≡ (literal_value w before && list_all (λ l. literal_value w (literal_in table l)) c.constraints)
  pub bads_are : (w : Valuation) → Satisfies new w → map (literal_value w) bads ≡ map (λ l. literal_value w (literal_in table l) && literal_value w met) (chosen choice c.bads)

-- what the gates of an engine form say: literals for the circuit's variables, one for "all constraints held so far", and those of the bad properties
pub record FormMade (c : Circuit) (choice : Option ℕ) (n : Net) (table : List ℕ) (met : ℕ) (bads : List ℕ) : Type 0 where
  pub inputs : n.inputs ≡ input_count c
  pub latches : n.latches ≡ latch_count c
  pub few_gates : length n.gates ≤ engine_cost c
  pub many : length table ≡ suc (variables (net c))
  pub table_defined : All (IsDefined n) table
  pub met_defined : IsDefined n met
  pub bads_defined : All (IsDefined n) bads
  pub few_bads : length bads ≤ length c.bads
  pub zero_is : slice_index table 0 ≡ 0
  pub input_bits : (w : Valuation) → bits_from 1 c.inputs (read table w) ≡ bits_from 1 c.inputs w
  pub latch_bits : (w : Valuation) → Satisfies n w → bits_from (suc c.inputs) (length c.latches) (read table w) ≡ read_latches c.latches (suc n.inputs) (suc c.inputs) (literal_value w (started_literal c)) w
  pub gates : (w : Valuation) → Satisfies n w → Satisfies (net c) (read table w)
  pub met_is : (w : Valuation) → Satisfies n w → literal_value w met ≡ (literal_value w (before_literal c) && list_all (λ l. literal_value w (literal_in table l)) c.constraints)
  pub bads_are : (w : Valuation) → Satisfies n w → map (literal_value w) bads ≡ map (λ l. literal_value w (literal_in table l) && literal_value w met) (chosen choice c.bads)
