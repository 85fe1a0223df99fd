-- What literals beside a circuit, and those of what latches take, say.
use Rattle.std.proofs.Common.{◌≡◌, ℕ, suc, ◌<◌, Bool, ◌&&◌, List, [], ◌∷◌, length, map, get_or, All, Option, None, Some, refl, ap, ap₂, ◌∙◌, arith}
use Rattle.std.proofs.lemmas.List.Elements.{All-head, All-tail, All-nil, All-cons, All-weaker}
use Rattle.aiger.specs.declared.circuit.Latch.{Latch}
use Rattle.base.specs.Literal.{Valuation, variable, literal_value}
use Rattle.aiger.specs.Net.{Net, IsDefined}
use Rattle.aiger.specs.Circuit.{Circuit, net}
use Rattle.aiger.specs.Trace.{next_latch_bits}
use Rattle.gates.specs.Reads.{read, literal_in}
use Rattle.gates.proofs.GrowthLemmas.{Grows-trans, Satisfies-earlier}
use Rattle.gates.proofs.TableLemmas.{value-literal_of, IsDefined-literal_of}
use Rattle.witness_circuits.specs.Mapping.{Mapping}
use Rattle.witness_circuits.specs.Guards.{beside}
use Rattle.witness_circuits.specs.Made.{IsSharedIn, IsSharedBelow, agrees, own_initial, values, beside_literals, next_literals, StandFor, IsCopied, AreBeside}
use Rattle.witness_circuits.proofs.ConditionLemmas.{StandFor-grown}

pub length-beside_literals : (table : List ℕ) (ms : List (Option ℕ)) (os : List ℕ) → length os ≡ length ms → length (beside_literals table ms os) ≡ length ms
length-beside_literals table [] os e = refl
length-beside_literals table (m ∷ ms) [] e = absurd (cc)
length-beside_literals table (m ∷ ms) (o ∷ os) e = let rest : length os ≡ length ms = cc in ap suc (length-beside_literals table ms os rest)

-- they are defined
pub defined-beside_literals : (n : Net) (table : List ℕ) (ms : List (Option ℕ)) (os : List ℕ) → All (IsSharedBelow (length table)) ms → All (IsDefined n) table → All (IsDefined n) os → All (IsDefined n) (beside_literals table ms os)
defined-beside_literals n table [] os inside d e = All-nil (IsDefined n)
defined-beside_literals n table (m ∷ ms) [] inside d e = All-nil (IsDefined n)
defined-beside_literals n table (None ∷ ms) (o ∷ os) inside d e =
    All-cons (IsDefined n) o (beside_literals table ms os) (All-head (IsDefined n) o os e) (defined-beside_literals n table ms os (All-tail (IsSharedBelow (length table)) None ms inside) d (All-tail (IsDefined n) o os e))
defined-beside_literals n table (Some l ∷ ms) (o ∷ os) inside d e =
    All-cons (IsDefined n) (literal_in table l) (beside_literals table ms os) (IsDefined-literal_of n table l (All-head (IsSharedBelow (length table)) (Some l) ms inside) d)
    (defined-beside_literals n table ms os (All-tail (IsSharedBelow (length table)) (Some l) ms inside) d (All-tail (IsDefined n) o os e))

-- and say what stands beside the valuation of the circuit
pub values-beside_literals : (table : List ℕ) (z : Valuation) (ms : List (Option ℕ)) (os : List ℕ) → get_or table 0 0 ≡ 0 → values z (beside_literals table ms os) ≡ beside (read table z) ms (values z os)
values-beside_literals table z [] os e = refl
values-beside_literals table z (m ∷ ms) [] e = refl
values-beside_literals table z (None ∷ ms) (o ∷ os) e = ap (λ (bs : List Bool). literal_value z o ∷ bs) (values-beside_literals table z ms os e)
values-beside_literals table z (Some l ∷ ms) (o ∷ os) e = ap₂ ◌∷◌ (value-literal_of table z l e) (values-beside_literals table z ms os e)

-- what is shared with the circuit is of variables that literals stand for
below_one : (c : Circuit) (n : Net) (table : List ℕ) → StandFor c n table → (m : Option ℕ) → IsSharedIn (net c) m → IsSharedBelow (length table) m
below_one c n table s None h = tt
below_one c n table s (Some l) h = let e = s.many in omega arith

-- both frames
pub beside_made : (c w : Circuit) (m : Mapping) (inputs latches own_inputs own_latches : List ℕ) (old mid new : Net) (table own : List ℕ) → IsCopied c inputs latches old mid table
    → IsCopied w (beside_literals table m.inputs own_inputs) (beside_literals table m.latches own_latches) mid new own → AreBeside c w m inputs latches own_inputs own_latches old new table own
beside_made c w m inputs latches own_inputs own_latches old mid new table own first second =
    record {
      grows = Grows-trans old mid new (length c.gates) (length w.gates) first.grows second.grows;
      stand = StandFor-grown c mid new (length w.gates) table second.grows first.stand;
      own_stand = second.stand;
      frame = λ z s. first.frame z (Satisfies-earlier mid new (length w.gates) second.grows z s);
      own_frame = λ z s.
          let f = second.frame z s in
          record {
            gates = f.gates;
            inputs = f.inputs ∙ values-beside_literals table z m.inputs own_inputs first.stand.zero_is;
            latches = f.latches ∙ values-beside_literals table z m.latches own_latches first.stand.zero_is;
          };
    }

-- what latches take
pub length-next_literals : (table : List ℕ) (ls : List Latch) → length (next_literals table ls) ≡ length ls
length-next_literals table [] = refl
length-next_literals table (l ∷ ls) = ap suc (length-next_literals table ls)

pub nexts_inside : (c : Circuit) (n : Net) (table : List ℕ) (ls : List Latch) → StandFor c n table → All (λ latch. IsDefined (net c) latch.next) ls → All (λ latch. variable latch.next < length table) ls
nexts_inside c n table ls s all = All-weaker (λ (latch : Latch). IsDefined (net c) latch.next) (λ (latch : Latch). variable latch.next < length table) (λ latch d. let e = s.many in omega arith) ls all

pub defined-next_literals : (c : Circuit) (n : Net) (table : List ℕ) (ls : List Latch) → StandFor c n table → All (λ latch. IsDefined (net c) latch.next) ls → All (IsDefined n) (next_literals table ls)
defined-next_literals c n table [] s all = All-nil (IsDefined n)
defined-next_literals c n table (l ∷ ls) s all =
    All-cons (IsDefined n) (literal_in table l.next) (next_literals table ls)
    (IsDefined-literal_of n table l.next (let d = All-head (λ (latch : Latch). IsDefined (net c) latch.next) l ls all in let e = s.many in omega arith) s.defined)
    (defined-next_literals c n table ls s (All-tail (λ (latch : Latch). IsDefined (net c) latch.next) l ls all))

nexts_of : (table : List ℕ) (z : Valuation) (ls : List Latch) → get_or table 0 0 ≡ 0 → values z (next_literals table ls) ≡ map (λ (latch : Latch). literal_value (read table z) latch.next) ls
nexts_of table z [] e = refl
nexts_of table z (l ∷ ls) e = ap₂ ◌∷◌ (value-literal_of table z l.next e) (nexts_of table z ls e)

pub values-next_literals : (c : Circuit) (table : List ℕ) (z : Valuation) → get_or table 0 0 ≡ 0 → values z (next_literals table c.latches) ≡ next_latch_bits c (read table z)
values-next_literals c table z e = nexts_of table z c.latches e

-- whether own latches begin is not changed by what the others are
pub initial-beside : (v : Valuation) (ms : List (Option ℕ)) (ls : List Latch) (bs : List Bool) → length ms ≡ length ls → own_initial ms ls (beside v ms bs) ≡ own_initial ms ls bs
initial-beside v [] [] bs e = refl
initial-beside v [] (l ∷ ls) bs e = absurd (cc)
initial-beside v (m ∷ ms) [] bs e = absurd (cc)
initial-beside v (m ∷ ms) (l ∷ ls) [] e = refl
initial-beside v (None ∷ ms) (l ∷ ls) (b ∷ bs) e = let rest : length ms ≡ length ls = cc in ap (λ (r : Bool). agrees l.reset b && r) (initial-beside v ms ls bs rest)
initial-beside v (Some n ∷ ms) (l ∷ ls) (b ∷ bs) e = let rest : length ms ≡ length ls = cc in initial-beside v ms ls bs rest
