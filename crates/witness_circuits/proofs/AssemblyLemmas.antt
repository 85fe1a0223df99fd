-- What the maker of a test gives is a test.
use Rattle.std.proofs.Common.{◌≡◌, ℕ, suc, Bool, true, false, ◌&&◌, ◌||◌, not, List, [], ◌++◌, length, All, Option, replicate, refl, sym, ap, ap₂, ◌∙◌, length-append, arith}
use Rattle.std.proofs.lemmas.List.{length-replicate}
use Rattle.base.specs.Literal.{Valuation}
use Rattle.aiger.specs.Net.{Satisfies, net_input_bits, latch_bits}
use Rattle.aiger.specs.Circuit.{Circuit, net}
use Rattle.aiger.specs.Trace.{next_latch_bits, SameCircuitFrame, AreInitial}
use Rattle.aiger.proofs.NetLemmas.{length-bits_from}
use Rattle.aiger.proofs.TraceLemmas.{SameFrame-from_bits, next_state-agree}
use Rattle.gates.specs.Shared.{HasValuation, HasValuations}
use Rattle.witness_circuits.specs.Mapping.{Mapping}
use Rattle.witness_circuits.specs.Certificate.{BeginsAtResets, IsNext, MeetsConstraints, bad_rises, constraints_hold}
use Rattle.witness_circuits.specs.Guards.{Guards, IsBeside, beside}
use Rattle.witness_circuits.specs.Tests.{IsTestOf, TestRises, claim_holds}
use Rattle.witness_circuits.specs.Made.{AreAsMany, AreFourFrames, IsSharedIn, TestParts, all_parts, own_initial, both_begin, condition_fails}
use Rattle.witness_circuits.proofs.Assembled.{Assembled}
use Rattle.witness_circuits.proofs.AgreeLemmas.{constraints_same, bad_same, holds_same, beside_same, beside_again}
use Rattle.witness_circuits.proofs.StartLemmas.{initial_true, own_true}

-- ---- which of the three fails

first_fails : (c b h n y r : Bool) → c ≡ true → b ≡ true → h ≡ false → (c && ((b && not h) || ((h && (n && not y)) || (h && r)))) ≡ true
first_fails c b h n y r e f g = rw (e, f, g) refl

second_fails : (c b h n y r : Bool) → c ≡ true → h ≡ true → n ≡ true → y ≡ false → (c && ((b && not h) || ((h && (n && not y)) || (h && r)))) ≡ true
second_fails c b h n y r e f g i = rw (e, f, g, i) (by b)
  where
    by : (b : Bool) → ((b && false) || true) ≡ true
    by true = refl
    by false = refl

third_fails : (c b h n y r : Bool) → c ≡ true → h ≡ true → r ≡ true → (c && ((b && not h) || ((h && (n && not y)) || (h && r)))) ≡ true
third_fails c b h n y r e f g = rw (e, f, g) (by b (n && not y))
  where
    by : (b q : Bool) → ((b && false) || (q || true)) ≡ true
    by true true = refl
    by true false = refl
    by false true = refl
    by false false = refl

-- what stands beside a valuation stands so beside one that agrees
settled : (c : Circuit) (v w : Valuation) (ms : List (Option ℕ)) (bs own : List Bool) → SameCircuitFrame c v w → All (IsSharedIn (net c)) ms → bs ≡ beside v ms own → beside w ms bs ≡ bs
settled c v w ms bs own same all e = sym (beside_same c v w ms bs same all) ∙ (ap (beside v ms) e ∙ (beside_again v ms own ∙ sym e))

module _ (c : Circuit) (k : ℕ) (w : Circuit) (m : Mapping) (t : Circuit) (V N X Y : Valuation → Valuation) (made : Assembled c k w m t V N X Y) (exists : HasValuations (net t)) where
  -- a valuation of the test from given bits
  record There (g : TestParts Bool) : Type 0 where
    valuation : Valuation
    gates : Satisfies (net t) valuation
    frames : AreFourFrames c w m g (V valuation) (N valuation) (X valuation) (Y valuation)

  width : (g : TestParts Bool) → AreAsMany c w g → length (all_parts g) ≡ t.inputs
  width g many =
      let a = length-append g.own_latches g.next_own in
      let b = length-append g.own_inputs (g.own_latches ++ g.next_own) in
      let d = length-append g.next_inputs (g.own_inputs ++ (g.own_latches ++ g.next_own)) in
      let e = length-append g.latches (g.next_inputs ++ (g.own_inputs ++ (g.own_latches ++ g.next_own))) in
      let f = length-append g.inputs (g.latches ++ (g.next_inputs ++ (g.own_inputs ++ (g.own_latches ++ g.next_own)))) in
      omega (arith, made.inputs, many.inputs, many.latches, many.next_inputs, many.own_inputs, many.own_latches, many.next_own)

  there : (g : TestParts Bool) → AreAsMany c w g → There g
  there g many =
      let found : HasValuation (net t) (all_parts g) [] = exists (all_parts g) [] (width g many) (sym (ap length made.no_latches)) in
      record { valuation = found.valuation; gates = found.gates; frames = made.frames found.valuation g found.gates many found.input_bits_are }

  -- the bits of two valuations, and of the inputs of the next ones
  abbrev given : Valuation → Valuation → List Bool → List Bool → TestParts Bool
  given v x j h = record { inputs = net_input_bits (net c) v; latches = latch_bits (net c) v; next_inputs = j; own_inputs = net_input_bits (net w) x; own_latches = latch_bits (net w) x; next_own = h }

  many : (v x : Valuation) (j h : List Bool) → length j ≡ c.inputs → length h ≡ w.inputs → AreAsMany c w (given v x j h)
  many v x j h e f =
      record {
        inputs = length-bits_from 1 c.inputs v;
        latches = length-bits_from (suc c.inputs) (length c.latches) v;
        next_inputs = e;
        own_inputs = length-bits_from 1 w.inputs x;
        own_latches = length-bits_from (suc w.inputs) (length w.latches) x;
        next_own = f;
      }

  first_same : (v x v' n x' y : Valuation) (j h : List Bool) → MeetsConstraints c v → AreFourFrames c w m (given v x j h) v' n x' y → SameCircuitFrame c v v'
  first_same v x v' n x' y j h met f = SameFrame-from_bits c (latch_bits (net c) v) (net_input_bits (net c) v) v v' made.original (record { gates = met.gates; inputs = refl; latches = refl }) f.now

  second_same : (v x v' n x' y : Valuation) (own j h : List Bool) → SameCircuitFrame c v v' → IsBeside w m v own x → AreFourFrames c w m (given v x j h) v' n x' y → SameCircuitFrame w x x'
  second_same v x v' n x' y own j h same b f =
      SameFrame-from_bits w (latch_bits (net w) x) (net_input_bits (net w) x) x x' made.circuit (record { gates = b.frame.gates; inputs = refl; latches = refl })
      (record {
        gates = f.beside_now.gates;
        inputs = f.beside_now.inputs ∙ settled c v v' m.inputs (net_input_bits (net w) x) b.given same made.inputs_defined b.frame.inputs;
        latches = f.beside_now.latches ∙ settled c v v' m.latches (latch_bits (net w) x) own same made.latches_defined b.frame.latches;
      })

  third_same : (v next x v' n x' y : Valuation) (h : List Bool) → SameCircuitFrame c v v' → MeetsConstraints c next → IsNext c v next → AreFourFrames c w m (given v x (net_input_bits (net c) next) h) v' n x' y → SameCircuitFrame c next n
  third_same v next x v' n x' y h same met is_next f =
      SameFrame-from_bits c (next_latch_bits c v) (net_input_bits (net c) next) next n made.original (record { gates = met.gates; inputs = refl; latches = is_next })
      (record { gates = f.next.gates; inputs = f.next.inputs; latches = f.next.latches ∙ sym (next_state-agree c v v' made.original same) })

  fourth_same : (v next x next_x v' n x' y : Valuation) (j : List Bool) → SameCircuitFrame w x x' → SameCircuitFrame c next n → IsBeside w m next (next_latch_bits w x) next_x
      → AreFourFrames c w m (given v x j (net_input_bits (net w) next_x)) v' n x' y → SameCircuitFrame w next_x y
  fourth_same v next x next_x v' n x' y j same same_next b f =
      let latches : beside n m.latches (next_latch_bits w x') ≡ beside next m.latches (next_latch_bits w x) =
      ap (beside n m.latches) (sym (next_state-agree w x x' made.circuit same)) ∙ sym (beside_same c next n m.latches (next_latch_bits w x) same_next made.latches_defined) in
      SameFrame-from_bits w (latch_bits (net w) next_x) (net_input_bits (net w) next_x) next_x y made.circuit (record { gates = b.frame.gates; inputs = refl; latches = refl })
      (record {
        gates = f.beside_next.gates;
        inputs = f.beside_next.inputs ∙ settled c next n m.inputs (net_input_bits (net w) next_x) b.given same_next made.inputs_defined b.frame.inputs;
        latches = f.beside_next.latches ∙ (latches ∙ sym b.frame.latches);
      })

  rising : (z : Valuation) → Satisfies (net t) z → condition_fails c k w m (V z) (N z) (X z) (Y z) ≡ true → TestRises t
  rising z gates e = record { valuation = z; gates = gates; rises = made.rises z gates ∙ e }

  no_bits : (n : ℕ) → List Bool
  no_bits n = replicate n false

  plain : (v x : Valuation) → There (given v x (no_bits c.inputs) (no_bits w.inputs))
  unfolding no_bits
  plain v x = there (given v x (no_bits c.inputs) (no_bits w.inputs)) (many v x (no_bits c.inputs) (no_bits w.inputs) (length-replicate c.inputs false) (length-replicate w.inputs false))

  begins_fails : (v x : Valuation) (own : List Bool) → MeetsConstraints c v → BeginsAtResets c v → AreInitial w.latches own → IsBeside w m v own x → claim_holds w x ≡ false → TestRises t
  begins_fails v x own met begin initial b e =
      let at = plain v x in
      let z : Valuation = at.valuation in
      let f = at.frames in
      let same : SameCircuitFrame c v (V z) = first_same v x (V z) (N z) (X z) (Y z) (no_bits c.inputs) (no_bits w.inputs) met f in
      let same_x : SameCircuitFrame w x (X z) = second_same v x (V z) (N z) (X z) (Y z) own (no_bits c.inputs) (no_bits w.inputs) same b f in
      let constraints : constraints_hold c (V z) ≡ true = sym (constraints_same c v (V z) made.original same) ∙ met.constraints in
      let held : claim_holds w (X z) ≡ false = sym (holds_same w x (X z) made.circuit same_x) ∙ e in
      let own_bits : latch_bits (net w) (X z) ≡ beside v m.latches own =
      f.beside_now.latches ∙ (settled c v (V z) m.latches (latch_bits (net w) x) own same made.latches_defined b.frame.latches ∙ b.frame.latches) in
      let start : both_begin c w m (V z) (X z) ≡ true =
      ap₂ ◌&&◌ (ap (own_initial [] c.latches) f.now.latches ∙ initial_true c.latches (latch_bits (net c) v) begin)
      (ap (own_initial m.latches w.latches) own_bits ∙ own_true v m.latches w.latches own initial) in
      rising z at.gates (first_fails (constraints_hold c (V z)) (both_begin c w m (V z) (X z)) (claim_holds w (X z)) (constraints_hold c (N z)) (claim_holds w (Y z)) (bad_rises c k (V z)) constraints start held)

  excludes_fails : (v x : Valuation) (own : List Bool) → MeetsConstraints c v → IsBeside w m v own x → claim_holds w x ≡ true → bad_rises c k v ≡ true → TestRises t
  excludes_fails v x own met b h e =
      let at = plain v x in
      let z : Valuation = at.valuation in
      let f = at.frames in
      let same : SameCircuitFrame c v (V z) = first_same v x (V z) (N z) (X z) (Y z) (no_bits c.inputs) (no_bits w.inputs) met f in
      let same_x : SameCircuitFrame w x (X z) = second_same v x (V z) (N z) (X z) (Y z) own (no_bits c.inputs) (no_bits w.inputs) same b f in
      rising z at.gates
      (third_fails (constraints_hold c (V z)) (both_begin c w m (V z) (X z)) (claim_holds w (X z)) (constraints_hold c (N z)) (claim_holds w (Y z)) (bad_rises c k (V z))
      (sym (constraints_same c v (V z) made.original same) ∙ met.constraints)
      (sym (holds_same w x (X z) made.circuit same_x) ∙ h)
      (sym (bad_same c k v (V z) made.original same) ∙ e))

  goes_on_fails : (v next x next_x : Valuation) (own : List Bool) → MeetsConstraints c v → MeetsConstraints c next → IsNext c v next
      → IsBeside w m v own x → claim_holds w x ≡ true → IsBeside w m next (next_latch_bits w x) next_x → claim_holds w next_x ≡ false → TestRises t
  goes_on_fails v next x next_x own met next_met is_next b h next_b e =
      let j : List Bool = net_input_bits (net c) next in
      let i : List Bool = net_input_bits (net w) next_x in
      let at = there (given v x j i) (many v x j i (length-bits_from 1 c.inputs next) (length-bits_from 1 w.inputs next_x)) in
      let z : Valuation = at.valuation in
      let f = at.frames in
      let same : SameCircuitFrame c v (V z) = first_same v x (V z) (N z) (X z) (Y z) j i met f in
      let same_x : SameCircuitFrame w x (X z) = second_same v x (V z) (N z) (X z) (Y z) own j i same b f in
      let same_next : SameCircuitFrame c next (N z) = third_same v next x (V z) (N z) (X z) (Y z) i same next_met is_next f in
      let same_y : SameCircuitFrame w next_x (Y z) = fourth_same v next x next_x (V z) (N z) (X z) (Y z) j same_x same_next next_b f in
      rising z at.gates
      (second_fails (constraints_hold c (V z)) (both_begin c w m (V z) (X z)) (claim_holds w (X z)) (constraints_hold c (N z)) (claim_holds w (Y z)) (bad_rises c k (V z))
      (sym (constraints_same c v (V z) made.original same) ∙ met.constraints)
      (sym (holds_same w x (X z) made.circuit same_x) ∙ h)
      (sym (constraints_same c next (N z) made.original same_next) ∙ next_met.constraints)
      (sym (holds_same w next_x (Y z) made.circuit same_y) ∙ e))

  pub is_test : (TestRises t → Guards c k w m → ⊥) → IsTestOf c k w m t
  is_test only =
      record {
        circuit = made.circuit;
        mapping = made.mapping;
        test = made.test;
        inputs = made.inputs;
        few_gates = made.few_gates;
        no_latches = made.no_latches;
        no_outputs = made.alone.outputs;
        one_bad = made.alone.one_bad;
        no_constraints = made.alone.constraints;
        no_justice = made.alone.justice;
        no_fair = made.alone.fair;
        no_names = made.alone.names;
        begins = begins_fails;
        goes_on = goes_on_fails;
        excludes = excludes_fails;
        only = only;
      }
