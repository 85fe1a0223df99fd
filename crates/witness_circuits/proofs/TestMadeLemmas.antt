-- A test from its gates.
use Rattle.std.proofs.Common.{◌≡◌, ℕ, zero, suc, ◌+◌, ◌*◌, ◌<◌, Bool, List, [], ◌∷◌, ◌++◌, length, map, replicate, All, refl, sym, ap, ap₂, subst, ◌∙◌, arith}
use Rattle.std.specs.List.{range_with_len}
use Rattle.std.proofs.lemmas.List.{map-append, length-map, length-replicate}
use Rattle.std.proofs.lemmas.List.FromFn.{length-map-range_with_len}
use Rattle.base.specs.Literal.{Valuation, literal_value}
use Rattle.aiger.specs.Net.{Net, IsDefined, Satisfies, bits_from}
use Rattle.aiger.specs.Circuit.{Circuit, IsCircuit, net, fresh_latch, with_bad}
use Rattle.base.proofs.LiteralLemmas.{literal_value-even}
use Rattle.gates.specs.Made.{gates_only}
use Rattle.gates.specs.Shared.{HasValuations}
use Rattle.gates.proofs.TableLemmas.{doubles_defined}
use Rattle.witness_circuits.specs.Mapping.{Mapping, IsMappingOf}
use Rattle.witness_circuits.specs.Guards.{beside}
use Rattle.witness_circuits.specs.Tests.{test_inputs, IsTestOf}
use Rattle.witness_circuits.specs.Made.{TestParts, all_parts, AreAsMany, AreFourFrames, values, part_values, IsMadeFrom}
use Rattle.witness_circuits.specs.Parts.{bare_test}
use Rattle.witness_circuits.proofs.Assembled.{Assembled}
use Rattle.witness_circuits.proofs.AssemblyLemmas.{is_test}
use Rattle.witness_circuits.proofs.InsideLemmas.{AreShared}
use Rattle.witness_circuits.proofs.OnlyLemmas.{only}

-- ---- the literals of variables

-- those of a test's inputs are defined
pub inputs_defined : (c w : Circuit) (n : Net) (ls all : List ℕ) → n ≡ bare_test c w → all ≡ ls → ls ≡ map (λ k. 2 * k) (range_with_len 1 (test_inputs c w)) → All (IsDefined n) all
inputs_defined c w n ls all bare is said =
    subst (λ (m : Net). All (IsDefined m) all) (sym bare)
    (subst (All (IsDefined (bare_test c w))) (sym (is ∙ said)) (doubles_defined (bare_test c w) 1 (test_inputs c w) (omega arith)))

pub many_inputs : (c w : Circuit) (ls : List ℕ) → ls ≡ map (λ k. 2 * k) (range_with_len 1 (test_inputs c w)) → length ls ≡ test_inputs c w
many_inputs c w ls is = ap length is ∙ length-map-range_with_len (λ k. 2 * k) 1 (test_inputs c w)

doubles_read : (z : Valuation) (a n : ℕ) → 0 < a → values z (map (λ k. 2 * k) (range_with_len a n)) ≡ bits_from a n z
doubles_read z a zero h = refl
doubles_read z a (suc n) h =
    let next : a + 1 ≡ suc a = omega arith in
    ap₂ ◌∷◌ (literal_value-even z a h) (doubles_read z (a + 1) n (omega arith) ∙ ap (λ (k : ℕ). bits_from k n z) next)

-- ---- the parts

-- what two lists of the same length begin with
same_front : (xs ys us vs : List Bool) → length xs ≡ length ys → xs ++ us ≡ ys ++ vs → (xs ≡ ys) × (us ≡ vs)
same_front [] [] us vs e h = (refl, h)
same_front [] (y ∷ ys) us vs e h = absurd (cc)
same_front (x ∷ xs) [] us vs e h = absurd (cc)
same_front (x ∷ xs) (y ∷ ys) us vs e h =
    let many : length xs ≡ length ys = cc in
    let behind : xs ++ us ≡ ys ++ vs = cc in
    let here : x ≡ y = cc in
    let rest = same_front xs ys us vs many behind in
    (ap₂ ◌∷◌ here rest.0, rest.1)

record SameParts (a b : TestParts Bool) : Type 0 where
  inputs : a.inputs ≡ b.inputs
  latches : a.latches ≡ b.latches
  next_inputs : a.next_inputs ≡ b.next_inputs
  own_inputs : a.own_inputs ≡ b.own_inputs
  own_latches : a.own_latches ≡ b.own_latches
  next_own : a.next_own ≡ b.next_own

same_parts : (c w : Circuit) (a b : TestParts Bool) → AreAsMany c w a → AreAsMany c w b → all_parts a ≡ all_parts b → SameParts a b
same_parts c w a b many_a many_b e =
    let first = same_front a.inputs b.inputs (a.latches ++ (a.next_inputs ++ (a.own_inputs ++ (a.own_latches ++ a.next_own)))) (b.latches ++ (b.next_inputs ++ (b.own_inputs ++ (b.own_latches ++ b.next_own)))) (many_a.inputs ∙ sym many_b.inputs) e in
    let second = same_front a.latches b.latches (a.next_inputs ++ (a.own_inputs ++ (a.own_latches ++ a.next_own))) (b.next_inputs ++ (b.own_inputs ++ (b.own_latches ++ b.next_own))) (many_a.latches ∙ sym many_b.latches) first.1 in
    let third = same_front a.next_inputs b.next_inputs (a.own_inputs ++ (a.own_latches ++ a.next_own)) (b.own_inputs ++ (b.own_latches ++ b.next_own)) (many_a.next_inputs ∙ sym many_b.next_inputs) second.1 in
    let fourth = same_front a.own_inputs b.own_inputs (a.own_latches ++ a.next_own) (b.own_latches ++ b.next_own) (many_a.own_inputs ∙ sym many_b.own_inputs) third.1 in
    let fifth = same_front a.own_latches b.own_latches a.next_own b.next_own (many_a.own_latches ∙ sym many_b.own_latches) fourth.1 in
    record { inputs = first.0; latches = second.0; next_inputs = third.0; own_inputs = fourth.0; own_latches = fifth.0; next_own = fifth.1 }

-- the values of all parts
all_values : (z : Valuation) (p : TestParts ℕ) → all_parts (part_values z p) ≡ values z (all_parts p)
all_values z p =
    sym (map-append (literal_value z) p.inputs (p.latches ++ (p.next_inputs ++ (p.own_inputs ++ (p.own_latches ++ p.next_own))))
    ∙ ap (λ (xs : List Bool). values z p.inputs ++ xs) (map-append (literal_value z) p.latches (p.next_inputs ++ (p.own_inputs ++ (p.own_latches ++ p.next_own)))
    ∙ ap (λ (xs : List Bool). values z p.latches ++ xs) (map-append (literal_value z) p.next_inputs (p.own_inputs ++ (p.own_latches ++ p.next_own))
    ∙ ap (λ (xs : List Bool). values z p.next_inputs ++ xs) (map-append (literal_value z) p.own_inputs (p.own_latches ++ p.next_own)
    ∙ ap (λ (xs : List Bool). values z p.own_inputs ++ xs) (map-append (literal_value z) p.own_latches p.next_own)))))

many_values : (c w : Circuit) (z : Valuation) (p : TestParts ℕ) → AreAsMany c w p → AreAsMany c w (part_values z p)
many_values c w z p many =
    record {
      inputs = length-map p.inputs (literal_value z) ∙ many.inputs;
      latches = length-map p.latches (literal_value z) ∙ many.latches;
      next_inputs = length-map p.next_inputs (literal_value z) ∙ many.next_inputs;
      own_inputs = length-map p.own_inputs (literal_value z) ∙ many.own_inputs;
      own_latches = length-map p.own_latches (literal_value z) ∙ many.own_latches;
      next_own = length-map p.next_own (literal_value z) ∙ many.next_own;
    }

frames_said : (c w : Circuit) (m : Mapping) (a b : TestParts Bool) (v n x y : Valuation) → SameParts a b → AreFourFrames c w m a v n x y → AreFourFrames c w m b v n x y
frames_said c w m a b v n x y same f =
    record {
      now = record { gates = f.now.gates; inputs = f.now.inputs ∙ same.inputs; latches = f.now.latches ∙ same.latches };
      next = record { gates = f.next.gates; inputs = f.next.inputs ∙ same.next_inputs; latches = f.next.latches };
      beside_now =
          record {
            gates = f.beside_now.gates;
            inputs = f.beside_now.inputs ∙ ap (beside v m.inputs) same.own_inputs;
            latches = f.beside_now.latches ∙ ap (beside v m.latches) same.own_latches;
          };
      beside_next = record { gates = f.beside_next.gates; inputs = f.beside_next.inputs ∙ ap (beside n m.inputs) same.next_own; latches = f.beside_next.latches };
    }

-- ---- the whole

module _ (c : Circuit) (k : ℕ) (w : Circuit) (m : Mapping) (p : TestParts ℕ) (n : Net) (l : ℕ) (made : IsMadeFrom c k w m p (bare_test c w) n l) where
  whole : Circuit
  whole = with_bad (gates_only n) l

  same_net : net whole ≡ n
  unfolding whole
  same_net = ap (λ (latches : ℕ). record { inputs = n.inputs; latches = latches; gates = n.gates }) (length-replicate n.latches fresh_latch)

  assembled : IsCircuit c → IsCircuit w → IsMappingOf w m → AreShared c m → all_parts p ≡ map (λ k. 2 * k) (range_with_len 1 (test_inputs c w)) → AreAsMany c w p → IsCircuit whole
      → Assembled c k w m whole made.now made.next made.beside_now made.beside_next
  unfolding whole
  assembled circuit witness mapping shared parts many valid =
      record {
        original = circuit;
        circuit = witness;
        mapping = mapping;
        inputs_defined = shared.inputs;
        latches_defined = shared.latches;
        test = valid;
        no_latches = ap (λ (count : ℕ). replicate count fresh_latch) made.grows.latches;
        alone = record { outputs = refl; one_bad = refl; constraints = refl; justice = refl; fair = refl; names = refl };
        inputs = made.grows.inputs;
        few_gates = (let longer = ap length made.grows.gates.1 in let most = made.grows.gates.2 in omega arith);
        frames = λ z g s as_many bits.
            let given : all_parts (part_values z p) ≡ all_parts g =
            all_values z p ∙ (ap (values z) parts ∙ (doubles_read z 1 (test_inputs c w) (omega arith) ∙ (ap (λ (count : ℕ). bits_from 1 count z) (sym made.grows.inputs) ∙ bits))) in
            frames_said c w m (part_values z p) g (made.now z) (made.next z) (made.beside_now z) (made.beside_next z) (same_parts c w (part_values z p) g (many_values c w z p many) as_many given)
            (made.frames z (subst (λ (x : Net). Satisfies x z) same_net s));
        rises = λ z s. made.rises z (subst (λ (x : Net). Satisfies x z) same_net s);
      }

  pub test_made : (t : Circuit) → IsCircuit c → IsCircuit w → IsMappingOf w m → AreShared c m → all_parts p ≡ map (λ k. 2 * k) (range_with_len 1 (test_inputs c w)) → AreAsMany c w p → HasValuations n
      → t ≡ with_bad (gates_only n) l → IsCircuit t → IsTestOf c k w m t
  unfolding whole
  test_made t circuit witness mapping shared parts many valuations is valid =
      let a = assembled circuit witness mapping shared parts many (subst IsCircuit is valid) in
      subst (λ (x : Circuit). IsTestOf c k w m x) (sym is)
      (is_test c k w m whole made.now made.next made.beside_now made.beside_next a (subst HasValuations (sym same_net) valuations)
      (λ r g. only c k w m whole made.now made.next made.beside_now made.beside_next a g r))
