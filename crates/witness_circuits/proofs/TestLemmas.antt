-- The formula of a test is unsatisfiable exactly where the witness circuit guards.
use Rattle.std.proofs.Common.{◌≡◌, ℕ, Bool, true, false, not, ◌&&◌, List, [], ◌∷◌, map, get_or, unwrap_or, refl, sym, ap, ◌∙◌}
use Rattle.std.specs.Prelude.{slice_get}
use Rattle.std.proofs.lemmas.Bool.{and_parts, not-true, true≢false}
use Rattle.base.specs.Literal.{Valuation, literal_value}
use Rattle.aiger.specs.Net.{net_input_bits, latch_bits}
use Rattle.aiger.specs.Circuit.{Circuit, net}
use Rattle.aiger.specs.Trace.{IsCircuitFrame}
use Rattle.certificates.specs.Invariants.{IsInductive}
use Rattle.witness_circuits.specs.Mapping.{Mapping}
use Rattle.witness_circuits.specs.Certificate.{bad_rises, constraints_hold, property_fails}
use Rattle.witness_circuits.specs.Guards.{ClaimHolds, Guards}
use Rattle.witness_circuits.specs.Tests.{IsTestOf, TestRises, claim_holds}

pub holding : (w : Circuit) (x : Valuation) → claim_holds w x ≡ true → ClaimHolds w x
holding w x h = record { constraints = (and_parts (constraints_hold w x) (not (property_fails w x)) h).0; safe = not-true (property_fails w x) (and_parts (constraints_hold w x) (not (property_fails w x)) h).1 }

pub held : (w : Circuit) (x : Valuation) → ClaimHolds w x → claim_holds w x ≡ true
held w x h = ap (λ (b : Bool). b && not (property_fails w x)) h.constraints ∙ ap not h.safe

decided : (w : Circuit) (x : Valuation) → (claim_holds w x ≡ false → ⊥) → ClaimHolds w x
decided w x never = by (claim_holds w x) refl
  where
    by : (b : Bool) → claim_holds w x ≡ b → ClaimHolds w x
    by true e = holding w x e
    by false e = absurd (never e)

excluded : (b : Bool) → (b ≡ true → ⊥) → b ≡ false
excluded true never = absurd (never refl)
excluded false never = refl

pub first_bad : (v : Valuation) (bads : List ℕ) → unwrap_or (slice_get (map (literal_value v) bads) 0) false ≡ literal_value v (get_or bads 0 0)
first_bad v [] = refl
first_bad v (b ∷ bads) = refl

-- a test of which no cube is an invariant does not rise
quiet : (t : Circuit) → IsInductive t [] → TestRises t → ⊥
quiet t inductive r =
    let frame : IsCircuitFrame t (latch_bits (net t) r.valuation) (net_input_bits (net t) r.valuation) r.valuation = record { gates = r.gates; inputs = refl; latches = refl } in
    true≢false (sym r.rises ∙ (first_bad r.valuation t.bads ∙ (inductive (latch_bits (net t) r.valuation) (net_input_bits (net t) r.valuation) r.valuation frame refl).safe))

pub guards : (c : Circuit) (k : ℕ) (w : Circuit) (m : Mapping) (t : Circuit) → IsTestOf c k w m t → IsInductive t [] → Guards c k w m
guards c k w m t test inductive =
    record {
      circuit = test.circuit;
      mapping = test.mapping;
      begins = λ v x own met begin initial b. decided w x (λ e. quiet t inductive (test.begins v x own met begin initial b e));
      goes_on = λ v next_v x next_x own met next_met next b h next_b.
          decided w next_x (λ e. quiet t inductive (test.goes_on v next_v x next_x own met next_met next b (held w x h) next_b e));
      excludes = λ v x own met b h. excluded (bad_rises c k v) (λ e. quiet t inductive (test.excludes v x own met b (held w x h) e));
    }

pub inductive : (c : Circuit) (k : ℕ) (w : Circuit) (m : Mapping) (t : Circuit) → IsTestOf c k w m t → Guards c k w m → IsInductive t []
inductive c k w m t test g state input v frame out =
    record {
      safe = sym (first_bad v t.bads) ∙ excluded (bad_rises t 0 v) (λ e. test.only (record { valuation = v; gates = frame.gates; rises = e }) g);
      outside = refl;
    }
