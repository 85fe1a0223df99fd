-- A witness circuit for which the five checks hold guards the bad property.
use Rattle.std.proofs.Common.{◌≡◌, ℕ, suc, Bool, List, [], ◌∷◌, length, Option, Some, None, refl, sym, ap, ap₂, subst, ◌∙◌}
use Rattle.std.specs.List.{AllZip}
use Rattle.aiger.specs.declared.circuit.Latch.{Latch}
use Rattle.base.specs.Literal.{Valuation}
use Rattle.aiger.specs.Circuit.{Circuit}
use Rattle.aiger.specs.Trace.{next_latch_bits, AreInitial}
use Rattle.aiger.proofs.NetLemmas.{length-bits_from}
use Rattle.witness_circuits.specs.Mapping.{IsMappingOf, Mapping}
use Rattle.witness_circuits.specs.Certificate.{AgreeInShared, AgreesWithShared, BeginsAtResets, IsCertificate, IsNext, MeetsConstraints, SharedAgreesWithReset}
use Rattle.witness_circuits.specs.Guards.{ClaimHolds, Guards, IsBeside, beside}

-- bits that are as many as they should be agree with what they stand for
stand_for : (v : Valuation) (ms : List (Option ℕ)) (bs : List Bool) → length (beside v ms bs) ≡ length ms → AllZip (AgreesWithShared v) ms (beside v ms bs)
stand_for v [] bs e = tt
stand_for v (m ∷ ms) [] e = absurd (cc)
stand_for v (None ∷ ms) (b ∷ bs) e = let rest : length (beside v ms bs) ≡ length ms = cc in (tt, stand_for v ms bs rest)
stand_for v (Some l ∷ ms) (b ∷ bs) e = let rest : length (beside v ms bs) ≡ length ms = cc in (refl, stand_for v ms bs rest)

-- bits that agree with what they stand for are those beside it
are_beside : (v : Valuation) (ms : List (Option ℕ)) (bs : List Bool) → AllZip (AgreesWithShared v) ms bs → beside v ms bs ≡ bs
are_beside v [] [] h = refl
are_beside v [] (b ∷ bs) h = absurd h
are_beside v (m ∷ ms) [] h = absurd h
are_beside v (None ∷ ms) (b ∷ bs) h = ap (λ (rest : List Bool). b ∷ rest) (are_beside v ms bs h.1)
are_beside v (Some l ∷ ms) (b ∷ bs) h = ap₂ ◌∷◌ (sym h.0) (are_beside v ms bs h.1)

-- where what latches stand for agrees with their resets, bits beside it do
initial_beside : (v : Valuation) (ls : List Latch) (ms : List (Option ℕ)) (bs : List Bool) → AllZip (SharedAgreesWithReset v) ls ms → AreInitial ls bs → AreInitial ls (beside v ms bs)
initial_beside v [] [] bs s h = tt
initial_beside v [] (m ∷ ms) bs s h = absurd s
initial_beside v (l ∷ ls) [] bs s h = absurd s
initial_beside v (l ∷ ls) (m ∷ ms) [] s h = absurd h
initial_beside v (l ∷ ls) (None ∷ ms) (b ∷ bs) s h = (h.0, initial_beside v ls ms bs s.1 h.1)
initial_beside v (l ∷ ls) (Some n ∷ ms) (b ∷ bs) s h = (s.0, initial_beside v ls ms bs s.1 h.1)

pub shares : (w : Circuit) (m : Mapping) (v : Valuation) (own : List Bool) (x : Valuation) → IsMappingOf w m → IsBeside w m v own x → AgreeInShared w m v x
shares w m v own x mapping b =
    let inputs : length (beside v m.inputs b.given) ≡ length m.inputs = ap length (sym b.frame.inputs) ∙ (length-bits_from 1 w.inputs x ∙ sym mapping.inputs) in
    let latches : length (beside v m.latches own) ≡ length m.latches = ap length (sym b.frame.latches) ∙ (length-bits_from (suc w.inputs) (length w.latches) x ∙ sym mapping.latches) in
    record {
      inputs = subst (λ (bs : List Bool). AllZip (AgreesWithShared v) m.inputs bs) (sym b.frame.inputs) (stand_for v m.inputs b.given inputs);
      latches = subst (λ (bs : List Bool). AllZip (AgreesWithShared v) m.latches bs) (sym b.frame.latches) (stand_for v m.latches own latches);
    }

met : (w : Circuit) (m : Mapping) (v : Valuation) (own : List Bool) (x : Valuation) → IsBeside w m v own x → ClaimHolds w x → MeetsConstraints w x
met w m v own x b h = record { gates = b.frame.gates; constraints = h.constraints }

pub guards : (c : Circuit) (k : ℕ) (w : Circuit) (m : Mapping) → IsCertificate c k w m → Guards c k w m
guards c k w m a =
    record {
      circuit = a.circuit;
      mapping = a.mapping;
      begins = λ v x own ok begin initial b.
          let r = a.reset v x ok begin b.frame.gates (shares w m v own x a.mapping b) in
          let start : BeginsAtResets w x = subst (λ (bs : List Bool). AreInitial w.latches bs) (sym b.frame.latches) (initial_beside v w.latches m.latches own r.resets initial) in
          record { constraints = r.constraints; safe = a.base x (record { gates = b.frame.gates; constraints = r.constraints }) start };
      goes_on = λ v next_v x next_x own ok next_ok next b h next_b.
          let r =
          a.transition v next_v x next_x ok next_ok next (met w m v own x b h) (shares w m v own x a.mapping b) next_b.frame.gates
          (shares w m next_v (next_latch_bits w x) next_x a.mapping next_b) in
          let goes : IsNext w x next_x = next_b.frame.latches ∙ are_beside next_v m.latches (next_latch_bits w x) r.taken in
          record { constraints = r.constraints; safe = a.step x next_x (met w m v own x b h) (record { gates = next_b.frame.gates; constraints = r.constraints }) goes h.safe };
      excludes = λ v x own ok b h. a.property v x ok (met w m v own x b h) (shares w m v own x a.mapping b) h.safe;
    }
