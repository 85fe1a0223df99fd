use Rattle.std.proofs.Common.{◌≡◌, ℕ, zero, suc, ◌+◌, ◌*◌, ◌≤◌, List, [], ◌∷◌, Option, None, Some, length, slice_get, refl, sym, subst, arith}
use Rattle.std.proofs.lemmas.Nat.{mul-le}
use Rattle.btor2.specs.declared.item.Item.{Item}
use Rattle.aiger.specs.Circuit.{Circuit, IsCircuit}
use Rattle.engine_form.specs.EngineForm.{chosen}
use Rattle.restore.specs.Counterexample.{HasProperty, place_in}
use Rattle.witness.specs.Texts.{most_lines}
use Rattle.meaning.specs.Bound.{frame_bound}
use Rattle.meaning.specs.Meaning.{RisesBy, RisesInCircuitBy, IsAcceptedInCircuitBy}
use Rattle.meaning.proofs.reaching.one_meaning.Goals as goal

-- a chosen property stands first, and alone
one_chosen : (k : ℕ) (bads : List ℕ) → slice_get (chosen (Some k) bads) 0 ≡ slice_get bads k
one_chosen zero [] = refl
one_chosen (suc k) [] = refl
one_chosen zero (b ∷ bs) = refl
one_chosen (suc k) (b ∷ bs) = one_chosen k bs

-- the property's place among those of the form
placed : (choice : Option ℕ) (k : ℕ) (bads : List ℕ) → HasProperty choice k → slice_get (chosen choice bads) (place_in choice k) ≡ slice_get bads k
placed None k bads has = refl
placed (Some j) k bads has = subst (λ (i : ℕ). slice_get (chosen (Some j) bads) 0 ≡ slice_get bads i) has (one_chosen j bads)

-- the lines of so many frames of a circuit are fewer
fewer : (items : List Item) (most n : ℕ) → n ≤ most → most * frame_bound items + 3 ≤ most_lines → n + 4 ≤ most_lines
fewer items zero n le few = omega (arith, le)
fewer items (suc m) n le few =
    let twice = mul-le (suc m) 2 (suc m) (frame_bound items) (omega arith) (omega arith) in
    omega (arith, le, few, twice)

pub returns : goal.returns
returns c items circuit choice d k most lowers form has few =
    let same = placed choice k circuit.bads has in
    let down : RisesBy items k most → RisesInCircuitBy circuit k most = λ r.
    let g = c.rises_in_as_many_frames.ensures.circuit items circuit k lowers r.0 in
    (g.0, subst (λ (n : ℕ). n ≤ most) (sym g.1) r.1) in
    let up : RisesInCircuitBy circuit k most → RisesBy items k most = λ r.
    let g = c.rises_in_as_many_frames.ensures.model items circuit k lowers r.0 in
    (g.0, subst (λ (n : ℕ). n ≤ most) (sym g.1) r.1) in
    let to_form : RisesInCircuitBy circuit k most → RisesInCircuitBy d (place_in choice k) most = λ r.
    let g = c.rises_in_as_many_frames-2.ensures.form circuit choice d k (place_in choice k) form same r.0 in
    (g.0, subst (λ (n : ℕ). n ≤ most) (sym g.1) r.1) in
    let from_form : RisesInCircuitBy d (place_in choice k) most → RisesInCircuitBy circuit k most = λ r.
    let g = c.rises_in_as_many_frames-2.ensures.circuit circuit choice d k (place_in choice k) form same r.0 in
    (g.0, subst (λ (n : ℕ). n ≤ most) (sym g.1) r.1) in
    let bits_told : (e : Circuit) (j : ℕ) → IsCircuit e → RisesInCircuitBy e j most → IsAcceptedInCircuitBy e j most = λ e j valid r.
    let t = c.reached_in_circuit_is_accepted.ensures e j r.0 valid (fewer items most (length r.0.frames) r.1 few) in
    (t.0, t.1, omega (arith, t.2, r.1)) in
    let bits_rise : (e : Circuit) (j : ℕ) → IsCircuit e → IsAcceptedInCircuitBy e j most → RisesInCircuitBy e j most = λ e j valid t.
    let g = c.accepted_is_reached_in_circuit.ensures e t.0 t.1.frames valid t.1.accepted in
    (subst (λ (i : ℕ). RisesInCircuitBy e i most) t.1.claims (g.0, subst (λ (n : ℕ). n ≤ most) (sym g.1) t.2)) in
    record {
      circuit = (down, up);
      form = (λ r. to_form (down r), λ r. up (from_form r));
      text = (
        λ r.
            let t = c.reached_is_accepted.ensures items k r.0 lowers.well_formed (omega (arith, few, mul-le (length r.0.frames) (frame_bound items) most (frame_bound items) r.1 (omega arith))) in
            (t.0, t.1, omega (arith, t.2, r.1)),
        λ t.
            let g = c.accepted_is_reached.ensures items t.0 k t.1.frames lowers.well_formed t.1.accepted t.1.claims in
            (g.0, subst (λ (n : ℕ). n ≤ most) (sym g.1) t.2),
      );
      circuit_text = (λ r. bits_told circuit k lowers.circuit (down r), λ t. up (bits_rise circuit k lowers.circuit t));
      form_text = (λ r. bits_told d (place_in choice k) form.circuit (to_form (down r)), λ t. up (from_form (bits_rise d (place_in choice k) form.circuit t)));
      certificate = λ kind invariant proof line derived h. c.certified_property_never_rises.ensures circuit k kind invariant proof line derived (c.rises_in_as_many_frames.ensures.circuit items circuit k lowers h).0;
    }
