-- Lists of bytes as valuations, bits put into them, and gates one by one.
use Rattle.std.proofs.Common.{◌≡◌, ◌≢◌, ℕ, zero, suc, ◌+◌, ◌<◌, ◌≤◌, Bool, false, List, [], ◌∷◌, ◌++◌, length, length-append, get_or, set, ⊎_elim, refl, sym, ap, ◌∙◌, arith}
use Rattle.std.proofs.lemmas.Bool.{cases_eq}
use Rattle.std.proofs.lemmas.List.{length-set, get_or-set_same, get_or-set_other, ext_get_or, get_or_at, get_or_append_left}
use Rattle.aiger.specs.declared.circuit.Gate.{Gate}
use Rattle.base.specs.Literal.{Valuation, IsAnd, bit_of, valuation_of}
use Rattle.aiger.specs.Net.{SatisfiesFrom, bits_from}
use Rattle.aiger.proofs.NetLemmas.{length-bits_from}
use Rattle.runs.specs.CircuitHolds.{IsPut}
use Rattle.runs.specs.Arranging.{left_operand, right_operand}

-- Bits one after another.

pub get_or-bits_from : (first count : ℕ) (v : Valuation) (j : ℕ) → j < count → get_or (bits_from first count v) j false ≡ v (first + j)
get_or-bits_from first zero v j h = absurd (omega arith)
get_or-bits_from first (suc count) v zero h = ap v (omega arith)
get_or-bits_from first (suc count) v (suc j) h = get_or-bits_from (suc first) count v j (omega arith) ∙ ap v (omega arith)

pub bits_from-is : (first count : ℕ) (v : Valuation) (bits : List Bool) → length bits ≡ count → ((j : ℕ) → j < count → v (first + j) ≡ get_or bits j false) → bits_from first count v ≡ bits
bits_from-is first count v bits many same =
    ext_get_or false (bits_from first count v) bits (length-bits_from first count v ∙ sym many) (λ j within.
    let inside : j < count = omega (arith, length-bits_from first count v) in
    get_or-bits_from first count v j inside ∙ same j inside)

-- a bit that is set among them
pub bits_from-set : (first count : ℕ) (bits : List ℕ) (k place b : ℕ) → place ≡ first + k → k < count → first + count ≤ length bits
    → bits_from first count (valuation_of (set bits place b)) ≡ set (bits_from first count (valuation_of bits)) k (bit_of b)
bits_from-set first count bits k place b at inside room =
    bits_from-is first count (valuation_of (set bits place b)) (set (bits_from first count (valuation_of bits)) k (bit_of b)) (length-set (bits_from first count (valuation_of bits)) k (bit_of b) ∙ length-bits_from first count (valuation_of bits))
    (λ j within.
    ⊎_elim
    (λ e.
    let own : k < length (bits_from first count (valuation_of bits)) = omega (arith, length-bits_from first count (valuation_of bits)) in
    let same : first + j ≡ place = omega arith in
    ap (valuation_of (set bits place b)) same ∙ ap bit_of (get_or-set_same bits place b 0 (omega arith))
    ∙ sym (ap (λ (i : ℕ). get_or (set (bits_from first count (valuation_of bits)) k (bit_of b)) i false) e ∙ get_or-set_same (bits_from first count (valuation_of bits)) k (bit_of b) false own))
    (λ ne.
    let other : first + j ≢ place = omega arith in
    ap bit_of (get_or-set_other bits place (first + j) b 0 other)
    ∙ sym (get_or-set_other (bits_from first count (valuation_of bits)) k j (bit_of b) false ne ∙ get_or-bits_from first count (valuation_of bits) j within))
    (cases_eq j k))

-- Bits put one after another.

pub put_nothing : (first : ℕ) (bits : List ℕ) → IsPut [] first bits bits
put_nothing first bits = record { put = λ k h. absurd (omega arith); below = λ p h. refl; above = λ p h. refl; as_many = refl }

-- one more
pub put_more : (given : List Bool) (bit : Bool) (first place b : ℕ) (old new : List ℕ) → bit_of b ≡ bit → place ≡ first + length given → place < length old → IsPut given first old new → IsPut (given ++ bit ∷ []) first old (set new place b)
put_more given bit first place b old new holds at room is =
    let long = length-append given (bit ∷ []) in
    let inside : place < length new = omega (arith, room, is.as_many) in
    record {
      put = λ k h.
          ⊎_elim
          (λ e.
          let same : first + k ≡ place = omega arith in
          ap (valuation_of (set new place b)) same ∙ ap bit_of (get_or-set_same new place b 0 inside) ∙ holds ∙ sym (ap (λ (n : ℕ). get_or (given ++ bit ∷ []) n false) e ∙ get_or_at given bit [] false (length given) refl))
          (λ ne.
          let before : k < length given = omega (arith, h, long, ne) in
          let other : first + k ≢ place = omega arith in
          ap bit_of (get_or-set_other new place (first + k) b 0 other) ∙ is.put k before ∙ sym (get_or_append_left given (bit ∷ []) false k before))
          (cases_eq k (length given));
      below = λ p h. let other : p ≢ place = omega arith in ap bit_of (get_or-set_other new place p b 0 other) ∙ is.below p h;
      above = λ p h. let other : p ≢ place = omega (arith, long, h) in ap bit_of (get_or-set_other new place p b 0 other) ∙ is.above p (omega (arith, long, h));
      as_many = length-set new place b ∙ is.as_many;
    }

-- Gates one by one.

pub satisfies_at : (first : ℕ) (gates : List Gate) (v : Valuation) → ((k : ℕ) → k < length gates → IsAnd v (first + k) (left_operand gates k) (right_operand gates k)) → SatisfiesFrom first gates v
satisfies_at first [] v h = tt
satisfies_at first (g ∷ gs) v h = (ap v (omega arith) ∙ h zero (omega arith), satisfies_at (suc first) gs v (λ k within. ap v (omega arith) ∙ h (suc k) (omega arith)))
