-- Bits that are set one by one, and outputs that are read one by one.
use native.Mathlib.Omega.{arith}
use Rattle.std.proofs.Common.{◌≡◌, ℕ, suc, ◌+◌, ◌-◌, ◌*◌, ◌/◌, ◌%◌, ◌^◌, ◌<◌, ◌≤◌, Bool, true, false, ◌==◌, List, [], ◌∷◌, ◌++◌, length, map, take, drop, get_or, slice_index, slice_set, refl, sym, ap, ap₂, ◌∙◌, append_assoc, drop-cons}
use Rattle.std.specs.Int.{from_bool}
use Rattle.std.proofs.lemmas.Grind.{take-set_at}
use Rattle.std.proofs.lemmas.List.{length-map, length-set, get_or-map}
use Rattle.base.specs.Word.{word, bits, bit_number}
use Rattle.base.proofs.BitLemmas.{two_more, bit_number_small}
use Rattle.base.specs.Literal.{Valuation, literal_value}
use Rattle.aiger.specs.Circuit.{Circuit}
use Rattle.runs.specs.CircuitRun.{CircuitRun, IsFrameNow}
use Rattle.vectors.specs.CircuitRuns.{IsRunOf}

-- a bit more of a word is set: k of its bits stand behind the first, and the others are to come
pub bit_set : (inputs now : List Bool) (first k width left : ℕ) (all : List Bool) → k < width → first + k < length inputs → now ≡ slice_set inputs (first + k) (left % 2 == 1)
    → take (first + k) inputs ++ bits (width - k) left ≡ all → take (first + (k + 1)) now ++ bits (width - (k + 1)) (left / 2) ≡ all
bit_set inputs now first k width left all more room set so_far =
    let one : width - k ≡ suc (width - (k + 1)) = omega (arith, more) in
    ap₂ (λ (n : ℕ) (t : List Bool). take n t ++ bits (width - (k + 1)) (left / 2)) refl set
    ∙ (ap (λ (t : List Bool). t ++ bits (width - (k + 1)) (left / 2)) (take-set_at inputs (first + k) (first + (k + 1)) (left % 2 == 1) (omega arith) room)
    ∙ (append_assoc (take (first + k) inputs) ((left % 2 == 1) ∷ []) (bits (width - (k + 1)) (left / 2))
    ∙ (sym (ap (λ (n : ℕ). take (first + k) inputs ++ bits n left) one) ∙ so_far)))

-- a run of which a bit is set is of the same circuit
pub set_run : (r s : CircuitRun) (k : ℕ) (b : Bool) → s.circuit ≡ r.circuit → s.latches ≡ r.latches → s.inputs ≡ slice_set r.inputs k b → IsRunOf r.circuit r → IsRunOf s.circuit s
set_run r s k b circuit latches inputs run =
    record { same = refl; latches = latches ∙ run.latches; inputs = ap length inputs ∙ (length-set r.inputs k b ∙ (run.inputs ∙ sym (ap (λ (d : Circuit). d.inputs) circuit))) }

-- the bits behind a place, with the one before it
one_before : (bs : List Bool) (at : ℕ) → 0 < at → at ≤ length bs → word (drop (at - 1) bs) ≡ bit_number (get_or bs (at - 1) false) + 2 * word (drop at bs)
one_before bs at some within =
    let next : suc (at - 1) ≡ at = omega (arith, some) in
    ap word (drop-cons bs (at - 1) false (omega (arith, some, within))) ∙ ap (λ (n : ℕ). bit_number (get_or bs (at - 1) false) + 2 * word (drop n bs)) next

-- a bit as a number, in two words
number_of_byte : (b : Bool) → from_bool b ≡ bit_number b
number_of_byte true = refl
number_of_byte false = refl

-- an output more is read, the one before those that are read
pub one_read_before : (r : CircuitRun) (outputs : List ℕ) (left value now : ℕ) (b : Bool) → 0 < left → left ≤ length outputs → value < 2 ^ (length outputs - left)
    → ((v : Valuation) → IsFrameNow r v → value ≡ word (drop left (map (literal_value v) outputs)))
    → ((v : Valuation) → IsFrameNow r v → b ≡ literal_value v (slice_index outputs (left - 1))) → now ≡ 2 * value + from_bool b
    → (left - 1 ≤ length outputs) × (now < 2 ^ (length outputs - (left - 1))) × ((v : Valuation) → IsFrameNow r v → now ≡ word (drop (left - 1) (map (literal_value v) outputs)))
one_read_before r outputs left value now b some within small read bit told =
    let is : now ≡ 2 * value + bit_number b = told ∙ ap (λ (n : ℕ). 2 * value + n) (number_of_byte b) in
    let places : length outputs - (left - 1) ≡ suc (length outputs - left) = omega (arith, some, within) in (
      omega (arith, within),
      rw places (omega (arith, is, small, two_more (length outputs - left), bit_number_small b)),
      λ v frame.
          let at : get_or (map (literal_value v) outputs) (left - 1) false ≡ b = get_or-map (literal_value v) outputs (left - 1) 0 false (omega (arith, some, within)) ∙ sym (bit v frame) in
          is
          ∙ (ap₂ (λ (w : ℕ) (c : Bool). 2 * w + bit_number c) (read v frame) (sym at)
          ∙ (omega arith ∙ sym (one_before (map (literal_value v) outputs) left some (omega (arith, within, length-map outputs (literal_value v)))))),
    )
