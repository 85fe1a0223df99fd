use Rattle.std.proofs.Common.{◌≡◌, ◌==◌, ℕ, Bool, List, false, length, map, ap, sym, ◌∙◌, arith}
use Rattle.std.proofs.lemmas.List.{ext_get_or, get_or-map, length-map}
use Rattle.witness.specs.Texts.{digit}
use Rattle.lift.specs.Lifted.{bits_of_line}
use Rattle.lift.proofs.pieces.put_digits.Goals as goal

pub returns : goal.returns
returns c =
    let bits : List ℕ = c.args.bits.now in
    let is_one : ℕ → Bool = λ b. b == 49 in
    let many : length (bits_of_line bits) ≡ length bits = length-map bits is_one in
    ext_get_or 0 c.loop-k.digits (map digit (bits_of_line bits)) (c.loop-k.invariant.as_many ∙ sym (length-map (bits_of_line bits) digit ∙ many)) (λ j within.
    c.loop-k.invariant.digits j (omega arith) ∙ sym (get_or-map digit (bits_of_line bits) j false 0 (omega (arith, many)) ∙ ap digit (get_or-map is_one bits j 0 false (omega (arith, many)))))
