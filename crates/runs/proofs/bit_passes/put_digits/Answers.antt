use Rattle.std.proofs.Common.{◌∙◌, ◌≡◌, ◌==◌, ℕ, ◌+◌, List, length, take, get_or, set, subst, sym, ap, rules, arith}
use Rattle.std.proofs.lemmas.List.{map_more, length-map, length-take-le}
use Rattle.base.specs.Literal.{bit_of}
use Rattle.runs.specs.CircuitRun.{written_bits}
use Rattle.runs.specs.CircuitHolds.{IsPut}
use Rattle.runs.proofs.BitPassLemmas.{put_more}
use Rattle.runs.proofs.bit_passes.put_digits.Goals as goal

pub loop-k-preserved : goal.loop-k-preserved
loop-k-preserved c =
    let digits : List ℕ = c.args.digits.now in
    let k : ℕ = c.loop-k.k in
    let many : length (written_bits (take k digits)) ≡ k = length-map (take k digits) (λ b. b == 49) ∙ length-take-le k digits (omega (arith, c.loop-k-test.true)) in
    let holds : bit_of c.from.result ≡ (get_or digits k 0 == 49) = search rules in
    subst (λ given. IsPut given c.args.first c.args.bits.now (set c.loop-k.bits (c.args.first + k) c.from.result)) (sym (map_more (λ b. b == 49) digits k 0 c.loop-k-test.true))
    (put_more (written_bits (take k digits)) (get_or digits k 0 == 49) c.args.first (c.args.first + k) c.from.result c.args.bits.now c.loop-k.bits holds (ap (λ (n : ℕ). c.args.first + n) (sym many)) (omega (arith, c.requires, c.loop-k-test.true)) c.loop-k.invariant)
