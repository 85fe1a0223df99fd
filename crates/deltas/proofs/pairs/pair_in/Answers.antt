use Rattle.std.proofs.Common.{◌≡◌, ◌≢◌, ◌+◌, ◌*◌, ◌/◌, ◌^◌, ◌<◌, ap, ◌∙◌, length, bit_and, bit_or, ◌%◌, refl, arith}
use Rattle.deltas.specs.Pairs.{ends_of}
use Rattle.deltas.proofs.PairLemmas.{FirstEnd, first_end, pair-holds, none_times, places_add, some_left}
use Rattle.deltas.proofs.pairs.pair_in.Goals as goal

pub returns-clause-deltas : goal.returns-clause-deltas
returns-clause-deltas c bytes rest eight are is =
    let ends_are : c.ends-ends.result ≡ ends_of bytes = c.ends-ends.ensures bytes eight are is in
    let none : c.without_lowest-others.result ≢ 0 = c.if-others-eq0.false in
    let some : 0 < ends_of bytes = some_left (ends_of bytes) c.without_lowest-others.result none (λ zero. c.without_lowest-others.ensures.none (ends_are ∙ zero)) in
    let f : FirstEnd bytes = first_end bytes are some in
    let first_is = ends_are ∙ f.is in
    let others_are = c.without_lowest-others.ensures.some (8 * length f.front + 7) (ends_of f.behind) first_is in
    let left : 0 < ends_of f.behind = some_left (ends_of f.behind) c.without_lowest-others.result none (λ zero. others_are ∙ none_times (2 ^ (8 * length f.front + 7 + 1)) (ends_of f.behind) zero) in
    let s : FirstEnd f.behind = first_end f.behind f.rest left in
    let second_is = others_are ∙ ap (λ n. 2 ^ (8 * length f.front + 7 + 1) * n) s.is ∙ places_add (8 * length f.front + 7 + 1) (8 * length s.front + 7) (ends_of s.behind) in
    pair-holds bytes rest c.args.word c.up_to_lowest-to_first.result c.up_to_lowest-to_second.result c.lowest.result c.lowest-2.result (bit_or (bit_and c.args.word c.up_to_lowest-to_first.result) (bit_and c.args.word c.up_to_lowest-to_second.result / 2 ^ c.lowest.result / 2 * 2 ^ 32 % 2 ^ 64)) c.values-numbers.result is f s
    (c.up_to_lowest-to_first.ensures (8 * length f.front + 7) (ends_of f.behind) first_is)
    (c.up_to_lowest-to_second.ensures (8 * length f.front + 7 + 1 + (8 * length s.front + 7)) (ends_of s.behind) second_is)
    (c.lowest.ensures.place (8 * length f.front + 7) (ends_of f.behind) first_is)
    (c.lowest-2.ensures.place (8 * length f.front + 7 + 1 + (8 * length s.front + 7)) (ends_of s.behind) second_is)
    (record { first_some = omega arith; second_some = omega arith; first_small = omega arith; second_small = omega arith; together = refl; are = c.values-numbers.ensures })
