use Rattle.std.proofs.Common.{◌≤◌, length, arith}
use Rattle.witness.proofs.EightDigitLemmas.{front_room, eight_long, eight_small, eight_more, some_unknown, known_end}
use Rattle.witness.proofs.word_value.known_word.Goals as goal

pub overflow_mul-word : goal.overflow_mul-word
overflow_mul-word c =
    let inside : 8 ≤ length c.loop-eight.rest.now = omega (arith, c.in-Some.ensures.cases.2) in
    omega (arith, front_room c.loop-eight.word 8 c.loop-eight.invariant.0 c.loop-eight.rest.now c.args.bytes.now c.loop-eight.invariant.1.1 c.loop-eight.invariant.1.0 c.requires inside)

pub overflow_add-word : goal.overflow_add-word
overflow_add-word c =
    let inside : 8 ≤ length c.loop-eight.rest.now = omega (arith, c.in-Some.ensures.cases.2) in
    let long = eight_long c.in-Some.eight.now c.in-Some.behind.now c.loop-eight.rest.now c.in-Some.ensures.cases.0 c.in-Some.ensures.cases.2 in
    omega (arith, front_room c.loop-eight.word 8 c.loop-eight.invariant.0 c.loop-eight.rest.now c.args.bytes.now c.loop-eight.invariant.1.1 c.loop-eight.invariant.1.0 c.requires inside, eight_small c.in-Some.eight.now long c.in_ok-bits.ensures.0, c.in_ok-bits.ensures.1)

pub loop-eight-preserved : goal.loop-eight-preserved
loop-eight-preserved c =
    let long = eight_long c.in-Some.eight.now c.in-Some.behind.now c.loop-eight.rest.now c.in-Some.ensures.cases.0 c.in-Some.ensures.cases.2 in
    eight_more c.loop-eight.word c.in_ok-bits.bits c.loop-eight.invariant.0 c.in-Some.eight.now c.in-Some.behind.now c.loop-eight.rest.now c.args.bytes.now c.loop-eight.invariant.1.1 c.loop-eight.invariant.1.0 c.in-Some.ensures.cases.0 c.in-Some.ensures.cases.1 long
    c.in_ok-bits.ensures.0 c.in_ok-bits.ensures.1

pub returns-in_err-bits : goal.returns-in_err-bits
returns-in_err-bits c = rw c.from_residual.ensures (some_unknown c.loop-eight.invariant.0 c.in-Some.eight.now c.loop-eight.rest.now c.args.bytes.now c.loop-eight.invariant.1.0 c.in-Some.ensures.cases.0 c.in_err-bits.ensures)

pub known_behind-requires-clause-room : goal.known_behind-requires-clause-room
known_behind-requires-clause-room c = front_room c.loop-eight.word (length c.loop-eight.rest.now) c.loop-eight.invariant.0 c.loop-eight.rest.now c.args.bytes.now c.loop-eight.invariant.1.1 c.loop-eight.invariant.1.0 c.requires (omega arith)

pub returns : goal.returns
returns c = known_end c.known_behind.result c.loop-eight.word c.loop-eight.invariant.0 c.loop-eight.rest.now c.args.bytes.now c.loop-eight.invariant.1.0 c.loop-eight.invariant.1.1 c.known_behind.ensures
