use Rattle.std.proofs.Common.{ℕ, ◌+◌, ap₂, sym, subst, ◌∙◌, arith}
use Rattle.std.proofs.lemmas.List.{get_or_read}
use Rattle.aiger.specs.declared.circuit.Reset.{Reset}
use Rattle.aiger.specs.Net.{IsDefined}
use Rattle.aiger.specs.Circuit.{net, with_latch}
use Rattle.blast.proofs.LatchLemmas.{WithRow-none, WithRow-length, WithRow-defined, WithRow-more}
use Rattle.blast.proofs.latches.set_row.Goals as goal

pub loop-bit-init : goal.loop-bit-init
loop-bit-init c = WithRow-none c.args.circuit.now c.args.first c.args.init c.args.row.now

pub set_bit-requires-clause-there : goal.set_bit-requires-clause-there
set_bit-requires-clause-there c =
    omega (arith, WithRow-length c.args.circuit.now c.loop-bit.circuit c.args.first c.args.init c.args.row.now c.loop-bit.bit c.loop-bit.invariant (omega arith) c.requires.room)

pub set_bit-requires-clause-defined : goal.set_bit-requires-clause-defined
set_bit-requires-clause-defined c =
    subst (IsDefined (net c.loop-bit.circuit)) (sym (get_or_read c.args.row.now c.loop-bit.bit c.index-row-bit.result c.loop-bit-test.true c.index-row-bit.is 0))
    (WithRow-defined c.args.circuit.now c.loop-bit.circuit c.args.first c.args.init c.args.row.now c.loop-bit.bit c.loop-bit.invariant c.loop-bit-test.true c.requires.room c.requires.defined)

pub loop-bit-preserved : goal.loop-bit-preserved
loop-bit-preserved c =
    let next = get_or_read c.args.row.now c.loop-bit.bit c.index-row-bit.result c.loop-bit-test.true c.index-row-bit.is 0 in
    WithRow-more c.args.circuit.now c.loop-bit.circuit c.set_bit.new.circuit c.args.first c.args.init c.args.row.now c.loop-bit.bit c.loop-bit.invariant c.loop-bit-test.true c.requires.room
    (c.set_bit.ensures ∙ ap₂ (λ (l : ℕ) (r : Reset). with_latch c.loop-bit.circuit (c.args.first + c.loop-bit.bit) (record { next = l; reset = r })) next c.reset_of.ensures)
