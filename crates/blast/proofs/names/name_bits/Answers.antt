use Rattle.std.proofs.Common.{◌≡◌, ℕ, ◌+◌, List, Some, set, ap, subst, ◌∙◌, arith}
use Rattle.aiger.specs.Circuit.{section_names}
use Rattle.blast.specs.Leaves.{bit_name}
use Rattle.blast.specs.Sections.{Renames}
use Rattle.blast.proofs.NameLemmas.{WithBits, WithBits-none, WithBits-free, WithBits-more, unnamed_leaf}
use Rattle.blast.proofs.names.name_bits.Goals as goal

pub loop-bit-init : goal.loop-bit-init
loop-bit-init c = WithBits-none c.args.section c.args.circuit.now c.in-Some.symbol c.args.first

pub give_name-requires-clause-free : goal.give_name-requires-clause-free
give_name-requires-clause-free c =
    WithBits-free c.args.section c.args.circuit.now c.loop-bit.circuit c.in-Some.symbol c.args.first c.args.count c.loop-bit.bit c.loop-bit.invariant c.requires.free c.requires.room c.loop-bit-test.true

pub loop-bit-preserved : goal.loop-bit-preserved
loop-bit-preserved c =
    let name : c.as_slice.result.now ≡ bit_name c.in-Some.symbol c.loop-bit.bit =
    c.as_slice.ensures.value ∙ c.write_bit_name.ensures.name ∙ ap (λ (s : List ℕ). bit_name s c.loop-bit.bit) c.bytes.ensures.bytes in
    WithBits-more c.args.section c.args.circuit.now c.loop-bit.circuit c.give_name.new.circuit c.in-Some.symbol c.args.first c.loop-bit.bit c.loop-bit.invariant (omega arith)
    (subst (λ (n : List ℕ). Renames c.args.section c.loop-bit.circuit (set (section_names c.args.section c.loop-bit.circuit) (c.args.first + c.loop-bit.bit) (Some n)) c.give_name.new.circuit) name c.in_ok-give_name-in-Some.ensures.ok)

pub returns-after-loop-bit-clause-ok : goal.returns-after-loop-bit-clause-ok
returns-after-loop-bit-clause-ok c =
    let done : c.loop-bit.bit ≡ c.args.count = omega (arith, c.loop-bit-test.false) in
    rw c.in-Some.is (subst (λ (n : ℕ). WithBits c.args.section c.args.circuit.now c.loop-bit.circuit c.in-Some.symbol c.args.first n) done c.loop-bit.invariant)

pub returns-in-None-clause-ok : goal.returns-in-None-clause-ok
returns-in-None-clause-ok c = rw c.in-None.is (unnamed_leaf c.args.section c.args.circuit.now c.args.first c.args.count c.requires.free c.requires.room)
