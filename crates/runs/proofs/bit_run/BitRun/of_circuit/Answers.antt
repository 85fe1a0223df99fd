use Rattle.std.proofs.Common.{◌≡◌, ℕ, ◌+◌, ◌<◌, List, length, map, get_or, replicate, ap, sym, subst, ◌∙◌, arith}
use Rattle.std.proofs.lemmas.List.{with_items_is, length-replicate}
use Rattle.std.specs.Vec.{with_items}
use Rattle.aiger.specs.declared.circuit.Latch.{Latch}
use Rattle.aiger.specs.Circuit.{Circuit, IsCircuit}
use Rattle.runs.specs.Arranging.{placed}
use Rattle.runs.specs.CircuitRun.{reset_bit}
use Rattle.runs.specs.CircuitHolds.{IsCopied}
use Rattle.runs.proofs.BitRunLemmas.{Starts, place_defined, latches_in, inputs_in, starts, circuit_run_same}
use Rattle.runs.proofs.bit_run.BitRun.of_circuit.Goals as goal
use Rattle.runs.proofs.bit_run.BitRun.of_circuit.Goals.{After-put_taken}

-- the bits of the latches, and those of all
taken_is : (c : After-put_taken) → (with_items c.in_ok-next_bits.next_bits c.take_first_bits.new.taken).items ≡ c.take_first_bits.new.taken
taken_is c = with_items_is c.in_ok-next_bits.next_bits c.take_first_bits.new.taken (omega arith)

put_is : (c : After-put_taken) → (with_items c.in_ok-bits.bits c.put_taken.new.bits).items ≡ c.put_taken.new.bits
put_is c = with_items_is c.in_ok-bits.bits c.put_taken.new.bits (omega arith)

begun : (c : After-put_taken) → Starts c.args.circuit.now c.in_ok-arrangement.arrangement c.in_ok-nexts.nexts.items c.take_first_bits.new.taken c.put_taken.new.bits
begun c =
    let circuit = c.args.circuit.now in
    let blank : c.deref_mut-2.result.now ≡ c.in_ok-bits.bits.items = c.deref_mut-2.ensures.value in
    let given : c.deref.result.now ≡ c.take_first_bits.new.taken = c.deref.ensures.value ∙ taken_is c in
    starts circuit c.in_ok-arrangement.arrangement c.in_ok-nexts.nexts.items c.in_ok-bits.bits.items c.take_first_bits.new.taken c.put_taken.new.bits (1 + c.inputs.result) c.variables.ensures.valid c.in_ok-arrangement.ensures (c.in_ok-nexts.ensures ∙ ap (map (λ (l : Latch). placed c.in_ok-arrangement.arrangement.places l.next)) c.latches.ensures.items) (ap (λ (n : ℕ). 1 + n) c.inputs.ensures.count)
    (c.in_ok-bits.ensures.items_if_clones_equal (λ y same. same) ∙ ap (λ (n : ℕ). replicate (n + 1) 0) c.variables.ensures.count)
    (λ j d within. c.take_first_bits.ensures.taken j d (subst (λ (ls : List Latch). j < length ls) (sym c.latches-3.ensures.items) within) ∙ ap (λ (ls : List Latch). reset_bit (get_or ls j d).reset) c.latches-3.ensures.items)
    (c.take_first_bits.ensures.as_many ∙ ap length (c.deref_mut.ensures.value ∙ c.in_ok-next_bits.ensures.items_if_clones_equal (λ y same. same)) ∙ length-replicate (length c.latches-2.result.now) 0 ∙ ap length c.latches-2.ensures.items)
    (subst (λ (l : List ℕ). IsCopied c.take_first_bits.new.taken (1 + c.inputs.result) l c.put_taken.new.bits) blank
    (subst (λ (l : List ℕ). IsCopied l (1 + c.inputs.result) c.deref_mut-2.result.now c.put_taken.new.bits) given c.put_taken.ensures))

pub nexts-requires : goal.nexts-requires
nexts-requires c k d h =
    let circuit : Circuit = c.args.circuit.now in
    let valid : IsCircuit circuit = c.latches.ensures.valid in
    let same : (get_or c.latches.result.now k d).next ≡ (get_or circuit.latches k d).next = ap (λ (ls : List Latch). (get_or ls k d).next) c.latches.ensures.items in
    let within : k < length circuit.latches = subst (λ (ls : List Latch). k < length ls) c.latches.ensures.items h in
    rw same (omega (arith, valid.small, place_defined circuit c.in_ok-arrangement.arrangement c.in_ok-arrangement.ensures (get_or circuit.latches k d).next (valid.defined.nexts k d within)))

pub invariant_of-result : goal.invariant_of-result
invariant_of-result c =
    let end = (goal.at.invariant_of-result c).After-put_taken in
    rw (c.new-2.ensures, c.new-3.ensures, c.new-4.ensures, put_is end, taken_is end) (begun end).keeps

pub returns : goal.returns
returns c =
    let circuit = c.args.circuit.now in
    let end = (goal.at.returns c).After-put_taken in
    rw (c.new-3.ensures) (circuit_run_same _ _ _ _ _ _ _ _ (ap (latches_in circuit) (put_is end) ∙ (begun end).latches) (ap (inputs_in circuit) (put_is end) ∙ (begun end).inputs) c.requires)
