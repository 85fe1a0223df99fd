use Rattle.std.proofs.Common.{ℕ, ◌+◌, ◌≤◌, List, slice_index_or, ap, subst, ◌∙◌, arith}
use Rattle.std.proofs.lemmas.List.{take_all}
use Rattle.pieces.specs.declared.node.Node.{Node}
use Rattle.pieces.specs.Cuts.{widths}
use Rattle.pieces.proofs.ListLemmas.{nodes_at, bits_taken}
use Rattle.fitting.specs.Names.{piece_symbol, names_from}
use Rattle.fitting.specs.Steps.{AddsOutputs}
use Rattle.fitting.proofs.NameLemmas.{pieces_have_bits}
use Rattle.fitting.proofs.LineLemmas.{nodes_later, all_nth, next_bits, show_next}
use Rattle.fitting.proofs.transitions.show_pieces.Goals as goal

pub piece_symbol-requires-clause-some : goal.piece_symbol-requires-clause-some
piece_symbol-requires-clause-some c = all_nth (λ (p : Node). 1 ≤ p.width) c.args.word.now c.loop-k.k _ c.loop-k-test.true (pieces_have_bits c.args.word.now c.requires.word.cut)

pub piece_symbol-requires-clause-most : goal.piece_symbol-requires-clause-most
piece_symbol-requires-clause-most c =
    let next = next_bits c.args.word.now c.loop-k.k (record { id = 0; width = 0 }) c.loop-k-test.true in
    let within = bits_taken (c.loop-k.k + 1) c.args.word.now in
    let lower = c.loop-k.invariant.lower in
    let few = c.requires.word.few in
    omega (arith, next, within, lower, few)

pub overflow_add-lower : goal.overflow_add-lower
overflow_add-lower c =
    let next = next_bits c.args.word.now c.loop-k.k (record { id = 0; width = 0 }) c.loop-k-test.true in
    let within = bits_taken (c.loop-k.k + 1) c.args.word.now in
    let lower = c.loop-k.invariant.lower in
    let few = c.requires.word.few in
    record { fits = omega (arith, next, within, lower, few) }

pub output-requires : goal.output-requires
output-requires c =
    record { a = nodes_at c.loop-k.maker c.args.word.now c.loop-k.k _ c.loop-k-test.true (nodes_later c.args.maker.now c.loop-k.maker c.loop-k.invariant.adds.more c.args.word.now c.loop-k.invariant.adds.is c.requires.word.nodes) }

pub loop-k-preserved : goal.loop-k-preserved
loop-k-preserved c =
    let d : Node = record { id = 0; width = 0 } in
    let next = next_bits c.args.word.now c.loop-k.k d c.loop-k-test.true in
    let lower = c.loop-k.invariant.lower in
    record {
      within = omega (arith, c.loop-k-test.true);
      lower = omega (arith, next, lower);
      adds = show_next c.args.maker.now c.loop-k.maker c.output.new.self c.args.word.now c.loop-k.k _ d c.args.symbol.now c.in_ok-name.name c.loop-k-test.true
          (c.in_ok-name.ensures.symbol ∙ ap (λ (m : ℕ). piece_symbol c.args.symbol.now m (slice_index_or c.args.word.now c.loop-k.k d).width) lower) c.loop-k.invariant.adds c.in_ok-output.ensures.line;
    }

pub returns-clause-adds : goal.returns-clause-adds
returns-clause-adds c =
    subst (λ (ps : List Node). AddsOutputs c.args.maker.now c.loop-k.maker ps (names_from c.args.symbol.now 0 (widths ps))) (take_all c.loop-k.k c.args.word.now (omega (arith, c.loop-k-test.false))) c.loop-k.invariant.adds
