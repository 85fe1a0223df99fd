use Rattle.std.proofs.Common.{ℕ, ◌+◌, ◌<◌, ◌^◌, arith, sym}
use Rattle.fulljudge.proofs.ValuesLemmas.{few_bits}
use Rattle.fulljudge.proofs.TextLemmas.{address_below}
use Rattle.fulljudge.proofs.word_lines.cell.Goals as goal

-- an array of which the cells can be counted has few bits in an index
bits_few : (first k : ℕ) → first + 2 ^ k < 2 ^ 64 → k < 64
bits_few first k few = few_bits k (omega (arith, few))

pub address-requires : goal.address-requires
address-requires c = omega (arith, bits_few c.args.first c.args.index_bits c.requires)

pub overflow_add-result : goal.overflow_add-result
overflow_add-result c = omega (arith, address_below c.args.index_bits c.front_and_tail.result.0.now c.in-Some.cell (sym c.in-Some.ensures), c.requires)
