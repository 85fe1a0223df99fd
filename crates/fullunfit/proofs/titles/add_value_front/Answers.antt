use Rattle.std.proofs.Common.{◌<◌, ◌^◌, length, arith, ap, subst}
use Rattle.fullmodel.specs.declared.sorts.Sort.{Sort}
use Rattle.fullmodel.specs.Lines.{sort_value}
use Rattle.fulljudge.specs.Shapes.{word_count}
use Rattle.fulljudge.proofs.ValuesLemmas.{few_bits}
use Rattle.fullunfit.proofs.titles.add_value_front.Goals as goal

pub add_digits-requires-clause-allowed : goal.add_digits-requires-clause-allowed
add_digits-requires-clause-allowed c = let few = few_bits c.in-Arrays.bits (subst (λ (s : Sort). word_count (sort_value s) < 2 ^ 64) c.in-Arrays.is c.requires.cells) in omega (arith, few)

pub byte-requires-in-Arrays : goal.byte-requires-in-Arrays
byte-requires-in-Arrays c =
    let few = few_bits c.in-Arrays.bits (subst (λ (s : Sort). word_count (sort_value s) < 2 ^ 64) c.in-Arrays.is c.requires.cells) in omega (arith, few, c.add_digits.ensures.many, ap length c.byte.ensures, c.requires.line)

pub byte-requires-in-Arrays-2 : goal.byte-requires-in-Arrays-2
byte-requires-in-Arrays-2 c =
    let few = few_bits c.in-Arrays.bits (subst (λ (s : Sort). word_count (sort_value s) < 2 ^ 64) c.in-Arrays.is c.requires.cells) in
    omega (arith, few, c.add_digits.ensures.many, ap length c.byte.ensures, c.requires.line, ap length c.byte-in-Arrays.ensures)

pub number-requires-in-Arrays : goal.number-requires-in-Arrays
number-requires-in-Arrays c =
    let few = few_bits c.in-Arrays.bits (subst (λ (s : Sort). word_count (sort_value s) < 2 ^ 64) c.in-Arrays.is c.requires.cells) in
    omega (arith, few, c.add_digits.ensures.many, ap length c.byte.ensures, c.requires.line, ap length c.byte-in-Arrays.ensures, ap length c.byte-in-Arrays-2.ensures)
