use Rattle.std.proofs.Common.{◌<◌, ◌^◌, subst}
use Rattle.fullmodel.specs.declared.sorts.Sort.{Sort}
use Rattle.fullmodel.specs.Lines.{sort_value}
use Rattle.fulljudge.specs.Shapes.{word_count}
use Rattle.fulljudge.proofs.ValuesLemmas.{few_bits}
use Rattle.fulljudge.proofs.values.word_count.Goals as goal

pub overflow_shl-result : goal.overflow_shl-result
overflow_shl-result c = few_bits c.in-Arrays.index (subst (λ (s : Sort). word_count (sort_value s) < 2 ^ 64) c.in-Arrays.is c.requires)
