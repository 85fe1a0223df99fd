use Rattle.std.proofs.Common.{◌≤◌, subst}
use Rattle.full.specs.Lines.{sort_size}
use Rattle.fullmodel.specs.Lines.{sort_value}
use Rattle.fullmodel.specs.declared.sorts.Sort.{Sort}
use Rattle.writeout.proofs.SizeLemmas.{few_bits}
use Rattle.writeout.proofs.operands.sort_size.Goals as goal

pub overflow_shl-result : goal.overflow_shl-result
overflow_shl-result c =
    few_bits c.in-Arrays.index c.in-Arrays.element (subst (λ (s : Sort). 1 ≤ sort_size (sort_value s)) c.in-Arrays.is c.requires.least) (subst (λ (s : Sort). sort_size (sort_value s) ≤ 1048576) c.in-Arrays.is c.requires.most)
