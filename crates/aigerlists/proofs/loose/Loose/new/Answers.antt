use Rattle.std.proofs.Common.{rules}
use Rattle.aigerlists.proofs.EmptyLemmas.{IsLoose-empty}
use Rattle.aigerlists.proofs.loose.Loose.new.Goals as goal

pub invariant_of-result : goal.invariant_of-result
invariant_of-result c =
    rw (c.new.ensures.items, c.new-2.ensures.items, c.new-3.ensures.items, c.new-4.ensures.outputs, c.new-4.ensures.bads, c.new-4.ensures.constraints, c.new-4.ensures.justice, c.new-4.ensures.fair, c.new-5.ensures) (IsLoose-empty, search rules)
