use Rattle.std.proofs.Common.{ℕ, List, ◌++◌, ap, ◌∙◌}
use Rattle.drup.specs.ClauseBlocks.{joined}
use Rattle.drup.proofs.clause_blocks.ClauseBlocks.take_front.Goals as goal

pub returns-clause-parts : goal.returns-clause-parts
returns-clause-parts c =
    ap (λ (blocks : List (List (List ℕ))). (joined blocks ++ c.take_first-front.result) ++ (joined c.take_first-front.new.full.items ++ c.take_first-front.new.last)) c.new.ensures.items
    ∙ c.take_first-front.ensures.parts
    ∙ c.self.view_is
