use Rattle.std.proofs.Common.{refl, subst}
use Rattle.btor2.specs.Check.{IsWellFormed}
use Rattle.btor2.specs.declared.item.Body.TheVariants as body
use Rattle.fitting.proofs.LineLemmas.{leaf_added}
use Rattle.std.proofs.Common.{true}
use Rattle.fitting.proofs.leaves.input.Goals as goal

pub returns-clause-adds : goal.returns-clause-adds
returns-clause-adds c = leaf_added true c.args.maker.now c.input.new.self c.in_ok-node.node c.args.width c.args.symbol (λ s. body.Input s) (λ s. refl) (λ s. refl) (λ s. refl) c.in_ok-node.ensures.line (subst IsWellFormed c.model.ensures c.items-items.ensures.well_formed)
