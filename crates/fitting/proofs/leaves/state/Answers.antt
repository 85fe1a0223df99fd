use Rattle.std.proofs.Common.{refl, subst}
use Rattle.btor2.specs.Check.{IsWellFormed}
use Rattle.btor2.specs.declared.item.Body.TheVariants as body
use Rattle.fitting.proofs.LineLemmas.{leaf_added}
use Rattle.std.proofs.Common.{false}
use Rattle.fitting.proofs.leaves.state.Goals as goal

pub returns-clause-adds : goal.returns-clause-adds
returns-clause-adds c = leaf_added false c.args.maker.now c.state.new.self c.in_ok-node.node c.args.width c.args.symbol (λ s. body.State s) (λ s. refl) (λ s. refl) (λ s. refl) c.in_ok-node.ensures.line (subst IsWellFormed c.model.ensures c.items-items.ensures.well_formed)
