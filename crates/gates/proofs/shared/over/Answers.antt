use Rattle.std.proofs.Common.{◌+◌, replicate, ◌∙◌, ap}
use Rattle.std.specs.HashMap.{get}
use Rattle.aiger.specs.Circuit.{net}
use Rattle.gates.specs.Chains.{longest, is_pair}
use Rattle.gates.proofs.ChainLemmas.{AreFound-none}
use Rattle.gates.proofs.SharedLemmas.{AreShared-none}
use Rattle.gates.proofs.shared.over.Goals as goal

pub invariant_of-result : goal.invariant_of-result
invariant_of-result c =
    let chains = c.in_ok-chains.chains in (
      c.requires.only,
      AreFound-none longest (net c.args.circuit) chains.last.items chains.before.items (get is_pair chains.beyond) c.requires.fresh
          (c.in_ok-chains.ensures.last ∙ ap (λ count. replicate (count + 1) 0) c.variables.ensures.count) c.in_ok-chains.ensures.before c.in_ok-chains.ensures.beyond,
      AreShared-none c.args.circuit.gates c.requires.fresh,
    )
