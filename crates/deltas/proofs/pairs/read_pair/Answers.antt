use Rattle.std.proofs.Common.{◌≡◌, ℕ, List, ◌++◌, drop, subst, ◌∙◌, IfSome, arith}
use Rattle.deltas.specs.Deltas.{delta}
use Rattle.deltas.proofs.PairLemmas.{eight_first}
use Rattle.deltas.proofs.pairs.read_pair.Goals as goal

pub returns-clause-deltas : goal.returns-clause-deltas
returns-clause-deltas c =
    let e = eight_first c.args.text.now c.in-len8-up.len_at_least (λ i. omega (arith, c.type_inv.text i)) in
    subst (λ (l : List ℕ). IfSome c.pair_in.result (λ x. l ≡ delta x.first ++ (delta x.second ++ drop x.length l))) e.parts
    (c.pair_in.ensures.deltas e.bytes e.rest e.eight e.are (c.from_le_bytes.ensures ∙ e.word))
