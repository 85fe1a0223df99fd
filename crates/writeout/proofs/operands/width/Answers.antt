use Rattle.std.proofs.Common.{◌≤◌, ℕ, Option, IfSome, subst, sym, ◌∙◌, ap}
use Rattle.full.specs.Lines.{Sort, sort_size, size_of}
use Rattle.writeout.proofs.SizeLemmas.{size_least, size_most}
use Rattle.writeout.proofs.operands.width.Goals as goal

pub size-requires : goal.size-requires
size-requires c = subst (λ (o : Option Sort). IfSome o (λ s. (1 ≤ sort_size s) × (sort_size s ≤ 1048576))) (sym c.sort_of_node.ensures.sort) (c.know.ensures.nodes c.args.id)

pub returns : goal.returns
returns c =
    let same = c.size.ensures ∙ ap size_of c.sort_of_node.ensures.sort in
    record {
      width = same;
      least = λ there. subst (λ (n : ℕ). 1 ≤ n) (sym same) (size_least _ (c.know.ensures.nodes c.args.id) there);
      most = subst (λ (n : ℕ). n ≤ 1048576) (sym same) (size_most _ (c.know.ensures.nodes c.args.id));
    }
