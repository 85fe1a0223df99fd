use Rattle.std.proofs.Common.{◌≡◌, ℕ, Some, slice_get, false, subst, sym, ◌∙◌, get_or}
use Rattle.btor2.specs.Leaves.{kind_of, list_of}
use Rattle.btor2.specs.Lists.{places}
use Rattle.btor2.proofs.LeafLemmas.{leaf_at}
use Rattle.blast.proofs.NameLemmas.{no_names}
use Rattle.blast.proofs.names.name_item.Goals as goal

pub returns-else-has-clause-ok : goal.returns-else-has-clause-ok
returns-else-has-clause-ok c =
    let at = subst (λ (p : ℕ). slice_get c.args.model.now p ≡ Some c.args.item.now) c.requires.here c.requires.place in
    let other : kind_of c.args.model.now c.args.leaves c.args.item.now ≡ false = sym (leaf_at c.args.model.now c.args.leaves (get_or (places (list_of c.args.leaves) 0 c.args.model.now) c.args.k 0) c.args.item.now at) ∙ sym c.has.ensures ∙ c.if-has.false in
    no_names c.args.model.now c.args.leaves c.args.circuit.now c.args.first c.args.item.now other
