use Rattle.std.proofs.Common.{List, ℕ, ◌++◌, ◌∷◌, [], ap, ◌∙◌}
use Rattle.aiger.proofs.FlatNameLemmas.{flat-push}
use Rattle.aiger.proofs.flat_names.FlatNames.push.Goals as goal

pub invariant_of-self-2 : goal.invariant_of-self-2
invariant_of-self-2 c =
    (flat-push c.self.inside.keys.items c.push-2.new.self.items c.self.inside.names c.push.new.self c.args.key c.args.name.now c.self.invariant
    (c.in-Ok.ensures.items ∙ ap (λ (ks : List ℕ). ks ++ c.args.key ∷ []) c.in_ok-reserve.ensures.items) c.in_ok-push.ensures.ok (rw c.self.view_is c.requires)).0

pub returns-clause-ok : goal.returns-clause-ok
returns-clause-ok c =
    rw (← c.self.view_is)
    (flat-push c.self.inside.keys.items c.push-2.new.self.items c.self.inside.names c.push.new.self c.args.key c.args.name.now c.self.invariant
    (c.in-Ok.ensures.items ∙ ap (λ (ks : List ℕ). ks ++ c.args.key ∷ []) c.in_ok-reserve.ensures.items) c.in_ok-push.ensures.ok (rw c.self.view_is c.requires)).1
