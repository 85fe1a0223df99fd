use Rattle.std.proofs.Common.{◌≡◌, ◌<◌, All, replicate, sym, subst, rules, arith}
use Rattle.std.proofs.lemmas.List.Elements.{All-replicate}
use Rattle.witness.proofs.WordPlayLemmas.{none_behind}
use Rattle.witness.proofs.given.Given.new.Goals as goal

pub returns-in-Ok-clause-none : goal.returns-in-Ok-clause-none
returns-in-Ok-clause-none c =
    let is : c.in-Ok.last.items ≡ replicate c.args.count 0 = search rules in
    rw c.new.ensures (none_behind c.in-Ok.last.items 1 (subst (All (λ n. n < 1)) (sym is) (All-replicate (λ n. n < 1) c.args.count 0 (omega arith))))
