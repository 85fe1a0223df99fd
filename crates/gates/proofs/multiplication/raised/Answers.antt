use Rattle.std.proofs.Common.{◌≡◌, ◌++◌, ◌-◌, length, take, replicate, refl, rules}
use Rattle.gates.proofs.ProductLemmas.{word_value-raised}
use Rattle.gates.proofs.multiplication.raised.Goals as goal

pub returns-clause-means : goal.returns-clause-means
returns-clause-means c = λ v.
    let a = c.args.a.now in
    let items : c.append.new.bits.items ≡ replicate c.args.by 0 ++ take (length a - c.args.by) a = search rules in
    rw items (word_value-raised v a (length a) c.args.by refl c.requires.inside)
