use Rattle.std.proofs.Common.{◌≡◌, ◌-◌, length, get_or, refl}
use Rattle.std.proofs.lemmas.Result.{IfOk-weaker}
use Rattle.gates.proofs.SizeLemmas.{MakesWord-size}
use Rattle.gates.proofs.sizes.size.Goals as goal

pub returns-clause-ok : goal.returns-clause-ok
returns-clause-ok g c =
    let a = c.args.a.now in
    let sign = c.index-a-a.result in
    let sign_is : sign ≡ get_or a (length a - 1) sign = c.index-a-a.is in
    IfOk-weaker c.negated_where.result _ _
    (λ bits makes. MakesWord-size (g.G.Gates.made c.args.g.now) (g.G.Gates.made c.negated_where.new.g) (length a) sign a bits.items c.requires.some refl sign_is makes)
    c.negated_where.ensures.ok
