use Rattle.std.proofs.Common.{◌++◌, ◌∷◌, [], ap, ◌∙◌, arith}
use Rattle.base.proofs.RowLemmas.{one_more}
use Rattle.base.proofs.rows.Rows.push.Goals as goal

pub invariant_of-self-2 : goal.invariant_of-self-2
invariant_of-self-2 g c = (one_more c.self.inside.ends.items c.push.new.self.items c.self.inside.values.items c.extend_from_slice.new.self.items c.args.row.now c.len.result
    c.self.invariant (omega arith) (c.in-Ok.ensures.items ∙ ap (λ es. es ++ c.len.result ∷ []) c.in_ok-reserve.ensures.items) c.in_ok-extend_from_slice.ensures.items).0

pub returns-clause-ok : goal.returns-clause-ok
returns-clause-ok g c =
    rw (← c.self.view_is)
    (one_more c.self.inside.ends.items c.push.new.self.items c.self.inside.values.items c.extend_from_slice.new.self.items c.args.row.now c.len.result
    c.self.invariant (omega arith) (c.in-Ok.ensures.items ∙ ap (λ es. es ++ c.len.result ∷ []) c.in_ok-reserve.ensures.items) c.in_ok-extend_from_slice.ensures.items).1
