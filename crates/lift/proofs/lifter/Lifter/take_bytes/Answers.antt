use Rattle.std.proofs.Common.{refl, sym, subst}
use Rattle.base.specs.Lines.{unfinished}
use Rattle.lift.specs.Stands.{Lifter, LiftsWith}
use Rattle.lift.proofs.LifterLemmas.{lifts_bytes}
use Rattle.lift.proofs.lifter.Lifter.take_bytes.Goals as goal

pub returns : goal.returns
returns c named items circuit text is h =
    let k = subst (λ (l : Lifter). LiftsWith named items circuit l text) (sym c.self.view_is) h in
    lifts_bytes named items circuit text c.args.bytes.now _ _ is k refl (c.take_bytes.ensures named circuit text is k.notes) (c.extend.ensures.cut c.self.inside.kept.room (unfinished text) k.kept)
