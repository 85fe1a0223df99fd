use Rattle.std.proofs.Common.{Bool, true, false}
use Rattle.lift.specs.Lifted.{lifted_with}
use Rattle.lift.proofs.AssignedLemmas.{lifted_witness}
use Rattle.lift.proofs.NamelessLemmas.{says_with, judged_alike}
use Rattle.lift.proofs.laws.names_mean_nothing.Goals as goal

pub returns : goal.returns
returns c items circuit text w j l says few =
    let r = c.bit_texts_read.ensures.read circuit text w l.circuit says in
    let read = λ (named : Bool). c.texts_read.ensures.read items (lifted_with named items circuit text) (lifted_witness named items w) l.well_formed (says_with items circuit text w l says named r.0 r.1.0 few) in
    let with = read true in
    let without = read false in (
      judged_alike items circuit text w l says true false j r.0 with.0 without.0 r.1.0 with.1.0 with.1.1 without.1.0 without.1.1,
      judged_alike items circuit text w l says false true j r.0 without.0 with.0 r.1.0 without.1.0 without.1.1 with.1.0 with.1.1,
    )
