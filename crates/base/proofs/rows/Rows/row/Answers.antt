use Rattle.std.proofs.Common.{◌<◌, length, ap, arith}
use Rattle.base.proofs.RowLemmas.{length-rows_from, rows_from-at, AreEnds-at}
use Rattle.base.proofs.rows.Rows.row.Goals as goal

pub bounds-start-requires : goal.bounds-start-requires
bounds-start-requires g c = omega (arith, ap length c.self.view_is, ap length c.deref.ensures.value, length-rows_from 0 c.self.inside.ends.items c.self.inside.values.items)

pub between-requires : goal.between-requires
between-requires g c =
    let within : c.args.place < length c.self.inside.ends.items = omega (arith, ap length c.self.view_is, length-rows_from 0 c.self.inside.ends.items c.self.inside.values.items) in
    let ends = AreEnds-at 0 c.self.inside.ends.items (length c.self.inside.values.items) c.args.place c.self.invariant within in
    record {
      order = rw (c.bounds-start.ensures, c.deref.ensures.value) ends.0;
      within = rw (c.bounds-start.ensures, c.deref.ensures.value, c.deref-2.ensures.value) ends.1;
    }

pub returns : goal.returns
returns g c =
    let within : c.args.place < length c.self.inside.ends.items = omega (arith, ap length c.self.view_is, length-rows_from 0 c.self.inside.ends.items c.self.inside.values.items) in
    rw (← c.self.view_is, c.between.ensures, c.bounds-start.ensures, c.deref.ensures.value, c.deref-2.ensures.value) (rows_from-at 0 c.self.inside.ends.items c.self.inside.values.items c.args.place within)
