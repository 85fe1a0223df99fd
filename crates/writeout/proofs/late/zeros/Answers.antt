use Rattle.std.proofs.Common.{refl}
use Rattle.btor2.specs.declared.item.Body.TheVariants as body
use Rattle.full.specs.Lines.{width_of}
use Rattle.writeout.specs.Tables.{writing}
use Rattle.writeout.proofs.OperandLemmas.{ok_with}
use Rattle.writeout.proofs.PutLemmas.{constant_put, width_put, constant_put_grows}
use Rattle.writeout.proofs.late.zeros.Goals as goal
use Rattle.writeout.proofs.FirstLemmas.{no_slice_zero}

pub put-requires-clause-sound : goal.put-requires-clause-sound
put-requires-clause-sound c =
    c.lines_are_sound.ensures.node c.sort.new.self (body.Zero c.in_ok-sort.sort) c.in_ok-sort.sort c.width.result refl c.in_ok-sort.ensures.sort refl (no_slice_zero c.sort.new.self c.in_ok-sort.sort) refl refl

pub returns-clause-constant : goal.returns-clause-constant
returns-clause-constant c =
    ok_with _ _ c.put.result
    (λ id put. constant_put c.sort.new.self c.put.new.self id _ (body.Zero c.in_ok-sort.sort) c.in_ok-sort.sort c.width.result (width_of c.args.full.now c.args.state) (0) put.0 put.2 refl c.in_ok-sort.ensures.sort c.width.ensures.width refl)
    c.put.ensures.line

pub returns-clause-width : goal.returns-clause-width
returns-clause-width c =
    ok_with _ _ c.put.result
    (λ id put. width_put c.sort.new.self c.put.new.self id _ (body.Zero c.in_ok-sort.sort) c.in_ok-sort.sort c.width.result (width_of c.args.full.now c.args.state) put.0 put.2 refl c.in_ok-sort.ensures.sort c.width.ensures.width)
    c.put.ensures.line

pub returns-clause-grows : goal.returns-clause-grows
returns-clause-grows c =
    ok_with _ _ c.put.result
    (λ id put. constant_put_grows c.args.full.now (writing c.args.tables.now c.args.maker.now) c.sort.new.self c.put.new.self id _ (body.Zero c.in_ok-sort.sort) c.requires.stands c.in_ok-sort.ensures.extends put.0 refl refl)
    c.put.ensures.line
