-- A circle of places is one of lines.
use Rattle.std.proofs.Common.{◌<◌, length, ap, subst, arith}
use Rattle.std.proofs.lemmas.List.{length-map}
use Rattle.fullmodel.specs.declared.line.Line.{Line}
use Rattle.fullmodel.specs.Lines.{line_of}
use Rattle.writeout.specs.Needs.{IsCircle}
use Rattle.writeout.proofs.NeedLemmas.{line_there}
use Rattle.writeout.proofs.OrderLemmas.{place_in_circle, line_circle}
use Rattle.writeout.proofs.ordered.circle.Goals as goal

pub offset_bounds-lines-place : goal.offset_bounds-lines-place
offset_bounds-lines-place c = omega (arith, place_in_circle c.args.full.now c.args.place c.requires)

pub bounds-lines-place : goal.bounds-lines-place
bounds-lines-place c =
    omega (arith, place_in_circle c.args.full.now c.args.place c.requires, ap length c.lines.ensures.lines, length-map c.lines.result.now line_of)

pub bounds-lines-place-2 : goal.bounds-lines-place-2
bounds-lines-place-2 c =
    omega (arith, place_in_circle c.args.full.now c.args.place c.requires, ap length c.lines.ensures.lines, length-map c.lines.result.now line_of)

pub returns : goal.returns
returns c =
    let within : c.args.place < length c.lines.result.now = omega (arith, place_in_circle c.args.full.now c.args.place c.requires, ap length c.lines.ensures.lines, length-map c.lines.result.now line_of) in
    let there = line_there c.lines.result.now c.args.full.now c.args.place c.index-lines-place.result c.lines.ensures.lines within c.index-lines-place.is in
    subst (λ (x : Line). IsCircle c.args.full.now x.id) c.index-lines-place.is (line_circle c.args.full.now c.args.place (line_of c.index-lines-place.result) c.know.ensures.model there c.requires)
