use Rattle.std.proofs.Common.{◌≡◌, ◌∙◌, ap, sym, arith, List, refl, Some, length, option_map, slice_get}
use Rattle.std.proofs.lemmas.Option.{slice_get-map, slice_get_read}
use Rattle.fullmodel.specs.Lines.{line_of}
use Rattle.full.specs.Lines.{FullLine}
use Rattle.verbs.specs.Subjects.{test_of}
use Rattle.verbs.proofs.PlaceLemmas.{first_more}
use Rattle.verbs.proofs.whole_model.places_of.Goals as goal

pub loop-place-preserved : goal.loop-place-preserved
loop-place-preserved c =
    let lines = c.lines-line-items.result.now in
    let place = c.loop-place.place in
    let there : slice_get lines place ≡ Some c.line-item.result = slice_get_read lines (length lines) place c.line-item.result refl (omega (arith, c.loop-place-test.true)) c.line-item.is in
    let at : slice_get c.args.model.now place ≡ Some (line_of c.line-item.result) =
    ap (λ (l : List FullLine). slice_get l place) (sym c.lines-line-items.ensures.lines) ∙ slice_get-map line_of lines place ∙ ap (option_map line_of) there in
    record { first = first_more (test_of c.args.kind) c.args.model.now c.loop-place.places.items c.put_place.new.places.items place (line_of c.line-item.result) at c.loop-place.invariant.first c.in_ok-put_place.ensures }
