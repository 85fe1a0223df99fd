use Rattle.std.proofs.Common.{ℕ, List, Option, option_and_then, option_map, slice_get, sym, ap, ◌∙◌}
use Rattle.std.proofs.lemmas.Option.{slice_get-map}
use Rattle.fullmodel.specs.Lines.{line_of}
use Rattle.full.specs.Lines.{FullLine}
use Rattle.verbs.specs.Subjects.{test_of}
use Rattle.verbs.proofs.PlaceLemmas.{numbered_at}
use Rattle.verbs.proofs.whole_model.WholeModel.line.Goals as goal

pub returns-in-Some : goal.returns-in-Some
returns-in-Some c =
    let full = c.args.self.now in
    ap (option_map line_of) c.entry_at.ensures
    ∙ sym (slice_get-map line_of c.lines.result.now c.in-Some.place)
    ∙ ap (λ (l : List FullLine). slice_get l c.in-Some.place) (c.lines.ensures.lines ∙ c.self.view_is)
    ∙ ap (λ (o : Option ℕ). option_and_then (slice_get full) o) c.in-Some.ensures
    ∙ numbered_at (test_of c.args.kind) full c.places.result.now c.args.number c.places.ensures

pub returns-in-None : goal.returns-in-None
returns-in-None c =
    let full = c.args.self.now in
    ap (λ (o : Option ℕ). option_and_then (slice_get full) o) c.in-None.ensures ∙ numbered_at (test_of c.args.kind) full c.places.result.now c.args.number c.places.ensures
