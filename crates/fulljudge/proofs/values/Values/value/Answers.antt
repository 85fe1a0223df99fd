use Rattle.std.proofs.Common.{◌≡◌, List, Some, None, map, option_map, subst, slice_get, arith, ap, sym, ◌∙◌}
use Rattle.std.proofs.lemmas.Option.{slice_get-map, slice_get_past, slice_get-get_or}
use Rattle.std.proofs.lemmas.List.{length-map}
use Rattle.full.specs.Lines.{Sort}
use Rattle.fulljudge.specs.declared.values.Value.{Value}
use Rattle.fulljudge.specs.Shapes.{first_index}
use Rattle.fulljudge.specs.Kept.{sort_kept}
use Rattle.fulljudge.proofs.ValuesLemmas.{first_is}
use Rattle.fulljudge.proofs.values.Values.value.Goals as goal

pub returns-then-index-len-clause-value : goal.returns-then-index-len-clause-value
returns-then-index-len-clause-value c =
    let list = c.self.inside.list.items in
    let v : Value = c.index.result.now in
    let there : slice_get list c.args.index ≡ Some v = slice_get-get_or list c.args.index v (omega (arith, c.if-index-len.true, c.len.ensures)) ∙ ap Some (sym c.index.ensures) in
    subst (λ (l : List Sort). (slice_get l c.args.index ≡ Some (sort_kept v)) × (v.first ≡ first_index l c.args.index)) c.self.view_is
    (slice_get-map sort_kept list c.args.index ∙ ap (option_map sort_kept) there, first_is list c.self.inside.words c.args.index v c.self.invariant there)

pub returns-else-index-len-clause-value : goal.returns-else-index-len-clause-value
returns-else-index-len-clause-value c =
    let list = c.self.inside.list.items in
    subst (λ (l : List Sort). slice_get l c.args.index ≡ None) c.self.view_is
    (slice_get_past (map sort_kept list) c.args.index (omega (arith, length-map list sort_kept, c.if-index-len.false, c.len.ensures)))
