use Rattle.std.proofs.Common.{◌≡◌, ℕ, length, List, map, ap, sym, ◌∙◌}
use Rattle.std.specs.List.{flat_map}
use Rattle.std.proofs.lemmas.List.{length-map}
use Rattle.std.proofs.lemmas.List.Concat.{concat_is}
use Rattle.base.proofs.RowLemmas.{mapped_rows}
use Rattle.aigerlists.specs.Loose.{Loose}
use Rattle.aigerlists.specs.Renumbering.{new_literal}
use Rattle.aigerlists.proofs.NumberingLemmas.{are_by_numbers, new_latch}
use Rattle.aigerlists.proofs.renumbering.new_lists.Goals as goal

pub with_values-requires : goal.with_values-requires
with_values-requires c =
    ap length c.in_ok-literals.ensures ∙ length-map c.justice_literals.result.now (new_literal c.args.numbers.now)
    ∙ ap length (c.justice_literals.ensures.items ∙ concat_is c.args.lines.now.justice ∙ ap (flat_map (λ row. row)) (sym c.justice_list.ensures))

pub returns : goal.returns
returns c =
    let l : Loose = c.args.lines.now in
    let names : List ℕ = c.args.numbers.now in
    let literals : c.in_ok-literals.literals.items ≡ map (new_literal names) (flat_map (λ row. row) l.justice) = c.in_ok-literals.ensures ∙ ap (map (new_literal names)) (c.justice_literals.ensures.items ∙ concat_is l.justice) in
    are_by_numbers l names (length c.inputs.result.now) c.in_ok-latches.latches.items c.args.gates.items c.in_ok-outputs.outputs.items c.in_ok-bads.bads.items c.in_ok-constraints.constraints.items c.in_ok-justice.justice c.in_ok-fair.fair.items c.in_ok-names.names
    (ap length c.inputs.ensures.items)
    (c.in_ok-latches.ensures ∙ ap (map (new_latch names)) c.latches.ensures.items)
    (c.in_ok-outputs.ensures ∙ ap (map (new_literal names)) c.outputs.ensures.items)
    (c.in_ok-bads.ensures ∙ ap (map (new_literal names)) c.bads.ensures.items)
    (c.in_ok-constraints.ensures ∙ ap (map (new_literal names)) c.constraints.ensures.items)
    (mapped_rows (new_literal names) l.justice c.in_ok-justice.justice (c.in_ok-justice.ensures.values ∙ literals) (c.in_ok-justice.ensures.lengths ∙ ap (map length) c.justice_list.ensures))
    (c.in_ok-fair.ensures ∙ ap (map (new_literal names)) c.fair.ensures.items)
    (c.in_ok-names.ensures ∙ c.name_keeper.ensures)
