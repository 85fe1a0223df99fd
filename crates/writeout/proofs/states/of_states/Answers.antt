use Rattle.std.proofs.Common.{[], ◌∷◌, ◌++◌, length, take, get_or, add-one, sym, ap, ◌∙◌, arith, List, ℕ}
use Rattle.std.proofs.lemmas.List.{length-map}
use Rattle.btor2.specs.Items.{is_state}
use Rattle.fullmodel.specs.Lines.{line_of}
use Rattle.writeout.specs.Leaves.{of_kind_lines}
use Rattle.writeout.proofs.NeedLemmas.{line_there}
use Rattle.writeout.proofs.StateLemmas.{of_kind_more}
use Rattle.writeout.proofs.states.of_states.Goals as goal

pub loop-place-preserved : goal.loop-place-preserved
loop-place-preserved c =
    let full = c.args.full.now in
    let place = c.loop-place.place in
    let line = c.index-lines-place.result in
    let many = sym (length-map c.lines-lines.result.now line_of) ∙ ap length c.lines-lines.ensures.lines in
    let there = line_there c.lines-lines.result.now full place line c.lines-lines.ensures.lines (omega arith) c.index-lines-place.is in
    c.in_ok-keep_state.ensures
    ∙ ap (λ (l : List ℕ). l ++ of_kind_lines is_state (line_of line ∷ []) (get_or c.args.numbers.now place 0 ∷ [])) c.loop-place.invariant
    ∙ sym (of_kind_more is_state full c.args.numbers.now place (line_of line) there (omega (arith, many)))
    ∙ ap (λ (k : ℕ). of_kind_lines is_state (take k full) (take k c.args.numbers.now)) (sym (add-one place))
