use Rattle.std.proofs.Common.{◌++◌, ℕ, List, sym, subst, ap, ◌∙◌}
use Rattle.witness.specs.Readings.{is_nothing}
use Rattle.witness.specs.BitStands.{IsOfBitLines}
use Rattle.witness.proofs.TextEndLemmas.{whole_lines-part, unfinished-part}
use Rattle.witness.proofs.BitJudgeLemmas.{nothing_counted, told_unplayed}
use Rattle.witness.proofs.bit_lines.BitLines.finish.Goals as goal

pub returns : goal.returns
returns c circuit text j valid stands judged =
    let rest : List ℕ = c.args.rest.now in
    let left = unfinished-part text rest c.requires ∙ ap (λ (l : List ℕ). l ++ rest) stands.1 in
    told_unplayed circuit (text ++ rest) c.unplayed.result j valid
    (c.unplayed.ensures circuit (text ++ rest) (subst (IsOfBitLines circuit c.args.self) (sym (whole_lines-part text rest c.requires)) stands.0) (c.is_empty.ensures ∙ nothing_counted rest ∙ ap is_nothing (sym left))) judged
