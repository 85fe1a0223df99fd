use Rattle.std.proofs.Common.{◌≡◌, ℕ, true, List, sym, subst}
use Rattle.std.specs.List.{list_all}
use Rattle.btor2.specs.Symbols.{is_printed}
use Rattle.pieces.proofs.ListLemmas.{ok_with}
use Rattle.fitting.proofs.NameLemmas.{range_is_printed}
use Rattle.fitting.proofs.names.printed_range.Goals as goal

pub returns-clause-printed : goal.returns-clause-printed
returns-clause-printed c =
    let printed = range_is_printed c.args.upper c.args.lower c.ranges.upper.fits c.ranges.lower.fits in
    ok_with _ _ c.range_text.result (λ text is. subst (λ (l : List ℕ). list_all is_printed l ≡ true) (sym is) printed) c.range_text.ensures.text
