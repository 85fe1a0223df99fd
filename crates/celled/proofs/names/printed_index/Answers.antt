use Rattle.std.proofs.Common.{◌≡◌, ℕ, true, List, sym, subst}
use Rattle.std.specs.List.{list_all}
use Rattle.btor2.specs.Symbols.{is_printed}
use Rattle.pieces.proofs.ListLemmas.{ok_with}
use Rattle.celled.proofs.NameLemmas.{index_is_printed}
use Rattle.celled.proofs.names.printed_index.Goals as goal

pub returns-clause-printed : goal.returns-clause-printed
returns-clause-printed c =
    let printed = index_is_printed c.args.index c.ranges.index.fits in
    ok_with _ _ c.index_text.result (λ text is. subst (λ (l : List ℕ). list_all is_printed l ≡ true) (sym is) printed) c.index_text.ensures.text
