use Rattle.std.proofs.Common.{◌≡◌, ℕ, true, List, sym, subst}
use Rattle.btor2.specs.Symbols.{is_symbol}
use Rattle.pieces.proofs.ListLemmas.{ok_with}
use Rattle.fitting.proofs.NameLemmas.{symbol_with_range}
use Rattle.fitting.proofs.names.name_before.Goals as goal

pub returns-clause-valid : goal.returns-clause-valid
returns-clause-valid c =
    let valid = symbol_with_range c.args.name.now c.args.range.now c.requires.name c.requires.short c.requires.printed in
    ok_with _ _ c.with_range.result (λ name is. subst (λ (l : List ℕ). is_symbol l ≡ true) (sym is) valid) c.with_range.ensures
