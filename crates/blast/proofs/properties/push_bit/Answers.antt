use Rattle.std.proofs.Common.{◌≡◌, ℕ, List, true, sym, subst}
use Rattle.aiger.specs.Names.{is_name}
use Rattle.blast.proofs.NameLemmas.{symbol_is_name}
use Rattle.blast.proofs.properties.push_bit.Goals as goal

pub push_named-requires-in-Bad-clause-name : goal.push_named-requires-in-Bad-clause-name
push_named-requires-in-Bad-clause-name c = subst (λ (name : List ℕ). is_name name ≡ true) (sym c.bytes-in-Bad.ensures.bytes) (symbol_is_name c.in-Some.symbol c.bytes-in-Bad.ensures.valid)
