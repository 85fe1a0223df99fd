use Rattle.std.proofs.Common.{ℕ, length, nat_eq, ap, ◌∙◌}
use Rattle.btor2.proofs.SymbolLemmas.{whole_printed}
use Rattle.btor2.proofs.symbol.all_printed.Goals as goal

pub returns : goal.returns
returns c = ap (λ (n : ℕ). nat_eq n (length c.args.bytes.now)) c.printed_front.ensures ∙ whole_printed c.args.bytes.now
