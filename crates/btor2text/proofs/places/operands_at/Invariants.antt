use Rattle.std.proofs.Common.{◌≡◌, ◌-◌, ◌++◌, Ok}
use Rattle.btor2text.specs.Tokens.{tokens}
use Rattle.btor2text.specs.Reading.{◌>>=◌, operands_at}
use Rattle.btor2text.proofs.places.operands_at.Given as goal

abbrev pub invariant-loop : goal.invariant-loop
invariant-loop l = (operands_at (l.count - l.counter) (tokens l.rest) >>= λ x. Ok (l.ids.items ++ x.0, x.1)) ≡ operands_at l.fn.count (tokens l.fn.line)
