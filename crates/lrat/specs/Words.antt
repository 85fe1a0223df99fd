-- What a word says, as the code has it.
use Rattle.std.specs.Prelude.{ℕ, Bool, true, false}
use Rattle.lrat.specs.declared.token.Token.{Token as CodeToken}
use Rattle.lrat.specs.declared.token.Token.TheVariants as code
use Rattle.lrat.specs.HintedProofs.{Token, ends, deletes, adds, removes, number, negative, faulty}

abbrev pub token_said : CodeToken → Token
token_said code.Ends = ends
token_said code.Deletes = deletes
token_said code.Adds = adds
token_said code.Removes = removes
token_said (code.Number n) = number n
token_said (code.Negative n) = negative n
token_said (code.Faulty w) = faulty w

-- a number, with a minus or without
abbrev pub signed : Bool → ℕ → CodeToken
signed false n = code.Number n
signed true n = code.Negative n
