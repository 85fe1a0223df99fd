use Rattle.std.proofs.lemmas.Bool.{ne_eqb}
use Rattle.drup.specs.Words.{token_said}
use Rattle.drup.proofs.NumberLemmas.{says_needless, says_literal}
use Rattle.drup.proofs.number.Number.token.Goals as goal

pub returns-then-byte-eq0-clause-said : goal.returns-then-byte-eq0-clause-said
returns-then-byte-eq0-clause-said c bytes s = says_needless c.args.variables bytes c.args.byte c.if-byte-eq0.true

pub returns-clause-said : goal.returns-clause-said
returns-clause-said c bytes s =
    says_literal c.args.variables bytes c.args.byte c.number.result (token_said c.numbered.result) c.requires.variables c.requires.last (ne_eqb c.args.byte 0 c.if-byte-eq0.false) c.numbered.ensures.said (c.number.ensures bytes s)
