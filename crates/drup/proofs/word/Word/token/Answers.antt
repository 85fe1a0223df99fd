use Rattle.std.proofs.Common.{ap, sym, ◌∙◌}
use Rattle.drup.proofs.WordLemmas.{token_by, says_token}
use Rattle.drup.proofs.word.Word.token.Goals as goal

pub returns-in-Zero-clause-said : goal.returns-in-Zero-clause-said
returns-in-Zero-clause-said c bytes s = ap (token_by c.args.variables) (sym c.in-Zero.is ∙ c.said.ensures bytes s) ∙ says_token c.args.variables bytes

pub returns-in-Letter-clause-said : goal.returns-in-Letter-clause-said
returns-in-Letter-clause-said c bytes s = ap (token_by c.args.variables) (sym c.in-Letter.is ∙ c.said.ensures bytes s) ∙ says_token c.args.variables bytes

pub returns-in-Number-clause-said : goal.returns-in-Number-clause-said
returns-in-Number-clause-said c bytes s = c.numbered.ensures.said ∙ ap (token_by c.args.variables) (sym c.in-Number.is ∙ c.said.ensures bytes s) ∙ says_token c.args.variables bytes

pub returns-in-Negative-clause-said : goal.returns-in-Negative-clause-said
returns-in-Negative-clause-said c bytes s = c.numbered-in-Negative.ensures.said ∙ ap (token_by c.args.variables) (sym c.in-Negative.is ∙ c.said.ensures bytes s) ∙ says_token c.args.variables bytes

pub returns-in-Nothing-clause-said : goal.returns-in-Nothing-clause-said
returns-in-Nothing-clause-said c bytes s = ap (token_by c.args.variables) (sym c.in-Nothing.is ∙ c.said.ensures bytes s) ∙ says_token c.args.variables bytes
