use Rattle.std.proofs.Common.{sym, ◌∙◌}
use Rattle.drup.proofs.WordLemmas.{says_zero, says_letter, says_number}
use Rattle.drup.proofs.word.Word.said.Goals as goal

pub returns-then-is_end : goal.returns-then-is_end
returns-then-is_end c bytes s = says_zero bytes (sym (c.is_end.ensures bytes s) ∙ c.if-is_end.true)

pub returns-then-self : goal.returns-then-self
returns-then-self c bytes s = says_letter bytes (sym (c.is_end.ensures bytes s) ∙ c.if-is_end.false) (sym s.deletes ∙ c.if-self.true)

pub returns : goal.returns
returns c bytes s =
    c.decimal_said.ensures
    ∙ says_number c.args.self bytes c.number.result s (sym (c.is_end.ensures bytes s) ∙ c.if-is_end.false) (sym s.deletes ∙ c.if-self.false) c.number.ensures
