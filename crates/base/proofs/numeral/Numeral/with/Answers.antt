use Rattle.std.proofs.Common.{sym, subst, ◌++◌, ◌∷◌, []}
use Rattle.base.specs.Numerals.{CountsDigits}
use Rattle.base.proofs.NumeralLemmas.{counts_more}
use Rattle.base.proofs.numeral.Numeral.with.Goals as goal

pub returns : goal.returns
returns c bytes h = subst (λ n. CountsDigits n (bytes ++ c.args.byte ∷ [])) (sym c.more.ensures) (counts_more c.args.self bytes c.args.byte h)
