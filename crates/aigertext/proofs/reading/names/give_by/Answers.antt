use Rattle.std.proofs.Common.{◌≡◌, Err, inr, refl, sym, ◌∙◌, rules}
use Rattle.std.proofs.lemmas.Option.{MatchOption-at_some, MatchOption-at_none}
use Rattle.aigertext.specs.declared.fault.Why.TheVariants as why
use Rattle.aigertext.proofs.FrontLemmas.{cut-none, cut-at}
use Rattle.aigertext.proofs.reading.names.give_by.Goals as goal

pub returns-in_err-digits : goal.returns-in_err-digits
returns-in_err-digits c =
    let is : c.from_residual.result ≡ Err why.BadSymbol = search rules in
    rw (is, cut-none 32 c.args.bytes.now (MatchOption-at_none _ _ c.in_err-digits.ensures.ok_part c.cut_at.ensures)) (inr refl)

pub returns-in_err-position : goal.returns-in_err-position
returns-in_err-position c =
    let cut = MatchOption-at_some _ _ _ c.in_ok-digits.ensures.ok_part c.cut_at.ensures in
    let is : c.from_residual-in_err-position.result ≡ Err why.BadSymbol = search rules in
    rw (is, cut-at 32 c.args.bytes.now c.in_ok-digits.digits.now c.in_ok-digits.name.now cut.0 cut.1, sym c.decimal.ensures ∙ c.in_err-position.ensures.ok_part) (inr refl)

pub returns : goal.returns
returns c =
    let cut = MatchOption-at_some _ _ _ c.in_ok-digits.ensures.ok_part c.cut_at.ensures in
    rw (cut-at 32 c.args.bytes.now c.in_ok-digits.digits.now c.in_ok-digits.name.now cut.0 cut.1, sym c.decimal.ensures ∙ c.in_ok-position.ensures.ok_part) c.give.ensures
