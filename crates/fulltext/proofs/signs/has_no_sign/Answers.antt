use Rattle.std.proofs.Common.{◌≡◌, sym, ◌∙◌}
use Rattle.std.proofs.lemmas.Bool.{not-true}
use Rattle.fulltext.proofs.SignLemmas.{line_free}
use Rattle.fulltext.proofs.signs.has_no_sign.Goals as goal

pub returns : goal.returns
returns c = λ yes before count. line_free c.args.line.now before count (sym c.has_dash.ensures ∙ not-true c.has_dash.result yes)
