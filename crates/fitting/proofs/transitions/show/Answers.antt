use Rattle.std.proofs.Common.{sym, subst}
use Rattle.fitting.specs.Steps.{AddsOutputs}
use Rattle.fitting.proofs.NameLemmas.{many_names}
use Rattle.fitting.proofs.FitterLemmas.{ok_then}
use Rattle.fitting.proofs.transitions.show.Goals as goal

pub returns-then-word-ne1-clause-adds : goal.returns-then-word-ne1-clause-adds
returns-then-word-ne1-clause-adds c =
    ok_then _ _ c.show_pieces.result (λ adds. subst (AddsOutputs c.args.maker.now c.show_pieces.new.maker c.args.word.now) (sym (many_names c.args.symbol c.args.word.now c.if-word-ne1.true)) adds) c.show_pieces.ensures.adds
