use Rattle.std.proofs.Common.{ℕ, List, Option, sym, subst, subst₂}
use Rattle.pieces.specs.declared.node.Node.{Node}
use Rattle.pieces.specs.Cuts.{widths, IsWord}
use Rattle.fitting.specs.Names.{word_names}
use Rattle.fitting.specs.Steps.{AddsOutputs}
use Rattle.fitting.specs.Tables.{table_of}
use Rattle.fitting.proofs.FormLemmas.{output_fitted}
use Rattle.fitting.proofs.FitterLemmas.{ok_then, output_word}
use Rattle.fitting.proofs.fitter.Fitter.add_output.Goals as goal

pub show-requires : goal.show-requires
show-requires g c =
    record { word = subst (IsWord c.args.self.now.maker) (sym c.get.ensures) (output_word g.at.wide (table_of c.args.self.now) c.args.self.now.maker g.at.id c.args.operand g.at.symbol c.requires.0 c.requires.1.0) }

pub returns-clause-fitted : goal.returns-clause-fitted
returns-clause-fitted g c =
    ok_then _ _ c.show.result
    (λ adds.
    output_fitted g.at.wide (table_of c.args.self.now) c.args.self.now.maker c.show.new.maker g.at.id c.args.operand g.at.symbol c.requires.0 c.requires.1.0
    (subst₂ (λ (ps : List Node) (s : Option (List ℕ)). AddsOutputs c.args.self.now.maker c.show.new.maker ps (word_names s (widths ps))) c.get.ensures (sym c.requires.1.1) adds)) c.show.ensures.adds
