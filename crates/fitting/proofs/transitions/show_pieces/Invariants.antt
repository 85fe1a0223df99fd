use Rattle.std.proofs.Common.{◌≡◌, ◌≤◌, length, take}
use Rattle.pieces.specs.Nodes.{bits_in}
use Rattle.pieces.specs.Cuts.{widths}
use Rattle.fitting.specs.Names.{names_from}
use Rattle.fitting.specs.Steps.{AddsOutputs}
use Rattle.fitting.proofs.transitions.show_pieces.Given as goal

abbrev pub invariant-loop-k : goal.invariant-loop-k
invariant-loop-k l = record {
  within : l.k ≤ length l.word;
  lower : l.lower ≡ bits_in (take l.k l.word);
  adds : AddsOutputs l.fn.maker l.maker (take l.k l.word) (names_from l.symbol 0 (widths (take l.k l.word)));
}
