use Rattle.std.proofs.Common.{◌++◌, ℕ, List, reverse, ap, sym, ◌∙◌}
use Rattle.witness.specs.Texts.{digit}
use Rattle.lift.specs.Lifted.{bits_of_line}
use Rattle.lift.proofs.PutLemmas.{map-reversed}
use Rattle.lift.proofs.pieces.add_digits.Goals as goal

pub returns : goal.returns
returns c =
    c.text.ensures ∙ ap (λ (l : List ℕ). l ++ c.args.line.now) (c.reverse.ensures.after ∙ ap reverse c.put_digits.ensures ∙ sym (map-reversed digit (bits_of_line c.args.bits.now)))
