use Rattle.std.proofs.Common.{ℕ, ◌%◌, ◌^◌, Some, ap, sym, ◌∙◌}
use Rattle.std.proofs.Math.Nat.{mod-eq_of_lt}
use Rattle.pieces.specs.Constants.{digits_value}
use Rattle.wide.specs.Lines.{constant_item}
use Rattle.fitting.proofs.ConstantLemmas.{constant_below}
use Rattle.celled.proofs.NumberLemmas.{digits_same}
use Rattle.celled.proofs.lines.number_digits.Goals as goal

pub returns-in-Ok : goal.returns-in-Ok
returns-in-Ok c =
    let w = c.args.width in
    let word = c.in-Ok.ensures.word in
    let below = constant_below w (digits_value c.in-Ok.digits.items) (constant_item c.args.constant.now).body c.requires.least c.requires.fits word in
    word ∙ ap (λ (n : ℕ). Some n) (sym (mod-eq_of_lt below)) ∙ ap (λ (n : ℕ). Some (n % 2 ^ w)) (digits_same c.in-Ok.digits.items)
