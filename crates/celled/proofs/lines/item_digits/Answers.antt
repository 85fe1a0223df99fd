use Rattle.std.proofs.Common.{ℕ, ◌%◌, ◌^◌, Some, ap, sym, ◌∙◌}
use Rattle.celled.proofs.NumberLemmas.{digits_same, word_there}
use Rattle.celled.proofs.lines.item_digits.Goals as goal

pub returns-in-Ok : goal.returns-in-Ok
returns-in-Ok c =
    word_there c.args.width c.args.body.now c.requires.form ∙ ap (λ (n : ℕ). Some n) (sym c.in-Ok.ensures.word) ∙ ap (λ (n : ℕ). Some (n % 2 ^ c.args.width)) (digits_same c.in-Ok.digits.items)
