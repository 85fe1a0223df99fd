use Rattle.std.proofs.Common.{◌≡◌, ℕ, List, [], ◌∷◌, ◌++◌, decimal, append_assoc, sym, ap, ◌∙◌}
use Rattle.spread.proofs.GivingLemmas.{gives_anew, decimal_line}
use Rattle.spread.proofs.giving.give_piece.Goals as goal

pub returns : goal.returns
returns g c =
    let at_hand : c.number.new.self ≡ (decimal c.args.index ++ 32 ∷ c.args.digits.now) ++ 10 ∷ [] =
    c.number.ensures.digits
    ∙ (ap (λ (l : List ℕ). decimal c.args.index ++ l) (c.byte-2.ensures ∙ ap (λ (l : List ℕ). 32 ∷ l) (c.text.ensures ∙ ap (λ (l : List ℕ). c.args.digits.now ++ l) (c.byte.ensures ∙ ap (λ (l : List ℕ). 10 ∷ l) c.clear.ensures)))
    ∙ sym (append_assoc (decimal c.args.index) (32 ∷ c.args.digits.now) (10 ∷ []))) in
    gives_anew (c.give_line.ensures (decimal c.args.index ++ 32 ∷ c.args.digits.now) (decimal_line c.args.index (32 ∷ c.args.digits.now) c.ranges.index.fits c.requires.line) at_hand)
