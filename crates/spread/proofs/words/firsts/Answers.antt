use Rattle.std.proofs.Common.{◌≡◌, ℕ, [], ◌∷◌, ◌++◌, length, length-append, arith, sym, ap, ◌∙◌}
use Rattle.spread.proofs.WidthLemmas.{within_pieces, next_word, first_none, firsts_more}
use Rattle.spread.proofs.words.firsts.Goals as goal

pub loop-width-init : goal.loop-width-init
loop-width-init c = record { many = ap length c.in_ok-firsts.ensures.items; each = λ i less. absurd (omega (arith, less)); next = sym (first_none c.args.widths.now) }

pub overflow_add-next : goal.overflow_add-next
overflow_add-next c =
    let within = within_pieces c.args.widths.now c.loop-width.width-index c.loop-width-test.true in
    omega (arith, within, c.loop-width.invariant.next, c.piece_count-next.ensures, c.requires)

pub loop-width-preserved : goal.loop-width-preserved
loop-width-preserved c =
    let k : ℕ = c.loop-width.width-index in
    let grown : c.push.new.self.items ≡ c.loop-width.firsts.items ++ c.loop-width.next ∷ [] = c.in_ok-push.ensures.items in
    record {
      many = ap length grown ∙ (length-append c.loop-width.firsts.items (c.loop-width.next ∷ []) ∙ omega (arith, c.loop-width.invariant.many));
      each = firsts_more c.args.widths.now c.loop-width.firsts.items c.push.new.self.items k c.loop-width.next c.loop-width.invariant.many c.loop-width.invariant.each c.loop-width.invariant.next grown;
      next = omega (arith, next_word c.args.widths.now k c.loop-width-test.true, c.loop-width.invariant.next, c.piece_count-next.ensures);
    }
