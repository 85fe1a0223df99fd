use Rattle.std.proofs.Common.{ℕ, List, ◌+◌, ◌-◌, ◌*◌, ◌/◌, ◌^◌, ◌<◌, ◌≤◌, ◌≡◌, arith, ap₂, subst, sym, inl, inr, ◌∙◌, drop}
use Rattle.std.proofs.lemmas.Bool.{cases_eq}
use Rattle.base.specs.Writing.{WritesText}
use Rattle.base.proofs.PenLemmas.{writes_none, writes_then}
use Rattle.unfit.specs.Steps.{piece_word_at}
use Rattle.unfit.proofs.DigitLemmas.{all_pieces, piece_digits, piece_step}
use Rattle.unfit.proofs.digits.put_digits.Goals as goal

pub loop-left-init : goal.loop-left-init
loop-left-init g c =
    let none : (c.args.width + 63) / 64 - c.piece_count-left.result ≡ 0 = omega (arith, c.piece_count-left.ensures) in
    record {
      writes = rw none writes_none;
      most = omega (arith, c.piece_count-left.ensures);
      words = λ i above below. absurd (omega (arith, above, below, c.piece_count-left.ensures));
    }

pub loop-left-preserved : goal.loop-left-preserved
loop-left-preserved g c =
    let left : ℕ = c.loop-left.left in
    record {
      writes = subst (λ (l : List ℕ). WritesText g.K.Sink.written g.K.Sink.failures c.args.sink.now c.put_piece.new.sink c.args.pen.now c.put_piece.new.pen l)
          (piece_step c.args.width left c.min-bits.result c.word_at.result c.args.pieces.now c.loop-left-test.true c.loop-left.invariant.most c.min-bits.ensures c.word_at.ensures) (writes_then {x = piece_digits ((c.args.width + 63) / 64 - left) (c.args.width - 64 * left) (drop left c.args.pieces.now)} c.loop-left.invariant.writes c.put_piece.ensures);
      most = omega (arith, c.loop-left.invariant.most);
      words = λ i above below. elim (cases_eq i (left - 1)) [
        | inl e ↦ subst (λ (k : ℕ). piece_word_at c.args.pieces.now k < 2 ^ 64) (sym e) (subst (λ (x : ℕ). x < 2 ^ 64) c.word_at.ensures c.word_at.type_inv)
        | inr n ↦ c.loop-left.invariant.words i (omega (arith, above, n, c.loop-left-test.true)) below
      ];
    }

pub returns : goal.returns
returns g c =
    let none : c.loop-left.left ≡ 0 = omega (arith, c.loop-left-test.false) in
    let most : c.args.width ≤ 64 * ((c.args.width + 63) / 64 - c.loop-left.left) = omega (arith, none) in
    let whole : c.args.width - 64 * c.loop-left.left ≡ c.args.width = omega (arith, none) in
    subst (λ (l : List ℕ). WritesText g.K.Sink.written g.K.Sink.failures c.args.sink.now c.loop-left.sink c.args.pen.now c.loop-left.pen l)
    (ap₂ (λ (n k : ℕ). piece_digits ((c.args.width + 63) / 64 - c.loop-left.left) n (drop k c.args.pieces.now)) whole none ∙ all_pieces ((c.args.width + 63) / 64 - c.loop-left.left) c.args.width c.args.pieces.now most (λ i h. c.loop-left.invariant.words i (omega (arith, none)) (omega (arith, h))))
    c.loop-left.invariant.writes
