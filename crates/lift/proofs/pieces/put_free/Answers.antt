use Rattle.std.proofs.Common.{drop, sym, ◌∙◌, arith}
use Rattle.blast.specs.Cost.{input_width}
use Rattle.lift.specs.Lifted.{bits_of_line}
use Rattle.base.proofs.PenLemmas.{writes_none}
use Rattle.lift.proofs.PutLemmas.{first_free, later_free, no_free}
use Rattle.lift.proofs.pieces.put_free.Goals as goal

pub returns-then-frame-eq0 : goal.returns-then-frame-eq0
returns-then-frame-eq0 g c =
    rw (first_free c.args.named c.args.model.now c.args.frame (drop (input_width c.args.model.now) (bits_of_line c.args.bits.now)) c.items-items.ensures.well_formed (omega (arith, c.if-frame-eq0.true)))
    (rw c.behind_inputs.ensures at c.put_leaves.ensures)

pub returns : goal.returns
returns g c =
    rw (later_free c.args.named c.args.model.now c.args.frame (drop (input_width c.args.model.now) (bits_of_line c.args.bits.now)) c.items-items.ensures.well_formed (λ e. omega (arith, c.if-frame-eq0.false, e)) (sym c.requires ∙ c.if-not-some_free.false))
    (rw c.behind_inputs-2.ensures at c.put_part.ensures)

pub returns-then-not-some_free : goal.returns-then-not-some_free
returns-then-not-some_free g c =
    rw (no_free c.args.named c.args.model.now c.args.frame (drop (input_width c.args.model.now) (bits_of_line c.args.bits.now)) (λ e. omega (arith, c.if-frame-eq0.false, e)) (sym c.requires ∙ c.if-not-some_free.true)) writes_none
