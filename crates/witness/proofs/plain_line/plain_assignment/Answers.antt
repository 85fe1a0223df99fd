use Rattle.std.proofs.Common.{◌≡◌, ℕ, slice_index, sym, subst, ◌∙◌, arith}
use Rattle.std.proofs.lemmas.List.{get_or_default}
use Rattle.witness.specs.PlainLines.{BeginsWord}
use Rattle.witness.proofs.PlainLineLemmas.{own_index}
use Rattle.witness.proofs.plain_line.plain_assignment.Goals as goal
use Rattle.witness.proofs.plain_line.plain_assignment.Goals.{then-k-widths-via-then-k-widths, then-k-widths-via-else-k-widths+then-has}

pub returns-then-k-widths : goal.returns-then-k-widths
returns-then-k-widths c index word rest few begins =
    let own = own_index c.args.widths.now c.args.given.now c.args.text.now c.in_ok-index.behind.now c.in_ok-index.index index word rest c.in_ok-index.ensures.0 few c.in_ok-index.ensures.1 begins in
    elim c.then-k-widths.branch [
      | then-k-widths-via-then-k-widths w ↦ absurd (omega (arith, own.0, w.if-k-widths.true))
      | then-k-widths-via-else-k-widths+then-has w ↦ absurd (cc (own.1, w.if-has.true))
    ]

pub returns-in_err-word : goal.returns-in_err-word
returns-in_err-word c =
    rw c.from_residual-in_err-word.ensures
    (λ index word rest few begins.
    let own = own_index c.args.widths.now c.args.given.now c.args.text.now c.in_ok-index.behind.now c.in_ok-index.index index word rest c.in_ok-index.ensures.0 few c.in_ok-index.ensures.1 begins in
    let width : slice_index c.args.widths.now c.in_ok-index.index ≡ c.index-widths-k.result = get_or_default c.args.widths.now c.in_ok-index.index 0 c.index-widths-k.result own.0 ∙ sym c.index-widths-k.is in
    c.in_err-word.ensures word rest (subst (λ (n : ℕ). BeginsWord n c.in_ok-index.behind.now word rest) width own.2))
