use Rattle.std.proofs.Common.{sym, ap, ◌∙◌, inl, inr}
use Rattle.std.specs.Str.{bytes_eq}
use Rattle.std.proofs.lemmas.Bool.{eqb-false}
use Rattle.std.proofs.lemmas.Result.{err_from_is_err_and}
use Rattle.aigertext.proofs.PassLemmas.{stopped}
use Rattle.aigertext.proofs.NamingLemmas.{name_given, name_refused, names_cut}
use Rattle.aigertext.proofs.reading.names.give_names.Goals as goal

pub loop-line-preserved : goal.loop-line-preserved
loop-line-preserved c =
    name_given c.loop-line.circuit c.loop-line.rest.now c.in-Some.line.now c.in-Some.after.now _ c.in-Some.ensures.0 c.in-Some.ensures.1 c.loop-line.invariant
    (ap (bytes_eq c.in-Some.line.now) (sym c.as_slice.ensures) ∙ sym c.if-eq.ensures) c.give_line.new.circuit (rw c.in_ok-at.ensures at c.give_line.ensures)

pub returns-in_err-at : goal.returns-in_err-at
returns-in_err-at c =
    stopped _ _ _ _ (err_from_is_err_and c.from_residual.result c.from_residual.ensures.1)
    (elim (rw c.in_err-at.ensures.0 at c.give_line.ensures) [
      | inl full ↦ inl full
      | inr read ↦
          inr (rw c.in_err-at.ensures.1 (name_refused c.loop-line.circuit c.loop-line.rest.now c.in-Some.line.now c.in-Some.after.now _ c.in-Some.ensures.0 c.in-Some.ensures.1 c.loop-line.invariant
          (ap (bytes_eq c.in-Some.line.now) (sym c.as_slice.ensures) ∙ sym c.if-eq.ensures) _ read))
    ])

pub returns-then-not-is_empty : goal.returns-then-not-is_empty
returns-then-not-is_empty c =
    inr (rw c.stop.ensures (names_cut c.loop-line.circuit _ c.loop-line.rest.now c.in_default.ensures (eqb-false _ 0 (sym c.if-not-is_empty.ensures)) c.loop-line.invariant))
