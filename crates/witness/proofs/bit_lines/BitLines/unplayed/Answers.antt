use Rattle.std.proofs.Common.{[], refl, sym, ap, ◌∙◌}
use Rattle.witness.specs.declared.bit_reader.BitPlace.{BitPlace as CodePlace}
use Rattle.witness.specs.BitAdmits.{is_done}
use Rattle.witness.specs.BitStands.{bit_judging, bit_place_of}
use Rattle.witness.proofs.StandsLemmas.{refused_line, refused_last, whole_read}
use Rattle.witness.proofs.BitJudgeLemmas.{Says}
use Rattle.witness.proofs.bit_lines.BitLines.unplayed.Goals as goal

pub returns-in-Some : goal.returns-in-Some
returns-in-Some c circuit text is empty =
    (refused_line (bit_judging circuit) (Says circuit) text [] _ is c.in-Some.why c.saturating_add-line.result c.if-self.false c.in-Some.is c.saturating_add-line.ensures, refl)

pub returns-in-Some-last_refusal : goal.returns-in-Some-last_refusal
returns-in-Some-last_refusal c circuit text is empty =
    let ended = c.has_ended-ended.ensures ∙ (ap (λ (x : CodePlace). is_done (bit_place_of x)) c.place.ensures ∙ ap is_done is.counts.place) in (
      refused_last (bit_judging circuit) (Says circuit) text [] _ is c.in-Some-last_refusal.why c.saturating_add-line.result c.has_ended-ended.result c.args.empty c.if-self.false c.in_default.is ended empty (sym c.in-Some-last_refusal.ensures)
          c.saturating_add-line.ensures,
      refl,
    )

pub returns-in-None : goal.returns-in-None
returns-in-None c circuit text is empty =
    let ended = c.has_ended-ended.ensures ∙ (ap (λ (x : CodePlace). is_done (bit_place_of x)) c.place.ensures ∙ ap is_done is.counts.place) in
    (sym is.no_claim ∙ c.if-self.false, whole_read (bit_judging circuit) (Says circuit) text [] _ is c.has_ended-ended.result c.args.empty c.in_default.is ended empty (sym c.in-None.ensures))
