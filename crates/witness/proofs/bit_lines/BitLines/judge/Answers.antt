use Rattle.std.proofs.Common.{◌≡◌, Bool, ◌||◌, ◌&&◌, [], codes, ◌<◌, ◌^◌, subst, sym, ap, ◌∙◌, arith}
use Rattle.std.specs.Str.{bytes_eq}
use Rattle.std.proofs.lemmas.Bool.{leb-true, leb-false}
use Rattle.witness.specs.declared.bit_reader.BitPlace.{BitPlace as CodePlace}
use Rattle.witness.specs.declared.bit_lines.BitLines.{BitLines}
use Rattle.witness.specs.BitAdmits.{BitRead}
use Rattle.witness.specs.BitStands.{Gives, PlaysSaid, ReadsBits, bit_judging, lines_of, read_of, is_header, bit_place_of, line_room}
use Rattle.witness.proofs.StandsLemmas.{too_many, too_many_read, not_admitted, not_admitted_read, line_admitted, admitted_read}
use Rattle.witness.proofs.BitJudgeLemmas.{claims_more, few_frames}
use Rattle.witness.proofs.CutLineLemmas.{none_front}
use Rattle.witness.proofs.bit_lines.BitLines.judge.Goals as goal

pub returns-then-are_most-clause-lines : goal.returns-then-are_most-clause-lines
returns-then-are_most-clause-lines c circuit lines whole is front none =
    let many = leb-true (2 ^ 62) c.args.self.now.admitted (sym c.are_most.ensures ∙ c.if-are_most.true) in (
      too_many (bit_judging circuit) (claims_more circuit) lines whole [] (lines_of c.args.self.now) is none many,
      λ p played. subst (λ r. PlaysSaid circuit r p) (sym (too_many_read (bit_judging circuit) (claims_more circuit) lines whole [] (lines_of c.args.self.now) is none many)) played,
    )

pub returns-in-Ok-clause-lines : goal.returns-in-Ok-clause-lines
returns-in-Ok-clause-lines c circuit lines whole is front none =
    let old : BitLines = c.args.self.now in
    let below : old.admitted < 2 ^ 62 = leb-false (2 ^ 62) old.admitted (sym c.are_most.ensures ∙ c.if-are_most.false) in
    let read : BitRead = read_of circuit lines in
    let status : is_header (bit_place_of old.reader.place) ≡ is_header read.place = ap is_header is.counts.place in
    let says = ap (λ (b : Bool). old.no_claim || b) (c.says_no_claim.ensures ∙ (ap (λ (x : CodePlace). is_header (bit_place_of x) && (bytes_eq c.args.line.now (codes "0") || bytes_eq c.args.line.now (codes "2"))) c.place.ensures
    ∙ ap (λ (b : Bool). is_header (bit_place_of old.reader.place) && b) (none_front (line_room circuit) c.args.line.now whole (omega arith) front.same))) in
    let gives = c.in-Ok.ensures.line circuit read whole is.counts front in (
      line_admitted (bit_judging circuit) (claims_more circuit) lines whole [] (lines_of old) is none below c.admit.new.self gives.0 (old.no_claim || c.says_no_claim.result) (is_header (bit_place_of old.reader.place)) gives.1.0 tt gives.1.1.0 status says,
      subst (λ r. Gives circuit read r c.args.line.now c.in-Ok.given) (sym (admitted_read (bit_judging circuit) (claims_more circuit) lines whole [] (lines_of old) is none below gives.0 gives.1.0)) (gives.1.1.1 (few_frames circuit lines old is below)),
    )

pub returns-in-Err-clause-lines : goal.returns-in-Err-clause-lines
returns-in-Err-clause-lines c circuit lines whole is front none =
    let old : BitLines = c.args.self.now in
    let below : old.admitted < 2 ^ 62 = leb-false (2 ^ 62) old.admitted (sym c.are_most.ensures ∙ c.if-are_most.false) in
    let read : BitRead = read_of circuit lines in
    let status : is_header (bit_place_of old.reader.place) ≡ is_header read.place = ap is_header is.counts.place in
    let says = ap (λ (b : Bool). old.no_claim || b) (c.says_no_claim.ensures ∙ (ap (λ (x : CodePlace). is_header (bit_place_of x) && (bytes_eq c.args.line.now (codes "0") || bytes_eq c.args.line.now (codes "2"))) c.place.ensures
    ∙ ap (λ (b : Bool). is_header (bit_place_of old.reader.place) && b) (none_front (line_room circuit) c.args.line.now whole (omega arith) front.same))) in
    let refuses = c.in-Err.ensures.line circuit read whole is.counts front in
    let counts = subst (λ q. ReadsBits circuit q read) (sym c.in-Err.ensures.err) is.counts in (
      not_admitted (bit_judging circuit) (claims_more circuit) lines whole [] (lines_of old) is none below c.admit.new.self c.in-Err.why (old.no_claim || c.says_no_claim.result) (is_header (bit_place_of old.reader.place)) counts refuses status says,
      λ p played. subst (λ r. PlaysSaid circuit r p) (sym (not_admitted_read (bit_judging circuit) (claims_more circuit) lines whole [] (lines_of old) is none below c.in-Err.why refuses)) played,
    )
