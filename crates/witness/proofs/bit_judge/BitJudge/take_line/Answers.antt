use Rattle.std.proofs.Common.{◌≡◌, ℕ, true, List, [], ◌++◌, take, drop, subst, sym, ap, ◌∙◌, arith}
use Rattle.base.specs.Lines.{whole_lines, unfinished}
use Rattle.base.specs.Decimals.{are_digits}
use Rattle.base.proofs.DecimalLemmas.{nothing}
use Rattle.witness.specs.CutLines.{CutLine, cut_of, no_byte, AreFront}
use Rattle.witness.specs.Readings.{is_nothing}
use Rattle.witness.specs.BitStands.{BitJudge, IsPlayed, line_room, StandsForBits}
use Rattle.witness.proofs.TextEndLemmas.{whole_lines-line_end, unfinished-line_end}
use Rattle.witness.proofs.CutLineLemmas.{cut_front, cut_nothing, nothing_cut, whole_front}
use Rattle.witness.proofs.bit_judge.BitJudge.take_line.Goals as goal

pub returns-then-is_empty : goal.returns-then-is_empty
returns-then-is_empty c circuit text is stands =
    let now = subst (λ (j : BitJudge). StandsForBits circuit j text) (sym c.self.view_is) stands in
    let line : List ℕ = c.args.line.now in
    let room : ℕ = line_room circuit in
    let empty : unfinished text ≡ [] = nothing (unfinished text) (sym (nothing_cut room (unfinished text) (omega arith)) ∙ (ap (λ (k : CutLine). is_nothing k.bytes) (sym now.line) ∙ (sym c.is_empty.ensures ∙ c.if-is_empty.true))) in
    let front : AreFront room line true (unfinished text ++ line) = subst (λ (l : List ℕ). AreFront room line true (l ++ line)) (sym empty) (whole_front room line) in
    record {
      played = subst (IsPlayed circuit c.take.new.lines c.take.new.play) (sym (whole_lines-line_end text line is)) (c.take.ensures.played circuit (whole_lines text) (unfinished text ++ line) now.played front);
      line = now.line ∙ ap (cut_of room) (empty ∙ sym (unfinished-line_end text line));
    }

pub returns : goal.returns
returns c circuit text is stands =
    let now = subst (λ (j : BitJudge). StandsForBits circuit j text) (sym c.self.view_is) stands in
    let line : List ℕ = c.args.line.now in
    let room : ℕ = line_room circuit in
    let whole : List ℕ = unfinished text ++ line in
    let kept : c.extend.new.self ≡ cut_of room whole = c.extend.ensures.cut room (unfinished text) now.line in
    let bytes : c.bytes-bytes.result.now ≡ take room whole = c.bytes-bytes.ensures ∙ ap (λ (k : CutLine). k.bytes) kept in
    let digits : c.digits-digits.result ≡ are_digits (drop room whole) = c.digits-digits.ensures ∙ ap (λ (k : CutLine). k.digits) kept in
    let front : AreFront room c.bytes-bytes.result.now c.digits-digits.result whole = rw (bytes, digits) (cut_front room whole) in
    record {
      played = subst (IsPlayed circuit c.take-2.new.lines c.take-2.new.play) (sym (whole_lines-line_end text line is)) (c.take-2.ensures.played circuit (whole_lines text) whole now.played front);
      line = c.clear.ensures ∙ (ap (λ (k : CutLine). no_byte k.room) kept ∙ cut_nothing room) ∙ ap (cut_of room) (sym (unfinished-line_end text line));
    }
