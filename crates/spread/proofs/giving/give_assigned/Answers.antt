use Rattle.std.proofs.Common.{◌≡◌, ℕ, ◌<◌, ◌≤◌, ◌++◌, ◌∷◌, [], Some, Err, List, decimal, min, length, slice_index, sym, ap, ◌∙◌, subst, arith}
use Rattle.base.specs.Decimals.{number_of}
use Rattle.base.specs.Lines.{IsLine}
use Rattle.base.proofs.DecimalLemmas.{digits_without}
use Rattle.witness.specs.Texts.{binary, symbol_part}
use Rattle.witness.specs.Admits.{cut_at_space}
use Rattle.witness.specs.WordValues.{word_behind}
use Rattle.witness.proofs.PieceLemmas.{binary_digits}
use Rattle.rejoin.specs.Pieces.{piece_count}
use Rattle.spread.specs.Words.{HasDigits}
use Rattle.spread.specs.Passing.{assigned_lines, faulty_rest}
use Rattle.spread.specs.Stands.{Gives, digit_lines}
use Rattle.spread.proofs.WidthLemmas.{within_pieces}
use Rattle.spread.proofs.WordLemmas.{length-binary}
use Rattle.spread.proofs.ValueLemmas.{no_index, word_given, fault_given}
use Rattle.spread.proofs.giving.give_assigned.Goals as goal

pub returns-in_default : goal.returns-in_default
returns-in_default g c =
    let widths : List ℕ = c.args.words.now in
    let line : List ℕ = c.args.line.now in
    let none : (i : ℕ) → number_of (cut_at_space line).0 ≡ Some i → length widths ≤ i =
    subst (λ (l : List ℕ). (i : ℕ) → number_of (cut_at_space line).0 ≡ Some i → length l ≤ i) c.widths-widths.ensures c.in_default.ensures in
    subst (λ o. Gives g.K.Sink.written g.K.Sink.failures c.args.sink.now c.give.new.sink c.args.pen.now c.give.new.pen c.args.judge.now c.give.new.judge (assigned_lines widths line o)) (sym (no_index widths line none)) c.give.ensures

pub give_word-requires-clause-few : goal.give_word-requires-clause-few
give_word-requires-clause-few g c =
    let widths : List ℕ = c.args.words.now in
    let i : ℕ = c.in-Some.index in
    let has : HasDigits (slice_index c.widths-widths.result.now i) (word_behind (slice_index c.widths-widths.result.now i) (cut_at_space c.args.line.now).1) c.in-Ok.digits.now = c.in-Ok.ensures in
    let within : i < length widths = subst (λ (l : List ℕ). i < length l) c.widths-widths.ensures c.in-Some.ensures.1 in
    let long : length c.in-Ok.digits.now ≡ slice_index widths i = ap length has.digits_are ∙ (length-binary (slice_index c.widths-widths.result.now i) has.word ∙ ap (λ (l : List ℕ). slice_index l i) c.widths-widths.ensures) in
    let count : piece_count (length c.in-Ok.digits.now) ≡ piece_count (slice_index widths i) = ap piece_count long in
    omega (arith, within_pieces widths i within, c.first-first.ensures.first, c.first-first.ensures.few, count)

pub give_word-requires-clause-line : goal.give_word-requires-clause-line
give_word-requires-clause-line g c =
    let i : ℕ = c.in-Some.index in
    let n : ℕ = slice_index c.widths-widths.result.now i in
    let has : HasDigits n (word_behind n (cut_at_space c.args.line.now).1) c.in-Ok.digits.now = c.in-Ok.ensures in
    subst IsLine (sym has.digits_are) (digits_without 10 (binary n has.word) (omega arith) (binary_digits n has.word))

pub returns-in-Ok : goal.returns-in-Ok
returns-in-Ok g c =
    let widths : List ℕ = c.args.words.now in
    let line : List ℕ = c.args.line.now in
    let digits : List ℕ = c.in-Ok.digits.now in
    let i : ℕ = c.in-Some.index in
    let within : i < length widths = subst (λ (l : List ℕ). i < length l) c.widths-widths.ensures c.in-Some.ensures.1 in
    let has : HasDigits (slice_index widths i) (word_behind (slice_index widths i) (cut_at_space line).1) digits =
    subst (λ (l : List ℕ). HasDigits (slice_index l i) (word_behind (slice_index l i) (cut_at_space line).1) digits) c.widths-widths.ensures c.in-Ok.ensures in
    let lines = ap (λ (f : ℕ). digit_lines f (piece_count (length digits)) digits) c.first-first.ensures.first ∙ word_given widths line digits i c.in-Some.ensures.0 within has in
    subst (Gives g.K.Sink.written g.K.Sink.failures c.args.sink.now c.give_word.new.sink c.args.pen.now c.give_word.new.pen c.args.judge.now c.give_word.new.judge) lines c.give_word.ensures

pub returns-in-Err : goal.returns-in-Err
returns-in-Err g c =
    let widths : List ℕ = c.args.words.now in
    let line : List ℕ = c.args.line.now in
    let i : ℕ = c.in-Some.index in
    let within : i < length widths = subst (λ (l : List ℕ). i < length l) c.widths-widths.ensures c.in-Some.ensures.1 in
    let read : word_behind (slice_index widths i) (cut_at_space line).1 ≡ Err c.in-Err.why = subst (λ (l : List ℕ). word_behind (slice_index l i) (cut_at_space line).1 ≡ Err c.in-Err.why) c.widths-widths.ensures c.in-Err.ensures in
    let lines =
    ap (λ (l : List ℕ). (decimal c.first-first.result ++ symbol_part (faulty_rest (min (slice_index l i) 64) c.in-Err.why)) ∷ []) c.widths-widths.ensures
    ∙ (ap (λ (f : ℕ). (decimal f ++ symbol_part (faulty_rest (min (slice_index widths i) 64) c.in-Err.why)) ∷ []) c.first-first.ensures.first
    ∙ fault_given widths line [] i c.in-Some.ensures.0 within c.in-Err.why read) in
    subst (Gives g.K.Sink.written g.K.Sink.failures c.args.sink.now c.give_faulty.new.sink c.args.pen.now c.give_faulty.new.pen c.args.judge.now c.give_faulty.new.judge) lines c.give_faulty.ensures
