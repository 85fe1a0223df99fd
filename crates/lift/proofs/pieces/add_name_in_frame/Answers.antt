use Rattle.std.proofs.Common.{◌≡◌, ◌∷◌, ◌++◌, ℕ, List, length-append, ap, ◌∙◌, append_assoc, sym, arith}
use Rattle.lift.proofs.NameLemmas.{name_fits}
use Rattle.lift.proofs.pieces.add_name_in_frame.Goals as goal
use Rattle.lift.proofs.pieces.add_name_in_frame.Goals.{After-byte-then-symbol-digits-lt-MOST_BYTES}

-- the line with the name in front
line_is : (c : After-byte-then-symbol-digits-lt-MOST_BYTES) → c.byte-then-symbol-digits-lt-MOST_BYTES.new.self ≡ 32 ∷ (c.args.symbol.now ++ (64 ∷ (c.as_bytes-digits.result.now ++ c.args.line.now)))
line_is c =
    c.byte-then-symbol-digits-lt-MOST_BYTES.ensures ∙ ap (λ (l : List ℕ). 32 ∷ l) (c.text-then-symbol-digits-lt-MOST_BYTES.ensures ∙ ap (λ (l : List ℕ). c.args.symbol.now ++ l) (c.byte.ensures ∙ ap (λ (l : List ℕ). 64 ∷ l) c.text.ensures))

pub returns-then-symbol-digits-lt-MOST_BYTES-clause-name : goal.returns-then-symbol-digits-lt-MOST_BYTES-clause-name
returns-then-symbol-digits-lt-MOST_BYTES-clause-name c =
    rw (name_fits c.args.symbol.now c.as_bytes-digits.result.now c.args.frame c.requires.symbol (omega (arith, c.ranges.frame.fits)) (c.as_bytes-digits.ensures.value ∙ c.format.ensures.text) (omega (arith, c.if-symbol-digits-lt-MOST_BYTES.true)))
    (line_is (goal.at.returns-then-symbol-digits-lt-MOST_BYTES-clause-name c).After-byte-then-symbol-digits-lt-MOST_BYTES ∙ ap (λ (l : List ℕ). 32 ∷ l) (sym (append_assoc c.args.symbol.now (64 ∷ c.as_bytes-digits.result.now) c.args.line.now)))

pub returns-then-symbol-digits-lt-MOST_BYTES-clause-short : goal.returns-then-symbol-digits-lt-MOST_BYTES-clause-short
returns-then-symbol-digits-lt-MOST_BYTES-clause-short c =
    let is = line_is (goal.at.returns-then-symbol-digits-lt-MOST_BYTES-clause-short c).After-byte-then-symbol-digits-lt-MOST_BYTES in
    rw is (omega (arith, length-append c.args.symbol.now (64 ∷ (c.as_bytes-digits.result.now ++ c.args.line.now)), length-append c.as_bytes-digits.result.now c.args.line.now, c.requires.room, c.if-symbol-digits-lt-MOST_BYTES.true))
