use Rattle.std.proofs.Common.{◌≡◌, ℕ, List, Bool, ◌&&◌, ◌++◌, ◌-◌, length, take, drop, sym, ap, ap₂, ◌∙◌, arith}
use Rattle.std.proofs.lemmas.List.{length-take-le}
use Rattle.witness.specs.CutLines.{CutLine}
use Rattle.witness.proofs.CutLineLemmas.{cut_more}
use Rattle.witness.proofs.KeptLineLemmas.{front_room}
use Rattle.witness.proofs.cut_line.CutLine.extend.Goals as goal

pub returns-clause-cut : goal.returns-clause-cut
returns-clause-cut c room line is =
    let old : CutLine = c.args.self.now in
    let whole : length c.as_slice.result.now ≡ old.room = ap length c.as_slice.ensures.value ∙ ap (λ (k : CutLine). k.room) c.self.view_is in
    let used : c.self.inside.used ≡ length old.bytes = sym (ap (λ (k : CutLine). length k.bytes) (sym c.self.view_is) ∙ length-take-le c.self.inside.used c.self.inside.buffer c.self.invariant) in
    let left : length c.as_slice.result.now - c.self.inside.used ≡ old.room - length old.bytes = ap₂ (λ (m n : ℕ). m - n) whole used in
    ap (λ (k : CutLine). record k { digits = k.digits && c.are_digits.result }) (c.self-2.view_is ∙ c.keep.ensures)
    ∙ (ap (λ (b : Bool). record { room = old.room; bytes = old.bytes ++ c.parted.result.0.now; digits = old.digits && b }) c.are_digits.ensures
    ∙ cut_more old room line c.args.bytes.now c.parted.result.0.now c.parted.result.1.now is (c.parted.ensures.front ∙ ap (λ (n : ℕ). take n c.args.bytes.now) left) (c.parted.ensures.behind ∙ ap (λ (n : ℕ). drop n c.args.bytes.now) left))

pub returns-clause-bytes : goal.returns-clause-bytes
returns-clause-bytes c =
    let old : CutLine = c.args.self.now in
    let whole : length c.as_slice.result.now ≡ old.room = ap length c.as_slice.ensures.value ∙ ap (λ (k : CutLine). k.room) c.self.view_is in
    let used : c.self.inside.used ≡ length old.bytes = sym (ap (λ (k : CutLine). length k.bytes) (sym c.self.view_is) ∙ length-take-le c.self.inside.used c.self.inside.buffer c.self.invariant) in
    ap (λ (k : CutLine). k.bytes) (c.self-2.view_is ∙ c.keep.ensures)
    ∙ (ap (λ (l : List ℕ). old.bytes ++ l) c.parted.ensures.front
    ∙ front_room old.room (length c.as_slice.result.now - c.self.inside.used) old.bytes c.args.bytes.now (omega (arith, whole, used, c.self.invariant, ap length c.as_slice.ensures.value)))
