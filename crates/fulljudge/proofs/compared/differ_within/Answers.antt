use Rattle.std.proofs.Common.{◌≡◌, ℕ, Bool, true, false, not, refl, ◌+◌, ◌<◌, ◌≤◌, ⊎_elim, arith, sym, subst, ◌∙◌}
use Rattle.std.specs.Bool.{beq}
use Rattle.std.proofs.lemmas.Bool.{cases_lt}
use Rattle.witness.specs.ClosedWords.{last_word}
use Rattle.fulljudge.specs.Compared.{bit_in}
use Rattle.fulljudge.proofs.compared.differ_within.Goals as goal

alike : (a b : Bool) → not (beq a b) ≡ false → a ≡ b
alike true true h = refl
alike false false h = refl
alike true false h = absurd (cc h)
alike false true h = absurd (cc h)

pub loop-place-preserved : goal.loop-place-preserved
loop-place-preserved c = λ items text fs stands trace b within.
    let one = c.bit_in.ensures items text fs stands trace in
    let other = c.bit_in-in-loop-place.ensures items text fs stands trace in
    let at = c.from.ensures in
    let same = c.if-bit_in.false in
    ⊎_elim (λ (l : b < c.loop-place.place). c.loop-place.invariant items text fs stands trace b l) (λ (l : c.loop-place.place ≤ b). let is : b ≡ c.loop-place.place = omega (arith, within, l) in
    subst (λ (k : ℕ). bit_in (last_word items text fs) c.args.one.now (c.args.from + k) ≡ bit_in (last_word items text fs) c.args.other.now (c.args.from + k)) (at ∙ sym is)
    (sym one ∙ alike c.bit_in.result c.bit_in-in-loop-place.result same ∙ other)) (cases_lt b c.loop-place.place)
