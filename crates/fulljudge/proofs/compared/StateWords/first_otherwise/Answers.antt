use Rattle.std.proofs.Common.{◌≡◌, ℕ, Bool, false, ◌<◌, ◌≤◌, slice_get, ⊎_elim, arith, sym, subst}
use Rattle.std.proofs.lemmas.Bool.{cases_lt}
use Rattle.witness.specs.ClosedWords.{last_word}
use Rattle.fulljudge.specs.Compared.{Tells, DiffersFirst}
use Rattle.fulljudge.proofs.compared.StateWords.first_otherwise.Goals.{else-is_apart-via-then-is_apart+else-is_otherwise, else-is_apart-via-else-is_apart}
use Rattle.fulljudge.proofs.compared.StateWords.first_otherwise.Goals as goal

pub loop-index-preserved : goal.loop-index-preserved
loop-index-preserved c = λ items text fs stands trace i within other differs.
    ⊎_elim (λ (l : i < c.loop-index.index). c.loop-index.invariant items text fs stands trace i l other differs)
    (λ (l : c.loop-index.index ≤ i).
    let is : i ≡ c.loop-index.index = omega (arith, within, l) in
    elim c.else-is_apart.branch [
      | else-is_apart-via-then-is_apart+else-is_otherwise w ↦
          let none : Tells false (DiffersFirst (last_word items text fs) c.args.flags.now c.args.states.now c.args.self.now c.loop-index.index) =
          subst (λ (b : Bool). Tells b (DiffersFirst (last_word items text fs) c.args.flags.now c.args.states.now c.args.self.now c.loop-index.index)) w.if-is_otherwise.false (w.is_otherwise.ensures items text fs stands trace) in
          none (subst (DiffersFirst (last_word items text fs) c.args.flags.now c.args.states.now c.args.self.now) is differs)
      | else-is_apart-via-else-is_apart w ↦ other (subst (λ (k : ℕ). slice_get c.args.self.now.leaves k ≡ slice_get c.args.self.now.nodes k) (sym is) (c.is_apart.ensures w.if-is_apart.false))
    ]) (cases_lt i c.loop-index.index)

pub returns : goal.returns
returns c = λ items text fs stands trace i other differs. c.loop-index.invariant items text fs stands trace i (omega (arith, differs.within, c.loop-index-test.false, c.count-index-end.ensures)) other differs
