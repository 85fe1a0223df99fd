use Rattle.std.proofs.Common.{◌≡◌, ℕ, List, ap, ◌∙◌}
use Rattle.aiger.specs.declared.circuit.Latch.{Latch}
use Rattle.aiger.specs.declared.circuit.Reset.TheVariants.{Zero}
use Rattle.aiger.specs.Circuit.{Circuit, with_latch}
use Rattle.engine_form.specs.Reads.{kept_latch}
use Rattle.engine_form.proofs.LatchLemmas.{set-more}
use Rattle.engine_form.proofs.latches.set_kept.Goals as goal

pub loop-k-preserved : goal.loop-k-preserved
loop-k-preserved c =
    let ls = c.args.latches.now in
    let ys = c.args.circuit.now.latches in
    let y : Latch = record { next = c.kept_next.result; reset = Zero } in
    let is : y ≡ kept_latch c.args.table.now c.index-latches-k.result = ap (λ (n : ℕ). record { next = n; reset = Zero }) c.kept_next.ensures in
    c.set.ensures ∙ ap (λ (d : Circuit). with_latch d c.loop-k.k y) c.loop-k.invariant
    ∙ ap (λ (l : List Latch). record c.args.circuit.now { latches = l }) (set-more (kept_latch c.args.table.now) ls ys c.loop-k.k c.index-latches-k.result y c.loop-k-test.true c.requires.room c.index-latches-k.is is)
