use Rattle.std.proofs.Common.{◌≡◌, length, drop, ap, ◌∙◌, arith}
use Rattle.restore.specs.Plays.{Play}
use Rattle.restore.proofs.RestoredLemmas.{first_length}
use Rattle.restore.proofs.restorer.Restorer.begin.Goals as goal

pub write_line-requires : goal.write_line-requires
write_line-requires g c =
    let many : length c.begins.result.now ≡ length c.self.inside.play.circuit.latches =
    ap length c.begins.ensures ∙ ap (λ (p : Play). length p.begins) c.begin.ensures ∙ first_length c.self.inside.play.circuit.latches (drop c.self.inside.play.circuit.inputs c.args.bits.now) in
    omega (arith, many, c.as_mut_slice.ensures.len, c.self.invariant.begins)
