use Rattle.std.proofs.Common.{refl}
use Rattle.restore.specs.Frames.{with_bits, with_gates, frame_of}
use Rattle.restore.proofs.laws.worked_rises.Goals as goal

pub returns-clause-input : goal.returns-clause-input
unfolding with_bits with_gates frame_of
returns-clause-input c = refl

pub returns-clause-gate : goal.returns-clause-gate
unfolding with_bits with_gates frame_of
returns-clause-gate c = refl

pub returns-clause-no_gate : goal.returns-clause-no_gate
unfolding with_bits with_gates frame_of
returns-clause-no_gate c = refl

pub returns-clause-latch : goal.returns-clause-latch
unfolding with_bits with_gates frame_of
returns-clause-latch c = refl

pub returns-clause-rises : goal.returns-clause-rises
unfolding with_bits with_gates frame_of
returns-clause-rises c = refl

pub returns-clause-broken : goal.returns-clause-broken
unfolding with_bits with_gates frame_of
returns-clause-broken c = refl

pub returns-clause-broken_before : goal.returns-clause-broken_before
unfolding with_bits with_gates frame_of
returns-clause-broken_before c = refl
