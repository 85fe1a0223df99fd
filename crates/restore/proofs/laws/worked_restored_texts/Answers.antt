use Rattle.std.proofs.Common.{refl}
use Rattle.std.specs.Fmt.{digits}
use Rattle.restore.specs.Frames.{with_bits, with_gates, frame_of}
use Rattle.restore.specs.Restored.{restored_text}
use Rattle.restore.proofs.laws.worked_restored_texts.Goals as goal

pub returns-clause-free : goal.returns-clause-free
unfolding digits restored_text with_bits with_gates frame_of
returns-clause-free c = refl

pub returns-clause-never : goal.returns-clause-never
unfolding digits restored_text with_bits with_gates frame_of
returns-clause-never c = refl

pub returns-clause-reset : goal.returns-clause-reset
unfolding digits restored_text with_bits with_gates frame_of
returns-clause-reset c = refl

pub returns-clause-before : goal.returns-clause-before
unfolding digits restored_text with_bits with_gates frame_of
returns-clause-before c = refl

pub returns-clause-within : goal.returns-clause-within
unfolding digits restored_text with_bits with_gates frame_of
returns-clause-within c = refl

pub returns-clause-behind : goal.returns-clause-behind
unfolding digits restored_text with_bits with_gates frame_of
returns-clause-behind c = refl

pub returns-clause-gate : goal.returns-clause-gate
unfolding digits restored_text with_bits with_gates frame_of
returns-clause-gate c = refl

pub returns-clause-second : goal.returns-clause-second
unfolding digits restored_text with_bits with_gates frame_of
returns-clause-second c = refl

pub returns-clause-always : goal.returns-clause-always
unfolding digits restored_text with_bits with_gates frame_of
returns-clause-always c = refl

pub returns-clause-no_frame : goal.returns-clause-no_frame
unfolding digits restored_text with_bits with_gates frame_of
returns-clause-no_frame c = refl

pub returns-clause-faulty : goal.returns-clause-faulty
unfolding digits restored_text with_bits with_gates frame_of
returns-clause-faulty c = refl

pub returns-clause-faulty_behind : goal.returns-clause-faulty_behind
unfolding digits restored_text with_bits with_gates frame_of
returns-clause-faulty_behind c = refl
