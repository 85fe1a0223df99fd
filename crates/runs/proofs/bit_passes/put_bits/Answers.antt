use Rattle.runs.proofs.BitPassLemmas.{put_nothing}
use Rattle.runs.proofs.bit_passes.put_bits.Goals as goal

pub loop-k-init : goal.loop-k-init
loop-k-init c = put_nothing c.args.first c.args.bits.now
