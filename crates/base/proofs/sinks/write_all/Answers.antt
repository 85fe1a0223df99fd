use Rattle.std.proofs.Common.{subst, sym, rules}
use Rattle.base.specs.Device.{Sent}
use Rattle.base.proofs.DeviceLemmas.{sent_more}
use Rattle.base.proofs.sinks.write_all.Goals as goal

pub loop-rest-preserved : goal.loop-rest-preserved
loop-rest-preserved g c = record {
  sent = subst (Sent _ _ c.args.bytes.now) (sym c.split_at.ensures.back)
      (sent_more _ _ _ _ _ c.in_ok-count.count c.loop-rest.invariant.sent (search rules));
  counted = search rules;
}
