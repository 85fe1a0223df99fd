use Rattle.std.proofs.Common.{refl}
use Rattle.witness.proofs.ClaimScanLemmas.{later_byte}
use Rattle.witness.proofs.claim_scan.Scan.push.Goals as goal

pub returns-in-Some : goal.returns-in-Some
returns-in-Some c line h = later_byte c.args.self.now _ line c.args.byte c.in-Some.field-0 c.with-self.result h c.in-Some.is refl c.with-self.ensures
