use Rattle.std.proofs.Common.{length, ap, refl, sym, ◌∙◌}
use Rattle.btor2.specs.Items.{is_bad}
use Rattle.witness.proofs.FrameLemmas.{bad_names, length-nodes}
use Rattle.spread.proofs.RisingLemmas.{hears_none}
use Rattle.spread.proofs.rising.RiseHearer.new.Goals as goal

pub returns : goal.returns
returns c = λ shape. hears_none shape c.args.narrow.now _ _ (ap length c.bads.ensures ∙ sym (length-nodes is_bad c.args.narrow.now bad_names)) refl c.in_ok-firsts.ensures
