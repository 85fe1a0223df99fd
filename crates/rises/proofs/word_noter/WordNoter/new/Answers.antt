use Rattle.std.proofs.Common.{length, ap, sym, ◌∙◌}
use Rattle.btor2.specs.Items.{is_bad}
use Rattle.witness.proofs.FrameLemmas.{bad_names, length-nodes}
use Rattle.rises.proofs.NoteLemmas.{words_none}
use Rattle.rises.proofs.word_noter.WordNoter.new.Goals as goal

pub returns-in-Ok-clause-ok : goal.returns-in-Ok-clause-ok
returns-in-Ok-clause-ok c =
    words_none c.args.model.now (record { judge = c.in_ok-judge.judge; firsts = c.in-Ok.firsts }) _ (ap length c.bads.ensures ∙ sym (length-nodes is_bad c.args.model.now bad_names)) c.in_ok-judge.ensures.ok c.in-Ok.ensures
