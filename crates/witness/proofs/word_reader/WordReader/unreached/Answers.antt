use Rattle.std.proofs.Common.{◌≡◌, ℕ, Bool, List, sym, subst, ◌∙◌}
use Rattle.btor2.specs.Items.{is_bad}
use Rattle.btor2.specs.Reachability.{nodes_of}
use Rattle.witness.specs.Fits.{first_unreached, AreClaimed, RisesAmong}
use Rattle.witness.specs.WordStands.{WordReader}
use Rattle.witness.proofs.FrameLemmas.{length-nodes, bad_names}
use Rattle.witness.proofs.word_reader.WordReader.unreached.Goals as goal

pub returns : goal.returns
returns c claims fs none marked clear rises =
    let nodes : List ℕ = nodes_of is_bad c.self.inside.play.items in
    subst (λ (q : WordReader). AreClaimed q.claimed claims → RisesAmong (nodes_of is_bad q.play.items) fs none q.play.rose → c.first_unreached.result ≡ first_unreached claims fs 0 (nodes_of is_bad q.play.items)) c.self.view_is
    (λ marked rises. c.first_unreached.ensures claims nodes fs none (subst (λ (l : List Bool). AreClaimed l claims) (sym c.as_slice.ensures.value) marked) (length-nodes is_bad c.self.inside.play.items bad_names ∙ sym c.rose.ensures.many) clear
    (subst (RisesAmong nodes fs none) (sym c.rose.ensures.is) rises)) marked rises
