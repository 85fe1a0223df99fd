use Rattle.std.proofs.Common.{◌<◌, nat_eq, length, get_or, ◌∙◌, arith}
use Rattle.std.proofs.lemmas.List.{get_or-set_other}
use Rattle.btor2.specs.Items.{is_bad}
use Rattle.btor2.specs.Lists.{places}
use Rattle.btor2.specs.Reachability.{nodes_of}
use Rattle.witness.proofs.FrameLemmas.{bad_names, length-nodes, property_at, note_more}
use Rattle.witness.proofs.verdicts.note_rises.Goals as goal

pub loop-i-preserved : goal.loop-i-preserved
loop-i-preserved c =
    let there : c.loop-i.i < length (places is_bad 0 c.args.run.now.items) = omega arith in
    record {
      below = λ f h j l.
          note_more c.bad.result (λ k. nat_eq (f (get_or (nodes_of is_bad c.args.run.now.items) k 0)) 1) c.loop-i.rose c.args.rose.now c.loop-i.i j (omega arith)
          (property_at is_bad c.args.run.now.items c.loop-i.i f c.bad.result bad_names there (c.bad.ensures f h)) (c.loop-i.invariant.below f h) c.loop-i.invariant.above l;
      above = λ j l. get_or-set_other c.loop-i.rose c.loop-i.i j _ _ (λ e. omega (arith, l, e)) ∙ c.loop-i.invariant.above j (omega (arith, l));
    }

pub returns : goal.returns
returns c f h i inside = c.loop-i.invariant.below f h i (omega (arith, length-nodes is_bad c.args.run.now.items bad_names))
