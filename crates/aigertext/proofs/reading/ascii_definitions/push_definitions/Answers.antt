use Rattle.std.proofs.Common.{◌+◌, ◌-◌, rules, arith}
use Rattle.aigertext.proofs.FileLemmas.{file_step}
use Rattle.aigertext.proofs.reading.ascii_definitions.push_definitions.Goals as goal

pub loop-index-preserved : goal.loop-index-preserved
loop-index-preserved g c =
    let d = g.D.Definition in
    file_step (d.says c.args.greatest) d.with_line c.loop-index.lists (c.args.count - c.loop-index._index) (c.args.count - (c.loop-index._index + 1)) c.loop-index.rest.now _ (omega arith) c.loop-index.invariant
    c.in_ok-definition.definition c.in_ok-definition.after.now c.push.new.lists c.in_ok-definition.ensures (search rules)
