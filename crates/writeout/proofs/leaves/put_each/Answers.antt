use Rattle.std.proofs.Common.{rules, ◌≡◌, Err, refl, arith}
use Rattle.std.proofs.lemmas.List.{take_all}
use Rattle.fullmodel.specs.Lines.{line_of}
use Rattle.writeout.proofs.EachLemmas.{small_id, valued_node, each_step, each_begins, each_done}
use Rattle.writeout.proofs.MadeLemmas.{none_made}
use Rattle.writeout.proofs.leaves.put_each.Goals as goal
use Rattle.writeout.proofs.NeedLemmas.{line_there}

pub loop-line-init : goal.loop-line-init
loop-line-init c = each_begins c.args.full.now c.args.maker.now c.args.nodes.now.items c.args.leaves.now.items c.requires.items c.requires.nodes c.requires.leaves (none_made c.args.full.now)

pub put_leaf-requires-clause-id : goal.put_leaf-requires-clause-id
put_leaf-requires-clause-id c =
    let there = line_there c.lines-line-items.result.now c.args.full.now c.loop-line.line-index c.line-item.result c.lines-line-items.ensures.lines (omega arith) c.line-item.is in
    small_id c.args.full.now c.loop-line.line-index 4294967296 (line_of c.line-item.result) c.know.ensures.ids there

pub put_leaf-requires-clause-node : goal.put_leaf-requires-clause-node
put_leaf-requires-clause-node c =
    let there = line_there c.lines-line-items.result.now c.args.full.now c.loop-line.line-index c.line-item.result c.lines-line-items.ensures.lines (omega arith) c.line-item.is in
    valued_node c.args.full.now c.loop-line.line-index (line_of c.line-item.result) c.know.ensures.model there

pub returns-in_err-keep-clause-short : goal.returns-in_err-keep-clause-short
returns-in_err-keep-clause-short c =
    let same : c.from_residual-in_err-keep.result ≡ Err c.in_err-keep.field-0.0 = search rules in
    rw same (c.in_err-keep.ensures.short c.put_leaf.new.maker)

pub returns-in_err-keep-2-clause-short : goal.returns-in_err-keep-2-clause-short
returns-in_err-keep-2-clause-short c =
    let same : c.from_residual-in_err-keep-2.result ≡ Err c.in_err-keep-2.field-0.0 = search rules in
    rw same (c.in_err-keep-2.ensures.short c.put_leaf.new.maker)

pub loop-line-preserved : goal.loop-line-preserved
loop-line-preserved c =
    each_step c.args.full.now c.lines-line-items.result.now c.loop-line.line-index _ c.line-item.result c.loop-line.maker c.put_leaf.new.maker c.loop-line.nodes.items c.keep.new.list.items c.loop-line.leaves.items
    c.keep-in-loop-line.new.list.items c.loop-line.any _ c.in_ok-leaf.leaf.node c.in_ok-leaf.leaf.leaf c.in_ok-leaf.leaf.by_first (omega arith) (omega arith) c.line-item.is c.loop-line.invariant c.in_ok-leaf.ensures.leaf
    c.in_ok-keep.ensures.ok c.in_ok-keep-2.ensures.ok refl

pub returns-clause-made : goal.returns-clause-made
returns-clause-made c =
    each_done c.args.full.now c.lines-line-items.result.now c.loop-line.line-index c.loop-line.maker c.loop-line.nodes.items c.loop-line.leaves.items c.loop-line.any c.lines-line-items.ensures.lines
    (take_all c.loop-line.line-index c.lines-line-items.result.now c.loop-line-test.false) c.loop-line.invariant
