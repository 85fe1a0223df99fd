use Rattle.std.proofs.Common.{◌≡◌, ◌<◌, ◌∷◌, ◌++◌, [], arith}
use Rattle.btor2text.specs.Tokens.{tokens}
use Rattle.fulltext.proofs.LoopLemmas.{operands_begin, operands_go_on, operands_end, operands_stop}
use Rattle.fulltext.proofs.signs.put_operands.Goals as goal

pub loop-left-init : goal.loop-left-init
loop-left-init c = operands_begin c.args.count (tokens c.args.line.now) c.args.bytes.now.items c.args.minuses.now.items c.requires

pub returns-in-None : goal.returns-in-None
returns-in-None c =
    operands_stop c.args.count (tokens c.args.line.now) c.args.bytes.now.items c.loop-left.bytes.items c.args.minuses.now.items c.loop-left.minuses.items c.loop-left.left (tokens c.loop-left.rest.now) c.loop-left.invariant c.in-None.ensures

pub loop-left-preserved : goal.loop-left-preserved
loop-left-preserved c =
    operands_go_on c.args.count (tokens c.args.line.now) c.args.bytes.now.items c.loop-left.bytes.items c.put_operand.new.bytes.items c.in-Some.token.now c.loop-left.rest.now c.in-Some.behind.now
    c.args.minuses.now.items c.loop-left.minuses.items c.put_operand.new.minuses.items c.loop-left.left c.loop-left.invariant (omega (arith, c.loop-left-test.true)) c.in-Some.ensures c.in-Ok.ensures.bytes c.in-Ok.ensures.minuses

pub returns : goal.returns
returns c =
    operands_end c.args.count (tokens c.args.line.now) c.args.bytes.now.items c.loop-left.bytes.items c.args.minuses.now.items c.loop-left.minuses.items c.loop-left.left (tokens c.loop-left.rest.now) c.loop-left.invariant (omega (arith, c.loop-left-test.false))
