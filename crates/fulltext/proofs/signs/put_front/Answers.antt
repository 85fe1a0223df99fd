use Rattle.std.proofs.Common.{◌≡◌, ◌<◌, ◌∷◌, ◌++◌, [], arith, rules}
use Rattle.btor2text.specs.Tokens.{tokens}
use Rattle.fulltext.proofs.LoopLemmas.{front_begins, front_goes_on, front_ends, front_stops}
use Rattle.fulltext.proofs.signs.put_front.Goals as goal

pub loop-left-init : goal.loop-left-init
loop-left-init c = front_begins c.args.count (tokens c.args.line.now) c.args.bytes.now.items c.requires

pub returns-in-None : goal.returns-in-None
returns-in-None c = front_stops c.args.count (tokens c.args.line.now) c.loop-left.bytes.items c.loop-left.left (tokens c.loop-left.rest.now) c.loop-left.invariant c.in-None.ensures

pub loop-left-preserved : goal.loop-left-preserved
loop-left-preserved c =
    front_goes_on c.args.count (tokens c.args.line.now) c.loop-left.bytes.items c.put_token.new.bytes.items c.in-Some.token.now c.loop-left.rest.now c.in-Some.behind.now c.loop-left.left c.loop-left.invariant (omega (arith, c.loop-left-test.true)) c.in-Some.ensures c.in-Ok.ensures.ok

pub returns : goal.returns
returns c = front_ends c.args.count (tokens c.args.line.now) c.loop-left.bytes.items c.loop-left.left (tokens c.loop-left.rest.now) c.loop-left.invariant (omega (arith, c.loop-left-test.false))
