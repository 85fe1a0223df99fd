use Rattle.std.proofs.Common.{map}
use Rattle.command_line.proofs.ProgressLemmas.{heard_of, told_of}
use Rattle.command_line.proofs.terminals.request_at.Goals as goal

pub returns-in_ok-order_at-in-One-clause-says : goal.returns-in_ok-order_at-in-One-clause-says
returns-in_ok-order_at-in-One-clause-says g c =
    told_of (map g.S.AsStr.text c.args.words.now) c.in_ok-order.field-0 c.in-One.order c.in_ok-order_at-in-One.field-0 _
    c.in_ok-order.ensures.says c.in-One.is c.in_ok-order_at-in-One.ensures.same

pub returns-in_ok-order_at-in-One-clause-heard : goal.returns-in_ok-order_at-in-One-clause-heard
returns-in_ok-order_at-in-One-clause-heard g c =
    heard_of (map g.S.AsStr.text c.args.words.now) c.in_ok-order.field-0 c.in-One.order c.in_ok-order_at-in-One.field-0 c.args.terminals.error
    c.in_ok-order.ensures.says c.in-One.is c.in_ok-order_at-in-One.ensures.same
