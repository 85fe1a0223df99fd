use Rattle.std.proofs.Common.{suc, take, drop}
use Rattle.celled.specs.Spots.{spots_of}
use Rattle.celled.specs.Steps.{IsSplitTo}
use Rattle.celled.proofs.splitting.put_lines.Given as goal

abbrev pub invariant-loop-place : goal.invariant-loop-place
invariant-loop-place l = IsSplitTo l.wide l.inputs l.states l.place l.seen.inputs l.seen.states (spots_of l.table) l.maker

abbrev pub ghost-put_at : goal.ghost-put_at
ghost-put_at a = record { front = take a.place a.wide.now; after = drop (suc a.place) a.wide.now; inputs = take a.seen.inputs a.inputs.now; states = take a.seen.states a.states.now }
