use Rattle.std.proofs.Common.{rules, ◌≡◌, ◌++◌, ℕ, List, codes, decimal, subst}
use Rattle.std.specs.Io.KnownBytes.{Appends}
use Rattle.subcommands.proofs.SubjectLemmas.{appends_more, then_told}
use Rattle.subcommands.proofs.assumed.tell_assumed_line.Goals as goal

pub returns-clause-written : goal.returns-clause-written
returns-clause-written g c =
    let is : c.as_bytes.result.now ≡ decimal c.args.count = search rules in
    let number : Appends (g.E.Sink.written c.write_all.new.sink) (g.E.Sink.written c.write_all-2.new.sink) (decimal c.args.count) =
    subst (λ (l : List ℕ). Appends (g.E.Sink.written c.write_all.new.sink) (g.E.Sink.written c.write_all-2.new.sink) l) is c.in_ok-write_all-2.ensures.ok in
    then_told c.write_all-3.result (g.E.Sink.written c.args.err.now) (g.E.Sink.written c.write_all-2.new.sink) (g.E.Sink.written c.write_all-3.new.sink) (codes "taken as made for all " ++ decimal c.args.count) (codes " bad properties; --bad K says that it was made for one\n")
    (appends_more (g.E.Sink.written c.args.err.now) (g.E.Sink.written c.write_all.new.sink) (g.E.Sink.written c.write_all-2.new.sink) (codes "taken as made for all ") (decimal c.args.count) c.in_ok-write_all.ensures.ok number)
    c.write_all-3.ensures.ok
