use Rattle.std.proofs.Common.{◌++◌, codes, append_assoc}
use Rattle.subcommands.specs.Objects.{object_begin}
use Rattle.subcommands.proofs.SubjectLemmas.{appends_more, same_told, then_told}
use Rattle.subcommands.proofs.json.begin_object.Goals as goal

pub returns-clause-written : goal.returns-clause-written
unfolding object_begin
returns-clause-written g c =
    same_told c.write_all-3.result (g.O.Sink.written c.args.out.now) (g.O.Sink.written c.write_all-3.new.sink) _ (codes "{\"verdict\": \"" ++ (c.args.verdict.now ++ codes "\""))
    (append_assoc (codes "{\"verdict\": \"") c.args.verdict.now (codes "\""))
    (then_told c.write_all-3.result (g.O.Sink.written c.args.out.now) (g.O.Sink.written c.write_all-2.new.sink) (g.O.Sink.written c.write_all-3.new.sink) (codes "{\"verdict\": \"" ++ c.args.verdict.now) (codes "\"")
    (appends_more (g.O.Sink.written c.args.out.now) (g.O.Sink.written c.write_all.new.sink) (g.O.Sink.written c.write_all-2.new.sink) (codes "{\"verdict\": \"") c.args.verdict.now c.in_ok-write_all.ensures.ok c.in_ok-write_all-2.ensures.ok)
    c.write_all-3.ensures.ok)
