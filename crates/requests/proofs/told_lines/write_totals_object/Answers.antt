use Rattle.std.proofs.Common.{◌++◌, ℕ, List, [], OnOk, codes, subst}
use Rattle.std.specs.Io.KnownBytes.{Appends}
use Rattle.requests.specs.Told.{all, between}
use Rattle.subcommands.proofs.SubjectLemmas.{appends_more, then_told}
use Rattle.requests.proofs.told_lines.write_totals_object.Goals as goal

pub returns-clause-written : goal.returns-clause-written
returns-clause-written g c =
    let part1 : List ℕ = between (codes "{\"judgements\": ") c.all.result [] in
    let part2 : List ℕ = between (codes ", \"accepted\": ") c.args.totals.now.accepted [] in
    let part3 : List ℕ = between (codes ", \"not_accepted\": ") c.args.totals.now.not_accepted [] in
    let part4 : List ℕ = between (codes ", \"refused\": ") c.args.totals.now.refused [] in
    let part5 : List ℕ = between (codes ", \"failed\": ") c.args.totals.now.failed [] in
    let part6 : List ℕ = between (codes ", \"status\": ") c.from.result (codes "}\n") in
    let begun = g.O.Sink.written c.args.out.now in
    let told1 = c.in_ok-write_between.ensures.written in
    let told2 = appends_more begun (g.O.Sink.written c.write_between.new.out) (g.O.Sink.written c.write_between-2.new.out) part1 part2 told1 c.in_ok-write_between-2.ensures.written in
    let told3 = appends_more begun (g.O.Sink.written c.write_between-2.new.out) (g.O.Sink.written c.write_between-3.new.out) (part1 ++ part2) part3 told2 c.in_ok-write_between-3.ensures.written in
    let told4 = appends_more begun (g.O.Sink.written c.write_between-3.new.out) (g.O.Sink.written c.write_between-4.new.out) ((part1 ++ part2) ++ part3) part4 told3 c.in_ok-write_between-4.ensures.written in
    let told5 = appends_more begun (g.O.Sink.written c.write_between-4.new.out) (g.O.Sink.written c.write_between-5.new.out) (((part1 ++ part2) ++ part3) ++ part4) part5 told4 c.in_ok-write_between-5.ensures.written in
    let Written : ℕ → Type 0 = λ n. OnOk c.write_between-6.result (Appends begun (g.O.Sink.written c.write_between-6.new.out) ((((((between (codes "{\"judgements\": ") n []) ++ part2) ++ part3) ++ part4) ++ part5) ++ part6)) in
    let WithStatus : ℕ → Type 0 = λ m. OnOk c.write_between-6.result (Appends begun (g.O.Sink.written c.write_between-6.new.out) ((((((between (codes "{\"judgements\": ") (all c.args.totals.now) []) ++ part2) ++ part3) ++ part4) ++ part5) ++ between (codes ", \"status\": ") m (codes "}\n"))) in
    subst WithStatus c.from.ensures (subst Written c.all.ensures (then_told c.write_between-6.result begun (g.O.Sink.written c.write_between-5.new.out) (g.O.Sink.written c.write_between-6.new.out) ((((part1 ++ part2) ++ part3) ++ part4) ++ part5) part6 told5 c.write_between-6.ensures.written))
