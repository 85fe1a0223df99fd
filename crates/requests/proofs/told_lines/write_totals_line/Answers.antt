use Rattle.std.proofs.Common.{◌++◌, ℕ, List, [], OnOk, codes, subst}
use Rattle.std.specs.Io.KnownBytes.{Appends}
use Rattle.requests.specs.Told.{between}
use Rattle.subcommands.proofs.SubjectLemmas.{appends_more, then_told}
use Rattle.requests.proofs.told_lines.write_totals_line.Goals as goal

pub returns-clause-written : goal.returns-clause-written
returns-clause-written g c =
    let part1 : List ℕ = between [] c.all.result (codes " judgements: ") in
    let part2 : List ℕ = between [] c.args.totals.now.accepted (codes " accepted or hold, ") in
    let part3 : List ℕ = between [] c.args.totals.now.not_accepted (codes " not, ") in
    let part4 : List ℕ = between [] c.args.totals.now.refused (codes " refused, ") in
    let part5 : List ℕ = between [] c.args.totals.now.failed (codes " failed\n") in
    let begun = g.O.Sink.written c.args.out.now in
    let told1 = c.in_ok-write_between.ensures.written in
    let told2 = appends_more begun (g.O.Sink.written c.write_between.new.out) (g.O.Sink.written c.write_between-2.new.out) part1 part2 told1 c.in_ok-write_between-2.ensures.written in
    let told3 = appends_more begun (g.O.Sink.written c.write_between-2.new.out) (g.O.Sink.written c.write_between-3.new.out) (part1 ++ part2) part3 told2 c.in_ok-write_between-3.ensures.written in
    let told4 = appends_more begun (g.O.Sink.written c.write_between-3.new.out) (g.O.Sink.written c.write_between-4.new.out) ((part1 ++ part2) ++ part3) part4 told3 c.in_ok-write_between-4.ensures.written in
    let Written : ℕ → Type 0 = λ n. OnOk c.write_between-5.result (Appends begun (g.O.Sink.written c.write_between-5.new.out) (((((between [] n (codes " judgements: ")) ++ part2) ++ part3) ++ part4) ++ part5)) in
    subst Written c.all.ensures (then_told c.write_between-5.result begun (g.O.Sink.written c.write_between-4.new.out) (g.O.Sink.written c.write_between-5.new.out) (((part1 ++ part2) ++ part3) ++ part4) part5 told4 c.write_between-5.ensures.written)
