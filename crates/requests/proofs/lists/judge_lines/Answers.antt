use Rattle.std.proofs.Common.{◌≡◌, ◌++◌, ◌+◌, ℕ, suc, List, [], refl, sym, subst, append_assoc, append-nil, arith}
use Rattle.std.proofs.KnownBytes.{Appends-nil}
use Rattle.subcommands.proofs.SubjectLemmas.{appends_more}
use Rattle.requests.specs.declared.told_lines.Totals.{Totals}
use Rattle.requests.specs.Lists.{JudgesLines, has_judgement, lines, words}
use Rattle.requests.specs.Told.{no_totals, totals_said}
use Rattle.requests.proofs.JudgedLemmas.{begins}
use Rattle.requests.proofs.lists.judge_lines.Goals as goal

pub loop-line-init : goal.loop-line-init
loop-line-init g c = record {
  said = ([], (Appends-nil (g.O.Sink.written c.args.out.now), λ more behind h. subst (λ (t : Totals). JudgesLines (g.F.NamedFiles.text c.args.files.now) c.args.as_json 1 (lines c.args.text.now) t more behind) c.new-totals.ensures h));
  few = omega arith;
}

pub loop-line-preserved : goal.loop-line-preserved
loop-line-preserved g c =
    let texts = g.F.NamedFiles.text c.args.files.now in
    let n = c.loop-line.number in
    let line = c.in-Some.line.now in
    let rest = lines c.in-Some.behind.now in
    let s = c.loop-line.invariant.said in
    let t = begins texts c.args.as_json (has_judgement (words line)) n (words line) rest c.loop-line.totals c.judge_line.new.totals (g.O.Sink.written c.loop-line.out) (g.O.Sink.written c.judge_line.new.out) c.in_ok-judge_line.ensures in
    let next : n + 1 ≡ suc n = omega arith in
    record {
      said = (
        s.0 ++ t.said,
        (
          appends_more (g.O.Sink.written c.args.out.now) (g.O.Sink.written c.loop-line.out) (g.O.Sink.written c.judge_line.new.out) s.0 t.said s.1.0 t.told,
          λ more behind h. subst (λ (l : List ℕ). JudgesLines texts c.args.as_json 1 (lines c.args.text.now) no_totals l behind) (sym (append_assoc s.0 t.said more))
              (s.1.1 (t.said ++ more) behind (rw c.in-Some.ensures.lines (t.goes_on more behind (subst (λ (k : ℕ). JudgesLines texts c.args.as_json k rest c.judge_line.new.totals more behind) next h)))),
        ),
      );
      few = omega (arith, c.loop-line.invariant.few, c.in-Some.ensures.less);
    }

pub returns : goal.returns
returns g c =
    let texts = g.F.NamedFiles.text c.args.files.now in
    let totals = c.loop-line.totals in
    let s = c.loop-line.invariant.said in
    record {
      said = s.0;
      totals = totals;
      lines = subst (λ (l : List ℕ). JudgesLines texts c.args.as_json 1 (lines c.args.text.now) no_totals l totals) (append-nil s.0) (s.1.1 [] totals (rw c.in_default.ensures.lines (refl, refl)));
      told = appends_more (g.O.Sink.written c.args.out.now) (g.O.Sink.written c.loop-line.out) (g.O.Sink.written c.write_totals.new.out) s.0 (totals_said c.args.as_json totals) s.1.0 c.in_ok-write_totals.ensures.written;
      highest = refl;
    }
