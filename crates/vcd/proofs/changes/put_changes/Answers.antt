use Rattle.std.proofs.Common.{◌++◌, ◌<◌, [], List, ℕ, length, ap, refl, sym, ◌∙◌, append_assoc, append-nil, arith}
use Rattle.std.proofs.lemmas.List.{drop_all, length-set}
use Rattle.base.proofs.PenLemmas.{writes_none, writes_then}
use Rattle.vcd.specs.declared.signals.Signal.{Signal}
use Rattle.vcd.specs.Stands.{told_word, changes}
use Rattle.vcd.proofs.ChangeLemmas.{change_step, kept_step, allowed_step, all_kept}
use Rattle.vcd.proofs.changes.put_changes.Goals as goal

pub loop-at-init : goal.loop-at-init
loop-at-init g c = record { puts = record { put = []; writes = writes_none; is = λ items f shows. refl }; kept = λ items f shows. refl; allowed = c.requires; many = refl }

pub loop-at-preserved : goal.loop-at-preserved
loop-at-preserved g c =
    let there : c.loop-at.at < length c.args.signals.now = omega (arith, c.loop-at-test.true, c.loop-at.invariant.many) in
    let puts = c.loop-at.invariant.puts in
    record {
      puts = record {
        put = _;
        writes = writes_then puts.writes c.put_change.ensures.puts;
        is = λ items f shows.
            append_assoc puts.put _ _
            ∙ ap (λ (l : List ℕ). puts.put ++ l) (sym (change_step c.args.first (told_word items f) c.loop-at.at c.args.signals.now c.loop-at.signals _ _ there (c.loop-at.invariant.kept items f shows) (c.word_now-word.ensures items f shows)))
            ∙ puts.is items f shows;
      };
      kept = λ items f shows. kept_step (told_word items f) c.loop-at.at c.args.signals.now c.loop-at.signals _ c.put_change.new.signal c.word_now-word.result there (c.loop-at.invariant.kept items f shows) (c.word_now-word.ensures items f shows) c.put_change.ensures.kept;
      allowed = allowed_step c.loop-at.at c.loop-at.signals _ c.put_change.new.signal (omega (arith, there, c.loop-at.invariant.many)) c.loop-at.invariant.allowed (ap (λ (s : Signal). s.width) c.put_change.ensures.kept);
      many = length-set c.loop-at.signals c.loop-at.at c.put_change.new.signal ∙ c.loop-at.invariant.many;
    }

pub returns-clause-puts : goal.returns-clause-puts
returns-clause-puts g c =
    let puts = c.loop-at.invariant.puts in
    record {
      put = puts.put;
      writes = puts.writes;
      is = λ items f shows.
          let none = drop_all c.loop-at.at c.args.signals.now (omega (arith, c.loop-at-test.false, c.loop-at.invariant.many)) in
          sym (append-nil puts.put) ∙ ap (λ (l : List Signal). puts.put ++ changes c.args.first (told_word items f) l) (sym none) ∙ puts.is items f shows;
    }

pub returns-clause-kept : goal.returns-clause-kept
returns-clause-kept g c items f shows =
    c.loop-at.invariant.kept items f shows ∙ all_kept (told_word items f) c.args.signals.now c.loop-at.at (omega (arith, c.loop-at-test.false, c.loop-at.invariant.many))
