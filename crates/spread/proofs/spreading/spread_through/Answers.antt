use Rattle.std.proofs.Common.{◌≡◌, ℕ, List, subst}
use Rattle.std.proofs.lemmas.Option.{IfSome_then}
use Rattle.std.specs.Io.KnownBytes.{Appends}
use Rattle.base.specs.Device.{BeginsWith, AppendsBeginning}
use Rattle.base.proofs.DeviceLemmas.{beginning_longer}
use Rattle.base.proofs.PenLemmas.{begins}
use Rattle.spread.specs.Spread.{IsShort, spread_text}
use Rattle.spread.specs.Stands.{EndsFor}
use Rattle.spread.proofs.spreading.spread_through.Goals as goal

pub returns-in-Ok-finish-clause-writes : goal.returns-in-Ok-finish-clause-writes
returns-in-Ok-finish-clause-writes g c =
    let takes = c.in-Ok.ensures.takes in
    let sent = c.in-Ok-finish.ensures c.args.sink.now c.new-pen.result takes.out c.new-pen.ensures.kept c.new-pen.ensures.well takes.writes in
    let old = g.K.Sink.written c.args.sink.now in
    let new = g.K.Sink.written c.finish.new.sink in
    record {
      ends = λ shape narrow good cut h.
          IfSome_then _ {P = λ (text : List ℕ). IsShort text → EndsFor shape narrow c.take_lines.new.spreader text × (takes.out ≡ spread_text shape text)} {Q = λ (text : List ℕ). IsShort text → EndsFor shape narrow c.take_lines.new.spreader text × Appends old new (spread_text shape text)}
          (takes.ends shape narrow good cut h) (λ text f short. let both = f short in (both.0, subst (Appends old new) both.1 sent.ok));
      stops = tt;
    }

pub returns-in-Err-finish-clause-writes : goal.returns-in-Err-finish-clause-writes
returns-in-Err-finish-clause-writes g c =
    let takes = c.in-Ok.ensures.takes in
    let sent = c.in-Err-finish.ensures c.args.sink.now c.new-pen.result takes.out c.new-pen.ensures.kept c.new-pen.ensures.well takes.writes in
    let old = g.K.Sink.written c.args.sink.now in
    let new = g.K.Sink.written c.finish.new.sink in
    record {
      ends = tt;
      stops = λ shape narrow good cut h.
          IfSome_then _ {P = λ (text : List ℕ). IsShort text → EndsFor shape narrow c.take_lines.new.spreader text × (takes.out ≡ spread_text shape text)} {Q = λ (text : List ℕ). IsShort text → AppendsBeginning old new (spread_text shape text)}
          (takes.ends shape narrow good cut h) (λ text f short. subst (AppendsBeginning old new) (f short).1 sent.err);
    }

pub returns-in-Err-clause-writes : goal.returns-in-Err-clause-writes
returns-in-Err-clause-writes g c =
    let takes = c.in-Err.ensures.takes in
    let old = g.K.Sink.written c.args.sink.now in
    let new = g.K.Sink.written c.take_lines.new.sink in
    record {
      ends = tt;
      stops = λ shape narrow good cut h.
          IfSome_then _ {P = λ (text : List ℕ). IsShort text → BeginsWith (spread_text shape text) takes.out} {Q = λ (text : List ℕ). IsShort text → AppendsBeginning old new (spread_text shape text)} (takes.stops shape narrow good cut h) (λ text f short.
          let more = f short in
          subst (AppendsBeginning old new) more.1 (beginning_longer old new takes.out more.0 (begins c.new-pen.ensures.well takes.writes c.new-pen.ensures.kept)));
    }
