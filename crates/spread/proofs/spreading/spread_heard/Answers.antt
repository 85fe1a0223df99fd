use Rattle.std.proofs.Common.{◌≡◌, ℕ, ◌<◌, ◌^◌, List, [], IfSome, length, sym, ap, subst, ◌∙◌}
use Rattle.std.specs.List.{flat_map}
use Rattle.std.proofs.lemmas.Option.{IfSome_then}
use Rattle.std.specs.Io.KnownBytes.{Appends}
use Rattle.base.specs.Device.{AppendsBeginning}
use Rattle.btor2.specs.declared.item.Item.{Item}
use Rattle.btor2.specs.Check.{IsWellFormed}
use Rattle.witness.specs.Texts.{Shape, shape_of}
use Rattle.witness.specs.Judgements.{Judges}
use Rattle.witness.proofs.FitLemmas.{shape_is_small}
use Rattle.rejoin.specs.Pieces.{cut_width, cut_shape}
use Rattle.rejoin.proofs.ShapeItemLemmas.{shape_is_small as wide_shape_is_small}
use Rattle.spread.specs.Answers.{IsOfFitted, KeepsJudgement}
use Rattle.spread.specs.Spread.{IsShort, spread_text}
use Rattle.spread.specs.Made.{source_made}
use Rattle.spread.specs.Stands.{IsWideShape, StandsFor, EndsFor}
use Rattle.spread.proofs.WideShapeLemmas.{shape_is_wide}
use Rattle.spread.proofs.KeepLemmas.{tells_judged, tells_kept}
use Rattle.spread.proofs.spreading.spread_heard.Goals as goal

good_shape : (shape : Shape) (narrow wide : List Item) → IsOfFitted shape narrow wide → shape_of narrow ≡ cut_shape (shape_of wide) → IsWellFormed narrow → IsWideShape (shape_of wide)
good_shape shape narrow wide of cut well = shape_is_wide wide narrow of.model cut (shape_is_small narrow well)

pub new-requires-clause-states : goal.new-requires-clause-states
new-requires-clause-states g c =
    let wide = c.requires.fitted.0 in
    let of = c.requires.fitted.1 in
    let good = good_shape c.args.shape.now c.args.narrow.now wide of (c.shapes_are_cut.ensures wide c.args.narrow.now of.fit) c.items-items.ensures.well_formed in
    subst (λ (l : List ℕ). length (flat_map cut_width l) < 2 ^ 64) (sym (c.states.ensures ∙ ap (λ (s : Shape). s.states) of.is_shape)) good.few_states

pub new-requires-clause-inputs : goal.new-requires-clause-inputs
new-requires-clause-inputs g c =
    let wide = c.requires.fitted.0 in
    let of = c.requires.fitted.1 in
    let good = good_shape c.args.shape.now c.args.narrow.now wide of (c.shapes_are_cut.ensures wide c.args.narrow.now of.fit) c.items-items.ensures.well_formed in
    subst (λ (l : List ℕ). length (flat_map cut_width l) < 2 ^ 64) (sym (c.inputs.ensures ∙ ap (λ (s : Shape). s.inputs) of.is_shape)) good.few_inputs

pub returns-in-Ok-spread_through-clause-judged : goal.returns-in-Ok-spread_through-clause-judged
returns-in-Ok-spread_through-clause-judged g c = λ wide of.
    let narrow = c.args.narrow.now in
    let cut = c.shapes_are_cut.ensures wide narrow of.fit in
    let good = good_shape c.args.shape.now narrow wide of cut c.items-items.ensures.well_formed in
    let begun : StandsFor (shape_of wide) narrow c.in-Ok.spreader [] =
    c.in-Ok.ensures.ok (shape_of wide) (c.states.ensures ∙ ap (λ (s : Shape). s.states) of.is_shape) (c.inputs.ensures ∙ ap (λ (s : Shape). s.inputs) of.is_shape) in
    IfSome_then _ {P = λ (text : List ℕ). IsShort text → EndsFor (shape_of wide) narrow c.spread_through.new.spreader text × Appends (g.K.Sink.written c.args.sink.now) (g.K.Sink.written c.spread_through.new.sink) (spread_text (shape_of wide) text)} {Q = λ (text : List ℕ). IsShort text → Judges wide text c.finish.result}
    (c.in-Ok-spread_through.ensures.writes.ends (shape_of wide) narrow good cut begun)
    (λ text f short.
    tells_judged wide narrow good (wide_shape_is_small wide of.model) cut text short (λ w j. c.split_is_judged_alike.ensures wide narrow w j of.fit) c.finish.result (c.finish.ensures (shape_of wide) narrow text (f short).0))

pub returns-in-Ok-spread_through-clause-kept : goal.returns-in-Ok-spread_through-clause-kept
returns-in-Ok-spread_through-clause-kept g c = λ wide of.
    let narrow = c.args.narrow.now in
    let cut = c.shapes_are_cut.ensures wide narrow of.fit in
    let good = good_shape c.args.shape.now narrow wide of cut c.items-items.ensures.well_formed in
    let begun : StandsFor (shape_of wide) narrow c.in-Ok.spreader [] =
    c.in-Ok.ensures.ok (shape_of wide) (c.states.ensures ∙ ap (λ (s : Shape). s.states) of.is_shape) (c.inputs.ensures ∙ ap (λ (s : Shape). s.inputs) of.is_shape) in
    IfSome_then _ {P = λ (text : List ℕ). IsShort text → EndsFor (shape_of wide) narrow c.spread_through.new.spreader text × Appends (g.K.Sink.written c.args.sink.now) (g.K.Sink.written c.spread_through.new.sink) (spread_text (shape_of wide) text)} {Q = λ (text : List ℕ). IsShort text → KeepsJudgement wide narrow text c.finish.result}
    (c.in-Ok-spread_through.ensures.writes.ends (shape_of wide) narrow good cut begun)
    (λ text f short. tells_kept wide narrow good (wide_shape_is_small wide of.model) cut text short c.finish.result (c.finish.ensures (shape_of wide) narrow text (f short).0))

pub returns-in-Ok-spread_through-clause-written : goal.returns-in-Ok-spread_through-clause-written
returns-in-Ok-spread_through-clause-written g c =
    let wide = c.requires.fitted.0 in
    let of = c.requires.fitted.1 in
    let narrow = c.args.narrow.now in
    let old = g.K.Sink.written c.args.sink.now in
    let new = g.K.Sink.written c.spread_through.new.sink in
    let cut = c.shapes_are_cut.ensures wide narrow of.fit in
    let good = good_shape c.args.shape.now narrow wide of cut c.items-items.ensures.well_formed in
    let begun : StandsFor (shape_of wide) narrow c.in-Ok.spreader [] =
    c.in-Ok.ensures.ok (shape_of wide) (c.states.ensures ∙ ap (λ (s : Shape). s.states) of.is_shape) (c.inputs.ensures ∙ ap (λ (s : Shape). s.inputs) of.is_shape) in
    let over_wide : IfSome (source_made (g.L.Lines.becomes c.args.lines.now) (g.S.Source.to_come c.args.source.now)) (λ text. IsShort text → Appends old new (spread_text (shape_of wide) text)) =
    IfSome_then _ {P = λ (text : List ℕ). IsShort text → EndsFor (shape_of wide) narrow c.spread_through.new.spreader text × Appends old new (spread_text (shape_of wide) text)} {Q = λ (text : List ℕ). IsShort text → Appends old new (spread_text (shape_of wide) text)}
    (c.in-Ok-spread_through.ensures.writes.ends (shape_of wide) narrow good cut begun) (λ text f short. (f short).1) in
    subst (λ (s : Shape). IfSome (source_made (g.L.Lines.becomes c.args.lines.now) (g.S.Source.to_come c.args.source.now)) (λ text. IsShort text → Appends old new (spread_text s text))) (sym of.is_shape) over_wide

pub returns-in-Err-clause-beginning : goal.returns-in-Err-clause-beginning
returns-in-Err-clause-beginning g c =
    let wide = c.requires.fitted.0 in
    let of = c.requires.fitted.1 in
    let narrow = c.args.narrow.now in
    let old = g.K.Sink.written c.args.sink.now in
    let new = g.K.Sink.written c.spread_through.new.sink in
    let cut = c.shapes_are_cut.ensures wide narrow of.fit in
    let good = good_shape c.args.shape.now narrow wide of cut c.items-items.ensures.well_formed in
    let begun : StandsFor (shape_of wide) narrow c.in-Ok.spreader [] =
    c.in-Ok.ensures.ok (shape_of wide) (c.states.ensures ∙ ap (λ (s : Shape). s.states) of.is_shape) (c.inputs.ensures ∙ ap (λ (s : Shape). s.inputs) of.is_shape) in
    subst (λ (s : Shape). IfSome (source_made (g.L.Lines.becomes c.args.lines.now) (g.S.Source.to_come c.args.source.now)) (λ text. IsShort text → AppendsBeginning old new (spread_text s text))) (sym of.is_shape) (c.in-Err.ensures.writes.stops (shape_of wide) narrow good cut begun)

pub returns-in-Ok-spread_through-clause-heard : goal.returns-in-Ok-spread_through-clause-heard
returns-in-Ok-spread_through-clause-heard g c = λ wide of.
    let narrow = c.args.narrow.now in
    let cut = c.shapes_are_cut.ensures wide narrow of.fit in
    let good = good_shape c.args.shape.now narrow wide of cut c.items-items.ensures.well_formed in
    let begun : StandsFor (shape_of wide) narrow c.in-Ok.spreader [] =
    c.in-Ok.ensures.ok (shape_of wide) (c.states.ensures ∙ ap (λ (s : Shape). s.states) of.is_shape) (c.inputs.ensures ∙ ap (λ (s : Shape). s.inputs) of.is_shape) in
    c.in-Ok-spread_through.ensures.heard (shape_of wide) narrow good cut begun
