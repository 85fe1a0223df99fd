-- A whole source is written as a dump.
use Rattle.std.proofs.Common.{◌≡◌, ℕ, List, [], ◌++◌, Option, Result, Ok, Err, IfSome, sym, ap, ap₂, subst, ◌∙◌, append_assoc}
use Rattle.std.specs.Io.KnownBytes.{IsAtEnd}
use Rattle.std.proofs.KnownBytes.{Consumes-whole}
use Rattle.base.specs.declared.device.DeviceFault.{DeviceFault}
use Rattle.base.specs.declared.pen.Pen.{Pen}
use Rattle.base.specs.Device.{AppendsBeginning}
use Rattle.base.specs.Lines.{text_of_lines}
use Rattle.base.specs.Taking.{TakesFront as BaseFront}
use Rattle.base.specs.Writing.{WritesText}
use Rattle.base.proofs.DeviceLemmas.{beginning_longer}
use Rattle.base.proofs.PenLemmas.{begins, writes_then}
use Rattle.btor2.specs.declared.item.Item.{Item}
use Rattle.btor2.specs.Trace.{Frame}
use Rattle.witness.specs.ClosedWords.{IsClosedTrace}
use Rattle.std.proofs.lemmas.Option.{IfSome_then}
use Rattle.vcd.specs.declared.scope.Shown.{Shown}
use Rattle.vcd.specs.Dumps.{declaration_lines, end_lines, vcd_text}
use Rattle.vcd.specs.Stands.{Waver, Waves, Takes, TakesFront, Stops}
use Rattle.vcd.proofs.WaverLemmas.{front_text, takes_none}
use Rattle.base.proofs.TakingLemmas.{part_given}

-- ---- what a source gives

pub front_taken : {K : Type 0} {written : K → Option (List ℕ)} {failures : K → ℕ} {s t : K} {W : Type 0} {from to : W} (pen : W → Pen) (waver : W → Waver) {source source' : Option (List ℕ)}
    → BaseFront (λ (over : K × Pen × Waver) sink w text. Takes written failures over.0 sink over.1 (pen w) over.2 (waver w) text) source source' s t from to
    → TakesFront written failures s t (pen from) (pen to) (waver from) (waver to) source source'
front_taken {s = s} {from = from} pen waver front = record { front = front.front; consumes = front.consumes; takes = front.takes (s, pen from, waver from) [] takes_none }

-- ---- reading stopped before the end

-- the declarations and what was put of a front's frames are a beginning of the dump
front_dump : (s : Shown) (title : List ℕ) (items : List Item) (w : Waver) (text put more : List ℕ) (fs : List Frame) → Waves s items w text put → IsClosedTrace items (text ++ more) fs
    → (rest : List ℕ) × ((text_of_lines (declaration_lines s title items) ++ put) ++ rest ≡ vcd_text s title items fs)
unfolding vcd_text
front_dump s title items w text put more fs h t =
    let declared : List ℕ = text_of_lines (declaration_lines s title items) in
    let end : List ℕ = text_of_lines (end_lines fs) in
    let behind = front_text s items w text put more fs h t in
    (behind.0 ++ end, append_assoc declared put (behind.0 ++ end) ∙ ap (λ (l : List ℕ). declared ++ l) (sym (append_assoc put behind.0 end) ∙ ap (λ (l : List ℕ). l ++ end) behind.1))

pub begun : {K : Type 0} {written : K → Option (List ℕ)} {failures : K → ℕ} {start s t : K} {p q r : Pen} {before after : Waver} {source source' : Option (List ℕ)} (shown : Shown) (title : List ℕ) (items : List Item)
    → p.outbox ≡ [] → p.answer ≡ Ok tt → WritesText written failures start s p q (text_of_lines (declaration_lines shown title items)) → Waves shown items before [] [] → TakesFront written failures s t q r before after source source'
    → IfSome source (λ text. (fs : List Frame) → IsClosedTrace items text fs → AppendsBeginning (written start) (written t) (vcd_text shown title items fs))
begun {written} {start} {t} {after} {source} {source'} shown title items kept well declared h g =
    part_given source source' g.front (λ text. (fs : List Frame) → IsClosedTrace items text fs → AppendsBeginning (written start) (written t) (vcd_text shown title items fs)) g.consumes (λ rest fs trace.
    let dump = front_dump shown title items after g.front g.takes.put rest fs (g.takes.waves shown items [] [] h) trace in
    subst (AppendsBeginning (written start) (written t)) dump.1 (beginning_longer (written start) (written t) (text_of_lines (declaration_lines shown title items) ++ g.takes.put) dump.0 (begins well (writes_then declared g.takes.writes) kept)))

-- ---- the whole source

pub ended : {K : Type 0} {written : K → Option (List ℕ)} {failures : K → ℕ} {s t : K} {p q : Pen} {before after : Waver} {source source' : Option (List ℕ)} (shown : Shown) (items : List Item) → Waves shown items before [] []
    → (g : TakesFront written failures s t p q before after source source') → IsAtEnd source' → IfSome source (λ text. Waves shown items after text g.takes.put)
ended {after} {source} {source'} shown items h g end = Consumes-whole source source' g.front (λ text. Waves shown items after text g.takes.put) g.consumes end (g.takes.waves shown items [] [] h)

-- what was put is the dump
pub whole_dump : {K : Type 0} {written : K → Option (List ℕ)} {failures : K → ℕ} {s t : K} {p q : Pen} {before after : Waver} {source source' : Option (List ℕ)} (shown : Shown) (title : List ℕ) (items : List Item) (end : List ℕ) (says : List ℕ → Type 0)
    → Waves shown items before [] [] → (g : TakesFront written failures s t p q before after source source') → IsAtEnd source'
    → ((sh : Shown) (xs : List Item) (text put : List ℕ) (fs : List Frame) → Waves sh xs after text put → IsClosedTrace xs text fs → end ≡ text_of_lines (end_lines fs))
    → says ((text_of_lines (declaration_lines shown title items) ++ g.takes.put) ++ end) → IfSome source (λ text. (fs : List Frame) → IsClosedTrace items text fs → says (vcd_text shown title items fs))
unfolding vcd_text
whole_dump {after} {source} shown title items end says h g at_end is said =
    let declared : List ℕ = text_of_lines (declaration_lines shown title items) in
    IfSome_then source {P = λ text. Waves shown items after text g.takes.put} {Q = λ text. (fs : List Frame) → IsClosedTrace items text fs → says (vcd_text shown title items fs)} (ended shown items h g at_end) (λ text waves fs trace. subst says (append_assoc declared g.takes.put end ∙ ap₂ (λ (l m : List ℕ). declared ++ (l ++ m)) (waves.frames fs trace) (is shown items text g.takes.put fs waves trace)) said)

-- the source has not failed
pub stop_well : (x : Unit) (a : Result Unit DeviceFault) (old new : ℕ) → Stops (Ok x) a old new → new ≡ old
stop_well x (Ok y) old new h = h
stop_well x (Err e) old new h = absurd h
