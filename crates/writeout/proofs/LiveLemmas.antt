-- The first line of justice or of fairness.
use Rattle.std.proofs.Common.{◌≡◌, ℕ, ◌+◌, ◌<◌, List, ◌∷◌, ◌++◌, map, take, drop, get_or, length, sym, ap, ◌∙◌}
use Rattle.std.proofs.lemmas.List.{take-append-drop, drop_more, map-append}
use Rattle.cells.specs.declared.shortage.Shortage.{Shortage}
use Rattle.cells.specs.declared.shortage.Shortage.TheVariants as shortage
use Rattle.full.specs.Lines.{FullLine}
use Rattle.fullmodel.specs.declared.line.Line.{Line}
use Rattle.fullmodel.specs.Lines.{line_of}
use Rattle.writeout.specs.declared.fault.WriteFault.{WriteFault}
use Rattle.writeout.specs.declared.fault.WriteFault.TheVariants as fault
use Rattle.writeout.specs.Faults.{NoneIsLive, IsLineFault, IsLiveFault, IsOrderFault, fault_of, IsUnwritten}

-- lines around one of them
lines_around : (lines : List Line) (k : ℕ) (x : Line) → k < length lines → x ≡ get_or lines k x → map line_of lines ≡ map line_of (take k lines) ++ line_of x ∷ map line_of (drop (k + 1) lines)
lines_around lines k x within at =
    ap (map line_of) (sym (take-append-drop k lines)) ∙ map-append line_of (take k lines) (drop k lines)
    ∙ ap (λ (l : List Line). map line_of (take k lines) ++ map line_of l) (drop_more lines k x within)
    ∙ ap (λ (y : Line). map line_of (take k lines) ++ line_of y ∷ map line_of (drop (k + 1) lines)) (sym at)

-- a live line behind lines that are none is the first
pub first_of_kind : (lines : List Line) (k : ℕ) (x : Line) (e : WriteFault) → k < length lines → x ≡ get_or lines k x → NoneIsLive (map line_of (take k lines)) → IsLineFault (line_of x) e → IsLiveFault (map line_of lines) e
first_of_kind lines k x (fault.Justice id) within at none h = record {
  before = map line_of (take k lines);
  line = line_of x;
  after = map line_of (drop (k + 1) lines);
  is = lines_around lines k x within at;
  none = none;
  kind = h.0;
  id = h.1;
}
first_of_kind lines k x (fault.Fair id) within at none h = record {
  before = map line_of (take k lines);
  line = line_of x;
  after = map line_of (drop (k + 1) lines);
  is = lines_around lines k x within at;
  none = none;
  kind = h.0;
  id = h.1;
}
first_of_kind lines k x _ within at none h = absurd h

-- ---- why a model is not written out

pub live_unwritten : (full : List FullLine) (e : WriteFault) → IsLiveFault full e → IsUnwritten full e
live_unwritten full (fault.Justice id) h = h
live_unwritten full (fault.Fair id) h = h
live_unwritten full _ h = absurd h

pub order_unwritten : (full : List FullLine) (e : WriteFault) → IsOrderFault full e → IsUnwritten full e
order_unwritten full (fault.Circle id) h = h
order_unwritten full fault.NoMemory h = tt
order_unwritten full _ h = absurd h

pub wanting_unwritten : (full : List FullLine) (s : Shortage) → IsUnwritten full (fault_of s)
wanting_unwritten full shortage.TooManyItems = tt
wanting_unwritten full shortage.NoMemory = tt
