-- A whole source is lifted.
use Rattle.std.proofs.Common.{◌≡◌, ℕ, Bool, List, [], Option, Some, None, Result, Ok, Err, IfSome, refl, sym, subst, OnOk, OnErr, IfErr, IsErr, MatchResult}
use Rattle.std.specs.Io.KnownBytes.{Consumes, Appends}
use Rattle.base.specs.declared.pen.Pen.{Pen}
use Rattle.base.specs.Device.{AppendsBeginning}
use Rattle.base.proofs.DeviceLemmas.{on_ok, on_err, ok_counts, err_counts, beginning_longer}
use Rattle.base.specs.Writing.{WritesText, IsWritten}
use Rattle.base.proofs.PenLemmas.{begins, writes_none}
use Rattle.btor2.specs.declared.item.Item.{Item}
use Rattle.aiger.specs.Circuit.{Circuit}
use Rattle.witness.specs.Readings.{reading}
use Rattle.base.specs.declared.device.DeviceFault.{DeviceFault}
use Rattle.lift.specs.declared.fault.LiftFault.{LiftFault}
use Rattle.lift.specs.declared.fault.LiftFault.TheVariants as fault
use Rattle.lift.specs.Answers.{CountsLift}
use Rattle.lift.specs.Lifted.{lifted_with}
use Rattle.lift.specs.Stands.{Lifter, LiftsWith, HasLifted}
use Rattle.lift.proofs.LineLemmas.{lifted_begins}
use Rattle.base.proofs.TakingLemmas.{part_given}

-- ---- what is written at the end

pub nothing_yet : (named : Bool) (items : List Item) (c : Circuit) → lifted_with named items c [] ≡ []
unfolding lifted_with reading
nothing_yet named items c = refl

module _ {K : Type 0} (written : K → Option (List ℕ)) (failures : K → ℕ) (named : Bool) (items : List Item) (c : Circuit) (s : K) (pen : Pen) (before : Lifter) (kept : pen.outbox ≡ []) (well : pen.answer ≡ Ok tt) (lifts : LiftsWith named items c before []) where
  pub begun : HasLifted written failures s s pen pen named items c before []
  begun = record { lifts = lifts; writes = subst (WritesText written failures s s pen pen) (sym (nothing_yet named items c)) writes_none }

  pub through_end : {T E : Type 0} (r : Result T E) (source : Option (List ℕ)) (t u : K) (now : Pen) (after : Lifter) → IfSome source (HasLifted written failures s t pen now named items c after)
      → ((text : List ℕ) → WritesText written failures s t pen now text → OnOk r (Appends (written s) (written u) text) × OnErr r (AppendsBeginning (written s) (written u) text))
      → IfSome source (λ text. MatchResult r (λ x. LiftsWith named items c after text × Appends (written s) (written u) (lifted_with named items c text)) (λ e. AppendsBeginning (written s) (written u) (lifted_with named items c text)))
  through_end r None t u now after lifted ends = tt
  through_end (Ok y) (Some text) t u now after h ends = (h.lifts, (ends (lifted_with named items c text) h.writes).0)
  through_end (Err e) (Some text) t u now after h ends = (ends (lifted_with named items c text) h.writes).1

  pub through_fault : (source source' : Option (List ℕ)) (front : List ℕ) (t : K) (now : Pen) (after : Lifter) → Consumes source source' front → HasLifted written failures s t pen now named items c after front
      → IfSome source (λ text. AppendsBeginning (written s) (written t) (lifted_with named items c text))
  through_fault source source' front t now after consumes h =
      part_given source source' front (λ text. AppendsBeginning (written s) (written t) (lifted_with named items c text)) consumes (λ rest.
      let more = lifted_begins named items c front rest in
      subst (AppendsBeginning (written s) (written t)) more.1 (beginning_longer (written s) (written t) (lifted_with named items c front) more.0 (begins well h.writes kept)))

-- what the call that ends the writing answers
pub written_ends : (r : Result (Unit {0}) LiftFault) (f : Result (Unit {0}) DeviceFault) (old new : Option (List ℕ)) (a b : ℕ) (text : List ℕ) → OnOk r (f ≡ Ok tt) → IfErr r (λ e. IsErr f × (e ≡ fault.Write)) → IsWritten f old new a b text
    → OnOk r (Appends old new text) × OnErr r (AppendsBeginning old new text)
written_ends (Ok x) f old new a b text ok err w = (on_ok ok w.ok, tt)
written_ends (Err e) f old new a b text ok err w = (tt, on_err f err.0 w.err)

pub written_counts : (r : Result (Unit {0}) LiftFault) (f : Result (Unit {0}) DeviceFault) (old new : Option (List ℕ)) (read read' a b : ℕ) (text : List ℕ) → OnOk r (f ≡ Ok tt) → IfErr r (λ e. IsErr f × (e ≡ fault.Write)) → read' ≡ read → IsWritten f old new a b text → CountsLift r read read' a b
written_counts (Ok x) f old new read read' a b text ok err same w = (same, ok_counts a b ok w.failures)
written_counts (Err e) f old new read read' a b text ok err same w = subst (λ (e : LiftFault). CountsLift {J = Unit {0}} (Err e) read read' a b) (sym err.1) (same, err_counts f a b err.0 w.failures)
