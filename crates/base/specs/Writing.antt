-- What calls that put pieces of a text with a pen do.
use Rattle.std.specs.Prelude.{◌≡◌, ℕ, List, Option, Result, Ok, Err, OnOk, OnErr}
use Rattle.std.specs.Io.KnownBytes.{Appends}
use Rattle.base.specs.Device.{CountsFaults, AppendsBeginning}
use Rattle.base.specs.Pieces.{Puts}
use Rattle.base.specs.declared.pen.Pen.{Pen}

-- a text was put behind what was kept, or the sink failed at it; once it has, nothing more is done
abbrev pub PutsOn : {T E : Type 0} → Result T E → Result T E → Option (List ℕ) → Option (List ℕ) → ℕ → ℕ → List ℕ → List ℕ → List ℕ → Type 0
PutsOn (Ok x) now old new before after kept left text = Puts now old new kept left text × CountsFaults now before after
PutsOn (Err e) now old new before after kept left text = (now ≡ Err e) × (new ≡ old) × (after ≡ before)

pub record WritesText {K : Type 0} (written : K → Option (List ℕ)) (failures : K → ℕ) (s t : K) (p q : Pen) (text : List ℕ) : Type 0 where
  pub puts : PutsOn p.answer q.answer (written s) (written t) (failures s) (failures t) p.outbox q.outbox text

-- all of a text is written, or a beginning of it where a fault is answered, which is counted
pub record IsWritten {T E : Type 0} (r : Result T E) (old new : Option (List ℕ)) (before after : ℕ) (text : List ℕ) : Type 0 where
  pub ok : OnOk r (Appends old new text)
  pub err : OnErr r (AppendsBeginning old new text)
  pub failures : CountsFaults r before after
