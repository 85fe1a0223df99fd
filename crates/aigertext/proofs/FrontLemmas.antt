-- The front of a text: its first line, and what is cut off at a byte.
use Rattle.std.proofs.Common.{◌≡◌, ℕ, ◌==◌, List, [], ◌∷◌, ◌++◌, Some, None, Ok, Err, refl, ap, ◌∙◌}
use Rattle.std.specs.List.{list_any}
use Rattle.std.proofs.lemmas.Bool.{or_parts}
use Rattle.base.specs.Lines.{HasNone, IsLine}
use Rattle.aigertext.specs.declared.fault.Why.TheVariants as why
use Rattle.aigertext.specs.Reading.{cut_at_byte, line_at, stop}
use Rattle.aigertext.proofs.FieldLemmas.{cut-found, line_read}

pub cut-none : (byte : ℕ) (text : List ℕ) → HasNone byte text → cut_at_byte byte text ≡ None
cut-none byte [] h = refl
cut-none byte (b ∷ bs) h =
    let parts = or_parts (b == byte) (list_any (λ c. c == byte) bs) h in
    rw (parts.0, cut-none byte bs parts.1) refl

pub cut-at : (byte : ℕ) (text front behind : List ℕ) → text ≡ front ++ byte ∷ behind → HasNone byte front → cut_at_byte byte text ≡ Some (front, behind)
cut-at byte text front behind parts none = ap (cut_at_byte byte) parts ∙ cut-found byte front behind none

pub no_line : (text : List ℕ) → IsLine text → line_at Ok text ≡ Err (stop text why.Truncated)
no_line text h = rw (cut-none 10 text h) refl

pub first_line : (text line behind : List ℕ) → text ≡ line ++ 10 ∷ behind → IsLine line → line_at Ok text ≡ Ok (line, behind)
first_line text line behind parts h = ap (line_at Ok) parts ∙ line_read Ok line behind line h refl
