-- Bytes that are written, or left out, together.
use Rattle.std.proofs.Common.{◌≡◌, ℕ, zero, suc, Bool, true, false, not, ◌==◌, List, [], ◌∷◌, ◌++◌, refl, sym, ap, ap₂, subst, ◌∙◌, inl, inr, take, drop, arith, if◌then◌else◌}
use Rattle.std.specs.List.{list_all}
use Rattle.std.proofs.lemmas.Bool.{cases_Bool, or_parts, or_from, and_parts, and_cases, not-true, ne_eqb}
use Rattle.base.specs.Lines.{IsLine}
use Rattle.tidy.specs.declared.place.Place.{Place}
use Rattle.tidy.specs.declared.line.Said.{Said}
use Rattle.tidy.specs.declared.line.Said.TheVariants as said
use Rattle.tidy.specs.declared.line.Word.{Word}
use Rattle.tidy.specs.declared.line.Line.{Line}
use Rattle.tidy.specs.declared.line.Line.TheVariants as line
use Rattle.tidy.specs.declared.tidier.Tidier.{Tidier}
use Rattle.tidy.specs.Words.{is_gap}
use Rattle.tidy.specs.Steps.{takes_x, changed, behind_byte, byte_written, behind_bytes, bytes_written, is_gone, is_hidden, is_plain, IsTidying}

abbrev at : ℕ → Place → Line → Tidier
at k p l = record { skip = k; place = p; line = l }

-- a byte that is written as it is, or left out, and behind which the tidier is as before
record IsSteady (t : Tidier) (b : ℕ) : Type 0 where
  pub behind : behind_byte t b ≡ t
  pub written : byte_written t b ≡ if is_hidden t then [] else b ∷ []

hidden_or : (h : Bool) (b : ℕ) (bs : List ℕ) → (if h then [] else b ∷ []) ++ (if h then [] else bs) ≡ if h then [] else b ∷ bs
hidden_or true b bs = refl
hidden_or false b bs = refl

nothing_run : (t : Tidier) → IsTidying t []
nothing_run t = record { behind = refl; written = elim (cases_Bool (is_hidden t)) [ inl hidden ↦ rw hidden refl | inr shown ↦ rw shown refl ] }

-- such bytes of a line
run : (t : Tidier) (fine : ℕ → Bool) (bytes : List ℕ) → IsLine bytes → list_all fine bytes ≡ true → ((b : ℕ) → (b == 10) ≡ false → fine b ≡ true → IsSteady t b) → IsTidying t bytes
run t fine [] is all each = nothing_run t
run t fine (b ∷ bs) is all each =
    let parts = or_parts (b == 10) _ is in
    let fines = and_parts (fine b) _ all in
    let first = each b parts.0 fines.0 in
    let rest = run t fine bs parts.1 fines.1 each in
    record {
      behind = ap (λ u. behind_bytes u bs) first.behind ∙ rest.behind;
      written = ap₂ (λ l u. l ++ bytes_written u bs) first.written first.behind ∙ ap (λ l. (if is_hidden t then [] else b ∷ []) ++ l) rest.written ∙ hidden_or (is_hidden t) b bs;
    }

-- where witnesses are passed over, nothing is written
is_skipping : (n : ℕ) → (suc n == 0) ≡ false
is_skipping n = ne_eqb (suc n) 0 (λ e. absurd (omega arith))

steady : (k : ℕ) (p : Place) (l : Line) (b : ℕ) → behind_byte (at k p l) b ≡ at k p l → byte_written (at zero p l) b ≡ (if is_gone l then [] else b ∷ []) → IsSteady (at k p l) b
steady zero p l b behind written = record { behind = behind; written = written }
steady (suc n) p l b behind written = record { behind = behind; written = rw (is_skipping n) refl }

any_byte : (bytes : List ℕ) → list_all (λ b. true) bytes ≡ true
any_byte [] = refl
any_byte (b ∷ bs) = any_byte bs

-- ---- bytes of a word

plain_blank : (takes : Bool) (b : ℕ) → is_plain takes b ≡ true → is_gap b ≡ false
plain_blank takes b h = not-true (is_gap b) (and_parts (not (is_gap b)) _ h).0

plain_same : (p : Place) (w : Word) (b : ℕ) → is_plain (takes_x p w) b ≡ true → changed p w b ≡ b
plain_same p w b h =
    elim (and_cases (takes_x p w) (b == 120) (not-true _ (and_parts (not (is_gap b)) _ h).1)) [
      | inl off ↦ rw off refl
      | inr off ↦
          elim (cases_Bool (takes_x p w)) [
            | inl on ↦ rw (on, off) refl
            | inr other ↦ rw other refl
          ]
    ]

-- ---- runs

-- of a tidier whose line is known so
pub copied_run : (t : Tidier) (bytes : List ℕ) → t.line ≡ line.Copied → IsLine bytes → IsTidying t bytes
copied_run t bytes e is =
    subst (λ (l : Line). IsTidying (at t.skip t.place l) bytes) (sym e)
    (run (at t.skip t.place line.Copied) (λ b. true) bytes is (any_byte bytes) (λ b h fine. steady t.skip t.place line.Copied b (rw h refl) (rw h refl)))

pub gone_run : (t : Tidier) (bytes : List ℕ) → t.line ≡ line.Gone → IsLine bytes → IsTidying t bytes
gone_run t bytes e is =
    subst (λ (l : Line). IsTidying (at t.skip t.place l) bytes) (sym e)
    (run (at t.skip t.place line.Gone) (λ b. true) bytes is (any_byte bytes) (λ b h fine. steady t.skip t.place line.Gone b (rw h refl) (rw h refl)))

pub kept_run : (t : Tidier) (s : Said) (w : Word) (gap : Bool) (bytes : List ℕ) → t.line ≡ line.Kept s w gap → s ≡ said.Other → gap ≡ false → IsLine bytes → list_all (is_plain (takes_x t.place w)) bytes ≡ true
    → IsTidying t bytes
kept_run t s w gap bytes e other none is all =
    subst (λ (l : Line). IsTidying (at t.skip t.place l) bytes) (sym (e ∙ ap (λ (o : Said). line.Kept o w gap) other ∙ ap (λ (g : Bool). line.Kept said.Other w g) none))
    (run (at t.skip t.place (line.Kept said.Other w false)) (is_plain (takes_x t.place w)) bytes is all (λ b h plain.
    let byte = plain_blank (takes_x t.place w) b plain in
    steady t.skip t.place (line.Kept said.Other w false) b (rw (h, byte) refl) (rw (h, byte, plain_same t.place w b plain) refl)))

-- a front of a line is one
pub front_is_line : (n : ℕ) (bytes : List ℕ) → IsLine bytes → IsLine (take n bytes)
front_is_line zero bytes is = refl
front_is_line (suc n) [] is = refl
front_is_line (suc n) (b ∷ bs) is = let parts = or_parts (b == 10) _ is in or_from (b == 10) _ parts.0 (front_is_line n bs parts.1)

pub rest_is_line : (n : ℕ) (bytes : List ℕ) → IsLine bytes → IsLine (drop n bytes)
rest_is_line zero bytes is = is
rest_is_line (suc n) [] is = refl
rest_is_line (suc n) (b ∷ bs) is = rest_is_line n bs (or_parts (b == 10) _ is).1
