-- Pieces of a text that are put with a pen one after the other.
use Rattle.std.proofs.Common.{◌≡◌, ℕ, ◌^◌, ◌<◌, ◌≤◌, List, [], ◌++◌, length, decimal, Option, Result, Ok, Err, is_err, true, false, refl, sym, ap, subst, ◌∙◌, append_assoc, append-nil, lit<, arith}
use Rattle.std.proofs.KnownBytes.{Appends-nil}
use Rattle.std.proofs.lemmas.Fmt.{length-decimal-le}
use Rattle.base.specs.declared.pen.Pen.{Pen}
use Rattle.base.specs.declared.device.DeviceFault.{DeviceFault}
use Rattle.base.specs.Device.{HasRisen, CountsFaults, AppendsBeginning}
use Rattle.base.specs.Writing.{PutsOn, WritesText}
use Rattle.base.proofs.DeviceLemmas.{beginning_longer, sent_on, sent_then_beginning}

-- ---- a text in pieces

none_on : {T E : Type 0} (a : Result T E) (w : Option (List ℕ)) (f : ℕ) (kept : List ℕ) → PutsOn a a w w f f kept kept []
none_on (Ok x) w f kept = (record { front = []; whole = sym (append-nil kept); appends = Appends-nil w }, refl)
none_on (Err e) w f kept = (refl, refl, refl)

both_on : {T E : Type 0} (a b c : Result T E) (u v w : Option (List ℕ)) (f g h : ℕ) (k l m x y : List ℕ) → PutsOn a b u v f g k l x → PutsOn b c v w g h l m y → PutsOn a c u w f h k m (x ++ y)
both_on (Err e) (Ok b) c u v w f g h k l m x y p q = absurd cc
both_on (Err e) (Err d) c u v w f g h k l m x y p q = (q.0 ∙ p.0, q.1 ∙ p.1, q.2 ∙ p.2)
both_on (Ok a) (Ok b) (Ok c) u v w f g h k l m x y p q = (rw (sym (append_assoc k x y)) (sent_on u v w (k ++ x) l y m p.0 q.0), q.1 ∙ p.1)
both_on (Ok a) (Ok b) (Err d) u v w f g h k l m x y p q = (rw (sym (append_assoc k x y)) (sent_then_beginning u v w (k ++ x) l y p.0 q.0), subst (λ (n : ℕ). HasRisen n h) p.1 q.1)
both_on (Ok a) (Err d) (Ok c) u v w f g h k l m x y p q = absurd cc
both_on (Ok a) (Err d) (Err e) u v w f g h k l m x y p q =
    (rw (sym (append_assoc k x y), q.1) (beginning_longer u v (k ++ x) y p.0), rw q.2 p.1)

pub writes_line : {K : Type 0} {written : K → Option (List ℕ)} {failures : K → ℕ} {s t : K} {p q : Pen} {l x : List ℕ} → WritesText written failures s t (record { outbox = p.outbox; line = l; answer = p.answer }) q x → WritesText written failures s t p q x
writes_line w = record { puts = w.puts }

pub writes_none : {K : Type 0} {written : K → Option (List ℕ)} {failures : K → ℕ} {s : K} {p : Pen} → WritesText written failures s s p p []
writes_none {written} {failures} {s} {p} = record { puts = none_on p.answer (written s) (failures s) p.outbox }

pub writes_then : {K : Type 0} {written : K → Option (List ℕ)} {failures : K → ℕ} {s t u : K} {p q r : Pen} {x y : List ℕ} → WritesText written failures s t p q x → WritesText written failures t u q r y → WritesText written failures s u p r (x ++ y)
writes_then {written} {failures} {s} {t} {u} {p} {q} {r} {x} {y} first next = record {
  puts = both_on p.answer q.answer r.answer (written s) (written t) (written u) (failures s) (failures t) (failures u) p.outbox q.outbox r.outbox x y first.puts next.puts;
}

-- ---- a pen that was well at first

module _ {K : Type 0} {written : K → Option (List ℕ)} {failures : K → ℕ} {s t : K} {p q : Pen} {text : List ℕ} (well : p.answer ≡ Ok tt) (w : WritesText written failures s t p q text) where
  puts : PutsOn (Ok tt) q.answer (written s) (written t) (failures s) (failures t) p.outbox q.outbox text
  puts = subst (λ a. PutsOn a q.answer (written s) (written t) (failures s) (failures t) p.outbox q.outbox text) well w.puts

  -- nothing failed, or the sink did
  pub well_counts : q.answer ≡ Ok tt → failures t ≡ failures s
  well_counts is = (subst (λ a. PutsOn (Ok tt) a (written s) (written t) (failures s) (failures t) p.outbox q.outbox text) is puts).1

  pub fails_counts : (q.answer ≡ Ok tt → ⊥) → HasRisen (failures s) (failures t)
  fails_counts not = by q.answer refl puts
    where
      by : (a : Result (Unit {0}) DeviceFault) → q.answer ≡ a → PutsOn (Ok tt) a (written s) (written t) (failures s) (failures t) p.outbox q.outbox text → HasRisen (failures s) (failures t)
      by (Ok tt) is h = absurd (not is)
      by (Err e) is h = h.1

  -- a beginning of it has gone out
  pub begins : p.outbox ≡ [] → AppendsBeginning (written s) (written t) text
  begins kept = by q.answer (subst (λ k. PutsOn (Ok tt) q.answer (written s) (written t) (failures s) (failures t) k q.outbox text) kept puts)
    where
      by : (a : Result (Unit {0}) DeviceFault) → PutsOn (Ok tt) a (written s) (written t) (failures s) (failures t) [] q.outbox text → AppendsBeginning (written s) (written t) text
      by (Ok x) h = (h.0.front, (q.outbox, h.0.whole), h.0.appends)
      by (Err e) h = h.0

  pub counts_none : is_err q.answer ≡ false → failures t ≡ failures s
  counts_none none = by q.answer none puts.1
    where
      by : (a : Result (Unit {0}) DeviceFault) → is_err a ≡ false → CountsFaults a (failures s) (failures t) → failures t ≡ failures s
      by (Ok x) none h = h
      by (Err e) none h = absurd cc

  pub counts_one : is_err q.answer ≡ true → HasRisen (failures s) (failures t)
  counts_one failed = by q.answer failed puts.1
    where
      by : (a : Result (Unit {0}) DeviceFault) → is_err a ≡ true → CountsFaults a (failures s) (failures t) → HasRisen (failures s) (failures t)
      by (Ok x) failed h = absurd cc
      by (Err e) failed h = h

-- of a whole text a front was put, and this rest of it is still to be put
pub record Writing {K : Type 0} (written : K → Option (List ℕ)) (failures : K → ℕ) (s t : K) (p q : Pen) (whole rest : List ℕ) : Type 0 where
  pub done : List ℕ
  pub all : done ++ rest ≡ whole
  pub writes : WritesText written failures s t p q done

pub write_none : {K : Type 0} {written : K → Option (List ℕ)} {failures : K → ℕ} {s : K} {p : Pen} {whole : List ℕ} → Writing written failures s s p p whole whole
write_none = record { done = []; all = refl; writes = writes_none }

pub write_more : {K : Type 0} {written : K → Option (List ℕ)} {failures : K → ℕ} {s t u : K} {p q r : Pen} {whole rest piece more : List ℕ} → Writing written failures s t p q whole rest → WritesText written failures t u q r piece → rest ≡ piece ++ more → Writing written failures s u p r whole more
write_more {piece} {more} so_far next parts = record {
  done = so_far.done ++ piece;
  all = append_assoc so_far.done piece more ∙ ap (λ l. so_far.done ++ l) (sym parts) ∙ so_far.all;
  writes = writes_then so_far.writes next;
}

pub write_all : {K : Type 0} {written : K → Option (List ℕ)} {failures : K → ℕ} {s t : K} {p q : Pen} {whole rest : List ℕ} → Writing written failures s t p q whole rest → rest ≡ [] → WritesText written failures s t p q whole
write_all {written} {failures} {s} {t} {p} {q} so_far none = subst (WritesText written failures s t p q) (sym (append-nil so_far.done) ∙ ap (λ l. so_far.done ++ l) (sym none) ∙ so_far.all) so_far.writes

-- ---- numbers

-- a number of 64 bits has at most twenty digits
pub decimal_short : (n : ℕ) → n < 2 ^ 64 → length (decimal n) ≤ 20
decimal_short n h = length-decimal-le 20 n (lit< tt) (omega arith) h
