-- What is put for bytes that are taken piece by piece.
use Rattle.std.proofs.Common.{◌≡◌, ℕ, List, [], ◌++◌, Option, refl, sym, ap, subst, ◌∙◌, append_assoc}
use Rattle.base.specs.Writing.{WritesText}
use Rattle.base.proofs.PenLemmas.{writes_none, writes_then}
use Rattle.tidy.specs.declared.tidying.Tidying.{Tidying}
use Rattle.tidy.specs.Steps.{behind_bytes, bytes_written, Takes}
use Rattle.tidy.proofs.ByteLemmas.{behind_bytes-append, bytes_written-append}

pub takes_none : {K : Type 0} {written : K → Option (List ℕ)} {failures : K → ℕ} {s : K} {a : Tidying} → Takes written failures s s a a []
takes_none = record { behind = refl; writes = writes_none }

pub takes_then : {K : Type 0} {written : K → Option (List ℕ)} {failures : K → ℕ} {s t u : K} {a b c : Tidying} {xs ys : List ℕ} → Takes written failures s t a b xs → Takes written failures t u b c ys → Takes written failures s u a c (xs ++ ys)
takes_then {written} {failures} {s} {u = u} {a} {c = c} {xs} {ys} first next = record {
  behind = next.behind ∙ ap (λ v. behind_bytes v ys) first.behind ∙ sym (behind_bytes-append a.tidier xs ys);
  writes =
      subst (WritesText written failures s u a.pen c.pen) (ap (λ v. bytes_written a.tidier xs ++ bytes_written v ys) first.behind ∙ sym (bytes_written-append a.tidier xs ys))
      (writes_then first.writes next.writes);
}

-- of some bytes these were taken, and the others are still to come
pub record Taken {K : Type 0} (written : K → Option (List ℕ)) (failures : K → ℕ) (s t : K) (a b : Tidying) (whole rest : List ℕ) : Type 0 where
  pub front : List ℕ
  pub all : front ++ rest ≡ whole
  pub takes : Takes written failures s t a b front

pub taken_more : {K : Type 0} {written : K → Option (List ℕ)} {failures : K → ℕ} {s t u : K} {a b c : Tidying} {whole rest piece more : List ℕ} → Taken written failures s t a b whole rest → Takes written failures t u b c piece → rest ≡ piece ++ more → Taken written failures s u a c whole more
taken_more {piece} {more} so_far next parts = record {
  front = so_far.front ++ piece;
  all = append_assoc so_far.front piece more ∙ ap (λ l. so_far.front ++ l) (sym parts) ∙ so_far.all;
  takes = takes_then so_far.takes next;
}

pub taken_all : {K : Type 0} {written : K → Option (List ℕ)} {failures : K → ℕ} {s t u : K} {a b c : Tidying} {whole rest : List ℕ} → Taken written failures s t a b whole rest → Takes written failures t u b c rest → Takes written failures s u a c whole
taken_all {written} {failures} {s} {u = u} {a} {c = c} so_far last = subst (Takes written failures s u a c) so_far.all (takes_then so_far.takes last)
