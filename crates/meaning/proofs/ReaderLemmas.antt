-- What reads of the front of a text depends on that front alone, and where it stops is where the text stops: of each step, and of steps in turn.
use Rattle.std.proofs.Common.{◌≡◌, ℕ, ◌<◌, List, [], ◌∷◌, ◌++◌, Result, Ok, Err, refl, sym, ap, subst, ◌∙◌, append_assoc, inl, inr, ◌⊎◌}
use Rattle.std.specs.List.{AllByRecursion}
use Rattle.aigertext.specs.declared.fault.Why.{Why}
use Rattle.aigertext.specs.declared.fault.Why.TheVariants as why
use Rattle.aigertext.specs.Reading.{◌>>=◌}
use Rattle.meaning.proofs.PieceLemmas.{AreWhole, Stops, no_pieces, more_pieces, stops_behind}

-- bytes
abbrev pub AreBytes : List ℕ → Type 0
AreBytes bytes = AllByRecursion (λ b. b < 256) bytes

pub both_bytes : (xs ys : List ℕ) → AreBytes xs → AreBytes ys → AreBytes (xs ++ ys)
both_bytes [] ys x y = y
both_bytes (b ∷ xs) ys x y = (x.0, both_bytes xs ys x.1 y)

-- of two answers
abbrev ok_or : {A E : Type 0} → A → Result A E → A
ok_or d (Ok x) = x
ok_or d (Err e) = d

pub ok_same : {A E : Type 0} (x y : A) → ◌≡◌ {A = Result A E} (Ok x) (Ok y) → x ≡ y
ok_same x y e = ap (ok_or x) e

abbrev is_ok : {A E : Type 0} → Result A E → Type 0
is_ok (Ok x) = Unit {0}
is_ok (Err e) = ⊥

pub not_both : {A E : Type 0} (x : A) (e : E) → ◌≡◌ {A = Result A E} (Ok x) (Err e) → ⊥
not_both x e is = subst is_ok is tt

pub err_same : {A E : Type 0} (w e : E) → ◌≡◌ {A = Result A E} (Err w) (Err e) → w ≡ e
err_same w e is = cc

-- what reads a value of the front of a text, and tells what stands behind it; where it stops, by what is left and why
abbrev pub Reads : Type 0 → Type 0 → Type 0
Reads E A = List ℕ → Result (A × List ℕ) E

-- reading stops for this why
abbrev pub IsRefused : {B E : Type 0} → (List ℕ → Why → E) → (List ℕ → Result B E) → Why → List ℕ → Type 0
IsRefused stop r w text = (behind : List ℕ) × (r text ≡ Err (stop behind w))

-- with some bytes behind it a text is read, whatever follows
pub record Completes {A E : Type 0} (r : Reads E A) (text : List ℕ) : Type 0 where
  pub more : List ℕ
  pub bytes : AreBytes more
  pub value : A
  pub gives : (rest : List ℕ) → r (text ++ (more ++ rest)) ≡ Ok (value, rest)

-- the same of what reads a text to its end
pub record Finishes {B E : Type 0} (r : List ℕ → Result B E) (text : List ℕ) : Type 0 where
  pub more : List ℕ
  pub bytes : AreBytes more
  pub value : B
  pub gives : r (text ++ more) ≡ Ok value

-- a text is read to its end as it stands
pub record Finished {B E : Type 0} (r : List ℕ → Result B E) (text : List ℕ) : Type 0 where
  pub value : B
  pub gives : r text ≡ Ok value

-- What may stand behind a text: a line, which neither of the bytes 0 and 1 begins, or a delta, which is one of them.
pub data Kind : Type 0 where
  lines : Kind
  deltas : Kind

abbrev pub NextOf : {A E : Type 0} → (List ℕ → Why → E) → Kind → Reads E A → List ℕ → Type 0
NextOf stop lines r text = (b : ℕ) → b < 2 → (more : List ℕ) → (w : Why) × IsRefused stop r w (text ++ b ∷ more)
NextOf stop deltas r text = (b : ℕ) × ((b < 2) × Completes r (text ++ b ∷ []))

-- a text may go on, by what may stand behind it
pub record GoesOn {A E : Type 0} (stop : List ℕ → Why → E) (kind : Kind) (r : Reads E A) (text : List ℕ) : Type 0 where
  pub completes : Completes r text
  pub next : NextOf stop kind r text

-- a value was read of pieces at the front of a text, and is of these whatever follows
pub record Took {A E : Type 0} (IsPiece : List ℕ → Type 0) (r : Reads E A) (text : List ℕ) : Type 0 where
  pub value : A
  pub used : List ℕ
  pub rest : List ℕ
  pub parts : text ≡ used ++ rest
  pub whole : AreWhole IsPiece used
  pub gives : (more : List ℕ) → r (used ++ more) ≡ Ok (value, more)

-- reading stopped where the text stops
pub record StopsAt {B E : Type 0} (stop : List ℕ → Why → E) (IsPiece IsPart : List ℕ → Type 0) (r : List ℕ → Result B E) (MayGoOn : List ℕ → Type 0) (text : List ℕ) : Type 0 where
  pub because : Why
  pub behind : List ℕ
  pub stopped : r text ≡ Err (stop behind because)
  pub stops : Stops IsPiece IsPart (IsRefused stop r because) MayGoOn (because ≡ why.Truncated) text behind

-- each text is read at its front, or stops
pub record IsSound {A E : Type 0} (stop : List ℕ → Why → E) (kind : Kind) (IsPiece IsPart : List ℕ → Type 0) (r : Reads E A) : Type 0 where
  pub view : (text : List ℕ) → Took IsPiece r text ⊎ StopsAt stop IsPiece IsPart r (GoesOn stop kind r) text
  pub completes : Completes r []

-- ---- nothing is read

pub nothing_read : {A E : Type 0} (stop : List ℕ → Why → E) (kind : Kind) (IsPiece IsPart : List ℕ → Type 0) (a : A) → IsSound stop kind IsPiece IsPart (λ text. Ok (a, text))
nothing_read stop kind IsPiece IsPart a =
    record {
      view = λ text. inl (record { value = a; used = []; rest = text; parts = refl; whole = no_pieces IsPiece; gives = λ more. refl });
      completes = record { more = []; bytes = tt; value = a; gives = λ rest. refl };
    }

-- ---- one step, and then others

module _ {A C E : Type 0} (stop : List ℕ → Why → E) (r : Reads E A) (k : A → List ℕ → Result C E) where
  abbrev pub in_turn : List ℕ → Result C E
  in_turn text = r text >>= (λ x. k x.0 x.1)

  -- the first step is done, or refused
  pub goes_on : (text rest : List ℕ) (a : A) (answer : Result C E) → r text ≡ Ok (a, rest) → k a rest ≡ answer → in_turn text ≡ answer
  goes_on text rest a answer first then' = ap (λ (y : Result (A × List ℕ) E). y >>= (λ x. k x.0 x.1)) first ∙ then'

  pub refused_first : (w : Why) (text : List ℕ) → IsRefused stop r w text → IsRefused stop in_turn w text
  refused_first w text s = (s.0, ap (λ (y : Result (A × List ℕ) E). y >>= (λ x. k x.0 x.1)) s.1)

  refused_then : (w : Why) (used : List ℕ) (a : A) → ((more : List ℕ) → r (used ++ more) ≡ Ok (a, more)) → (text : List ℕ) → IsRefused stop (k a) w text → IsRefused stop in_turn w (used ++ text)
  refused_then w used a gives text s = (s.0, goes_on (used ++ text) text a (Err (stop s.0 w)) (gives text) s.1)

  -- where the second step stops, and where the first does
  module _ (IsPiece IsPart : List ℕ → Type 0) (MayGoOn MayGoOn' : List ℕ → Type 0) (text : List ℕ) where
    stops_then : (t : Took IsPiece r text) → ((x : List ℕ) → MayGoOn x → MayGoOn' (t.used ++ x)) → StopsAt stop IsPiece IsPart (k t.value) MayGoOn t.rest → StopsAt stop IsPiece IsPart in_turn MayGoOn' text
    stops_then t go s =
        record {
          because = s.because;
          behind = s.behind;
          stopped = ap in_turn t.parts ∙ goes_on (t.used ++ t.rest) t.rest t.value (Err (stop s.behind s.because)) (t.gives t.rest) s.stopped;
          stops = stops_behind IsPiece IsPart (IsRefused stop (k t.value) s.because) MayGoOn (IsRefused stop in_turn s.because) MayGoOn' (s.because ≡ why.Truncated) t.used t.rest text s.behind t.parts t.whole (refused_then s.because t.used t.value t.gives) go s.stops;
        }

    stops_first : ((x : List ℕ) → MayGoOn x → MayGoOn' x) → StopsAt stop IsPiece IsPart r MayGoOn text → StopsAt stop IsPiece IsPart in_turn MayGoOn' text
    stops_first go s =
        record {
          because = s.because;
          behind = s.behind;
          stopped = ap (λ (y : Result (A × List ℕ) E). y >>= (λ x. k x.0 x.1)) s.stopped;
          stops = stops_behind IsPiece IsPart (IsRefused stop r s.because) MayGoOn (IsRefused stop in_turn s.because) MayGoOn' (s.because ≡ why.Truncated) [] text text s.behind refl (no_pieces IsPiece) (refused_first s.because) go s.stops;
        }

module _ {A B E : Type 0} (stop : List ℕ → Why → E) (kind : Kind) (IsPiece IsPart : List ℕ → Type 0) (r : Reads E A) (k : A → Reads E B) (first : IsSound stop kind IsPiece IsPart r) (second : (a : A) (text rest : List ℕ) → r text ≡ Ok (a, rest) → IsSound stop kind IsPiece IsPart (k a)) where
  completes_then : (used : List ℕ) (a : A) → ((more : List ℕ) → r (used ++ more) ≡ Ok (a, more)) → (text : List ℕ) → Completes (k a) text → Completes (in_turn stop r k) (used ++ text)
  completes_then used a gives text c =
      record {
        more = c.more;
        bytes = c.bytes;
        value = c.value;
        gives = λ rest.
            ap (in_turn stop r k) (append_assoc used text (c.more ++ rest)) ∙ goes_on stop r k (used ++ (text ++ (c.more ++ rest))) (text ++ (c.more ++ rest)) a (Ok (c.value, rest)) (gives (text ++ (c.more ++ rest))) (c.gives rest);
      }

  completes_both : (text : List ℕ) → Completes r text → Completes (in_turn stop r k) text
  completes_both text c =
      let d = (second c.value (text ++ (c.more ++ [])) [] (c.gives [])).completes in
      record {
        more = c.more ++ d.more;
        bytes = both_bytes c.more d.more c.bytes d.bytes;
        value = d.value;
        gives = λ rest.
            ap (λ (l : List ℕ). in_turn stop r k (text ++ l)) (append_assoc c.more d.more rest)
            ∙ goes_on stop r k (text ++ (c.more ++ (d.more ++ rest))) (d.more ++ rest) c.value (Ok (d.value, rest)) (c.gives (d.more ++ rest)) (d.gives rest);
      }

  -- what may stand behind goes with what follows
  next_then : (j : Kind) (used : List ℕ) (a : A) → ((more : List ℕ) → r (used ++ more) ≡ Ok (a, more)) → (text : List ℕ) → NextOf stop j (k a) text → NextOf stop j (in_turn stop r k) (used ++ text)
  next_then lines used a gives text next = λ b small more.
      let n = next b small more in
      (n.0, subst (IsRefused stop (in_turn stop r k) n.0) (sym (append_assoc used text (b ∷ more))) (refused_then stop r k n.0 used a gives (text ++ b ∷ more) n.1))
  next_then deltas used a gives text next =
      (next.0, (next.1.0, subst (Completes (in_turn stop r k)) (sym (append_assoc used text (next.0 ∷ []))) (completes_then used a gives (text ++ next.0 ∷ []) next.1.1)))

  next_both : (j : Kind) (text : List ℕ) → NextOf stop j r text → NextOf stop j (in_turn stop r k) text
  next_both lines text next = λ b small more. let n = next b small more in (n.0, refused_first stop r k n.0 (text ++ b ∷ more) n.1)
  next_both deltas text next = (next.0, (next.1.0, completes_both (text ++ next.0 ∷ []) next.1.1))

  goes_on_then : (used : List ℕ) (a : A) → ((more : List ℕ) → r (used ++ more) ≡ Ok (a, more)) → (text : List ℕ) → GoesOn stop kind (k a) text → GoesOn stop kind (in_turn stop r k) (used ++ text)
  goes_on_then used a gives text g = record { completes = completes_then used a gives text g.completes; next = next_then kind used a gives text g.next }

  goes_on_both : (text : List ℕ) → GoesOn stop kind r text → GoesOn stop kind (in_turn stop r k) text
  goes_on_both text g = record { completes = completes_both text g.completes; next = next_both kind text g.next }

  view_then : (text : List ℕ) (t : Took IsPiece r text) → Took IsPiece (k t.value) t.rest ⊎ StopsAt stop IsPiece IsPart (k t.value) (GoesOn stop kind (k t.value)) t.rest → Took IsPiece (in_turn stop r k) text ⊎ StopsAt stop IsPiece IsPart (in_turn stop r k) (GoesOn stop kind (in_turn stop r k)) text
  view_then text t (inl u) =
      inl (
      record {
        value = u.value;
        used = t.used ++ u.used;
        rest = u.rest;
        parts = t.parts ∙ ap (λ (l : List ℕ). t.used ++ l) u.parts ∙ sym (append_assoc t.used u.used u.rest);
        whole = more_pieces IsPiece t.used u.used t.whole u.whole;
        gives = λ more.
            ap (in_turn stop r k) (append_assoc t.used u.used more) ∙ goes_on stop r k (t.used ++ (u.used ++ more)) (u.used ++ more) t.value (Ok (u.value, more)) (t.gives (u.used ++ more)) (u.gives more);
      }
      )
  view_then text t (inr s) = inr (stops_then stop r k IsPiece IsPart (GoesOn stop kind (k t.value)) (GoesOn stop kind (in_turn stop r k)) text t (goes_on_then t.used t.value t.gives) s)

  view_first : (text : List ℕ) → Took IsPiece r text ⊎ StopsAt stop IsPiece IsPart r (GoesOn stop kind r) text → Took IsPiece (in_turn stop r k) text ⊎ StopsAt stop IsPiece IsPart (in_turn stop r k) (GoesOn stop kind (in_turn stop r k)) text
  view_first text (inl t) = view_then text t ((second t.value (t.used ++ t.rest) t.rest (t.gives t.rest)).view t.rest)
  view_first text (inr s) = inr (stops_first stop r k IsPiece IsPart (GoesOn stop kind r) (GoesOn stop kind (in_turn stop r k)) text goes_on_both s)

  pub then_sound : IsSound stop kind IsPiece IsPart (λ text. r text >>= (λ x. k x.0 x.1))
  then_sound = record { view = λ text. view_first text (first.view text); completes = completes_both [] first.completes }
