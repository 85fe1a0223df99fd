-- Lemmas on texts that go to a sink piece by piece.
use Rattle.std.proofs.Common.{◌≡◌, ℕ, List, ◌++◌, Option, Result, Ok, Err, OnOk, OnErr, IsErr, take, drop, sym, ap, subst, ◌∙◌, append_assoc, take-append-drop}
use Rattle.std.specs.Io.KnownBytes.{Appends}
use Rattle.std.proofs.KnownBytes.{Appends-trans}
use Rattle.base.specs.Device.{AppendsBeginning, CountsFaults, HasRisen, Sent}

-- one more write
pub sent_more : (old mid new : Option (List ℕ)) (text rest : List ℕ) (n : ℕ) → Sent old mid text rest → Appends mid new (take n rest) → Sent old new text (drop n rest)
sent_more old mid new text rest n s more = record {
  front = s.front ++ take n rest;
  whole = append_assoc s.front (take n rest) (drop n rest) ∙ ap (λ l. s.front ++ l) (take-append-drop n rest) ∙ s.whole;
  appends = Appends-trans old mid new s.front (take n rest) s.appends more;
}

-- a beginning of a text is a beginning of a longer text
pub beginning_longer : (old new : Option (List ℕ)) (text more : List ℕ) → AppendsBeginning old new text → AppendsBeginning old new (text ++ more)
beginning_longer old new text more s =
    (s.0, (s.1.0 ++ more, sym (append_assoc s.0 s.1.0 more) ∙ ap (λ l. l ++ more) s.1.1), s.2)

-- where a text has gone out but for a rest, the rest and a further text have gone out but for another
pub sent_on : (old mid new : Option (List ℕ)) (text rest more last : List ℕ) → Sent old mid text rest → Sent mid new (rest ++ more) last → Sent old new (text ++ more) last
sent_on old mid new text rest more last s t = record {
  front = s.front ++ t.front;
  whole =
      append_assoc s.front t.front last ∙ ap (λ l. s.front ++ l) t.whole ∙ sym (append_assoc s.front rest more)
      ∙ ap (λ l. l ++ more) s.whole;
  appends = Appends-trans old mid new s.front t.front s.appends t.appends;
}

-- where all of a text has gone out, it and a further text have gone out but for what is left of that one
pub sent_after : (old mid new : Option (List ℕ)) (text more last : List ℕ) → Appends old mid text → Sent mid new more last → Sent old new (text ++ more) last
sent_after old mid new text more last p t = record {
  front = text ++ t.front;
  whole = append_assoc text t.front last ∙ ap (λ l. text ++ l) t.whole;
  appends = Appends-trans old mid new text t.front p t.appends;
}

-- where a text has gone out but for a rest, a beginning of the rest and a further text is one of both texts
pub sent_then_beginning : (old mid new : Option (List ℕ)) (text rest more : List ℕ) → Sent old mid text rest → AppendsBeginning mid new (rest ++ more) → AppendsBeginning old new (text ++ more)
sent_then_beginning old mid new text rest more s t =
    let both = sent_on old mid new text rest more t.1.0 s (record { front = t.0; whole = t.1.1; appends = t.2 }) in
    (both.front, (t.1.0, both.whole), both.appends)

-- what holds where something is answered
pub on_ok : {T E : Type 0} {r : Result T E} {x : T} {P : Type 0} → r ≡ Ok x → OnOk r P → P
on_ok {P = P} is h = subst (λ q. OnOk q P) is h

pub on_err : {T E : Type 0} (r : Result T E) {P : Type 0} → IsErr r → OnErr r P → P
on_err (Ok x) is h = absurd cc
on_err (Err e) is h = h

pub not_ok : {T E : Type 0} {r : Result T E} {x : T} → IsErr r → r ≡ Ok x → ⊥
not_ok err is = let h = subst IsErr is err in absurd cc

pub ok_counts : {T E : Type 0} {r : Result T E} {x : T} (a b : ℕ) → r ≡ Ok x → CountsFaults r a b → b ≡ a
ok_counts a b is h = subst (λ q. CountsFaults q a b) is h

pub err_counts : {T E : Type 0} (r : Result T E) (a b : ℕ) → IsErr r → CountsFaults r a b → HasRisen a b
err_counts (Ok x) a b is h = absurd cc
err_counts (Err e) a b is h = h
