-- What was read is the front of a text, behind which anything may stand.
use Rattle.std.proofs.Common.{◌≡◌, ℕ, zero, suc, ◌+◌, ◌*◌, List, [], ◌∷◌, ◌++◌, Result, Ok, Err, inl, inr, refl, sym, ap, subst, ◌∙◌, append_assoc}
use Rattle.std.specs.List.{sum}
use Rattle.aigertext.specs.declared.reading.counts.Counts.{Counts}
use Rattle.aigertext.specs.declared.fault.Stop.{Stop}
use Rattle.aigertext.specs.declared.fault.Why.{Why}
use Rattle.aigertext.specs.Reading.{line_at, lines_at, literal_on, literals_at, size_of, sizes_at, sized_lists, justice_at, Properties, properties_at}
use Rattle.aigertext.specs.Passes.{WasToBeRead}
use Rattle.aigertext.proofs.BackLemmas.{ok_same, bind-then, lines-back, line-back}
use Rattle.aigertext.proofs.FieldLemmas.{line_read}

pub record IsAtFront {A : Type 0} (reads : List ℕ → Result (A × List ℕ) Stop) (text : List ℕ) (x : A) (rest : List ℕ) : Type 0 where
  pub front : List ℕ
  pub parts : text ≡ front ++ rest
  pub again : (other : List ℕ) → reads (front ++ other) ≡ Ok (x, other)

one_and_others : (line front other : List ℕ) → ((line ++ 10 ∷ []) ++ front) ++ other ≡ line ++ 10 ∷ (front ++ other)
one_and_others line front other = simp append_assoc

pub line-front : {A : Type 0} (says : List ℕ → Result A Why) (text : List ℕ) (x : A) (rest : List ℕ) → line_at says text ≡ Ok (x, rest) → IsAtFront (line_at says) text x rest
line-front says text x rest e =
    let s = line-back says text x rest e in
    record {
      front = s.line ++ 10 ∷ [];
      parts = s.parts ∙ sym (append_assoc s.line (10 ∷ []) rest);
      again = λ other. ap (line_at says) (append_assoc s.line (10 ∷ []) other) ∙ line_read says s.line other x s.whole s.said;
    }

pub lines-front : {A S : Type 0} (says : S → List ℕ → Result A Why) (next : S → A → S) (s : S) (n : ℕ) (text : List ℕ) (xs : List A) (rest : List ℕ)
    → lines_at says next s n text ≡ Ok (xs, rest) → IsAtFront (lines_at says next s n) text xs rest
lines-front {A} says next s zero text xs rest e =
    let is : ([], text) ≡ (xs, rest) = ok_same ([], text) (xs, rest) e in
    record { front = []; parts = ap (λ (p : List A × List ℕ). p.1) is; again = λ other. ap (λ (p : List A × List ℕ). Ok (p.0, other)) is }
lines-front {A} says next s (suc n) text xs rest e =
    let b = lines-back says next s n text xs rest e in
    let o = lines-front says next (next s b.first) n b.after b.others rest b.more in
    record {
      front = (b.one.line ++ 10 ∷ []) ++ o.front;
      parts = b.one.parts ∙ ap (λ (t : List ℕ). b.one.line ++ 10 ∷ t) o.parts ∙ sym (one_and_others b.one.line o.front rest);
      again = λ other.
          let one = line_read (says s) b.one.line (o.front ++ other) b.first b.one.whole b.one.said in
          let others = o.again other in
          ap (lines_at says next s (suc n)) (one_and_others b.one.line o.front other) ∙ (rw (one, others) (ap (λ (l : List A). Ok (l, other)) (sym b.all)));
    }

pub justice-front : (greatest n : ℕ) (text : List ℕ) (lists : List (List ℕ)) (rest : List ℕ) → justice_at greatest n text ≡ Ok (lists, rest) → IsAtFront (λ t. justice_at greatest n t) text lists rest
justice-front greatest n text lists rest e0 =
    bind-then (sizes_at 0 n text) _ (lists, rest) e0
    (λ s s' e1. bind-then (literals_at greatest (sum s.0) s.1) _ (lists, rest) e1
    (λ j j' e2.
    let sizes = lines-front size_of (λ b size. b + size) 0 n text s.0 s.1 s' in
    let listed = lines-front literal_on (λ g l. g) greatest (sum s.0) s.1 j.0 j.1 j' in
    subst (λ (q : List (List ℕ) × List ℕ). IsAtFront (λ t. justice_at greatest n t) text q.0 q.1) (ok_same _ (lists, rest) e2)
    (record {
      front = sizes.front ++ listed.front;
      parts = sizes.parts ∙ ap (λ (t : List ℕ). sizes.front ++ t) listed.parts ∙ sym (append_assoc sizes.front listed.front j.1);
      again = λ other.
          let one = sizes.again (listed.front ++ other) in
          let two = listed.again other in
          ap (justice_at greatest n) (append_assoc sizes.front listed.front other) ∙ (rw (one, two) refl);
    })))

five_fronts : (a b c d e other : List ℕ) → (a ++ (b ++ (c ++ (d ++ e)))) ++ other ≡ a ++ (b ++ (c ++ (d ++ (e ++ other))))
five_fronts a b c d e other = simp append_assoc

joined_fronts : (text a t1 b t2 c t3 d t4 e rest : List ℕ) → text ≡ a ++ t1 → t1 ≡ b ++ t2 → t2 ≡ c ++ t3 → t3 ≡ d ++ t4 → t4 ≡ e ++ rest → text ≡ (a ++ (b ++ (c ++ (d ++ e)))) ++ rest
joined_fronts text a t1 b t2 c t3 d t4 e rest p q r s t =
    p ∙ ap (λ (l : List ℕ). a ++ l) (q ∙ ap (λ (l : List ℕ). b ++ l) (r ∙ ap (λ (l : List ℕ). c ++ l) (s ∙ ap (λ (l : List ℕ). d ++ l) t)))
    ∙ sym (five_fronts a b c d e rest)

module _ (h : Counts) (text t1 t2 t3 t4 rest : List ℕ) (os bs cs : List ℕ) (js : List (List ℕ)) (fs : List ℕ)
    (o : IsAtFront (λ t. literals_at (2 * h.variables + 1) h.outputs t) text os t1) (b : IsAtFront (λ t. literals_at (2 * h.variables + 1) h.bads t) t1 bs t2) (c : IsAtFront (λ t. literals_at (2 * h.variables + 1) h.constraints t) t2 cs t3)
    (j : IsAtFront (λ t. justice_at (2 * h.variables + 1) h.justice t) t3 js t4) (f : IsAtFront (λ t. literals_at (2 * h.variables + 1) h.fair t) t4 fs rest) where
  all-front : IsAtFront (properties_at h) text (record { outputs = os; bads = bs; constraints = cs; justice = js; fair = fs }) rest
  unfolding properties_at
  all-front = record {
    front = o.front ++ (b.front ++ (c.front ++ (j.front ++ f.front)));
    parts = joined_fronts text o.front t1 b.front t2 c.front t3 j.front t4 f.front rest o.parts b.parts c.parts j.parts f.parts;
    again = λ other.
        let one = o.again (b.front ++ (c.front ++ (j.front ++ (f.front ++ other)))) in
        let two = b.again (c.front ++ (j.front ++ (f.front ++ other))) in
        let three = c.again (j.front ++ (f.front ++ other)) in
        let four = j.again (f.front ++ other) in
        let five = f.again other in
        ap (properties_at h) (five_fronts o.front b.front c.front j.front f.front other) ∙ (rw (one, two, three, four, five) refl);
  }

pub properties-front : (h : Counts) (text : List ℕ) (p : Properties) (rest : List ℕ) → properties_at h text ≡ Ok (p, rest) → IsAtFront (properties_at h) text p rest
unfolding properties_at
properties-front h text p rest e0 =
    bind-then (literals_at (2 * h.variables + 1) h.outputs text) _ (p, rest) e0
    (λ o o' e1. bind-then (literals_at (2 * h.variables + 1) h.bads o.1) _ (p, rest) e1
    (λ b b' e2. bind-then (literals_at (2 * h.variables + 1) h.constraints b.1) _ (p, rest) e2
    (λ c c' e3. bind-then (justice_at (2 * h.variables + 1) h.justice c.1) _ (p, rest) e3
    (λ j j' e4. bind-then (literals_at (2 * h.variables + 1) h.fair j.1) _ (p, rest) e4
    (λ f f' e5. subst (λ (q : Properties × List ℕ). IsAtFront (properties_at h) text q.0 q.1) (ok_same _ (p, rest) e5)
    (all-front h text o.1 b.1 c.1 j.1 f.1 o.0 b.0 c.0 j.0 f.0
    (lines-front literal_on (λ g l. g) (2 * h.variables + 1) h.outputs text o.0 o.1 o') (lines-front literal_on (λ g l. g) (2 * h.variables + 1) h.bads o.1 b.0 b.1 b') (lines-front literal_on (λ g l. g) (2 * h.variables + 1) h.constraints b.1 c.0 c.1 c')
    (justice-front (2 * h.variables + 1) h.justice c.1 j.0 j.1 j') (lines-front literal_on (λ g l. g) (2 * h.variables + 1) h.fair j.1 f.0 f.1 f')))))))

-- lists that were read by their sizes and their literals
pub justice_read : (greatest n : ℕ) (text t1 ns ls rest : List ℕ) (lists : List (List ℕ)) → sizes_at 0 n text ≡ Ok (ns, t1) → literals_at greatest (sum ns) t1 ≡ Ok (ls, rest) → lists ≡ sized_lists ns ls → justice_at greatest n text ≡ Ok (lists, rest)
justice_read greatest n text t1 ns ls rest lists s j is = rw (s, j, is) refl

-- properties that were read up to the last section are all read with that
pub properties_read : {X : Type 0} (h : Counts) (text t1 t2 t3 t4 os bs cs : List ℕ) (js : List (List ℕ)) (fs : List ℕ) (rest : X → List ℕ) (answer : Result X Stop)
    → literals_at (2 * h.variables + 1) h.outputs text ≡ Ok (os, t1) → literals_at (2 * h.variables + 1) h.bads t1 ≡ Ok (bs, t2) → literals_at (2 * h.variables + 1) h.constraints t2 ≡ Ok (cs, t3)
    → justice_at (2 * h.variables + 1) h.justice t3 ≡ Ok (js, t4) → WasToBeRead {X = X} {A = List ℕ × List ℕ} (λ x. (fs, rest x)) answer (literals_at (2 * h.variables + 1) h.fair t4)
    → WasToBeRead {X = X} {A = Properties × List ℕ} (λ x. (record { outputs = os; bads = bs; constraints = cs; justice = js; fair = fs }, rest x)) answer (properties_at h text)
unfolding properties_at
properties_read h text t1 t2 t3 t4 os bs cs js fs rest (Ok x) o b c j f = rw (o, b, c, j, f) refl
properties_read h text t1 t2 t3 t4 os bs cs js fs rest (Err e) o b c j (inl full) = inl full
properties_read h text t1 t2 t3 t4 os bs cs js fs rest (Err e) o b c j (inr f) = inr (rw (o, b, c, j, f) refl)
