-- Where each variable that a file uses is defined.
use Rattle.std.proofs.Common.{◌≡◌, ℕ, ◌+◌, ◌≤◌, Bool, true, false, not, ◌||◌, List, [], ◌∷◌, ◌++◌, map, length, All, None, Some, nat_lt, cond, refl, ap, sym, ◌∙◌, arith}
use Rattle.std.proofs.lemmas.Bool.{or_parts}
use Rattle.std.proofs.lemmas.Bool.Decides.{nat_tests}
use Rattle.std.proofs.lemmas.List.{map-append}
use Rattle.std.proofs.lemmas.List.Elements.{All-cons, All-nil, All-head, All-tail, All-map}
use Rattle.std.proofs.lemmas.List.Folds.{list_any-append}
use Rattle.std.specs.List.{list_any, position, position_or_len, concat}
use Rattle.aiger.specs.declared.circuit.Latch.{Latch}
use Rattle.aigerlists.specs.declared.loose.GateLine.{GateLine}
use Rattle.aigerlists.specs.declared.loose.LatchLine.{LatchLine}
use Rattle.aiger.specs.Circuit.{AllLiterals}
use Rattle.aigerlists.specs.Loose.{Loose, sections_of, latch_of}
use Rattle.aigerlists.specs.Numbering.{is_unknown}
use Rattle.aigerlists.specs.Renumbering.{alone, is_known, used_lines, first_undefined}

-- a list whose first place with a property is none has none
place_of_none : (p : List ℕ → Bool) (xs : List (List ℕ)) → length xs ≤ position_or_len p xs → list_any p xs ≡ false
place_of_none p [] h = refl
place_of_none p (x ∷ xs) h = by (p x) refl (λ k. place_of_none p xs k)
  where
    by : (b : Bool) → p x ≡ b → (length xs ≤ position_or_len p xs → list_any p xs ≡ false) → list_any p (x ∷ xs) ≡ false
    by true e rest =
        let z : position_or_len p (x ∷ xs) ≡ 0 = ap (λ (b : Bool). cond (not b) (1 + position_or_len p xs) 0) e in
        absurd (omega (arith, z, h))
    by false e rest =
        let z : position_or_len p (x ∷ xs) ≡ 1 + position_or_len p xs = ap (λ (b : Bool). cond (not b) (1 + position_or_len p xs) 0) e in
        ap (λ (b : Bool). b || list_any p xs) e ∙ rest (omega (arith, z, h))

pub none_from_position : (p : List ℕ → Bool) (xs : List (List ℕ)) → position p xs ≡ None → list_any p xs ≡ false
none_from_position p xs e = by (nat_lt (position_or_len p xs) (length xs)) refl e
  where
    by : (b : Bool) → nat_lt (position_or_len p xs) (length xs) ≡ b → cond b (Some (position_or_len p xs)) None ≡ None → list_any p xs ≡ false
    by true t e = absurd (cc)
    by false t e = place_of_none p xs (grind (arith, nat_tests))

-- what holds of what elements become
pub All-unmap : {X Y : Type 0} (P : X → Type 0) (f : Y → X) (ys : List Y) → All P (map f ys) → All (λ y. P (f y)) ys
All-unmap P f [] h = All-nil (λ y. P (f y))
All-unmap P f (y ∷ ys) h = All-cons (λ y. P (f y)) y ys (All-head P (f y) (map f ys) h) (All-unmap P f ys (All-tail P (f y) (map f ys) h))

-- a literal is known
abbrev pub IsKnown : Loose → ℕ → Type 0
IsKnown l lit = is_known l lit ≡ true

-- what holds of elements whose literals are known holds of all where none is unknown
all_known_by : {X : Type 0} (l : Loose) (f : X → List ℕ) (P : X → Type 0) → ((x : X) → is_unknown l (f x) ≡ false → P x) → (xs : List X) → list_any (is_unknown l) (map f xs) ≡ false → All P xs
all_known_by l f P here [] t = All-nil P
all_known_by l f P here (x ∷ xs) t =
    let parts = or_parts (is_unknown l (f x)) (list_any (is_unknown l) (map f xs)) t in
    All-cons P x xs (here x parts.0) (all_known_by l f P here xs parts.1)

known_alone : (l : Loose) (xs : List ℕ) → list_any (is_unknown l) (map alone xs) ≡ false → All (IsKnown l) xs
known_alone l xs t = all_known_by l alone (IsKnown l) (λ x h. grind (arith, nat_tests, h)) xs t

known_lists : (l : Loose) (xss : List (List ℕ)) → list_any (is_unknown l) (map alone (concat xss)) ≡ false → All (All (IsKnown l)) xss
known_lists l [] t = All-nil (All (IsKnown l))
known_lists l (xs ∷ xss) t =
    let e : map alone (concat (xs ∷ xss)) ≡ map alone xs ++ map alone (concat xss) = map-append alone xs (concat xss) in
    let f : (list_any (is_unknown l) (map alone xs) || list_any (is_unknown l) (map alone (concat xss))) ≡ false = sym (list_any-append (is_unknown l) (map alone xs) (map alone (concat xss))) ∙ (ap (list_any (is_unknown l)) (sym e) ∙ t) in
    let h : list_any (is_unknown l) (map alone xs) ≡ false = grind (arith, nat_tests) in
    let r : list_any (is_unknown l) (map alone (concat xss)) ≡ false = grind (arith, nat_tests) in
    All-cons (All (IsKnown l)) xs xss (known_alone l xs h) (known_lists l xss r)

-- each literal of the file is known
pub record AllKnown (l : Loose) : Type 0 where
  pub sections : AllLiterals (IsKnown l) (sections_of l)
  pub operands : All (λ line. IsKnown l line.rhs0 × IsKnown l line.rhs1) l.gates

-- neither of two lists joined
none_left : (p : List ℕ → Bool) (xs ys : List (List ℕ)) → list_any p (xs ++ ys) ≡ false → (list_any p xs ≡ false) × (list_any p ys ≡ false)
none_left p xs ys t =
    let e = list_any-append p xs ys in
    (grind (arith, nat_tests, e, t), grind (arith, nat_tests, e, t))

pub all_known : (l : Loose) → first_undefined l ≡ None → AllKnown l
all_known l e =
    let p : List ℕ → Bool = is_unknown l in
    let a : List (List ℕ) = map (λ (line : LatchLine). line.next ∷ []) l.latches in
    let b : List (List ℕ) = map alone l.outputs in
    let c : List (List ℕ) = map alone l.bads in
    let d : List (List ℕ) = map alone l.constraints in
    let f : List (List ℕ) = map alone (concat l.justice) in
    let g : List (List ℕ) = map alone l.fair in
    let h : List (List ℕ) = map (λ (line : GateLine). line.rhs0 ∷ line.rhs1 ∷ []) l.gates in
    let n7 = none_left p (a ++ b ++ c ++ d ++ f ++ g) h (none_from_position p (used_lines l) e) in
    let n6 = none_left p (a ++ b ++ c ++ d ++ f) g n7.0 in
    let n5 = none_left p (a ++ b ++ c ++ d) f n6.0 in
    let n4 = none_left p (a ++ b ++ c) d n5.0 in
    let n3 = none_left p (a ++ b) c n4.0 in
    let n2 = none_left p a b n3.0 in
    record {
      sections = record { nexts = All-map (λ (x : Latch). IsKnown l x.next) latch_of l.latches (all_known_by l (λ (line : LatchLine). line.next ∷ []) (λ line. IsKnown l line.next) (λ line h. grind (arith, nat_tests, h)) l.latches n2.0); outputs = known_alone l l.outputs n2.1; bads = known_alone l l.bads n3.1; constraints = known_alone l l.constraints n4.1; justice = known_lists l l.justice n5.1; fair = known_alone l l.fair n6.1 };
      operands = all_known_by l (λ (line : GateLine). line.rhs0 ∷ line.rhs1 ∷ []) (λ line. IsKnown l line.rhs0 × IsKnown l line.rhs1) (λ line h. (grind (arith, nat_tests, h), grind (arith, nat_tests, h))) l.gates n7.1;
    }
