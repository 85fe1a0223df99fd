-- The first line of a list of lines that is joined from parts.
use Rattle.std.proofs.Common.{◌≡◌, ℕ, suc, ◌+◌, ◌-◌, ◌≤◌, ◌==◌, ◌||◌, if◌then◌else◌, nat_eq, Bool, true, false, not, ◌&&◌, List, [], ◌∷◌, ◌++◌, map, length, All, Option, Some, None, nat_le, nat_lt, cond, refl, ap, sym, ◌∙◌, arith, length-append, append-nil}
use Rattle.std.proofs.lemmas.Bool.Decides.{nat_tests}
use Rattle.std.proofs.lemmas.List.Sums.{sum_by-cons}
use Rattle.aiger.specs.Limits.{greatest_count}
use Rattle.std.specs.Option.{option_map}
use Rattle.std.specs.List.{list_all, list_any, position, position_or_len, concat, sum_by}
use Rattle.std.proofs.lemmas.Bool.{or_parts, or_from, and_parts, leb-true}
use Rattle.std.proofs.lemmas.List.Elements.{All-head, All-tail, All-from_get_or}
use Rattle.aigerlists.specs.declared.loose.GateLine.{GateLine}
use Rattle.aigerlists.specs.declared.loose.LatchLine.{LatchLine}
use Rattle.base.specs.Literal.{variable}
use Rattle.aigerlists.specs.Loose.{Loose, IsLoose, defined_variables, is_defined}
use Rattle.aigerlists.specs.Renumbering.{alone, is_known, first_undefined, lines_with}
use Rattle.aigerlists.specs.Numbering.{WaitForEarlier, is_unknown, line_in, slot_of, slots_of}
use Rattle.aigerlists.proofs.NumbersLemmas.{not_found}
use Rattle.aigerlists.proofs.PlacesLemmas.{length_defined}

-- the first place where the first one passes, and where it does not
place_yes : {X : Type 0} (p : X → Bool) (x : X) (xs : List X) → p x ≡ true → position p (x ∷ xs) ≡ Some 0
place_yes p x xs e =
    let z : position_or_len p (x ∷ xs) ≡ 0 = ap (λ (b : Bool). cond (not b) (1 + position_or_len p xs) 0) e in
    let u : nat_lt 0 (suc (length xs)) ≡ true = grind (arith, nat_tests) in
    ap (λ (k : ℕ). cond (nat_lt k (suc (length xs))) (Some k) None) z ∙ ap (λ (b : Bool). cond b (Some 0) None) u

place_no : {X : Type 0} (p : X → Bool) (x : X) (xs : List X) → p x ≡ false → position p (x ∷ xs) ≡ option_map suc (position p xs)
place_no p x xs e = step (nat_lt (position_or_len p xs) (length xs)) refl
  where
    here : position p (x ∷ xs) ≡ cond (nat_lt (suc (position_or_len p xs)) (suc (length xs))) (Some (suc (position_or_len p xs))) None
    here =
        let z : position_or_len p (x ∷ xs) ≡ suc (position_or_len p xs) = ap (λ (b : Bool). cond (not b) (1 + position_or_len p xs) 0) e ∙ omega arith in
        ap (λ (k : ℕ). cond (nat_lt k (suc (length xs))) (Some k) None) z

    step : (b : Bool) → nat_lt (position_or_len p xs) (length xs) ≡ b → position p (x ∷ xs) ≡ option_map suc (position p xs)
    step true t =
        let u : nat_lt (suc (position_or_len p xs)) (suc (length xs)) ≡ true = grind (arith, nat_tests) in
        here ∙ (ap (λ (b : Bool). cond b (Some (suc (position_or_len p xs))) None) u ∙ sym (ap (λ (b : Bool). option_map suc (cond b (Some (position_or_len p xs)) None)) t))
    step false t =
        let u : nat_lt (suc (position_or_len p xs)) (suc (length xs)) ≡ false = grind (arith, nat_tests) in
        here ∙ (ap (λ (b : Bool). cond b (Some (suc (position_or_len p xs))) None) u ∙ sym (ap (λ (b : Bool). option_map suc (cond b (Some (position_or_len p xs)) None)) t))

-- where none passes there is no place
pub none_passes : {X : Type 0} (p : X → Bool) (xs : List X) → list_any p xs ≡ false → position p xs ≡ None
none_passes p [] t = refl
none_passes p (x ∷ xs) t =
    let parts = or_parts (p x) (list_any p xs) t in
    place_no p x xs parts.0 ∙ ap (option_map suc) (none_passes p xs parts.1)

-- a place that is found in the front is the place in the whole
pub place_in_front : {X : Type 0} (p : X → Bool) (xs ys : List X) (k : ℕ) → position p xs ≡ Some k → position p (xs ++ ys) ≡ Some k
place_in_front p [] ys k e = absurd (cc)
place_in_front p (x ∷ xs) ys k e = by (p x) refl (λ m f. place_in_front p xs ys m f)
  where
    by : (b : Bool) → p x ≡ b → ((m : ℕ) → position p xs ≡ Some m → position p (xs ++ ys) ≡ Some m) → position p ((x ∷ xs) ++ ys) ≡ Some k
    by true t rest = place_yes p x (xs ++ ys) t ∙ (sym (place_yes p x xs t) ∙ e)
    by false t rest = further (position p xs) refl
      where
        further : (o : Option ℕ) → position p xs ≡ o → position p ((x ∷ xs) ++ ys) ≡ Some k
        further None f = let z : ◌≡◌ {A = Option ℕ} None (Some k) = sym (ap (option_map suc) f) ∙ (sym (place_no p x xs t) ∙ e) in absurd (cc)
        further (Some m) f = place_no p x (xs ++ ys) t ∙ (ap (option_map suc) (rest m f) ∙ (sym (ap (option_map suc) f) ∙ (sym (place_no p x xs t) ∙ e)))

-- where none is in the front, it is behind it
pub place_behind : {X : Type 0} (p : X → Bool) (xs ys : List X) → position p xs ≡ None → position p (xs ++ ys) ≡ option_map (λ k. length xs + k) (position p ys)
place_behind p [] ys e = same (position p ys)
  where
    same : (o : Option ℕ) → o ≡ option_map (λ k. 0 + k) o
    same None = refl
    same (Some k) = let e : k ≡ 0 + k = omega arith in ap Some e
place_behind p (x ∷ xs) ys e = by (p x) refl (λ f. place_behind p xs ys f)
  where
    more : (o : Option ℕ) → option_map suc (option_map (λ k. length xs + k) o) ≡ option_map (λ k. suc (length xs) + k) o
    more None = refl
    more (Some k) = let e : suc (length xs + k) ≡ suc (length xs) + k = omega arith in ap Some e

    by : (b : Bool) → p x ≡ b → (position p xs ≡ None → position p (xs ++ ys) ≡ option_map (λ k. length xs + k) (position p ys)) → position p ((x ∷ xs) ++ ys) ≡ option_map (λ k. suc (length xs) + k) (position p ys)
    by true t rest = let z : ◌≡◌ {A = Option ℕ} (Some 0) None = sym (place_yes p x xs t) ∙ e in absurd (cc)
    by false t rest = further (position p xs) refl
      where
        further : (o : Option ℕ) → position p xs ≡ o → position p ((x ∷ xs) ++ ys) ≡ option_map (λ k. suc (length xs) + k) (position p ys)
        further (Some m) f = let z : ◌≡◌ {A = Option ℕ} (Some (suc m)) None = sym (ap (option_map suc) f) ∙ (sym (place_no p x xs t) ∙ e) in absurd (cc)
        further None f = place_no p x (xs ++ ys) t ∙ (ap (option_map suc) (rest f) ∙ more (position p ys))

-- the same places by what elements become
place_of_map : {X Y : Type 0} (p : X → Bool) (q : Y → Bool) (f : X → Y) → ((x : X) → p x ≡ q (f x)) → (xs : List X) → position p xs ≡ position q (map f xs)
place_of_map p q f same [] = refl
place_of_map p q f same (x ∷ xs) = by (p x) refl (place_of_map p q f same xs)
  where
    by : (b : Bool) → p x ≡ b → position p xs ≡ position q (map f xs) → position p (x ∷ xs) ≡ position q (f x ∷ map f xs)
    by true t rest = place_yes p x xs t ∙ sym (place_yes q (f x) (map f xs) (sym (same x) ∙ t))
    by false t rest = place_no p x xs t ∙ (ap (option_map suc) rest ∙ sym (place_no q (f x) (map f xs) (sym (same x) ∙ t)))

one_known : (b : Bool) → not b ≡ not (b && true)
one_known true = refl
one_known false = refl

both_known : (a b : Bool) → not (a && b) ≡ not (a && (b && true))
both_known true true = refl
both_known true false = refl
both_known false b = refl

pub unknown_literals : (l : Loose) (lits : List ℕ) → position (λ lit. not (is_known l lit)) lits ≡ position (is_unknown l) (map alone lits)
unknown_literals l lits = place_of_map (λ (lit : ℕ). not (is_known l lit)) (is_unknown l) alone (λ lit. one_known (is_known l lit)) lits

pub unknown_nexts : (l : Loose) (lines : List LatchLine) → position (λ line. not (is_known l line.next)) lines ≡ position (is_unknown l) (map (λ line. line.next ∷ []) lines)
unknown_nexts l lines = place_of_map (λ (line : LatchLine). not (is_known l line.next)) (is_unknown l) (λ (line : LatchLine). line.next ∷ []) (λ line. one_known (is_known l line.next)) lines

pub unknown_gates : (l : Loose) (lines : List GateLine) → position (λ line. not (is_known l line.rhs0 && is_known l line.rhs1)) lines ≡ position (is_unknown l) (map (λ line. line.rhs0 ∷ line.rhs1 ∷ []) lines)
unknown_gates l lines = place_of_map (λ (line : GateLine). not (is_known l line.rhs0 && is_known l line.rhs1)) (is_unknown l) (λ (line : GateLine). line.rhs0 ∷ line.rhs1 ∷ []) (λ line. both_known (is_known l line.rhs0) (is_known l line.rhs1)) lines

-- how many literals are in all lists
length_concat : (lists : List (List ℕ)) → length (concat lists) ≡ sum_by length lists
length_concat [] = refl
length_concat (x ∷ xs) = omega (arith, length-append x (concat xs), length_concat xs, sum_by-cons length x xs)

-- there are few justice literals
pub few_justice : (l : Loose) → IsLoose l → length (concat l.justice) ≤ greatest_count
few_justice l valid = omega (arith, length_concat l.justice, valid.few.sections.justice_literals)

-- the lines that use literals, from the lists
pub are_used_lines : (l : Loose) (nexts : List LatchLine) (outputs bads constraints justice fair : List ℕ) (gates now : List GateLine)
    → nexts ≡ l.latches → outputs ≡ l.outputs → bads ≡ l.bads → constraints ≡ l.constraints → justice ≡ concat l.justice → fair ≡ l.fair → gates ≡ now
    → map (λ line. line.next ∷ []) nexts ++ map alone outputs ++ map alone bads ++ map alone constraints ++ map alone justice ++ map alone fair ++ map (λ line. line.rhs0 ∷ line.rhs1 ∷ []) gates ≡ lines_with l now
are_used_lines l nexts outputs bads constraints justice fair gates now a b c d e f g = rw (a, b, c, d, e, f, g) refl

-- ---- with no gates

abbrev lines_before : Loose → List (List ℕ)
lines_before l = map (λ line. line.next ∷ []) l.latches ++ map alone l.outputs ++ map alone l.bads ++ map alone l.constraints ++ map alone (concat l.justice) ++ map alone l.fair

-- lines of one kind use known literals where these are known
pub none_unknown : {X : Type 0} (l : Loose) (f : X → List ℕ) (P : X → Type 0) → ((x : X) → P x → list_all (is_known l) (f x) ≡ true) → (xs : List X) → All P xs → list_any (is_unknown l) (map f xs) ≡ false
none_unknown l f P known [] h = refl
none_unknown l f P known (x ∷ xs) h = or_from _ _ (ap not (known x (All-head P x xs h))) (none_unknown l f P known xs (All-tail P x xs h))

-- a line that is undefined before the gates is the first of all
pub undefined_in_front : (l : Loose) (k : ℕ) → position (is_unknown l) (lines_with l []) ≡ Some k → first_undefined l ≡ Some k
undefined_in_front l k e = place_in_front (is_unknown l) (lines_before l) (map (λ line. line.rhs0 ∷ line.rhs1 ∷ []) l.gates) k (ap (position (is_unknown l)) (sym (append-nil (lines_before l))) ∙ e)

-- an operand that waits for a gate of the file, or for none, is known
known_by_slot : (l : Loose) (lit : ℕ) → slot_of (defined_variables l) (length l.inputs + length l.latches) lit ≤ length l.gates → is_known l lit ≡ true
known_by_slot l lit low = by (variable lit == 0) (list_any (nat_eq (variable lit)) (defined_variables l)) refl refl
  where
    by : (a b : Bool) → (variable lit == 0) ≡ a → list_any (nat_eq (variable lit)) (defined_variables l) ≡ b → is_known l lit ≡ true
    by true b e f = ap (λ (t : Bool). t || is_defined l (variable lit)) e
    by false true e f = ap (λ (t : Bool). t || is_defined l (variable lit)) e ∙ f
    by false false e f =
        let slot : slot_of (defined_variables l) (length l.inputs + length l.latches) lit ≡ suc (position_or_len (nat_eq (variable lit)) (defined_variables l)) - (length l.inputs + length l.latches) =
        ap (λ (t : Bool). if t then 0 else suc (position_or_len (nat_eq (variable lit)) (defined_variables l)) - (length l.inputs + length l.latches)) e in
        absurd (omega (arith, low, slot, not_found (variable lit) (defined_variables l) f, length_defined l))

-- gates whose slots are known
gates_known : (l : Loose) (lines : List GateLine) → list_all (λ slot. nat_le slot (length l.gates)) (slots_of (defined_variables l) (length l.inputs + length l.latches) lines) ≡ true → list_any (is_unknown l) (map (λ line. line.rhs0 ∷ line.rhs1 ∷ []) lines) ≡ false
gates_known l [] t = refl
gates_known l (x ∷ lines) t =
    let a = and_parts (nat_le (slot_of (defined_variables l) (length l.inputs + length l.latches) x.rhs0) (length l.gates)) _ t in
    let b = and_parts (nat_le (slot_of (defined_variables l) (length l.inputs + length l.latches) x.rhs1) (length l.gates)) _ a.1 in
    let first : is_known l x.rhs0 ≡ true = known_by_slot l x.rhs0 (leb-true _ _ a.0) in
    let second : is_known l x.rhs1 ≡ true = known_by_slot l x.rhs1 (leb-true _ _ b.0) in
    let here : is_unknown l (x.rhs0 ∷ x.rhs1 ∷ []) ≡ false = ap (λ (t : Bool). not (t && (is_known l x.rhs1 && true))) first ∙ ap (λ (t : Bool). not (t && true)) second in
    ap (λ (t : Bool). t || list_any (is_unknown l) (map (λ line. line.rhs0 ∷ line.rhs1 ∷ []) lines)) here ∙ gates_known l lines b.1

-- where none is unknown before the gates, nor of a gate, none is
none_undefined : (l : Loose) → list_any (is_unknown l) (map (λ line. line.rhs0 ∷ line.rhs1 ∷ []) l.gates) ≡ false → position (is_unknown l) (lines_with l []) ≡ None → first_undefined l ≡ None
none_undefined l known e =
    place_behind (is_unknown l) (lines_before l) (map (λ line. line.rhs0 ∷ line.rhs1 ∷ []) l.gates) (ap (position (is_unknown l)) (sym (append-nil (lines_before l))) ∙ e)
    ∙ ap (option_map (λ k. length (lines_before l) + k)) (none_passes (is_unknown l) (map (λ line. line.rhs0 ∷ line.rhs1 ∷ []) l.gates) known)

-- where no slot is behind all gates, the first undefined line is none of a gate
pub undefined_by_slots : (l : Loose) → list_all (λ slot. nat_le slot (length l.gates)) (slots_of (defined_variables l) (length l.inputs + length l.latches) l.gates) ≡ true → position (is_unknown l) (lines_with l []) ≡ first_undefined l
undefined_by_slots l t = by (position (is_unknown l) (lines_with l [])) refl
  where
    by : (o : Option ℕ) → position (is_unknown l) (lines_with l []) ≡ o → position (is_unknown l) (lines_with l []) ≡ first_undefined l
    by (Some k) e = e ∙ sym (undefined_in_front l k e)
    by None e = e ∙ sym (none_undefined l (gates_known l l.gates t) e)

-- where gates wait for earlier ones, all that they use is known
pub known_in_order : (l : Loose) → position (is_unknown l) (lines_with l []) ≡ None → WaitForEarlier (defined_variables l) (length l.inputs + length l.latches) l.gates → first_undefined l ≡ None
known_in_order l e wait =
    let P : GateLine → Type 0 = λ line. (is_known l line.rhs0 ≡ true) × (is_known l line.rhs1 ≡ true) in
    let known : All P l.gates = All-from_get_or P l.gates (record { lhs = 0; rhs0 = 0; rhs1 = 0 })
    (λ j h. let w = wait j h in (known_by_slot l (line_in l.gates j).rhs0 (omega (arith, w.0, h)), known_by_slot l (line_in l.gates j).rhs1 (omega (arith, w.1, h)))) in
    none_undefined l (none_unknown l (λ line. line.rhs0 ∷ line.rhs1 ∷ []) P (λ line k. rw (k.0, k.1) refl) l.gates known) e
