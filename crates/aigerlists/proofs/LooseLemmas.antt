-- What keeps the lists of a file.
use Rattle.std.proofs.Common.{◌≡◌, ℕ, ◌+◌, ◌%◌, ◌<◌, ◌≤◌, Bool, true, false, not, ◌&&◌, ◌||◌, ◌==◌, List, [], ◌∷◌, ◌++◌, map, length, All, nat_eq, nat_le, Result, Ok, Err, OnOk, OnErr, cond, refl, ap, sym, ◌∙◌, subst, arith, if◌then◌else◌, length-append, append_assoc, append-nil}
use Rattle.std.proofs.lemmas.Bool.Decides.{nat_tests}
use Rattle.std.proofs.lemmas.List.{map-append, length-map}
use Rattle.std.proofs.lemmas.List.Elements.{All-push}
use Rattle.std.proofs.lemmas.List.Folds.{list_any-append}
use Rattle.std.proofs.lemmas.List.Sums.{sum_by-append, sum_by-cons}
use Rattle.std.specs.List.{list_any, count_by}
use Rattle.aigerlists.specs.declared.loose.GateLine.{GateLine}
use Rattle.aigerlists.specs.declared.loose.LatchLine.{LatchLine}
use Rattle.aiger.specs.declared.circuit.Latch.{Latch}
use Rattle.aiger.specs.declared.circuit.Section.TheVariants as section
use Rattle.aiger.specs.declared.fault.CircuitFault.{CircuitFault}
use Rattle.aiger.specs.Limits.{greatest_count}
use Rattle.base.specs.Literal.{variable}
use Rattle.aigerlists.specs.Loose.{Loose, IsLoose, HasDefinitions, IsDefining, IsSmall, sections_of, latch_of, defined_variables, defined_count, is_defined, is_defining, is_small, latch_variable, gate_variable}
use Rattle.aiger.proofs.CircuitLemmas.{AreKept, names_kept}

-- the lists with the properties and names of others, of which the same is kept
abbrev with_uses : Loose → Loose → Loose
with_uses l d = record l { outputs = d.outputs; bads = d.bads; constraints = d.constraints; justice = d.justice; fair = d.fair; names = d.names }

pub lists_kept : (l : Loose) → IsLoose l → AreKept IsSmall (sections_of l)
lists_kept l valid = record { few = valid.few.sections; literals = valid.small.sections; names = valid.names }

pub IsLoose-kept : (l d : Loose) → IsLoose l → d ≡ with_uses l d → AreKept IsSmall (sections_of d) → IsLoose d
IsLoose-kept l d valid e kept =
    let k : AreKept IsSmall (sections_of (with_uses l d)) = subst (λ (x : Loose). AreKept IsSmall (sections_of x)) e kept in
    subst IsLoose (sym e)
    (record {
      definitions = record { inputs = valid.definitions.inputs; latches = valid.definitions.latches; gates = valid.definitions.gates; once = valid.definitions.once };
      small = record { inputs = valid.small.inputs; latches = valid.small.latches; gates = valid.small.gates; first_operands = valid.small.first_operands; second_operands = valid.small.second_operands; sections = k.literals };
      few = record { defined = valid.few.defined; sections = k.few };
      names = k.names;
    })

-- the uses of lists after another definition
IsLoose-lines : (l : Loose) (inputs : List ℕ) (latches : List LatchLine) (gates : List GateLine) → let d = record l { inputs = inputs; latches = latches; gates = gates } in IsLoose l → HasDefinitions d → defined_count d ≤ greatest_count → length l.inputs ≤ length inputs → length l.latches ≤ length latches
    → All IsSmall inputs → All (λ line. IsSmall line.current) latches → All (λ (x : Latch). IsSmall x.next) (map latch_of latches) → All (λ line. IsSmall line.lhs) gates → All (λ line. IsSmall line.rhs0) gates → All (λ line. IsSmall line.rhs1) gates → IsLoose d
IsLoose-lines l inputs latches gates valid definitions few many_inputs many_latches a b c e f g =
    let u = valid.small.sections in
    let n = valid.few.sections in
    record {
      definitions = definitions;
      small = record { inputs = a; latches = b; gates = e; first_operands = f; second_operands = g; sections = record { nexts = c; outputs = u.outputs; bads = u.bads; constraints = u.constraints; justice = u.justice; fair = u.fair } };
      few = record { defined = few; sections = record { outputs = n.outputs; bads = n.bads; constraints = n.constraints; justice = n.justice; justice_literals = n.justice_literals; fair = n.fair } };
      names = names_kept (sections_of l) (sections_of (record l { inputs = inputs; latches = latches; gates = gates })) valid.names refl
          (elim [ section.Input ↦ many_inputs | section.Latch ↦ omega (arith, length-map l.latches latch_of, length-map latches latch_of, many_latches) | section.Output ↦ omega arith | section.Bad ↦ omega arith | section.Constraint ↦ omega arith | section.Justice ↦ omega arith | section.Fair ↦ omega arith ]);
    }

-- one number more somewhere in a list
record HasOneMore (old new : List ℕ) (x : ℕ) : Type 0 where
  count : (v : ℕ) → count_by (nat_eq v) new ≡ count_by (nat_eq v) old + (if nat_eq v x then 1 else 0)
  any : (v : ℕ) → list_any (nat_eq v) new ≡ (nat_eq v x || list_any (nat_eq v) old)

one_more : (old new front behind : List ℕ) (x : ℕ) → old ≡ front ++ behind → new ≡ front ++ x ∷ behind → HasOneMore old new x
one_more old new front behind x e f =
    rw (e, f)
    (record {
      count = λ v. omega (arith, sum_by-append (λ (y : ℕ). cond (nat_eq v y) 1 0) front (x ∷ behind), sum_by-append (λ (y : ℕ). cond (nat_eq v y) 1 0) front behind, sum_by-cons (λ (y : ℕ). cond (nat_eq v y) 1 0) x behind);
      any = λ v.
          let a = list_any-append (nat_eq v) front (x ∷ behind) in
          let b = list_any-append (nat_eq v) front behind in
          grind (arith, nat_tests, a, b);
    })

-- how many of a list pass
pub count_join : (p : ℕ → Bool) (a b c : List ℕ) → count_by p (a ++ b ++ c) ≡ count_by p a + count_by p b + count_by p c
count_join p a b c = sum_by-append (λ (y : ℕ). cond (p y) 1 0) (a ++ b) c ∙ ap (λ (n : ℕ). n + count_by p c) (sum_by-append (λ (y : ℕ). cond (p y) 1 0) a b)

-- none passes where the test finds none
pub count_none : (p : ℕ → Bool) (xs : List ℕ) → list_any p xs ≡ false → count_by p xs ≡ 0
count_none p [] e = refl
count_none p (x ∷ xs) e =
    let h : p x ≡ false = grind (arith, nat_tests) in
    let t : list_any p xs ≡ false = grind (arith, nat_tests) in
    sum_by-cons (λ (y : ℕ). cond (p y) 1 0) x xs ∙ (ap (λ (b : Bool). cond b 1 0 + count_by p xs) h ∙ (omega (arith, count_none p xs t)))

-- each number stands once at most, also with one more that was not there
pub once_push : (old new : List ℕ) (x : ℕ) → ((v : ℕ) → count_by (nat_eq v) new ≡ count_by (nat_eq v) old + (if nat_eq v x then 1 else 0)) → ((v : ℕ) → count_by (nat_eq v) old ≤ 1) → list_any (nat_eq x) old ≡ false → (v : ℕ) → count_by (nat_eq v) new ≤ 1
once_push old new x more once none v = by (nat_eq v x) refl
  where
    by : (b : Bool) → nat_eq v x ≡ b → count_by (nat_eq v) new ≤ 1
    by true t =
        let e : v ≡ x = grind (arith, nat_tests) in
        let z : count_by (nat_eq v) old ≡ 0 = subst (λ (k : ℕ). count_by (nat_eq k) old ≡ 0) (sym e) (count_none (nat_eq x) old none) in
        let m : count_by (nat_eq v) new ≡ count_by (nat_eq v) old + 1 = more v ∙ ap (λ (c : Bool). count_by (nat_eq v) old + (if c then 1 else 0)) t in
        omega (arith, z, m)
    by false t =
        let m : count_by (nat_eq v) new ≡ count_by (nat_eq v) old + 0 = more v ∙ ap (λ (c : Bool). count_by (nat_eq v) old + (if c then 1 else 0)) t in
        omega (arith, m, once v)

-- a set that has the numbers of a list, with one more in both
set_push : (has had : ℕ → Bool) (old new : List ℕ) (x : ℕ) → ((v : ℕ) → had v ≡ list_any (nat_eq v) old) → ((v : ℕ) → has v ≡ cond (nat_eq x v) true (had v)) → ((v : ℕ) → list_any (nat_eq v) new ≡ (nat_eq v x || list_any (nat_eq v) old)) → (v : ℕ) → has v ≡ list_any (nat_eq v) new
set_push has had old new x before after more v =
    let a = before v in
    let b = after v in
    let c = more v in
    grind (arith, nat_tests, a, b, c)

-- what the test of a defining literal finds
defining_from_test : (l : Loose) (lit : ℕ) → (is_defining lit && not (is_defined l (variable lit))) ≡ true → IsDefining lit × (is_defined l (variable lit) ≡ false)
defining_from_test l lit t =
    let h : is_defining lit ≡ true = grind (arith, nat_tests) in
    let low : nat_le 2 lit ≡ true = grind (arith, nat_tests) in
    let even : (lit % 2 == 0) ≡ true = grind (arith, nat_tests) in
    (record { even = grind (arith, nat_tests); least = grind (arith, nat_tests) }, grind (arith, nat_tests))

-- the variables with a definition more
more_input : (l : Loose) (lit : ℕ) → HasOneMore (defined_variables l) (defined_variables (record l { inputs = l.inputs ++ lit ∷ [] })) (variable lit)
more_input l lit = one_more _ _ (map variable l.inputs) (map latch_variable l.latches ++ map gate_variable l.gates) (variable lit) (append_assoc (map variable l.inputs) (map latch_variable l.latches) (map gate_variable l.gates)) (simp (map-append, append_assoc))

more_latch : (l : Loose) (line : LatchLine) → HasOneMore (defined_variables l) (defined_variables (record l { latches = l.latches ++ line ∷ [] })) (latch_variable line)
more_latch l line = one_more _ _ (map variable l.inputs ++ map latch_variable l.latches) (map gate_variable l.gates) (latch_variable line) refl (simp (map-append, append_assoc))

more_gate : (l : Loose) (line : GateLine) → HasOneMore (defined_variables l) (defined_variables (record l { gates = l.gates ++ line ∷ [] })) (gate_variable line)
more_gate l line = one_more _ _ (defined_variables l) [] (gate_variable line) (sym (append-nil (defined_variables l))) (simp (map-append, append_assoc))

-- with an input more
with_input : (l : Loose) (lit : ℕ) → IsLoose l → IsDefining lit → is_defined l (variable lit) ≡ false → IsSmall lit → defined_count l < greatest_count → IsLoose (record l { inputs = l.inputs ++ lit ∷ [] })
with_input l lit valid defining new small room =
    let d : Loose = record l { inputs = l.inputs ++ lit ∷ [] } in
    let once : (v : ℕ) → count_by (nat_eq v) (defined_variables d) ≤ 1 = once_push (defined_variables l) (defined_variables d) (variable lit) (more_input l lit).count valid.definitions.once new in
    IsLoose-lines l (l.inputs ++ lit ∷ []) l.latches l.gates valid
    (record { inputs = All-push IsDefining l.inputs lit valid.definitions.inputs defining; latches = valid.definitions.latches; gates = valid.definitions.gates; once = once })
    (omega (arith, length-append l.inputs (lit ∷ []))) (omega (arith, length-append l.inputs (lit ∷ []))) (omega arith)
    (All-push IsSmall l.inputs lit valid.small.inputs small) valid.small.latches valid.small.sections.nexts valid.small.gates valid.small.first_operands valid.small.second_operands

pub IsLoose-input : (l : Loose) (lit : ℕ) (inputs : List ℕ) (r : Result (Unit {0}) CircuitFault) → IsLoose l → (is_defining lit && not (is_defined l (variable lit))) ≡ true → IsSmall lit → defined_count l < greatest_count → OnOk r (inputs ≡ l.inputs ++ lit ∷ []) → OnErr r (inputs ≡ l.inputs) → IsLoose (record l { inputs = inputs })
IsLoose-input l lit inputs (Ok x) valid test small room ok err =
    let t = defining_from_test l lit test in
    subst (λ (ls : List ℕ). IsLoose (record l { inputs = ls })) (sym ok) (with_input l lit valid t.0 t.1 small room)
IsLoose-input l lit inputs (Err x) valid test small room ok err = subst (λ (ls : List ℕ). IsLoose (record l { inputs = ls })) (sym err) valid

-- with a latch more
with_latch : (l : Loose) (line : LatchLine) → IsLoose l → IsDefining line.current → is_defined l (latch_variable line) ≡ false → IsSmall line.current → IsSmall line.next → defined_count l < greatest_count → IsLoose (record l { latches = l.latches ++ line ∷ [] })
with_latch l line valid defining new small small_next room =
    let d : Loose = record l { latches = l.latches ++ line ∷ [] } in
    let once : (v : ℕ) → count_by (nat_eq v) (defined_variables d) ≤ 1 = once_push (defined_variables l) (defined_variables d) (latch_variable line) (more_latch l line).count valid.definitions.once new in
    IsLoose-lines l l.inputs (l.latches ++ line ∷ []) l.gates valid
    (record { inputs = valid.definitions.inputs; latches = All-push (λ (x : LatchLine). IsDefining x.current) l.latches line valid.definitions.latches defining; gates = valid.definitions.gates; once = once })
    (omega (arith, length-append l.latches (line ∷ []))) (omega arith) (omega (arith, length-append l.latches (line ∷ [])))
    valid.small.inputs (All-push (λ (x : LatchLine). IsSmall x.current) l.latches line valid.small.latches small)
    (subst (All (λ (x : Latch). IsSmall x.next)) (sym (map-append latch_of l.latches (line ∷ []))) (All-push (λ (x : Latch). IsSmall x.next) (map latch_of l.latches) (latch_of line) valid.small.sections.nexts small_next))
    valid.small.gates valid.small.first_operands valid.small.second_operands

pub IsLoose-latch : (l : Loose) (line : LatchLine) (latches : List LatchLine) (r : Result (Unit {0}) CircuitFault) → IsLoose l → (is_defining line.current && not (is_defined l (variable line.current))) ≡ true → IsSmall line.current → IsSmall line.next → defined_count l < greatest_count → OnOk r (latches ≡ l.latches ++ line ∷ []) → OnErr r (latches ≡ l.latches) → IsLoose (record l { latches = latches })
IsLoose-latch l line latches (Ok x) valid test small small_next room ok err =
    let t = defining_from_test l line.current test in
    subst (λ (ls : List LatchLine). IsLoose (record l { latches = ls })) (sym ok) (with_latch l line valid t.0 t.1 small small_next room)
IsLoose-latch l line latches (Err x) valid test small small_next room ok err = subst (λ (ls : List LatchLine). IsLoose (record l { latches = ls })) (sym err) valid

-- with a gate more
with_gate : (l : Loose) (line : GateLine) → IsLoose l → IsDefining line.lhs → is_defined l (gate_variable line) ≡ false → IsSmall line.lhs → IsSmall line.rhs0 → IsSmall line.rhs1 → defined_count l < greatest_count → IsLoose (record l { gates = l.gates ++ line ∷ [] })
with_gate l line valid defining new small small0 small1 room =
    let d : Loose = record l { gates = l.gates ++ line ∷ [] } in
    let once : (v : ℕ) → count_by (nat_eq v) (defined_variables d) ≤ 1 = once_push (defined_variables l) (defined_variables d) (gate_variable line) (more_gate l line).count valid.definitions.once new in
    IsLoose-lines l l.inputs l.latches (l.gates ++ line ∷ []) valid
    (record { inputs = valid.definitions.inputs; latches = valid.definitions.latches; gates = All-push (λ (x : GateLine). IsDefining x.lhs) l.gates line valid.definitions.gates defining; once = once })
    (omega (arith, length-append l.gates (line ∷ []))) (omega arith) (omega arith)
    valid.small.inputs valid.small.latches valid.small.sections.nexts
    (All-push (λ (x : GateLine). IsSmall x.lhs) l.gates line valid.small.gates small) (All-push (λ (x : GateLine). IsSmall x.rhs0) l.gates line valid.small.first_operands small0) (All-push (λ (x : GateLine). IsSmall x.rhs1) l.gates line valid.small.second_operands small1)

pub IsLoose-gate : (l : Loose) (line : GateLine) (gates : List GateLine) (r : Result (Unit {0}) CircuitFault) → IsLoose l → (is_defining line.lhs && not (is_defined l (variable line.lhs))) ≡ true → IsSmall line.lhs → IsSmall line.rhs0 → IsSmall line.rhs1 → defined_count l < greatest_count → OnOk r (gates ≡ l.gates ++ line ∷ []) → OnErr r (gates ≡ l.gates) → IsLoose (record l { gates = gates })
IsLoose-gate l line gates (Ok x) valid test small small0 small1 room ok err =
    let t = defining_from_test l line.lhs test in
    subst (λ (ls : List GateLine). IsLoose (record l { gates = ls })) (sym ok) (with_gate l line valid t.0 t.1 small small0 small1 room)
IsLoose-gate l line gates (Err x) valid test small small0 small1 room ok err = subst (λ (ls : List GateLine). IsLoose (record l { gates = ls })) (sym err) valid

-- the set of defined variables with one more, or as it was
pub HasSet-input : (l : Loose) (lit : ℕ) (inputs : List ℕ) (r : Result (Unit {0}) CircuitFault) (has had : ℕ → Bool) → ((v : ℕ) → had v ≡ is_defined l v) → OnOk r ((v : ℕ) → has v ≡ cond (nat_eq (variable lit) v) true (had v)) → OnErr r ((v : ℕ) → has v ≡ had v) → OnOk r (inputs ≡ l.inputs ++ lit ∷ []) → OnErr r (inputs ≡ l.inputs) → (v : ℕ) → has v ≡ is_defined (record l { inputs = inputs }) v
HasSet-input l lit inputs (Ok x) has had before ok err e f =
    subst (λ (ls : List ℕ). (v : ℕ) → has v ≡ is_defined (record l { inputs = ls }) v) (sym e)
    (set_push has had (defined_variables l) (defined_variables (record l { inputs = l.inputs ++ lit ∷ [] })) (variable lit) before ok (more_input l lit).any)
HasSet-input l lit inputs (Err x) has had before ok err e f =
    subst (λ (ls : List ℕ). (v : ℕ) → has v ≡ is_defined (record l { inputs = ls }) v) (sym f) (λ v. err v ∙ before v)

pub HasSet-latch : (l : Loose) (line : LatchLine) (latches : List LatchLine) (r : Result (Unit {0}) CircuitFault) (has had : ℕ → Bool) → ((v : ℕ) → had v ≡ is_defined l v) → OnOk r ((v : ℕ) → has v ≡ cond (nat_eq (latch_variable line) v) true (had v)) → OnErr r ((v : ℕ) → has v ≡ had v) → OnOk r (latches ≡ l.latches ++ line ∷ []) → OnErr r (latches ≡ l.latches) → (v : ℕ) → has v ≡ is_defined (record l { latches = latches }) v
HasSet-latch l line latches (Ok x) has had before ok err e f =
    subst (λ (ls : List LatchLine). (v : ℕ) → has v ≡ is_defined (record l { latches = ls }) v) (sym e)
    (set_push has had (defined_variables l) (defined_variables (record l { latches = l.latches ++ line ∷ [] })) (latch_variable line) before ok (more_latch l line).any)
HasSet-latch l line latches (Err x) has had before ok err e f =
    subst (λ (ls : List LatchLine). (v : ℕ) → has v ≡ is_defined (record l { latches = ls }) v) (sym f) (λ v. err v ∙ before v)

pub HasSet-gate : (l : Loose) (line : GateLine) (gates : List GateLine) (r : Result (Unit {0}) CircuitFault) (has had : ℕ → Bool) → ((v : ℕ) → had v ≡ is_defined l v) → OnOk r ((v : ℕ) → has v ≡ cond (nat_eq (gate_variable line) v) true (had v)) → OnErr r ((v : ℕ) → has v ≡ had v) → OnOk r (gates ≡ l.gates ++ line ∷ []) → OnErr r (gates ≡ l.gates) → (v : ℕ) → has v ≡ is_defined (record l { gates = gates }) v
HasSet-gate l line gates (Ok x) has had before ok err e f =
    subst (λ (ls : List GateLine). (v : ℕ) → has v ≡ is_defined (record l { gates = ls }) v) (sym e)
    (set_push has had (defined_variables l) (defined_variables (record l { gates = l.gates ++ line ∷ [] })) (gate_variable line) before ok (more_gate l line).any)
HasSet-gate l line gates (Err x) has had before ok err e f =
    subst (λ (ls : List GateLine). (v : ℕ) → has v ≡ is_defined (record l { gates = ls }) v) (sym f) (λ v. err v ∙ before v)

-- what the test of room finds
pub room_from_test : (l d : Loose) → l ≡ d → true ≡ not (nat_le greatest_count (defined_count d)) → defined_count l < greatest_count
room_from_test l d e t =
    let here : defined_count d < greatest_count = grind (arith, nat_tests) in
    subst (λ (x : Loose). defined_count x < greatest_count) (sym e) here

-- what the test of a defining literal finds, of the same lists
pub may_define_here : (l d : Loose) (lit : ℕ) → l ≡ d → true ≡ (is_defining lit && not (is_defined d (variable lit))) → (is_defining lit && not (is_defined l (variable lit))) ≡ true
may_define_here l d lit e t = subst (λ (x : Loose). (is_defining lit && not (is_defined x (variable lit))) ≡ true) (sym e) (sym t)

-- a literal that the test finds within the limit
pub small_from_test : (lit : ℕ) → true ≡ is_small lit → IsSmall lit
small_from_test lit t = grind (arith, nat_tests)

-- what a set has after an insertion that was done or refused, by another word for the variable
pub set_after : (r : Result (Unit {0}) CircuitFault) (had has : ℕ → Bool) (x y : ℕ) → x ≡ y → OnOk r ((v : ℕ) → has v ≡ cond (nat_eq x v) true (had v)) → OnOk r ((v : ℕ) → has v ≡ cond (nat_eq y v) true (had v))
set_after r had has x y e h = subst (λ (k : ℕ). OnOk r ((v : ℕ) → has v ≡ cond (nat_eq k v) true (had v))) e h
