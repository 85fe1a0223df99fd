-- The marks and the places of a trail.
use Rattle.std.proofs.Common.{◌≡◌, ◌≢◌, ℕ, suc, ◌+◌, ◌-◌, ◌<◌, ◌≤◌, Bool, true, false, List, [], ◌∷◌, ◌++◌, length, get_or, set, take, ⊎_elim, refl, sym, ap, ap₂, ◌∙◌, arith, take-suc-set, length-take-le, get_or-take}
use Rattle.std.proofs.lemmas.Bool.{cases_eq, cases_lt}
use Rattle.std.proofs.lemmas.List.{length-set, get_or-set_same, get_or-set_other, get_or_past, get_or_read, ext_get_or}
use Rattle.std.proofs.lemmas.List.Sums.{sum_by-set, count_by-le-length}
use Rattle.std.specs.List.{count_by}
use Rattle.std.specs.Prelude.{if◌then◌else◌}
use Rattle.drup.specs.Marked.{Marked, set_of, AreMarkedFirst, IsKept, IsPrefix, AreMarked, ArePlaced}

abbrev pub one_if : Bool → ℕ
one_if b = if b then 1 else 0

pub is_inside : (marks : List Bool) (l : ℕ) → get_or marks l false ≡ true → l < length marks
is_inside marks l on = ⊎_elim (λ (h : l < length marks). h) (λ h. let off : get_or marks l false ≡ false = get_or_past marks l false h in cc) (cases_lt l (length marks))

pub counted_more : (marks : List Bool) (l : ℕ) → l < length marks → get_or marks l false ≡ false → count_by (λ b. b) (set marks l true) ≡ count_by (λ b. b) marks + 1
counted_more marks l inside off =
    let step = sum_by-set one_if marks l true false inside in
    let none : one_if (get_or marks l false) ≡ 0 = ap one_if off in
    omega (arith, step, none)

pub has_room : (marks : List Bool) (literals : List ℕ) (count l : ℕ) → AreMarkedFirst marks literals count → l < length marks → get_or marks l false ≡ false → count < length literals
has_room marks literals count l o inside off =
    omega (arith, counted_more marks l inside off, count_by-le-length (λ b. b) (set marks l true), length-set marks l true, o.as_many, o.counted)

pub IsOrder-push : (marks : List Bool) (literals : List ℕ) (count l : ℕ) → AreMarkedFirst marks literals count → l < length marks → get_or marks l false ≡ false → AreMarkedFirst (set marks l true) (set literals count l) (count + 1)
IsOrder-push marks literals count l o inside off =
    let room : count < length literals = has_room marks literals count l o inside off in
    record {
      as_many = length-set literals count l ∙ o.as_many ∙ sym (length-set marks l true);
      counted = counted_more marks l inside off ∙ ap (λ (n : ℕ). n + 1) o.counted;
      placed = λ m on.
          ⊎_elim
          (λ (e : m ≡ l). (count, omega arith, get_or-set_same literals count l 0 room ∙ sym e))
          (λ (ne : m ≢ l).
          let old = o.placed m (sym (get_or-set_other marks l m true false ne) ∙ on) in
          let other : old.0 ≢ count = omega (arith, old.1) in
          (old.0, omega (arith, old.1), get_or-set_other literals count old.0 l 0 other ∙ old.2))
          (cases_eq m l);
      marked = λ j h.
          ⊎_elim
          (λ (e : j ≡ count).
          ap (λ (m : ℕ). get_or (set marks l true) m false) (ap (λ (i : ℕ). get_or (set literals count l) i 0) e ∙ get_or-set_same literals count l 0 room) ∙ get_or-set_same marks l true false inside)
          (λ (ne : j ≢ count).
          let old : get_or marks (get_or literals j 0) false ≡ true = o.marked j (omega arith) in
          let other : get_or literals j 0 ≢ l = λ e. let off' : get_or marks (get_or literals j 0) false ≡ false = ap (λ (m : ℕ). get_or marks m false) e ∙ off in cc in
          ap (λ (m : ℕ). get_or (set marks l true) m false) (get_or-set_other literals count j l 0 ne) ∙ get_or-set_other marks l (get_or literals j 0) true false other ∙ old)
          (cases_eq j count);
      distinct = λ i j h k.
          let before : i ≢ count = omega arith in
          ⊎_elim
          (λ (e : j ≡ count).
          λ f. let on : get_or marks (get_or literals i 0) false ≡ true = o.marked i (omega arith) in
          let same : get_or literals i 0 ≡ l = sym (get_or-set_other literals count i l 0 before) ∙ f ∙ ap (λ (n : ℕ). get_or (set literals count l) n 0) e ∙ get_or-set_same literals count l 0 room in
          let off' : get_or marks (get_or literals i 0) false ≡ false = ap (λ (m : ℕ). get_or marks m false) same ∙ off in
          cc)
          (λ (ne : j ≢ count).
          λ f. o.distinct i j h (omega arith) (sym (get_or-set_other literals count i l 0 before) ∙ f ∙ get_or-set_other literals count j l 0 ne))
          (cases_eq j count);
    }

pub off_by : (b : Bool) → (b ≡ true → ⊥) → b ≡ false
off_by true h = absurd (h refl)
off_by false h = refl

-- The last literal is taken back.

pub IsOrder-pop : (marks : List Bool) (literals : List ℕ) (count before l : ℕ) → AreMarkedFirst marks literals count → count ≡ before + 1 → l ≡ get_or literals before 0 → (l < length marks) × AreMarkedFirst (set marks l false) literals before
IsOrder-pop marks literals count before l o one is =
    let on : get_or marks l false ≡ true = ap (λ (m : ℕ). get_or marks m false) is ∙ o.marked before (omega arith) in
    let inside : l < length marks = is_inside marks l on in
    let step = sum_by-set one_if marks l false false inside in
    let own : one_if (get_or marks l false) ≡ 1 = ap one_if on in (
      inside,
      record {
        as_many = o.as_many ∙ sym (length-set marks l false);
        counted = omega (arith, step, own, o.counted);
        placed = λ m on'.
            ⊎_elim
            (λ (e : m ≡ l). let off : get_or (set marks l false) m false ≡ false = ap (λ (i : ℕ). get_or (set marks l false) i false) e ∙ get_or-set_same marks l false false inside in absurd (cc))
            (λ (ne : m ≢ l).
            let old = o.placed m (sym (get_or-set_other marks l m false false ne) ∙ on') in
            let other : old.0 ≢ before = λ e. ne (sym old.2 ∙ ap (λ (j : ℕ). get_or literals j 0) e ∙ sym is) in
            (old.0, omega (arith, old.1, other), old.2))
            (cases_eq m l);
        marked = λ j h.
            let other : get_or literals j 0 ≢ l = λ e. o.distinct j before h (omega arith) (e ∙ is) in
            get_or-set_other marks l (get_or literals j 0) false false other ∙ o.marked j (omega arith);
        distinct = λ i j h k. o.distinct i j h (omega arith);
      },
    )

abbrev pub marked_at : List Bool → List ℕ → Marked
marked_at marks order = record { marks = marks; order = order }

pub pushed_is : (marks : List Bool) (literals : List ℕ) (count l : ℕ) → count < length literals
    → marked_at (set marks l true) (take (count + 1) (set literals count l)) ≡ marked_at (set marks l true) (take count literals ++ l ∷ [])
pushed_is marks literals count l room = ap (marked_at (set marks l true)) (let one : count + 1 ≡ suc count = omega arith in ap (λ (n : ℕ). take n (set literals count l)) one ∙ take-suc-set literals count l room)

pub placed_in : (marks : List Bool) (literals : List ℕ) (count : ℕ) → AreMarkedFirst marks literals count → ArePlaced (marked_at marks (take count literals))
placed_in marks literals count o l on =
    let old = o.placed l on in
    let room : count ≤ length literals = omega (arith, o.as_many, o.counted, count_by-le-length (λ b. b) marks) in
    (old.0, omega (arith, old.1, length-take-le count literals room), get_or-take count literals old.0 0 old.1 ∙ old.2)

-- Trails with the same order are the same.

pub on_by_order : (old new : Marked) → new.order ≡ old.order → AreMarked old → ArePlaced new → IsKept new old
on_by_order old new is marked placed l on =
    let at = placed l on in
    ap (set_of old) (sym at.2 ∙ ap (λ (ls : List ℕ). get_or ls at.0 0) is) ∙ marked at.0 (omega (arith, at.1, ap length is))

pub same_bits : (a b : Bool) → (a ≡ true → b ≡ true) → (b ≡ true → a ≡ true) → a ≡ b
same_bits true b f g = sym (f refl)
same_bits false true f g = g refl
same_bits false false f g = refl

pub same_order : (old new : Marked) → length new.marks ≡ length old.marks → new.order ≡ old.order → AreMarked old → ArePlaced old → AreMarked new → ArePlaced new → new ≡ old
same_order old new many is marked placed marked' placed' =
    let same : new.marks ≡ old.marks = ext_get_or false new.marks old.marks many (λ i h. same_bits (get_or new.marks i false) (get_or old.marks i false) (on_by_order old new is marked placed' i) (on_by_order new old (sym is) marked' placed i)) in
    ap₂ marked_at same is

pub prefix_take : (old new : Marked) → length old.order ≤ length new.order → IsPrefix old new → take (length old.order) new.order ≡ old.order
prefix_take old new longer prefix =
    ext_get_or 0 (take (length old.order) new.order) old.order (length-take-le (length old.order) new.order longer)
    (λ i h. let below : i < length old.order = omega (arith, length-take-le (length old.order) new.order longer) in get_or-take (length old.order) new.order i 0 below ∙ prefix i below)

pub pop_step : (marks : List Bool) (literals : List ℕ) (count l : ℕ) → AreMarkedFirst marks literals count → 0 < count → l ≡ get_or literals (count - 1) l → (l < length marks) × AreMarkedFirst (set marks l false) literals (count - 1)
pop_step marks literals count l o some read =
    let room : count ≤ length literals = omega (arith, o.as_many, o.counted, count_by-le-length (λ b. b) marks) in
    IsOrder-pop marks literals count (count - 1) l o (omega arith) (get_or_read literals (count - 1) l (omega arith) read 0)
