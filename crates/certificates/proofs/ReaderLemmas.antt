-- What lines that are taken leave of the reading of a text.
use Rattle.std.proofs.Common.{◌≡◌, ◌⊎◌, inl, inr, ℕ, ◌<◌, ◌+◌, ◌*◌, suc, ◌==◌, Bool, true, false, not, List, [], ◌∷◌, ◌++◌, length, Option, None, Some, Result, Ok, Err, All, if◌then◌else◌, ⊎_elim, refl, sym, ap, ap₂, subst, ◌∙◌, arith}
use Rattle.std.specs.List.{list_all}
use Rattle.std.specs.Io.KnownBytes.{prepend_known, Keeps, Consumes, IsAtEnd}
use Rattle.std.proofs.lemmas.List.{append_assoc, append-nil}
use Rattle.std.proofs.lemmas.List.Elements.{All-nil, All-cons, All-head, All-tail, All-append}
use Rattle.std.proofs.lemmas.Bool.{cases_Bool}
use Rattle.base.specs.Lines.{IsLine, whole_lines, unfinished, line_after}
use Rattle.std.specs.Prelude.{IfOk, IfErr}
use Rattle.base.specs.Held.{Held, Advances}
use Rattle.base.proofs.LineLemmas.{whole_lines-line, unfinished-line, whole_lines-last, unfinished-last}
use Rattle.drup.specs.Formula.{IsLiteral}
use Rattle.certificates.specs.declared.why.InvariantWhy.{InvariantWhy}
use Rattle.certificates.specs.declared.why.InvariantWhy.TheVariants as why
use Rattle.certificates.specs.declared.why.InvariantFault.{InvariantFault}
use Rattle.certificates.specs.Invariants.{asks_one}
use Rattle.certificates.specs.Reading.{CubesReading, is_part, part_of, cube_of, plain_cube, asking, cube_or_why, with_cube, admit_cube_line, ended, read_cube_lines}
use Rattle.certificates.specs.Reader.{Lines, cubes_left, GivesCubes, AgreeAsLines}

-- ---- cubes

part_inside : (n k b : ℕ) → k < n → All (IsLiteral n) (part_of k b)
part_inside n k b h =
    ⊎_elim
    (λ (none : (b == 45) ≡ true). subst (All (IsLiteral n)) (sym (ap (λ (x : Bool). if x then [] else (if b == 49 then (2 * suc k) ∷ [] else (2 * suc k + 1) ∷ [])) none)) (All-nil (IsLiteral n)))
    (λ (some : (b == 45) ≡ false).
    subst (All (IsLiteral n)) (sym (ap (λ (x : Bool). if x then [] else (if b == 49 then (2 * suc k) ∷ [] else (2 * suc k + 1) ∷ [])) some))
    (⊎_elim
    (λ (on : (b == 49) ≡ true). subst (All (IsLiteral n)) (sym (ap (λ (x : Bool). if x then (2 * suc k) ∷ [] else (2 * suc k + 1) ∷ []) on)) (All-cons (IsLiteral n) (2 * suc k) [] (omega arith, omega arith) (All-nil (IsLiteral n))))
    (λ (off : (b == 49) ≡ false). subst (All (IsLiteral n)) (sym (ap (λ (x : Bool). if x then (2 * suc k) ∷ [] else (2 * suc k + 1) ∷ []) off)) (All-cons (IsLiteral n) (2 * suc k + 1) [] (omega arith, omega arith) (All-nil (IsLiteral n))))
    (cases_Bool (b == 49))))
    (cases_Bool (b == 45))

cube_inside : (n : ℕ) (named bytes : List ℕ) → All (λ k. k < n) named → All (IsLiteral n) (cube_of named bytes)
cube_inside n [] bytes all = All-nil (IsLiteral n)
cube_inside n (k ∷ named) [] all = All-nil (IsLiteral n)
cube_inside n (k ∷ named) (b ∷ bytes) all =
    All-append (IsLiteral n) (part_of k b) (cube_of named bytes) (part_inside n k b (All-head (λ (x : ℕ). x < n) k named all)) (cube_inside n named bytes (All-tail (λ (x : ℕ). x < n) k named all))

plain_inside : (n : ℕ) (named : List ℕ) (width : ℕ) (parts : Option (List ℕ)) (cube : List ℕ) → All (λ k. k < n) named → plain_cube named width parts ≡ Ok cube → All (IsLiteral n) cube
plain_inside n named width None cube all e = absurd (cc)
plain_inside n named width (Some parts) cube all e = by (list_all is_part parts) (length parts == width) e
  where
    by : (b c : Bool) → (if not b then Err why.BadCube else (if c then Ok (cube_of named parts) else Err why.WrongLength)) ≡ Ok cube → All (IsLiteral n) cube
    by true true e = subst (All (IsLiteral n)) (let f : cube_of named parts ≡ cube = cc in f) (cube_inside n named parts all)
    by true false e = absurd (cc)
    by false c e = absurd (cc)

-- a cube that is refused is so for the why of its line, or for want of memory
pub refused_cube : (n : ℕ) (named : List ℕ) (width : ℕ) (parts : Option (List ℕ)) (r : CubesReading) (cube : List ℕ) (e : InvariantWhy) → All (λ k. k < n) named → plain_cube named width parts ≡ Ok cube
    → ((asks_one cube ≡ false) × (e ≡ why.HoldsAtStart)) ⊎ ((asks_one cube ≡ true) × (((All (IsLiteral n) cube → ⊥) × (e ≡ why.NoSuchLatch)) ⊎ (All (IsLiteral n) cube × (e ≡ why.NoMemory))))
    → (e ≡ why.NoMemory) ⊎ (with_cube r (cube_or_why named width parts) ≡ Err e)
refused_cube n named width parts r cube e all is (inl holds) =
    inr
    (ap (λ (x : Result (List ℕ) InvariantWhy). with_cube r (asking x)) is
    ∙ (ap (λ (b : Bool). with_cube r (if b then Ok cube else Err why.HoldsAtStart)) holds.0 ∙ ap Err (sym holds.1)))
refused_cube n named width parts r cube e all is (inr (asks, inl none)) = absurd (none.0 (plain_inside n named width parts cube all is))
refused_cube n named width parts r cube e all is (inr (asks, inr memory)) = inl memory.1

-- ---- lines

line_of_text : (n : ℕ) (old : Lines) (line text rest : List ℕ) → IsLine line → text ≡ (line ++ 10 ∷ []) ++ rest → cubes_left n old text ≡ read_cube_lines old.latches (line_after n) (admit_cube_line old.latches old.reading line) (whole_lines rest) (unfinished rest)
line_of_text n old line text rest is e =
    ap (cubes_left n old) (e ∙ append_assoc line (10 ∷ []) rest)
    ∙ ap₂ (λ (ls : List (List ℕ)) (u : List ℕ). read_cube_lines old.latches n (Ok old.reading) ls u) (whole_lines-line line rest is) (unfinished-line line rest)

pub agree_line : (before after : Option (List ℕ)) (line : List ℕ) (n : ℕ) (old new : Lines) → IsLine line → Consumes before after (line ++ 10 ∷ []) → new.latches ≡ old.latches
    → admit_cube_line old.latches old.reading line ≡ Ok new.reading → AgreeAsLines n old before (line_after n) new after
agree_line None after line n old new is takes same admits = tt
agree_line (Some text) None line n old new is takes same admits = takes
agree_line (Some text) (Some rest) line n old new is takes same admits =
    line_of_text n old line text rest is takes
    ∙ (ap (λ (a : Result CubesReading InvariantWhy). read_cube_lines old.latches (line_after n) a (whole_lines rest) (unfinished rest)) admits
    ∙ ap (λ (l : ℕ). read_cube_lines l (line_after n) (Ok new.reading) (whole_lines rest) (unfinished rest)) (sym same))

pub gives_fault : (before after : Option (List ℕ)) (line : List ℕ) (n : ℕ) (old : Lines) (e : InvariantWhy) → IsLine line → Consumes before after (line ++ 10 ∷ []) → admit_cube_line old.latches old.reading line ≡ Err e
    → GivesCubes n old before (Err (record { line = line_after n; why = e }))
gives_fault None after line n old e is takes admits = tt
gives_fault (Some text) None line n old e is takes admits = absurd takes
gives_fault (Some text) (Some rest) line n old e is takes admits =
    line_of_text n old line text rest is takes
    ∙ ap (λ (a : Result CubesReading InvariantWhy). read_cube_lines old.latches (line_after n) a (whole_lines rest) (unfinished rest)) admits

pub gives_last : (before after : Option (List ℕ)) (rest : List ℕ) (n : ℕ) (old : Lines) (answer : Result (List (List ℕ)) InvariantFault) → IsLine rest → IsAtEnd after → Keeps before (prepend_known rest after)
    → ended (line_after n) (admit_cube_line old.latches old.reading rest) ≡ answer → GivesCubes n old before answer
gives_last None after rest n old answer is end keeps e = tt
gives_last (Some text) None rest n old answer is end keeps e = absurd keeps
gives_last (Some text) (Some more) rest n old answer is end keeps e =
    let whole : text ≡ rest = sym keeps ∙ (ap (λ (m : List ℕ). rest ++ m) end ∙ append-nil rest) in
    ap (cubes_left n old) whole
    ∙ (ap₂ (λ (ls : List (List ℕ)) (u : List ℕ). read_cube_lines old.latches n (Ok old.reading) ls u) (whole_lines-last rest is) (unfinished-last rest is) ∙ e)

-- ---- steps

pub agree_trans : (a b c : Option (List ℕ)) (l m n : ℕ) (old mid new : Lines) → AgreeAsLines l old a m mid b → AgreeAsLines m mid b n new c → AgreeAsLines l old a n new c
agree_trans None b c l m n old mid new x y = tt
agree_trans (Some s) None c l m n old mid new x y = absurd x
agree_trans (Some s) (Some t) None l m n old mid new x y = absurd y
agree_trans (Some s) (Some t) (Some u) l m n old mid new x y = x ∙ y

pub agree_gives : (a b : Option (List ℕ)) (l m : ℕ) (old mid : Lines) (answer : Result (List (List ℕ)) InvariantFault) → AgreeAsLines l old a m mid b → GivesCubes m mid b answer → GivesCubes l old a answer
agree_gives None b l m old mid answer x y = tt
agree_gives (Some s) None l m old mid answer x y = absurd x
agree_gives (Some s) (Some t) l m old mid answer x y = x ∙ y

-- ---- a line of a source

whole_is : (w : Bool) (old new : Held) (before after : Option (List ℕ)) → w ≡ true → Advances (Ok w) old new before after → IsLine new.line × Consumes (prepend_known old.rest before) (prepend_known new.rest after) (new.line ++ 10 ∷ [])
whole_is true old new before after e a = a
whole_is false old new before after e a = absurd (cc)

pub step_agrees : (w : Bool) (old new : Held) (before after : Option (List ℕ)) (n m : ℕ) (p q : Lines) (line : List ℕ) → w ≡ true → Advances (Ok w) old new before after → line ≡ new.line → m ≡ line_after n
    → q.latches ≡ p.latches → admit_cube_line p.latches p.reading line ≡ Ok q.reading → AgreeAsLines n p (prepend_known old.rest before) m q (prepend_known new.rest after)
step_agrees w old new before after n m p q line e a is next same admits =
    let found = whole_is w old new before after e a in
    subst (λ (k : ℕ). AgreeAsLines n p (prepend_known old.rest before) k q (prepend_known new.rest after)) (sym next)
    (agree_line (prepend_known old.rest before) (prepend_known new.rest after) new.line n p q found.0 found.1 same (ap (admit_cube_line p.latches p.reading) (sym is) ∙ admits))

pub step_fault : (w : Bool) (old new : Held) (before after : Option (List ℕ)) (n m : ℕ) (p : Lines) (line : List ℕ) (f : InvariantWhy) → w ≡ true → Advances (Ok w) old new before after → line ≡ new.line → m ≡ line_after n
    → admit_cube_line p.latches p.reading line ≡ Err f → GivesCubes n p (prepend_known old.rest before) (Err (record { line = m; why = f }))
step_fault w old new before after n m p line f e a is next admits =
    let found = whole_is w old new before after e a in
    subst (λ (k : ℕ). GivesCubes n p (prepend_known old.rest before) (Err (record { line = k; why = f }))) (sym next)
    (gives_fault (prepend_known old.rest before) (prepend_known new.rest after) new.line n p f found.0 found.1 (ap (admit_cube_line p.latches p.reading) (sym is) ∙ admits))

pub step_last : (w : Bool) (old new : Held) (before after : Option (List ℕ)) (n m : ℕ) (p : Lines) (rest : List ℕ) (answer : Result (List (List ℕ)) InvariantFault) → w ≡ false → Advances (Ok w) old new before after → rest ≡ new.rest → m ≡ line_after n
    → ended m (admit_cube_line p.latches p.reading rest) ≡ answer → GivesCubes n p (prepend_known old.rest before) answer
step_last true old new before after n m p rest answer e a is next end = absurd (cc)
step_last false old new before after n m p rest answer e a is next end =
    gives_last (prepend_known old.rest before) after new.rest n p answer a.0.0 a.0.1 a.1.0
    (ap₂ (λ (k : ℕ) (r : List ℕ). ended k (admit_cube_line p.latches p.reading r)) (sym next) (sym is) ∙ end)

pub ok_weaker : {A E : Type 0} (r : Result A E) (P Q : A → Type 0) → ((x : A) → P x → Q x) → IfOk r P → IfOk r Q
ok_weaker (Ok x) P Q f h = f x h
ok_weaker (Err e) P Q f h = h

pub err_weaker : {A E : Type 0} (r : Result A E) (P Q : E → Type 0) → ((e : E) → P e → Q e) → IfErr r P → IfErr r Q
err_weaker (Ok x) P Q f h = h
err_weaker (Err e) P Q f h = f e h
