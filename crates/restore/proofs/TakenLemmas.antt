-- What is put for frames that a circuit takes is what is put for the lines that they are restored to.
use Rattle.std.proofs.Common.{◌≡◌, ℕ, suc, ◌+◌, ◌-◌, ◌^◌, ◌==◌, min, Bool, true, false, if◌then◌else◌, List, [], ◌∷◌, ◌++◌, length, map, refl, sym, ap, ap₂, subst, ◌∙◌, arith, append_assoc, append-nil, Option}
use Rattle.base.specs.Lines.{text_of_lines}
use Rattle.base.specs.declared.pen.Pen.{Pen}
use Rattle.base.specs.Writing.{WritesText}
use Rattle.base.proofs.PenLemmas.{writes_then, writes_none}
use Rattle.aiger.specs.Circuit.{Circuit}
use Rattle.witness.specs.BitTexts.{bit_line}
use Rattle.restore.specs.Frames.{frame_of}
use Rattle.restore.specs.FormWitness.{restored_frame_lines}
use Rattle.restore.specs.Restored.{own_inputs, cut_inputs, written_frames}
use Rattle.restore.specs.Plays.{Play, fresh, met, own_frame, begun, played, took, taken}
use Rattle.restore.specs.Putting.{put_lines, as_it_is, lines_of_beginning, lines_before, frame_put, frames_put, HasTaken}
use Rattle.restore.proofs.PlayedLemmas.{met_more, took_first, took_later, took_risen, taken_more, later_frames}

-- ---- lines

pub put_more : (put : ℕ → List ℕ → List ℕ) (n : ℕ) (xs ys : List (List ℕ)) → put_lines put n (xs ++ ys) ≡ put_lines put n xs ++ put_lines put (n + length xs) ys
put_more put n [] ys = let e : n ≡ n + 0 = omega arith in ap (λ (m : ℕ). put_lines put m ys) e
put_more put n (x ∷ xs) ys =
    let e : suc n + length xs ≡ n + suc (length xs) = omega arith in
    ap (λ (t : List ℕ). put (min n (2 ^ 64 - 1)) x ++ t) (put_more put (suc n) xs ys ∙ ap (λ (m : ℕ). put_lines put (suc n) xs ++ put_lines put m ys) e)
    ∙ sym (append_assoc (put (min n (2 ^ 64 - 1)) x) (put_lines put (suc n) xs) (put_lines put (n + suc (length xs)) ys))

-- as they are, they are their text
pub put_as_they_are : (n : ℕ) (lines : List (List ℕ)) → put_lines as_it_is n lines ≡ text_of_lines lines
put_as_they_are n [] = refl
put_as_they_are n (line ∷ lines) = ap (λ (t : List ℕ). (line ++ 10 ∷ []) ++ t) (put_as_they_are (suc n) lines)

-- ---- one frame

pub put_risen : (put : ℕ → List ℕ → List ℕ) (p : Play) (bits : List Bool) → p.risen ≡ true → frame_put put p bits ≡ []
put_risen put p bits risen = ap (λ (b : Bool). if b then [] else ((if p.frames == 0 then put_lines put 0 (lines_of_beginning (begun p bits)) else []) ++ put (lines_before p) (bit_line (own_frame p bits)))) risen

pub put_going : (put : ℕ → List ℕ → List ℕ) (p : Play) (bits : List Bool) (b : Bool) → p.risen ≡ false → (p.frames == 0) ≡ b
    → frame_put put p bits ≡ (if b then put_lines put 0 (lines_of_beginning (begun p bits)) else []) ++ put (lines_before p) (bit_line (own_frame p bits))
put_going put p bits b going is =
    ap (λ (b : Bool). if b then [] else ((if p.frames == 0 then put_lines put 0 (lines_of_beginning (begun p bits)) else []) ++ put (lines_before p) (bit_line (own_frame p bits)))) going
    ∙ ap (λ (b : Bool). (if b then put_lines put 0 (lines_of_beginning (begun p bits)) else []) ++ put (lines_before p) (bit_line (own_frame p bits))) is

-- a frame behind others
pub frames_put_more : (put : ℕ → List ℕ → List ℕ) (p : Play) (given : List (List Bool)) (bits : List Bool) → frames_put put p (given ++ bits ∷ []) ≡ frames_put put p given ++ frame_put put (taken p given) bits
frames_put_more put p [] bits = append-nil (frame_put put p bits)
frames_put_more put p (first ∷ given) bits =
    ap (λ (t : List ℕ). frame_put put p first ++ t) (frames_put_more put (took p first) given bits)
    ∙ sym (append_assoc (frame_put put p first) (frames_put put (took p first) given) (frame_put put (taken (took p first) given) bits))

pub nothing_taken : {K : Type 0} {put : ℕ → List ℕ → List ℕ} {written : K → Option (List ℕ)} {failures : K → ℕ} {s : K} {pen : Pen} {p : Play} → HasTaken put written failures s s pen pen p [] p
nothing_taken = record { play = refl; writes = writes_none }

-- ---- all frames

-- behind the first one
abbrev PutsLater : (ℕ → List ℕ → List ℕ) → Play → ℕ → List (List Bool) → Type 0
PutsLater put p n given = frames_put put p given ≡ put_lines put (n + 3) (map bit_line (if p.risen then [] else cut_inputs p.circuit p.claim (met p) p.state (own_inputs p.circuit given)))

module _ (put : ℕ → List ℕ → List ℕ) (p : Play) (n : ℕ) (bits : List Bool) (more : List (List Bool)) (later : (p.frames == 0) ≡ false) (number : p.frames ≡ min n (2 ^ 64 - 1))
    (rest : (q : Play) (m : ℕ) → (q.frames == 0) ≡ false → q.frames ≡ min m (2 ^ 64 - 1) → PutsLater put q m more) where
  abbrev own : List Bool
  own = own_frame p bits

  abbrev next : Play
  next = played p own

  one_later : (b : Bool) → p.risen ≡ b → PutsLater put p n (bits ∷ more)
  one_later true risen =
      ap₂ (λ (t : List ℕ) (q : Play). t ++ frames_put put q more) (put_risen put p bits risen) (took_risen p bits risen) ∙ rest p n later number
      ∙ ap (λ (b : Bool). put_lines put (n + 3) (map bit_line (if b then [] else cut_inputs p.circuit p.claim (met p) p.state (own_inputs p.circuit more)))) risen
      ∙ sym (ap (λ (b : Bool). put_lines put (n + 3) (map bit_line (if b then [] else cut_inputs p.circuit p.claim (met p) p.state (own_inputs p.circuit (bits ∷ more))))) risen)
  one_later false going =
      let before : lines_before p ≡ min (n + 3) (2 ^ 64 - 1) = omega (arith, number) in
      let count : next.frames ≡ min (n + 1) (2 ^ 64 - 1) = omega (arith, number) in
      let number' : n + 1 + 3 ≡ suc (n + 3) = omega arith in
      ap₂ (λ (t : List ℕ) (q : Play). t ++ frames_put put q more) (put_going put p bits false going later ∙ ap (λ (m : ℕ). put m (bit_line own)) before) (took_later p bits going later)
      ∙ ap (λ (t : List ℕ). put (min (n + 3) (2 ^ 64 - 1)) (bit_line own) ++ t)
      (rest next (n + 1) (later_frames p own) count
      ∙ ap₂ (λ (m : ℕ) (held : Bool). put_lines put m (map bit_line (if next.risen then [] else cut_inputs p.circuit p.claim held next.state (own_inputs p.circuit more)))) number' (met_more p.circuit p.frames p.breach (frame_of p.circuit p.state own)))
      ∙ sym (ap (λ (b : Bool). put_lines put (n + 3) (map bit_line (if b then [] else cut_inputs p.circuit p.claim (met p) p.state (own_inputs p.circuit (bits ∷ more))))) going)

later_put : (put : ℕ → List ℕ → List ℕ) (p : Play) (n : ℕ) (given : List (List Bool)) → (p.frames == 0) ≡ false → p.frames ≡ min n (2 ^ 64 - 1) → PutsLater put p n given
later_put put p n [] later number = sym (ap (λ (xs : List (List Bool)). put_lines put (n + 3) (map bit_line xs)) (both p.risen))
  where
    both : (b : Bool) → let none : List (List Bool) = [] in (if b then none else none) ≡ none
    both true = refl
    both false = refl
later_put put p n (bits ∷ more) later number = one_later put p n bits more later number (λ q m l e. later_put put q m more l e) p.risen refl

-- since the circuit was fresh
pub all_put : (put : ℕ → List ℕ → List ℕ) (c : Circuit) (k : ℕ) (state begins : List Bool) (given : List (List Bool)) → frames_put put (fresh c k state begins) given ≡ put_lines put 0 (restored_frame_lines c k given)
all_put put c k state begins [] = refl
all_put put c k state begins (bits ∷ more) =
    let first : Play = fresh c k state begins in
    let p : Play = begun first bits in
    let own : List Bool = own_frame first bits in
    let next : Play = played p own in
    let opening : List (List ℕ) = lines_of_beginning p in
    append_assoc (put_lines put 0 opening) (put 3 (bit_line own)) (frames_put put next more)
    ∙ ap (λ (t : List ℕ). put_lines put 0 opening ++ (put 3 (bit_line own) ++ t))
    (later_put put next 1 more refl refl
    ∙ ap (λ (held : Bool). put_lines put 4 (map bit_line (if next.risen then [] else cut_inputs c k held next.state (own_inputs c more)))) (met_more c 0 first.breach (frame_of c p.state own)))
    ∙ sym (put_more put 0 opening (map bit_line (written_frames c k (bits ∷ more))))

-- ---- a frame more

module _ {K : Type 0} (put : ℕ → List ℕ → List ℕ) (written : K → Option (List ℕ)) (failures : K → ℕ) (start s : K) (from pen : Pen) (first : Play) (given : List (List Bool)) (bits : List Bool) (p : Play) (h : HasTaken put written failures start s from pen first given p) where
  abbrev Takes : K → Pen → Play → Type 0
  Takes t q r = HasTaken put written failures start t from q first (given ++ bits ∷ []) r

  more_text : frames_put put first (given ++ bits ∷ []) ≡ frames_put put first given ++ frame_put put p bits
  more_text = frames_put_more put first given bits ∙ ap (λ (q : Play). frames_put put first given ++ frame_put put q bits) (sym h.play)

  -- where this is put for it
  takes : (t : K) (q : Pen) (r : Play) (text : List ℕ) → r ≡ took p bits → text ≡ frame_put put p bits → WritesText written failures s t pen q text → Takes t q r
  takes t q r text is same writes = record {
    play = is ∙ ap (λ (x : Play). took x bits) h.play ∙ taken_more first given bits;
    writes = subst (WritesText written failures start t from q) (ap (λ (x : List ℕ). frames_put put first given ++ x) same ∙ sym more_text) (writes_then h.writes writes);
  }

  pub takes_risen : p.risen ≡ true → Takes s pen p
  takes_risen risen = takes s pen p [] (sym (took_risen p bits risen)) (sym (put_risen put p bits risen)) writes_none

  pub takes_later : (t : K) (q : Pen) (r : Play) → p.risen ≡ false → (p.frames == 0) ≡ false → r ≡ played p (own_frame p bits) → WritesText written failures s t pen q (put (lines_before p) (bit_line (own_frame p bits))) → Takes t q r
  takes_later t q r going later is writes = takes t q r (put (lines_before p) (bit_line (own_frame p bits))) (is ∙ sym (took_later p bits going later)) (sym (put_going put p bits false going later)) writes

  pub takes_first : (t : K) (q : Pen) (r : Play) → p.risen ≡ false → (p.frames == 0) ≡ true → r ≡ played (begun p bits) (own_frame p bits)
      → WritesText written failures s t pen q (put_lines put 0 (lines_of_beginning (begun p bits)) ++ put (lines_before p) (bit_line (own_frame p bits))) → Takes t q r
  takes_first t q r going none is writes =
      takes t q r (put_lines put 0 (lines_of_beginning (begun p bits)) ++ put (lines_before p) (bit_line (own_frame p bits)))
      (is ∙ sym (took_first p bits going none)) (sym (put_going put p bits true going none)) writes
