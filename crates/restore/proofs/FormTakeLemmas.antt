-- Lines of a witness of an engine form are taken, and what is put for what they are restored to is written.
use Rattle.std.proofs.Common.{◌≡◌, ℕ, ◌+◌, ◌<◌, ◌≤◌, Bool, true, false, List, [], ◌∷◌, ◌++◌, codes, length, All, Option, Some, None, Result, Ok, Err, IfSome, refl, sym, ap, ap₂, subst, ◌∙◌, append_assoc, append-nil, arith, ◌⊎◌}
use Rattle.std.specs.Str.{bytes_eq}
use Rattle.std.specs.Io.KnownBytes.{Appends, prepend_known, Consumes, Keeps, IsAtEnd}
use Rattle.std.proofs.KnownBytes.{Appends-nil, Consumes-trans, Consumes-kept, Consumes-whole}
use Rattle.base.specs.declared.pen.Pen.{Pen}
use Rattle.base.specs.Device.{AppendsBeginning}
use Rattle.base.specs.Lines.{IsLine}
use Rattle.base.specs.Writing.{WritesText}
use Rattle.base.proofs.DeviceLemmas.{beginning_longer}
use Rattle.base.proofs.PenLemmas.{writes_then, writes_none}
use Rattle.aiger.specs.Circuit.{Circuit}
use Rattle.engine_form.specs.EngineForm.{IsEngineFormOf, input_count}
use Rattle.witness.specs.BitAdmits.{BitPlace, BitRead, admitted_lines, is_done}
use Rattle.witness.specs.declared.bit_lines.BitLines.{BitLines}
use Rattle.witness.specs.BitStands.{StandsForBitLines}
use Rattle.restore.specs.declared.fault.RestoreFault.{RestoreFault}
use Rattle.restore.specs.declared.told.Restored.{Restored}
use Rattle.restore.specs.Answers.{CountsRestore, form_lines_put}
use Rattle.restore.specs.FormSteps.{read_of, IsClaimed, read_put, FormHolds, ReadsClaim, TellsRead, ReadsForm}
use Rattle.restore.specs.FormWitness.{property_of, restored_frame_lines, last_line, read_restored_lines}
use Rattle.restore.specs.Plays.{Play, IsFresh, play_told, taken}
use Rattle.restore.specs.Putting.{put_lines, frames_put, end_put, HasTaken}
use Rattle.restore.specs.Reading.{line_bits}
use Rattle.restore.proofs.FormBeginLemmas.{done_has_frames, restored_begins}
use Rattle.restore.proofs.FormHeadLemmas.{IsAdmitted, passed, added}
use Rattle.restore.proofs.FormLineLemmas.{Same, More, read_more, same_read, initial_line, end_line, frame_line}
use Rattle.restore.proofs.FormWitnessLemmas.{wide_read}
use Rattle.restore.proofs.TakenLemmas.{put_more}
use Rattle.restore.proofs.ToldLemmas.{end_lines}
use Rattle.base.proofs.TakingLemmas.{part_given}

-- ---- one line

module _ {K : Type 0} (put : ℕ → List ℕ → List ℕ) (written : K → Option (List ℕ)) (failures : K → ℕ) (start s : K) (from pen : Pen) (d : Circuit) (judge judge' : BitLines) (first p : Play) (j : ℕ) (text line : List ℕ) (is_line : IsLine line) (h : FormHolds put written failures start s from pen d judge first p j text)
    (stands : StandsForBitLines d judge' (text ++ (line ++ 10 ∷ []))) where
  abbrev more : List ℕ
  more = text ++ (line ++ 10 ∷ [])

  abbrev r : BitRead
  r = read_of d text

  cases : Same d text more ⊎ More d text line more
  cases = read_more d text line h.at.1 is_line

  abbrev Holds : K → Pen → Play → Type 0
  Holds t q p' = FormHolds put written failures start t from q d judge' first p' j more

  -- not admitted
  pub goes_same : IsAdmitted d text line false → Holds s pen p
  goes_same is =
      let s' = passed d text line is cases in
      let count = s'.count in
      let many = h.many in
      record {
        at = stands;
        many = omega (arith, count, many);
        claim = ap (λ (x : BitRead). x.claim) s'.read ∙ h.claim;
        play = h.play ∙ ap (λ (x : BitRead). taken first x.frames) (sym s'.read);
        writes = subst (λ (x : BitRead). WritesText written failures start s from pen (read_put put first x)) (sym s'.read) h.writes;
      }

  longer : More d text line more → 2 ≤ admitted_lines d more
  longer m = let count = m.count in let many = h.many in omega (arith, count, many)

  -- the initial bits
  pub goes_initial : IsAdmitted d text line true → admitted_lines d text ≡ 2 → Holds s pen p
  goes_initial is two =
      let m = added d text line is cases in
      let i = initial_line d r (read_of d more) line (admitted_lines d text) r.place two m.placed m.reads in
      record {
        at = stands;
        many = longer m;
        claim = ap (λ (x : BitRead). x.claim) i.1.0 ∙ h.claim;
        play = h.play ∙ ap (λ (x : BitRead). taken first x.frames) (sym i.1.0);
        writes = subst (WritesText written failures start s from pen) (ap (λ (place : BitPlace). frames_put put first r.frames ++ end_put put (taken first r.frames) (is_done place)) i.1.1 ∙ ap (read_put put first) (sym i.1.0)) h.writes;
      }

  many_of : (admitted_lines d text ≡ 2 → ⊥) → 3 ≤ admitted_lines d text
  many_of other = let many = h.many in omega (arith, many, other)

  -- while the last line is not read
  going_put : is_done r.place ≡ false → read_put put first r ≡ frames_put put first r.frames
  going_put going = ap (λ (b : Bool). frames_put put first r.frames ++ end_put put (taken first r.frames) b) going ∙ append-nil (frames_put put first r.frames)

  -- the last line
  pub goes_end : (t : K) (q : Pen) → IsAdmitted d text line true → (admitted_lines d text ≡ 2 → ⊥) → bytes_eq line (codes ".") ≡ true → WritesText written failures s t pen q (end_put put p true) → Holds t q p
  goes_end t q is other end puts =
      let m = added d text line is cases in
      let e = end_line d r (read_of d more) line (admitted_lines d text) r.place (many_of other) end m.placed m.reads in
      record {
        at = stands;
        many = longer m;
        claim = ap (λ (x : BitRead). x.claim) e.0 ∙ h.claim;
        play = h.play ∙ ap (λ (x : BitRead). taken first x.frames) (sym e.0);
        writes = subst (WritesText written failures start t from q)
            (ap (λ (x : List ℕ). x ++ end_put put p true) (going_put e.1) ∙ ap (λ (x : Play). frames_put put first r.frames ++ end_put put x true) h.play ∙ ap (read_put put first) (sym e.0))
            (writes_then h.writes puts);
      }

  abbrev Takes : K → Pen → Play → Type 0
  Takes t q p' = (given : List (List Bool)) → HasTaken put written failures start s from pen first given p → HasTaken put written failures start t from q first (given ++ line_bits line ∷ []) p'

  -- a frame
  pub goes_frame : (t : K) (q : Pen) (p' : Play) → IsAdmitted d text line true → (admitted_lines d text ≡ 2 → ⊥) → bytes_eq line (codes ".") ≡ false → (length line ≡ d.inputs → Takes t q p') → Holds t q p'
  goes_frame t q p' is other end takes =
      let m = added d text line is cases in
      let f = frame_line d r (read_of d more) line (admitted_lines d text) r.place (many_of other) end m.placed m.reads in
      let now = takes f.0.many r.frames (record { play = h.play; writes = subst (WritesText written failures start s from pen) (going_put f.1) h.writes }) in
      record {
        at = stands;
        many = longer m;
        claim = ap (λ (x : BitRead). x.claim) f.0.says ∙ h.claim;
        play = now.play ∙ ap (λ (x : BitRead). taken first x.frames) (sym f.0.says);
        writes = subst (WritesText written failures start t from q) (sym (append-nil (frames_put put first (r.frames ++ line_bits line ∷ []))) ∙ ap (read_put put first) (sym f.0.says)) now.writes;
      }

-- ---- lines of a source

abbrev pub FormGiven : {K : Type 0} → (ℕ → List ℕ → List ℕ) → (K → Option (List ℕ)) → (K → ℕ) → ℕ → Option (List ℕ) → Option (List ℕ) → K → K → Pen → Pen → BitLines → BitLines → Play → Play → Type 0
FormGiven {K} put written failures width known now s t pen q judge judge' p p' =
    (start : K) (from : Pen) (d : Circuit) (first : Play) (j : ℕ) (whole : Option (List ℕ)) (front : List ℕ) → d.inputs ≡ width → Consumes whole known front → FormHolds put written failures start s from pen d judge first p j front
    → (longer : List ℕ) × (Consumes whole now longer × FormHolds put written failures start t from q d judge' first p' j longer)

module _ {K : Type 0} (put : ℕ → List ℕ → List ℕ) (written : K → Option (List ℕ)) (failures : K → ℕ) (width : ℕ) where
  pub form_nothing : (known : Option (List ℕ)) (s : K) (pen : Pen) (judge : BitLines) (p : Play) → FormGiven put written failures width known known s s pen pen judge judge p p
  form_nothing known s pen judge p start from d first j whole front wide consumes h = (front, (consumes, h))

  module _ (known now after : Option (List ℕ)) (s t : K) (pen q : Pen) (j1 j2 : BitLines) (p1 p2 : Play) (g : FormGiven put written failures width known now s t pen q j1 j2 p1 p2) where
    pub form_more : (u : K) (q' : Pen) (j3 : BitLines) (p3 : Play) (line : List ℕ) → Consumes now after (line ++ 10 ∷ [])
        → ((start : K) (from : Pen) (d : Circuit) (first : Play) (j : ℕ) (text : List ℕ) → d.inputs ≡ width → FormHolds put written failures start t from q d j2 first p2 j text → FormHolds put written failures start u from q' d j3 first p3 j (text ++ (line ++ 10 ∷ [])))
        → FormGiven put written failures width known after s u pen q' j1 j3 p1 p3
    form_more u q' j3 p3 line moved takes start from d first j whole front wide consumes h =
        let one = g start from d first j whole front wide consumes h in
        (one.0 ++ (line ++ 10 ∷ []), (Consumes-trans whole now after one.0 (line ++ 10 ∷ []) one.1.0 moved, takes start from d first j one.0 wide one.1.1))

    -- nothing more is taken
    pub form_kept : Keeps now after → FormGiven put written failures width known after s t pen q j1 j2 p1 p2
    form_kept keeps start from d first j whole front wide consumes h =
        let one = g start from d first j whole front wide consumes h in
        (one.0, (Consumes-kept whole now after one.0 one.1.0 keeps, one.1.1))

-- ---- all of them

pub prepended : (a b : Option (List ℕ)) (front rest : List ℕ) → Consumes a (prepend_known rest b) front → Consumes a b (front ++ rest)
prepended None b front rest h = tt
prepended (Some xs) None front rest h = absurd h
prepended (Some xs) (Some ys) front rest h = h ∙ sym (append_assoc front rest ys)

module _ {K : Type 0} (put : ℕ → List ℕ → List ℕ) (written : K → Option (List ℕ)) (failures : K → ℕ) (start s : K) (from pen : Pen) (c : Circuit) (choice : Option ℕ) (d : Circuit) (judge : BitLines) (first p : Play) (j k : ℕ) (text : List ℕ) (kept : from.outbox ≡ []) (well : from.answer ≡ Ok tt) (form : IsEngineFormOf c choice d)
    (is_fresh : IsFresh c k first) (below : k < length c.bads) (is : property_of choice j ≡ k) (h : FormHolds put written failures start s from pen d judge first p j text) where
  abbrev read : BitRead
  read = read_of d text

  property : property_of choice read.claim ≡ k
  property = ap (property_of choice) h.claim ∙ is

  -- what was put is what is put for what the lines are restored to
  pub lines_read : read_put put first read ≡ put_lines put 0 (read_restored_lines c choice read)
  lines_read = by read.frames refl (is_done read.place) refl
    where
      by : (frames : List (List Bool)) → read.frames ≡ frames → (b : Bool) → is_done read.place ≡ b → read_put put first read ≡ put_lines put 0 (read_restored_lines c choice read)
      by [] none true done = absurd (done_has_frames d text form.circuit done none)
      by [] none false going =
          ap₂ (λ (fs : List (List Bool)) (b : Bool). frames_put put first fs ++ end_put put (taken first fs) b) none going
          ∙ sym (ap₂ (λ (fs : List (List Bool)) (b : Bool). put_lines put 0 (restored_frame_lines c (property_of choice read.claim) fs ++ last_line b)) none going)
      by (bits ∷ more) some b at =
          ap₂ (λ (fs : List (List Bool)) (b : Bool). frames_put put first fs ++ end_put put (taken first fs) b) some at
          ∙ end_lines put c k first bits more form.original below (subst (λ (fs : List (List Bool)). All (λ bits. length bits ≡ input_count c) fs) some (wide_read c choice d text form)) is_fresh b
          ∙ ap (λ (n : ℕ). put_lines put 0 (restored_frame_lines c n (bits ∷ more) ++ last_line b)) (sym property)
          ∙ sym (ap₂ (λ (fs : List (List Bool)) (b : Bool). put_lines put 0 (restored_frame_lines c (property_of choice read.claim) fs ++ last_line b)) some at)

  tells : TellsRead c (property_of choice read.claim) read.frames (play_told p)
  tells = by read.frames refl
    where
      by : (frames : List (List Bool)) → read.frames ≡ frames → TellsRead c (property_of choice read.claim) read.frames (play_told p)
      by [] none = subst (λ (fs : List (List Bool)). TellsRead c (property_of choice read.claim) fs (play_told p)) (sym none) (ap (λ (q : Play). (play_told q).first) (h.play ∙ ap (taken first) none ∙ is_fresh))
      by (bits ∷ more) some =
          subst (λ (fs : List (List Bool)). TellsRead c (property_of choice read.claim) fs (play_told p)) (sym some)
          (subst (λ (n : ℕ). TellsRead c n (bits ∷ more) (play_told p)) (sym property) (first, (is_fresh, (below, ap play_told (h.play ∙ ap (taken first) some)))))

  -- with bytes behind that end no line
  pub form_ends : (t : K) (whole known : Option (List ℕ)) (rest : List ℕ) → Consumes whole (prepend_known rest known) text → IsAtEnd known → IsLine rest → Appends (written start) (written t) (read_put put first read)
      → IfSome whole (ReadsForm (Ok (play_told p)) put c choice d judge rest (written start) (written t))
  form_ends t whole known rest consumes end line appends =
      let same = same_read d text rest line in
      Consumes-whole whole known (text ++ rest) (ReadsForm (Ok (play_told p)) put c choice d judge rest (written start) (written t)) (prepended whole known text rest consumes) end (
        text,
        (
          refl,
          (
            h.at,
            (
              subst (λ (x : BitRead). TellsRead c (property_of choice x.claim) x.frames (play_told p)) (sym same) tells,
              subst (Appends (written start) (written t)) (lines_read ∙ ap (λ (x : BitRead). put_lines put 0 (read_restored_lines c choice x)) (sym same)) appends,
            ),
          ),
        ),
      )

  -- at a fault
  pub form_begun : (e : RestoreFault) (new : Option (List ℕ)) (whole known : Option (List ℕ)) (rest : List ℕ) → Consumes whole known text → AppendsBeginning (written start) new (read_put put first read) → IfSome whole (ReadsForm (Err e) put c choice d judge rest (written start) new)
  form_begun e new whole known rest consumes begun =
      part_given whole known text (ReadsForm (Err e) put c choice d judge rest (written start) new) consumes
      (λ more.
      let lines = restored_begins c choice d text more form.circuit in
      subst (AppendsBeginning (written start) new) (sym (put_more put 0 (read_restored_lines c choice read) lines.0) ∙ ap (put_lines put 0) lines.1)
      (beginning_longer (written start) new (put_lines put 0 (read_restored_lines c choice read)) (put_lines put (0 + length (read_restored_lines c choice read)) lines.0) (subst (AppendsBeginning (written start) new) lines_read begun)))

-- right behind the claim
pub form_claimed : {K : Type 0} {put : ℕ → List ℕ → List ℕ} {written : K → Option (List ℕ)} {failures : K → ℕ} {s : K} {pen : Pen} {d : Circuit} {judge : BitLines} {first : Play} {j : ℕ} {front : List ℕ} → IsClaimed d judge front j → FormHolds put written failures s s pen pen d judge first first j front
form_claimed {put = put} {written = written} {failures = failures} {s = s} {pen = pen} {d = d} {judge = judge} {first = first} {j = j} {front = front} h =
    let many = h.many in
    record {
      at = h.at;
      many = omega (arith, many);
      claim = h.claim;
      play = sym (ap (taken first) h.no_frame);
      writes = subst (WritesText written failures s s pen pen) (sym (ap₂ (λ (fs : List (List Bool)) (b : Bool). frames_put put first fs ++ end_put put (taken first fs) b) h.no_frame h.not_done)) writes_none;
    }

-- a failure that is counted behind others
pub counted_behind : {J : Type 0} (r : Result J RestoreFault) (old mid new put put' : ℕ) → mid ≡ old → CountsRestore r mid new put put' → CountsRestore r old new put put'
counted_behind r old mid new put put' same counted = subst (λ (n : ℕ). CountsRestore r n new put put') same counted

-- no claim was made, so that nothing is restored
pub none_claimed : (put : ℕ → List ℕ → List ℕ) (c : Circuit) (choice : Option ℕ) (d : Circuit) (judge : BitLines) (rest : List ℕ) (source known old : Option (List ℕ)) (told : Restored) → told.first ≡ None → ReadsClaim (Ok None) d source (prepend_known rest known) judge → IsAtEnd known → IsLine rest
    → IfSome source (ReadsForm (Ok told) put c choice d judge rest old old)
none_claimed put c choice d judge rest source known old told none reads end line =
    let front : List ℕ = reads.0 in
    let head = reads.1.1 in
    let same = same_read d front rest line in
    let nothing : form_lines_put put c choice d (front ++ rest) ≡ [] =
    ap (λ (x : BitRead). put_lines put 0 (read_restored_lines c choice x)) same
    ∙ ap₂ (λ (fs : List (List Bool)) (b : Bool). put_lines put 0 (restored_frame_lines c (property_of choice (read_of d front).claim) fs ++ last_line b)) head.no_frame head.not_done in
    Consumes-whole source known (front ++ rest) (ReadsForm (Ok told) put c choice d judge rest old old) (prepended source known front rest reads.1.0) end (
      front,
      (
        refl,
        (
          head.at,
          (
            subst (λ (fs : List (List Bool)). TellsRead c (property_of choice (read_of d (front ++ rest)).claim) fs told) (sym (ap (λ (x : BitRead). x.frames) same ∙ head.no_frame)) none,
            subst (Appends old old) (sym nothing) (Appends-nil old),
          ),
        ),
      ),
    )
