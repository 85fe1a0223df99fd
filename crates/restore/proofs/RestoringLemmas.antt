-- A counterexample is read to its end, and what it is restored to is put and written.
use Rattle.std.proofs.Common.{◌≡◌, ◌≢◌, ℕ, ◌+◌, ◌-◌, ◌<◌, min, Bool, true, false, List, [], ◌∷◌, ◌++◌, length, map, All, Option, None, Some, is_none, Result, Ok, Err, IfSome, IfErr, OnOk, IsOk, ◌⊎◌, inl, inr, refl, sym, ap, ap₂, subst, ◌∙◌, append_assoc, append-nil}
use Rattle.std.specs.Io.KnownBytes.{Appends, prepend_known}
use Rattle.std.proofs.KnownBytes.{Appends-nil}
use Rattle.base.specs.declared.pen.Pen.{Pen}
use Rattle.base.specs.Device.{HasRisen, AppendsBeginning}
use Rattle.base.specs.Lines.{text_of_lines, all_lines, whole_lines}
use Rattle.base.proofs.DeviceLemmas.{beginning_longer}
use Rattle.aiger.specs.Circuit.{Circuit, IsCircuit}
use Rattle.engine_form.specs.EngineForm.{input_count}
use Rattle.witness.specs.Texts.{most_lines}
use Rattle.witness.specs.BitAdmits.{admitted_lines}
use Rattle.witness.specs.BitJudgements.{BitJudges}
use Rattle.witness.specs.BitTexts.{bit_line}
use Rattle.restore.specs.declared.fault.RestoreFault.{RestoreFault}
use Rattle.restore.specs.declared.fault.RestoreWhy.{RestoreWhy}
use Rattle.restore.specs.declared.fault.RestoreWhy.TheVariants as why
use Rattle.restore.specs.declared.place.Place.{Place}
use Rattle.restore.specs.declared.place.Place.TheVariants as place
use Rattle.restore.specs.Accepted.{IsFirstRise}
use Rattle.restore.specs.Answers.{CountsRestoreWhy, lines_put, IsRestored, IsRestoredBut, Restores}
use Rattle.restore.specs.Faults.{is_of_text}
use Rattle.restore.specs.FormWitness.{restored_frame_lines, last_line}
use Rattle.restore.specs.Plays.{Play, IsFresh, fresh, play_judgement, play_told, taken}
use Rattle.restore.specs.Putting.{put_lines, as_it_is, frames_put, end_put, HasTaken, TakesAllBut, TakesAll}
use Rattle.restore.specs.Reading.{before_mark, Found, whole, faulty, read_before, read_found}
use Rattle.restore.specs.Restored.{opening, written_frames, closing, restored_lines, restored_text}
use Rattle.restore.specs.Steps.{FramesReader, read_at, frames_to_come, AgreeAsGiven, IsUnread, IsTextFault, GivesFound, LosesNothing, StepsOn}
use Rattle.restore.proofs.FormBeginLemmas.{lines_begin}
use Rattle.base.proofs.PenLemmas.{begins}
use Rattle.restore.proofs.LinesReadLemmas.{whole as lines_whole, text_goes, nothing_admitted}
use Rattle.restore.proofs.ReadingLemmas.{read, wide_found}
use Rattle.restore.proofs.TakenLemmas.{put_more, put_as_they_are, all_put}
use Rattle.restore.proofs.ToldLemmas.{end_lines, judged_whole, first_told}

-- ---- faults

unread_kind : (e : RestoreFault) → IsUnread e → (is_of_text e.why ≡ false) × (e.line ≡ 0)
unread_kind e (inl is) = (ap (λ (f : RestoreFault). is_of_text f.why) is, ap (λ (f : RestoreFault). f.line) is)
unread_kind e (inr is) = (ap (λ (f : RestoreFault). is_of_text f.why) is, ap (λ (f : RestoreFault). f.line) is)

of_text : (w : RestoreWhy) → w ≢ why.Device → w ≢ why.NoMemory → w ≢ why.Write → is_of_text w ≡ true
of_text why.NoFrame d m w = refl
of_text why.InitialOne d m w = refl
of_text why.NoBit d m w = refl
of_text why.WrongLength d m w = refl
of_text why.NoMemory d m w = absurd (m refl)
of_text why.Device d m w = absurd (d refl)
of_text why.Write d m w = absurd (w refl)

text_kind : (e : RestoreFault) → IsTextFault e → is_of_text e.why ≡ true
text_kind e h = of_text e.why h.0 h.1.0 h.1.1

pub told_line : {A B : Type 0} (e : RestoreFault) → (IsUnread e × A) ⊎ (IsTextFault e × B) → is_of_text e.why ≡ false → e.line ≡ 0
told_line e (inl h) apart = (unread_kind e h.0).1
told_line e (inr h) apart = absurd (let is = text_kind e h.0 in cc)

-- ---- what is counted

counts_why : (w : RestoreWhy) (read read' written : ℕ) → w ≢ why.Write → (w ≡ why.Device → HasRisen read read') → (w ≢ why.Device → read' ≡ read) → CountsRestoreWhy w read read' written written
counts_why why.NoFrame read read' written put risen same = (same (λ d. absurd (cc)), refl)
counts_why why.InitialOne read read' written put risen same = (same (λ d. absurd (cc)), refl)
counts_why why.NoBit read read' written put risen same = (same (λ d. absurd (cc)), refl)
counts_why why.WrongLength read read' written put risen same = (same (λ d. absurd (cc)), refl)
counts_why why.NoMemory read read' written put risen same = (same (λ d. absurd (cc)), refl)
counts_why why.Device read read' written put risen same = (risen refl, refl)
counts_why why.Write read read' written put risen same = absurd (put refl)

pub counts_told : {A B : Type 0} (e : RestoreFault) (read read' written : ℕ) → (IsUnread e × A) ⊎ (IsTextFault e × B) → (e.why ≡ why.Device → HasRisen read read') → (e.why ≢ why.Device → read' ≡ read) → CountsRestoreWhy e.why read read' written written
counts_told e read read' written (inl (inl is, h)) risen same = counts_why e.why read read' written (λ w. let d : why.Device ≡ why.Write = sym (ap (λ (f : RestoreFault). f.why) is) ∙ w in absurd (cc)) risen same
counts_told e read read' written (inl (inr is, h)) risen same = counts_why e.why read read' written (λ w. let d : why.NoMemory ≡ why.Write = sym (ap (λ (f : RestoreFault). f.why) is) ∙ w in absurd (cc)) risen same
counts_told e read read' written (inr h) risen same = counts_why e.why read read' written h.0.1.1 risen same

-- ---- frames that are found

abbrev behind_frames : List (List Bool) → Found → Found
behind_frames given found = record { frames = given ++ found.frames; fault = found.fault }

-- these frames were found, and taken
pub record Frames {K : Type 0} (put : ℕ → List ℕ → List ℕ) (written : K → Option (List ℕ)) (failures : K → ℕ) (source known : Option (List ℕ)) (s t : K) (pen now : Pen) (reader r : FramesReader) (p q : Play) : Type 0 where
  pub given : List (List Bool)
  pub found : AgreeAsGiven (frames_to_come reader) (λ rest. behind_frames given (frames_to_come r rest)) source known
  pub taken : (start : K) (from : Pen) (first : Play) → HasTaken put written failures start s from pen first [] p → HasTaken put written failures start t from now first given q

reader_failed : (r : FramesReader) (text : List ℕ) (e : RestoreFault) → r.place ≡ place.Failed e → frames_to_come r text ≡ faulty [] e
reader_failed r text e failed = ap (λ (at : Place). read_at at (length r.frame) (all_lines (before_mark text))) failed

failed_gives : (l q : FramesReader) (y : List ℕ) (d : Option (List ℕ)) (e : RestoreFault) → q.place ≡ place.Failed e → LosesNothing l q (Some y) d → frames_to_come l y ≡ faulty [] e
failed_gives l q y None e failed (inl same) = absurd same
failed_gives l q y (Some z) e failed (inl same) = same ∙ reader_failed q z e failed
failed_gives l q y d e failed (inr closed) = closed.1 ∙ reader_failed q [] e failed

module _ {K : Type 0} (put : ℕ → List ℕ → List ℕ) (written : K → Option (List ℕ)) (failures : K → ℕ) where
  pub frames_nothing : (source : Option (List ℕ)) (s : K) (pen : Pen) (reader : FramesReader) (p : Play) → reader.rest ≡ [] → Frames put written failures source (prepend_known reader.rest source) s s pen pen reader reader p p
  frames_nothing source s pen reader p unread = record { given = []; found = subst (λ (rest : List ℕ). AgreeAsGiven (frames_to_come reader) (λ rest. behind_frames [] (frames_to_come reader rest)) source (prepend_known rest source)) (sym unread) (by source); taken = λ start from first h. h }
    where
      by : (a : Option (List ℕ)) → AgreeAsGiven (frames_to_come reader) (λ rest. behind_frames [] (frames_to_come reader rest)) a (prepend_known [] a)
      by None = tt
      by (Some text) = refl

  module _ (source known known' : Option (List ℕ)) (s t : K) (pen now : Pen) (reader r mid : FramesReader) (p q : Play) (h : Frames put written failures source known s t pen now reader r p q) where
    pub frames_more : (t' : K) (now' : Pen) (q' : Play) (bits : List Bool) → bits ≡ mid.frame → StepsOn (Ok true) r mid known known'
        → ((start : K) (from : Pen) (first : Play) (given : List (List Bool)) → HasTaken put written failures start t from now first given q → HasTaken put written failures start t' from now' first (given ++ bits ∷ []) q')
        → Frames put written failures source known' s t' pen now' reader mid p q'
    frames_more t' now' q' bits is steps takes = record {
      given = h.given ++ bits ∷ [];
      found = by source known known' h.found steps;
      taken = λ start from first b. takes start from first h.given (h.taken start from first b);
    }
      where
        by : (a k k' : Option (List ℕ)) → AgreeAsGiven (frames_to_come reader) (λ rest. behind_frames h.given (frames_to_come r rest)) a k → StepsOn (Ok true) r mid k k'
            → AgreeAsGiven (frames_to_come reader) (λ rest. behind_frames (h.given ++ bits ∷ []) (frames_to_come mid rest)) a k'
        by None k k' so step = tt
        by (Some x) None k' so step = absurd so
        by (Some x) (Some y) None so step = absurd step
        by (Some x) (Some y) (Some z) so step =
            so ∙ ap (behind_frames h.given) step ∙ ap (λ (f : List Bool). behind_frames h.given (read_before f (frames_to_come mid z))) (sym is)
            ∙ ap (λ (fs : List (List Bool)). record { frames = fs; fault = (frames_to_come mid z).fault }) (sym (append_assoc h.given (bits ∷ []) (frames_to_come mid z).frames))

    abbrev Tells : Result (Unit {0}) RestoreFault → Type 0
    Tells told = IfSome source (λ text. (start : K) (from : Pen) (first : Play) → HasTaken put written failures start s from pen first [] p → TakesAll told put written failures start t from now first q (frames_to_come reader text))

    abbrev TakenUpTo : List (List Bool) → Type 0
    TakenUpTo frames = (start : K) (from : Pen) (first : Play) → HasTaken put written failures start s from pen first [] p → HasTaken put written failures start t from now first frames q

    -- all frames of a text were, of which this is found
    all_found : (x y : List ℕ) (fault : Option RestoreFault) → frames_to_come reader x ≡ behind_frames h.given (frames_to_come r y) → frames_to_come r y ≡ record { frames = []; fault = fault }
        → ((frames_to_come reader x).fault ≡ fault) × TakenUpTo (frames_to_come reader x).frames
    all_found x y fault so is =
        let e : frames_to_come reader x ≡ behind_frames h.given (record { frames = []; fault = fault }) = so ∙ ap (behind_frames h.given) is in (
          ap (λ (f : Found). f.fault) e,
          λ start from first b. subst (λ (fs : List (List Bool)). HasTaken put written failures start t from now first fs q) (sym (ap (λ (f : Found). f.frames) e ∙ append-nil h.given)) (h.taken start from first b),
        )

    pub frames_all : StepsOn (Ok false) r mid known known' → Tells (Ok tt)
    frames_all steps = by source known h.found steps.1
      where
        by : (a k : Option (List ℕ)) → AgreeAsGiven (frames_to_come reader) (λ rest. behind_frames h.given (frames_to_come r rest)) a k → GivesFound r k (whole [])
            → IfSome a (λ text. (start : K) (from : Pen) (first : Play) → HasTaken put written failures start s from pen first [] p → TakesAll (Ok tt) put written failures start t from now first q (frames_to_come reader text))
        by None k so gives = tt
        by (Some x) None so gives = absurd so
        by (Some x) (Some y) so gives = λ start from first b. let all = all_found x y None so gives in (all.0, all.1 start from first b)

    -- some were
    some_found : (e : RestoreFault) → is_of_text e.why ≡ false → Tells (Err e)
    some_found e apart = by source known h.found
      where
        by : (a k : Option (List ℕ)) → AgreeAsGiven (frames_to_come reader) (λ rest. behind_frames h.given (frames_to_come r rest)) a k
            → IfSome a (λ text. (start : K) (from : Pen) (first : Play) → HasTaken put written failures start s from pen first [] p → TakesAll (Err e) put written failures start t from now first q (frames_to_come reader text))
        by None k so = tt
        by (Some x) None so = absurd so
        by (Some x) (Some y) so = λ start from first b.
            subst (λ (t' : Bool). TakesAllBut t' e put written failures start t from now first q (frames_to_come reader x)) (sym apart)
            (h.given, (((frames_to_come r y).frames, sym (ap (λ (f : Found). f.frames) so)), h.taken start from first b))

    pub frames_unwritten : (e : RestoreFault) → e ≡ record { line = 0; why = why.Write } → Tells (Err e)
    frames_unwritten e is = some_found e (ap (λ (f : RestoreFault). is_of_text f.why) is)

    pub frames_failed : (e : RestoreFault) → StepsOn (Err e) r mid known known' → Tells (Err e)
    frames_failed e (inl unread, loses) = some_found e (unread_kind e unread).0
    frames_failed e (inr failed, loses) = by source known h.found loses
      where
        by : (a k : Option (List ℕ)) → AgreeAsGiven (frames_to_come reader) (λ rest. behind_frames h.given (frames_to_come r rest)) a k → LosesNothing r mid k known'
            → IfSome a (λ text. (start : K) (from : Pen) (first : Play) → HasTaken put written failures start s from pen first [] p → TakesAll (Err e) put written failures start t from now first q (frames_to_come reader text))
        by None k so lost = tt
        by (Some x) None so lost = absurd so
        by (Some x) (Some y) so lost = λ start from first b.
            let all = all_found x y (Some e) so (failed_gives r mid y known' e failed.0 lost) in
            subst (λ (t' : Bool). TakesAllBut t' e put written failures start t from now first q (frames_to_come reader x)) (sym (text_kind e failed.1)) (all.0, all.1 start from first b)

-- ---- the end

text_of_found : (c : Circuit) (k : ℕ) (text : List ℕ) → restored_text c k text ≡ text_of_lines (restored_lines c k (read_found (input_count c) text))
unfolding restored_text
text_of_found c k text = refl

closed_lines : (c : Circuit) (k : ℕ) (given : List (List Bool)) (fault : Option RestoreFault) → restored_lines c k (record { frames = given; fault = fault }) ≡ restored_frame_lines c k given ++ closing fault
closed_lines c k given fault = sym (append_assoc (opening c k given) (map bit_line (written_frames c k given)) (closing fault))

module _ {K : Type 0} (put : ℕ → List ℕ → List ℕ) (written : K → Option (List ℕ)) (failures : K → ℕ) (start s : K) (from pen : Pen) (first p : Play) (c : Circuit) (k : ℕ) (text : List ℕ) (kept : from.outbox ≡ []) (well : from.answer ≡ Ok tt) (circuit : IsCircuit c) (below : k < length c.bads) (is_fresh : IsFresh c k first) where
  abbrev found : Found
  found = read_found (input_count c) text

  all_lines_put : (given : List (List Bool)) → frames_put put first given ≡ put_lines put 0 (restored_frame_lines c k given)
  all_lines_put given = ap (λ (q : Play). frames_put put q given) is_fresh ∙ all_put put c k first.state first.begins given

  -- a text with which nothing is wrong
  module _ (right : found.fault ≡ None) (taken_all : HasTaken put written failures start s from pen first found.frames p) where
    is : found ≡ whole found.frames
    is = ap (λ (fault : Option RestoreFault). record { frames = found.frames; fault = fault }) right

    pub all_text : frames_put put first found.frames ++ end_put put p true ≡ lines_put put c k text
    all_text = by found.frames refl
      where
        by : (given : List (List Bool)) → found.frames ≡ given → frames_put put first found.frames ++ end_put put p true ≡ lines_put put c k text
        by [] none = absurd ((read (input_count c) text found.frames is).some_frame none)
        by (bits ∷ more) some =
            ap₂ (λ (t : List ℕ) (q : Play). t ++ end_put put q true) (ap (frames_put put first) some) (taken_all.play ∙ ap (taken first) some)
            ∙ end_lines put c k first bits more circuit below (subst (λ (fs : List (List Bool)). All (λ bits. length bits ≡ input_count c) fs) some (read (input_count c) text found.frames is).frames) is_fresh true
            ∙ ap (put_lines put 0) (sym (closed_lines c k (bits ∷ more) None) ∙ ap (λ (fs : List (List Bool)). restored_lines c k (whole fs)) (sym some) ∙ ap (restored_lines c k) (sym is))

    pub told_all : (new : Option (List ℕ)) → Appends (written start) new (lines_put put c k text) → IsRestored put c k (written start) new text (play_told p)
    told_all new appends = by found.frames refl
      where
        by : (given : List (List Bool)) → found.frames ≡ given → IsRestored put c k (written start) new text (play_told p)
        by [] none = absurd ((read (input_count c) text found.frames is).some_frame none)
        by (bits ∷ more) some =
            let wide = subst (λ (fs : List (List Bool)). All (λ bits. length bits ≡ input_count c) fs) some (read (input_count c) text found.frames is).frames in
            let last : p ≡ taken (fresh c k first.state first.begins) (bits ∷ more) = taken_all.play ∙ ap₂ taken is_fresh some in
            let spelled : restored_text c k text ≡ text_of_lines (restored_frame_lines c k (bits ∷ more) ++ last_line true) =
            text_of_found c k text ∙ ap (λ (f : Found). text_of_lines (restored_lines c k f)) (is ∙ ap whole some) ∙ ap text_of_lines (closed_lines c k (bits ∷ more) None) in
            record {
              judged = subst (λ (q : Play). BitJudgesPlay q) (sym last) (judged_whole c k first.state first.begins bits more circuit below wide (restored_text c k text) spelled);
              first = subst (λ (q : Play). RisesPlay q) (sym last) (first_told c k first.state first.begins bits more circuit below wide true (restored_text c k text) spelled);
              right = right;
              written = appends;
            }
          where
            BitJudgesPlay : Play → Type 0
            BitJudgesPlay q = BitJudges c (restored_text c k text) (play_judgement q)

            RisesPlay : Play → Type 0
            RisesPlay q = IsFirstRise c (restored_text c k text) (play_told q).first

  -- at a fault of the text all of its frames were taken
  pub text_taken : (e : RestoreFault) → is_of_text e.why ≡ true → TakesAll (Err e) put written failures start s from pen first p found → (found.fault ≡ Some e) × HasTaken put written failures start s from pen first found.frames p
  text_taken e of takes = subst (λ (b : Bool). TakesAllBut b e put written failures start s from pen first p found) of takes

  -- a faulty one
  pub faulty_text : (e : RestoreFault) → found.fault ≡ Some e → frames_put put first found.frames ≡ lines_put put c k text
  faulty_text e wrong =
      all_lines_put found.frames
      ∙ ap (put_lines put 0) (sym (append-nil (restored_frame_lines c k found.frames)) ∙ sym (closed_lines c k found.frames (Some e)) ∙ ap (λ (fault : Option RestoreFault). restored_lines c k (record { frames = found.frames; fault = fault })) (sym wrong))

  -- a beginning of one
  pub begun_text : (given rest : List (List Bool)) → given ++ rest ≡ found.frames → (new : Option (List ℕ)) → AppendsBeginning (written start) new (frames_put put first given) → AppendsBeginning (written start) new (lines_put put c k text)
  begun_text given rest all new h =
      let more = lines_begin c k given rest in
      let lines : restored_frame_lines c k given ++ (more.0 ++ closing found.fault) ≡ restored_lines c k found =
      sym (append_assoc (restored_frame_lines c k given) more.0 (closing found.fault)) ∙ ap (λ (l : List (List ℕ)). l ++ closing found.fault) (more.1 ∙ ap (restored_frame_lines c k) all) ∙ sym (closed_lines c k found.frames found.fault) in
      subst (AppendsBeginning (written start) new) (sym (put_more put 0 (restored_frame_lines c k given) (more.0 ++ closing found.fault)) ∙ ap (put_lines put 0) lines)
      (beginning_longer (written start) new (put_lines put 0 (restored_frame_lines c k given)) (put_lines put (0 + length (restored_frame_lines c k given)) (more.0 ++ closing found.fault)) (subst (AppendsBeginning (written start) new) (all_lines_put given) h))

  -- what is answered of it
  pub ends_apart : (e : RestoreFault) → is_of_text e.why ≡ false → TakesAll (Err e) put written failures start s from pen first p found → Restores (Err e) put c k (written start) (written s) text
  ends_apart e apart takes =
      let some = subst (λ (b : Bool). TakesAllBut b e put written failures start s from pen first p found) apart takes in
      subst (λ (b : Bool). IsRestoredBut b e put c k (written start) (written s) text) (sym apart) (begun_text some.0 some.1.0.0 some.1.0.1 (written s) (begins well some.1.1.writes kept))

  pub ends_faulty : (e : RestoreFault) (t : K) → is_of_text e.why ≡ true → TakesAll (Err e) put written failures start s from pen first p found → Appends (written start) (written t) (frames_put put first found.frames) → Restores (Err e) put c k (written start) (written t) text
  ends_faulty e t of takes appends =
      let all = text_taken e of takes in
      subst (λ (b : Bool). IsRestoredBut b e put c k (written start) (written t) text) (sym of) (all.0, subst (Appends (written start) (written t)) (faulty_text e all.0) appends)

  pub ends_unwritten : (e : RestoreFault) (t : K) (put_text : List ℕ) → e ≡ record { line = 0; why = why.Write } → put_text ≡ lines_put put c k text → AppendsBeginning (written start) (written t) put_text → Restores (Err e) put c k (written start) (written t) text
  ends_unwritten e t put_text is same h = subst (λ (b : Bool). IsRestoredBut b e put c k (written start) (written t) text) (sym (ap (λ (f : RestoreFault). is_of_text f.why) is)) (subst (AppendsBeginning (written start) (written t)) same h)

pub nothing_written : (known old : Option (List ℕ)) (f : List ℕ → List ℕ) → IfSome known (λ text. AppendsBeginning old old (f text))
nothing_written None old f = tt
nothing_written (Some text) old f = ([], (f text, refl), Appends-nil old)

-- ---- what is told of a whole source

pub told_kept : {J : Type 0} (P : RestoreFault → Type 0) (told : Result (Unit {0}) RestoreFault) (r : Result J RestoreFault) → IfErr told P → P (record { line = 0; why = why.Write }) → IfErr r (λ e. (told ≡ Err e) ⊎ (e ≡ record { line = 0; why = why.Write })) → IfErr r P
told_kept P told (Ok v) of write same = tt
told_kept P told (Err f) of write (inl is) = subst (λ (q : Result (Unit {0}) RestoreFault). IfErr q P) is of
told_kept P told (Err f) of write (inr is) = subst P (sym is) write

pub ok_kept : {J : Type 0} (P : Type 0) (told : Result (Unit {0}) RestoreFault) (r : Result J RestoreFault) → OnOk told P → OnOk r (IsOk told) → OnOk r P
ok_kept P told (Err e) of right = tt
ok_kept P (Ok u) (Ok v) of right = of
ok_kept P (Err e) (Ok v) of right = absurd (let h : false ≡ true = right in cc)

-- a reader at the begin of a text
pub reads_at_start : (c : Circuit) (r : FramesReader) (width : ℕ) (text : List ℕ) → length r.frame ≡ width → width ≡ input_count c → r.place ≡ place.Start → frames_to_come r text ≡ read_found (input_count c) text
reads_at_start c r width text many is start = ap₂ (λ (at : Place) (n : ℕ). read_at at n (all_lines (before_mark text))) start (many ∙ is)

pub as_they_are : (c : Circuit) (k : ℕ) (text : List ℕ) → lines_put as_it_is c k text ≡ restored_text c k text
as_they_are c k text = put_as_they_are 0 (restored_lines c k (read_found (input_count c) text)) ∙ sym (text_of_found c k text)

-- what is told at a fault, by its kind
pub but_of : (source : Option (List ℕ)) (e : RestoreFault) (put : ℕ → List ℕ → List ℕ) (c : Circuit) (k : ℕ) (old new : Option (List ℕ)) (b : Bool) → is_of_text e.why ≡ b → IfSome source (Restores (Err e) put c k old new) → IfSome source (IsRestoredBut b e put c k old new)
but_of source e put c k old new b is all = subst (λ (x : Bool). IfSome source (IsRestoredBut x e put c k old new)) is all

-- ---- how what is restored is read

closing_is : (fault : Option RestoreFault) → closing fault ≡ last_line (is_none fault)
closing_is None = refl
closing_is (Some e) = refl

pub found_admitted : (c : Circuit) (k : ℕ) (text : List ℕ) → IsCircuit c → k < length c.bads
    → (whole_lines (restored_text c k text) ≡ restored_lines c k (read_found (input_count c) text)) × (admitted_lines c (restored_text c k text) ≡ min (length (restored_lines c k (read_found (input_count c) text))) most_lines)
found_admitted c k text circuit below = by found.frames refl
  where
    found : Found
    found = read_found (input_count c) text

    lines_are : (frames : List (List Bool)) → found.frames ≡ frames → restored_lines c k found ≡ restored_frame_lines c k frames ++ last_line (is_none found.fault)
    lines_are frames is = closed_lines c k found.frames found.fault ∙ ap₂ (λ (fs : List (List Bool)) (ls : List (List ℕ)). restored_frame_lines c k fs ++ ls) is (closing_is found.fault)

    by : (frames : List (List Bool)) → found.frames ≡ frames
        → (whole_lines (restored_text c k text) ≡ restored_lines c k found) × (admitted_lines c (restored_text c k text) ≡ min (length (restored_lines c k found)) most_lines)
    by [] none = nothing found.fault refl
      where
        nothing : (fault : Option RestoreFault) → found.fault ≡ fault → (whole_lines (restored_text c k text) ≡ restored_lines c k found) × (admitted_lines c (restored_text c k text) ≡ min (length (restored_lines c k found)) most_lines)
        nothing None right = absurd ((read (input_count c) text found.frames (ap (λ (fault : Option RestoreFault). record { frames = found.frames; fault = fault }) right)).some_frame none)
        nothing (Some e) wrong =
            let lines : restored_lines c k found ≡ [] = lines_are [] none ∙ ap (λ (fault : Option RestoreFault). last_line (is_none fault)) wrong in
            let spelled : restored_text c k text ≡ [] = text_of_found c k text ∙ ap text_of_lines lines in
            (ap whole_lines spelled ∙ sym lines, ap (admitted_lines c) spelled ∙ nothing_admitted c ∙ ap (λ (ls : List (List ℕ)). min (length ls) most_lines) (sym lines))
    by (bits ∷ more) some =
        let lines = lines_are (bits ∷ more) some in
        let spelled : restored_text c k text ≡ text_of_lines (restored_frame_lines c k (bits ∷ more) ++ last_line (is_none found.fault)) = text_of_found c k text ∙ ap text_of_lines lines in
        let wide = subst (λ (fs : List (List Bool)). All (λ bits. length bits ≡ input_count c) fs) some (wide_found (input_count c) text) in (
          lines_whole c k bits more (is_none found.fault) circuit below wide (restored_text c k text) spelled ∙ sym lines,
          (text_goes c k bits more (is_none found.fault) circuit below wide (restored_text c k text) spelled).admitted ∙ ap (λ (ls : List (List ℕ)). min (length ls) most_lines) (sym lines),
        )
