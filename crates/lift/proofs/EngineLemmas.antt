-- What is lifted of counterexamples over engine forms.
use Rattle.std.proofs.Common.{◌≡◌, ◌≤◌, ℕ, zero, suc, ◌-◌, ◌^◌, min, Bool, true, false, List, [], ◌∷◌, ◌++◌, length, map, take, replicate, set, refl, sym, ap, ap₂, subst, ◌∙◌, Option, Some, None, option_map, Ok, Err, IfSome, arith, inl, inr, if◌then◌else◌}
use Rattle.std.specs.Io.KnownBytes.{Appends}
use Rattle.std.proofs.Math.Seq.{take_all}
use Rattle.std.proofs.lemmas.Bool.{cases_lt, lt-ltb, le-ltb}
use Rattle.std.proofs.lemmas.List.Concat.{flat_map-append}
use Rattle.base.specs.Device.{AppendsBeginning}
use Rattle.base.specs.Lines.{text_of_lines, whole_lines}
use Rattle.btor2.specs.declared.item.Item.{Item}
use Rattle.aiger.specs.Circuit.{Circuit}
use Rattle.aiger.specs.Reachability.{circuit_shows}
use Rattle.engine_form.specs.EngineForm.{input_count}
use Rattle.witness.specs.declared.judgement.Judgement.{Judgement}
use Rattle.witness.specs.declared.judgement.Judgement.TheVariants as judgement
use Rattle.witness.specs.Texts.{most_lines}
use Rattle.witness.specs.Judgements.{Judges}
use Rattle.witness.specs.BitAdmits.{admitted_lines}
use Rattle.witness.specs.BitTexts.{BitWitness, BitSays}
use Rattle.witness.specs.BitJudgements.{BitJudges}
use Rattle.witness.specs.Reached.{bits_said_in}
use Rattle.std.proofs.lemmas.Option.{IfSome_then}
use Rattle.rises.specs.FirstRises.{first_rise, bit_first_rises, AreBitFirstRises}
use Rattle.rises.proofs.RiseLemmas.{one_claim, no_claim}
use Rattle.restore.specs.declared.fault.RestoreFault.{RestoreFault}
use Rattle.restore.specs.declared.told.Restored.{Restored}
use Rattle.restore.specs.Accepted.{FindsAgain, IsFirstRise}
use Rattle.restore.specs.Answers.{lines_put, IsRestored, IsRestoredBut, form_lines_put, IsRestoredForm}
use Rattle.restore.specs.Faults.{is_of_text}
use Rattle.restore.specs.FormWitness.{form_restored_text, FormJudges}
use Rattle.restore.specs.Putting.{put_lines}
use Rattle.restore.specs.Reading.{read_found}
use Rattle.restore.specs.Restored.{restored_text}
use Rattle.lift.specs.EngineLifting.{engine_lifted_text, FindsInModel, form_lifted_text, KeepsFormVerdict, FindsWitnessInModel, noted_first, LiftsRestored, LiftsForm}
use Rattle.lift.specs.Lifted.{piece, lifted_lines, lifted_with}
use Rattle.lift.specs.Placed.{put_piece_for}
use Rattle.lift.specs.Verdicts.{KeepsVerdictIn}

-- lifting keeps the verdict, with names or without
abbrev pub Keeps : List Item → Circuit → Bool → Type 0
Keeps items c named = (text : List ℕ) (j : Judgement) → BitJudges c text j → KeepsVerdictIn items c text (lifted_with named items c text) j

pub keeps_either : (items : List Item) (c : Circuit) → Keeps items c false → Keeps items c true → (named : Bool) → Keeps items c named
keeps_either items c plain names false = plain
keeps_either items c plain names true = names

-- where a text says a witness that is accepted, what it is lifted to is accepted over the model
pub found_in_model : (items : List Item) (c : Circuit) (text written : List ℕ) (n : ℕ) (w : BitWitness) → length (whole_lines written) ≤ most_lines → BitSays c text w → KeepsVerdictIn items c text written (judgement.Accepted n) → (j : Judgement) × Judges items written j
    → Judges items written (judgement.Accepted n)
found_in_model items c text written n w lines says keeps one =
    let same : one.0 ≡ judgement.Accepted n = keeps.verdict w one.0 says lines one.1 in
    subst (Judges items written) same one.1

-- ---- what is put for lines is what they are lifted to

none_taken : (n : ℕ) → let none : List (List ℕ) = [] in take n none ≡ none
none_taken zero = refl
none_taken (suc n) = refl

lines_lifted : (named : Bool) (items : List Item) (n : ℕ) (lines : List (List ℕ)) → put_lines (put_piece_for (record { items = items; named = named })) n lines ≡ text_of_lines (lifted_lines named items n (take (most_lines - n) lines))
lines_lifted named items n [] = ap (λ (ls : List (List ℕ)). text_of_lines (lifted_lines named items n ls)) (sym (none_taken (most_lines - n)))
lines_lifted named items n (line ∷ lines) =
    elim (cases_lt n most_lines) [
      | inl room ↦
          let same : min n (2 ^ 64 - 1) ≡ n = omega (arith, room) in
          let some : most_lines - n ≡ suc (most_lines - suc n) = omega (arith, room) in
          let put : put_piece_for (record { items = items; named = named }) (min n (2 ^ 64 - 1)) line ≡ text_of_lines (piece named items n line) =
          ap (λ (m : ℕ). put_piece_for (record { items = items; named = named }) m line) same ∙ ap (λ (b : Bool). if b then text_of_lines (piece named items n line) else []) (lt-ltb n most_lines room) in
          ap₂ (λ (x y : List ℕ). x ++ y) put (lines_lifted named items (suc n) lines)
          ∙ sym (flat_map-append (λ line. line ++ 10 ∷ []) (piece named items n line) (lifted_lines named items (suc n) (take (most_lines - suc n) lines)))
          ∙ ap (λ (m : ℕ). text_of_lines (lifted_lines named items n (take m (line ∷ lines)))) (sym some)
      | inr above ↦
          let none : most_lines - n ≡ 0 = omega (arith, above) in
          let later : most_lines - suc n ≡ 0 = omega (arith, above) in
          let put : put_piece_for (record { items = items; named = named }) (min n (2 ^ 64 - 1)) line ≡ [] =
          ap (λ (b : Bool). if b then text_of_lines (piece named items (min n (2 ^ 64 - 1)) line) else []) (le-ltb (min n (2 ^ 64 - 1)) most_lines (omega (arith, above))) in
          ap₂ (λ (x y : List ℕ). x ++ y) put (lines_lifted named items (suc n) lines ∙ ap (λ (m : ℕ). text_of_lines (lifted_lines named items (suc n) (take m lines))) later)
          ∙ ap (λ (m : ℕ). text_of_lines (lifted_lines named items n (take m (line ∷ lines)))) (sym none)
    ]

as_many : (n : ℕ) (lines : List (List ℕ)) → take (min (length lines) n) lines ≡ take n lines
as_many n lines = elim (cases_lt n (length lines)) [
  | inl more ↦ let e : min (length lines) n ≡ n = omega (arith, more) in ap (λ (m : ℕ). take m lines) e
  | inr few ↦ let e : min (length lines) n ≡ length lines = omega (arith, few) in ap (λ (m : ℕ). take m lines) e ∙ take_all (length lines) lines (omega arith) ∙ sym (take_all n lines (omega (arith, few)))
]

-- of a text of which as many lines are admitted as may be
pub put_lifted : (named : Bool) (items : List Item) (c : Circuit) (text : List ℕ) (lines : List (List ℕ)) → whole_lines text ≡ lines → admitted_lines c text ≡ min (length lines) most_lines
    → put_lines (put_piece_for (record { items = items; named = named })) 0 lines ≡ lifted_with named items c text
unfolding lifted_with
put_lifted named items c text lines whole admitted =
    lines_lifted named items 0 lines ∙ ap (λ (ls : List (List ℕ)). text_of_lines (lifted_lines named items 0 ls)) (sym (as_many most_lines lines) ∙ ap₂ (λ (n : ℕ) (ls : List (List ℕ)). take n ls) (sym admitted) (sym whole))

-- ---- first rises

rises_of : (c : Circuit) (text : List ℕ) (first : Option (ℕ × ℕ)) → IsFirstRise c text first → AreBitFirstRises c text (noted_first (replicate (length c.bads) None) first)
rises_of c text first h vs closed = by (first_rise (map (circuit_shows c) vs) (bits_said_in c text).claim) refl
  where
    by : (o : Option ℕ) → first_rise (map (circuit_shows c) vs) (bits_said_in c text).claim ≡ o → noted_first (replicate (length c.bads) None) first ≡ bit_first_rises c text vs
    by None none =
        ap (noted_first (replicate (length c.bads) None)) (h vs closed ∙ ap (option_map (λ frame. ((bits_said_in c text).claim, frame))) none)
        ∙ no_claim (bits_said_in c text).claim (map (circuit_shows c) vs) (length c.bads) none
    by (Some n) some =
        ap (noted_first (replicate (length c.bads) None)) (h vs closed ∙ ap (option_map (λ frame. ((bits_said_in c text).claim, frame))) some)
        ∙ ap (set (replicate (length c.bads) None) (bits_said_in c text).claim) (sym some)
        ∙ one_claim (bits_said_in c text).claim (map (circuit_shows c) vs) (length c.bads)

-- ---- a counterexample

module _ (source : Option (List ℕ)) (named : Bool) (items : List Item) (c : Circuit) (k : ℕ) (old new : Option (List ℕ)) (lifted : (text : List ℕ) → lines_put (put_piece_for (record { items = items; named = named })) c k text ≡ engine_lifted_text named items c k text) where
  abbrev Told : Restored → List ℕ → Type 0
  Told told text = IsRestored (put_piece_for (record { items = items; named = named })) c k old new text told

  -- all of it
  pub lifts_all : (told : Restored) (firsts : List (Option ℕ)) → IfSome source (Told told) → (named ≡ true → firsts ≡ noted_first (replicate (length c.bads) None) told.first) → Keeps items c named
      → ((text : List ℕ) → BitJudges c (restored_text c k text) told.judgement → FindsAgain c k text told.judgement) → ((text : List ℕ) → FindsInModel named items c k text) → LiftsRestored (Ok (told.judgement, firsts)) named items c k source old new
  lifts_all told firsts all notes keeps finds in_model = record {
    judged = IfSome_then source {P = Told told} {Q = λ text. BitJudges c (restored_text c k text) told.judgement} all (λ text t. t.judged);
    rises = λ on. IfSome_then source {P = Told told} {Q = λ text. AreBitFirstRises c (restored_text c k text) firsts} all (λ text t. subst (AreBitFirstRises c (restored_text c k text)) (sym (notes on)) (rises_of c (restored_text c k text) told.first t.first));
    right = IfSome_then source {P = Told told} {Q = λ text. (read_found (input_count c) text).fault ≡ None} all (λ text t. t.right);
    kept = IfSome_then source {P = Told told} {Q = λ text. KeepsVerdictIn items c (restored_text c k text) (engine_lifted_text named items c k text) told.judgement} all (λ text t. keeps (restored_text c k text) told.judgement t.judged);
    written = IfSome_then source {P = Told told} {Q = λ text. Appends old new (engine_lifted_text named items c k text)} all (λ text t. subst (Appends old new) (lifted text) t.written);
    found = IfSome_then source {P = Told told} {Q = λ text. FindsAgain c k text told.judgement} all (λ text t. finds text t.judged);
    in_model = IfSome_then source {P = Told told} {Q = FindsInModel named items c k} all (λ text t. in_model text);
    faulty = tt;
    before = tt;
    beginning = tt;
  }

  -- of one with a fault
  pub lifts_not : (e : RestoreFault) → IfSome source (λ text. IsRestoredBut (is_of_text e.why) e (put_piece_for (record { items = items; named = named })) c k old new text) → LiftsRestored (Err e) named items c k source old new
  lifts_not e all = record {
    judged = tt;
    rises = λ on. tt;
    right = tt;
    kept = tt;
    written = tt;
    found = tt;
    in_model = tt;
    faulty = λ of. IfSome_then source {P = But true} {Q = λ text. (read_found (input_count c) text).fault ≡ Some e} (but true of) (λ text t. t.0);
    before = λ of. IfSome_then source {P = But true} {Q = λ text. Appends old new (engine_lifted_text named items c k text)} (but true of) (λ text t. subst (Appends old new) (lifted text) t.1);
    beginning = λ apart. IfSome_then source {P = But false} {Q = λ text. AppendsBeginning old new (engine_lifted_text named items c k text)} (but false apart) (λ text t. subst (AppendsBeginning old new) (lifted text) t);
  }
    where
      But : Bool → List ℕ → Type 0
      But b text = IsRestoredBut b e (put_piece_for (record { items = items; named = named })) c k old new text

      but : (b : Bool) → is_of_text e.why ≡ b → IfSome source (But b)
      but b is = subst (λ (x : Bool). IfSome source (But x)) is all

-- ---- a witness of the engine form

module _ (source : Option (List ℕ)) (named : Bool) (items : List Item) (c : Circuit) (choice : Option ℕ) (d : Circuit) (old new : Option (List ℕ)) (lifted : (text : List ℕ) → form_lines_put (put_piece_for (record { items = items; named = named })) c choice d text ≡ form_lifted_text named items c choice d text) where
  abbrev FormTold : Restored → List ℕ → Type 0
  FormTold told text = IsRestoredForm (put_piece_for (record { items = items; named = named })) c choice d old new text told

  pub form_lifts : (told : Restored) (firsts : List (Option ℕ)) → IfSome source (FormTold told) → (named ≡ true → firsts ≡ noted_first (replicate (length c.bads) None) told.first) → Keeps items c named
      → ((text : List ℕ) → FindsWitnessInModel named items c choice d text) → LiftsForm (Ok (told.judgement, firsts)) named items c choice d source old new
  form_lifts told firsts all notes keeps finds = record {
    judged = IfSome_then source {P = FormTold told} {Q = λ text. FormJudges c choice d text told.judgement} all (λ text t. t.judged);
    rises = λ on. IfSome_then source {P = FormTold told} {Q = λ text. AreBitFirstRises c (form_restored_text c choice d text) firsts} all (λ text t. subst (AreBitFirstRises c (form_restored_text c choice d text)) (sym (notes on)) (rises_of c (form_restored_text c choice d text) told.first t.first));
    kept = IfSome_then source {P = FormTold told} {Q = λ text. KeepsFormVerdict named items c choice d text told.judgement} all (λ text t h. keeps (form_restored_text c choice d text) told.judgement h);
    written = IfSome_then source {P = FormTold told} {Q = λ text. Appends old new (form_lifted_text named items c choice d text)} all (λ text t. subst (Appends old new) (lifted text) t.written);
    found = IfSome_then source {P = FormTold told} {Q = FindsWitnessInModel named items c choice d} all (λ text t. finds text);
    beginning = tt;
  }

  pub form_fails : (e : RestoreFault) → IfSome source (λ text. AppendsBeginning old new (form_lines_put (put_piece_for (record { items = items; named = named })) c choice d text)) → LiftsForm (Err e) named items c choice d source old new
  form_fails e all = record { judged = tt; rises = λ on. tt; kept = tt; written = tt; found = tt; beginning = IfSome_then source {P = λ text. AppendsBeginning old new (form_lines_put (put_piece_for (record { items = items; named = named })) c choice d text)} {Q = λ text. AppendsBeginning old new (form_lifted_text named items c choice d text)} all (λ text t. subst (AppendsBeginning old new) (lifted text) t) }
