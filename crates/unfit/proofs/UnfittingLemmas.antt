-- A whole source is taken.
use Rattle.std.proofs.Common.{◌≡◌, ℕ, List, [], ◌++◌, Option, Some, None, IfSome, Result, Ok, Err, OnOk, OnErr, refl, sym, ap₂, subst, ◌∙◌, append_assoc}
use Rattle.std.proofs.lemmas.Option.{IfSome_then}
use Rattle.std.specs.Io.KnownBytes.{Appends, Consumes, IsAtEnd, prepend_known}
use Rattle.std.proofs.KnownBytes.{Appends-nil, Consumes-whole}
use Rattle.base.specs.declared.pen.Pen.{Pen}
use Rattle.base.specs.Device.{AppendsBeginning}
use Rattle.base.specs.Lines.{IsLine}
use Rattle.base.specs.Writing.{WritesText}
use Rattle.base.proofs.DeviceLemmas.{beginning_longer}
use Rattle.base.proofs.PenLemmas.{writes_none}
use Rattle.base.proofs.TakingLemmas.{part_given}
use Rattle.btor2.specs.declared.item.Item.{Item}
use Rattle.btor2.specs.Check.{IsWellFormed}
use Rattle.witness.specs.Admits.{nothing_read}
use Rattle.witness.specs.ClosedWords.{said_in}
use Rattle.witness.specs.Readings.{reading}
use Rattle.witness.specs.WordStands.{StandsForWitness, WordJudge}
use Rattle.unfit.specs.Joined.{Wide, Lined, by_index, lined}
use Rattle.unfit.specs.Unfitted.{unfit_text, unfit_text_with}
use Rattle.unfit.specs.Steps.{Frame, Holds, Unfits}
use Rattle.unfit.proofs.FrameLemmas.{plain_text}
use Rattle.unfit.proofs.GrowthLemmas.{text_grows, said_with_rest}

nothing_yet : (l : Lined) (narrow : List Item) → unfit_text_with l narrow [] ≡ []
unfolding unfit_text_with reading
nothing_yet l narrow = refl

nothing_said : (narrow : List Item) → said_in narrow [] ≡ nothing_read
unfolding reading
nothing_said narrow = refl

pub begun : {K : Type 0} (written : K → Option (List ℕ)) (failures : K → ℕ) (s : K) (pen : Pen) (l : Lined) (narrow : List Item) (judge : WordJudge) (f : Frame) → IsWellFormed narrow → StandsForWitness narrow judge [] → Holds narrow nothing_read f
    → Unfits written failures s s pen pen l narrow judge f []
begun written failures s pen l narrow judge f well stands holds =
    record {
      well_formed = well;
      stands = stands;
      ended = refl;
      holds = rw (nothing_said narrow) holds;
      writes = subst (WritesText written failures s s pen pen) (sym (nothing_yet l narrow)) writes_none;
    }

-- nothing of a source is read before
pub unread : (known : Option (List ℕ)) (rest : List ℕ) → rest ≡ [] → Consumes known (prepend_known rest known) []
unread None rest none = tt
unread (Some xs) rest none = rw none refl

prepended : (a b : Option (List ℕ)) (front rest : List ℕ) → Consumes a (prepend_known rest b) front → Consumes a b (front ++ rest)
prepended None b front rest h = tt
prepended (Some xs) None front rest h = absurd h
prepended (Some xs) (Some ys) front rest h = h ∙ sym (append_assoc front rest ys)

module _ (l : Lined) (narrow : List Item) (whole known old new : Option (List ℕ)) (front : List ℕ) where
  -- at a fault a beginning was written
  pub all_begun : IsWellFormed narrow → Consumes whole known front → AppendsBeginning old new (unfit_text_with l narrow front) → IfSome whole (λ text. AppendsBeginning old new (unfit_text_with l narrow text))
  all_begun well consumes begun =
      part_given whole known front (λ text. AppendsBeginning old new (unfit_text_with l narrow text)) consumes (λ rest.
      let more = text_grows l narrow well front rest in
      subst (AppendsBeginning old new) more.1 (beginning_longer old new (unfit_text_with l narrow front) more.0 begun))

  -- with bytes behind it that end no line
  pub all_taken : (judge : WordJudge) (rest : List ℕ) → Consumes whole (prepend_known rest known) front → IsAtEnd known → IsLine rest → StandsForWitness narrow judge (front ++ rest) → Appends old new (unfit_text_with l narrow front)
      → IfSome whole (λ text. StandsForWitness narrow judge text × Appends old new (unfit_text_with l narrow text))
  all_taken judge rest consumes end line stands appends =
      Consumes-whole whole known (front ++ rest) (λ text. StandsForWitness narrow judge text × Appends old new (unfit_text_with l narrow text)) (prepended whole known front rest consumes) end
      (stands, subst (Appends old new) (sym (said_with_rest l narrow front rest line)) appends)

-- where nothing is written, that is a beginning
pub nothing_written : (source old : Option (List ℕ)) (f : List ℕ → List ℕ) → IfSome source (λ text. AppendsBeginning old old (f text))
nothing_written None old f = tt
nothing_written (Some text) old f = ([], (f text, refl), Appends-nil old)

-- ---- where each word is told by its index

module _ (P : List ℕ → Type 0) (source : Option (List ℕ)) (w : Wide) (narrow : List Item) (states inputs : List (Option (List ℕ))) (is_states : states ≡ w.names.states) (is_inputs : inputs ≡ w.names.inputs) where
  abbrev by_indices : Lined
  by_indices = lined w.shape states inputs w.named by_index by_index

  same_text : (text : List ℕ) → unfit_text_with by_indices narrow text ≡ unfit_text w narrow text
  same_text text = ap₂ (λ (s i : List (Option (List ℕ))). unfit_text_with (lined w.shape s i w.named by_index by_index) narrow text) is_states is_inputs ∙ plain_text w narrow text

  plain_source : IfSome source (λ text. P (unfit_text_with by_indices narrow text)) → IfSome source (λ text. P (unfit_text w narrow text))
  plain_source h = IfSome_then source h (λ text one. subst P (same_text text) one)

  pub plain_written : {A E : Type 0} (r : Result A E) → OnOk r (IfSome source (λ text. P (unfit_text_with by_indices narrow text))) → OnOk r (IfSome source (λ text. P (unfit_text w narrow text)))
  plain_written (Ok x) h = plain_source h
  plain_written (Err e) h = tt

  pub plain_begun : {A E : Type 0} (r : Result A E) → OnErr r (IfSome source (λ text. P (unfit_text_with by_indices narrow text))) → OnErr r (IfSome source (λ text. P (unfit_text w narrow text)))
  plain_begun (Ok x) h = tt
  plain_begun (Err e) h = plain_source h
