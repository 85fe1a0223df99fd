-- Which claims a judge of either kind says are reached.
use Rattle.std.proofs.Common.{◌≡◌, ℕ, ◌<◌, nat_eq, Bool, true, false, not, ◌&&◌, List, [], ◌∷◌, length, map, get_or, refl, sym, ap, ap₂, subst, ◌∙◌, arith, inl, inr}
use Rattle.std.specs.List.{list_any}
use Rattle.std.proofs.lemmas.Bool.{cases_lt, cases_eq, and_left, and_right, ne_eqb, false_from_ne_true}
use Rattle.base.specs.Lines.{whole_lines}
use Rattle.btor2.specs.declared.item.Item.{Item}
use Rattle.btor2.specs.Items.{is_bad}
use Rattle.btor2.specs.Lists.{places}
use Rattle.btor2.specs.Trace.{Frame, IsTrace}
use Rattle.base.specs.Literal.{Valuation}
use Rattle.aiger.specs.Circuit.{Circuit}
use Rattle.aiger.specs.Trace.{IsCircuitTrace as IsBitTrace}
use Rattle.witness.specs.Texts.{Parts, shape_of}
use Rattle.witness.specs.Readings.{lines_read, reading}
use Rattle.witness.specs.Admits.{Read, word_reader}
use Rattle.base.specs.Shown.{rises_in_some}
use Rattle.btor2.specs.Reachability.{nodes_of, model_shows}
use Rattle.aiger.specs.Reachability.{circuit_shows}
use Rattle.witness.specs.Fits.{never_1, is_set, NoneIsSet, AreClaimed}
use Rattle.witness.specs.Judgements.{frame_words, initial_words, given_words}
use Rattle.witness.specs.ClosedWords.{IsClosedTrace}
use Rattle.witness.specs.WordPlays.{TracedBy, frames_alone}
use Rattle.witness.specs.WordStands.{WordReader, WordJudge, StandsForWitness}
use Rattle.witness.specs.BitAdmits.{BitPlace, AtHeader, AtClaim, AtInitial, BitRead}
use Rattle.witness.specs.declared.bit_play.BitPlay.{BitPlay}
use Rattle.witness.specs.BitPlays.{play_start, bit_rises, bit_frame_steps, bit_steps_of}
use Rattle.witness.proofs.BitPlayLemmas.{no_steps}
use Rattle.witness.proofs.ShownLemmas.{never_shown, none_past, bit_rises_shown}
use Rattle.witness.specs.BitStands.{PlaysAt, PlaysSaid, read_of, BitJudge, StandsForBits}
use Rattle.witness.specs.Reached.{word_reached, IsClosedBitTrace, bit_reached}
use Rattle.witness.proofs.FrameLemmas.{bad_names, length-nodes}

-- ---- over a model

rises_there : (items : List Item) (fs : List Frame) (k : ℕ) → k < length (nodes_of is_bad items) → not (never_1 fs (get_or (nodes_of is_bad items) k 0)) ≡ rises_in_some k (map (model_shows items) fs)
rises_there items fs k h = ap not (never_shown items fs k h) ∙ twice (rises_in_some k (map (model_shows items) fs))
  where
    twice : (b : Bool) → not (not b) ≡ b
    twice true = refl
    twice false = refl

no_flag : NoneIsSet []
no_flag i = refl

some_frames : (x : Parts) (xs : List Parts) → x ∷ xs ≡ [] → ⊥
some_frames x xs e = cc

-- by the frames that are closed
by_frames : (items : List Item) (q : WordReader) (claims : List ℕ) (k : ℕ) (closed : List Parts) (base : List ℕ) (fs : List Frame) → TracedBy items base q.play (map frame_words closed)
    → IsTrace items (initial_words items (frames_alone (map frame_words closed))) (map (given_words items) (map frame_words closed)) fs → ((closed ≡ [] → ⊥) → AreClaimed q.claimed claims) → k < length (nodes_of is_bad items)
    → (is_set q.claimed k && is_set q.play.rose k) ≡ (list_any (λ c. nat_eq c k) claims && rises_in_some k (map (model_shows items) fs))
by_frames items q claims k [] base [] fresh t known h =
    and_right (is_set q.claimed k) (is_set q.play.rose k) (fresh.rose k) ∙ sym (and_right (list_any (λ c. nat_eq c k) claims) (rises_in_some k (map (model_shows items) [])) refl)
by_frames items q claims k [] base (f ∷ fs) fresh t known h = absurd t
by_frames items q claims k (x ∷ xs) base fs traced t known h =
    let one = traced fs t in
    ap₂ (λ (a b : Bool). a && b) (known (some_frames x xs) k) (one.rose [] no_flag k h ∙ rises_there items fs k h)

pub word_reached_is : (items : List Item) (text : List ℕ) (j : WordJudge) (fs : List Frame) (k : ℕ) (b : Bool) → StandsForWitness items j text → IsClosedTrace items text fs
    → b ≡ (is_set j.reader.claimed k && is_set j.reader.play.rose k) → (b ≡ true → k < length (places is_bad 0 j.reader.play.items)) → b ≡ word_reached items text fs k
unfolding reading
word_reached_is items text j fs k b stands trace flags there =
    let r : Read = (lines_read (word_reader (shape_of items)) (whole_lines text)).read in
    let counts = stands.lines.counts in
    elim (cases_lt k (length (nodes_of is_bad items))) [
      | inl h ↦ flags ∙ by_frames items j.reader r.claims k r.closed counts.plays.base fs counts.plays.traced trace counts.claimed h
      | inr h ↦
          let none : b ≡ false = false_from_ne_true b (λ e.
          let inside : k < length (places is_bad 0 items) = subst (λ (l : List Item). k < length (places is_bad 0 l)) counts.items_are (there e) in
          omega (arith, inside, h, length-nodes is_bad items bad_names)) in
          none ∙ sym (and_right (list_any (λ c. nat_eq c k) r.claims) (rises_in_some k (map (model_shows items) fs)) (none_past items fs k h))
    ]

-- ---- over a circuit

no_valuation : (c : Circuit) (state : List Bool) (vs : List Valuation) → IsBitTrace c state [] vs → vs ≡ []
no_valuation c state [] t = refl
no_valuation c state (v ∷ vs) t = absurd t

-- where no frame is closed
none_rose : (c : Circuit) (r : BitRead) (rose : Bool) (vs : List Valuation) → r.frames ≡ [] → rose ≡ false → IsBitTrace c r.initial r.frames vs → rose ≡ bit_rises c r.claim vs
none_rose c r rose vs none is t =
    is ∙ sym (ap (bit_rises c r.claim) (no_valuation c r.initial vs (subst (λ (frames : List (List Bool)). IsBitTrace c r.initial frames vs) none t)))

rose_at : (c : Circuit) (p : BitPlay) (r : BitRead) (at : BitPlace) → PlaysAt c r p at → (vs : List Valuation) → IsBitTrace c r.initial r.frames vs → p.rose ≡ bit_rises c r.claim vs
rose_at c p r AtHeader plays vs t = none_rose c r p.rose vs plays.1 (ap (λ (x : BitPlay). x.rose) plays.0) t
rose_at c p r AtClaim plays vs t = none_rose c r p.rose vs plays.1 (ap (λ (x : BitPlay). x.rose) plays.0) t
rose_at c p r AtInitial plays vs t = none_rose c r p.rose vs plays.1 (ap (λ (x : BitPlay). x.rose) plays.0) t
rose_at c p r _ plays vs t = (plays.0.traced vs t).rose

-- the circuit, the frames that are closed, the steps that they took, and whether the claim rose in them
pub record TellsBits (c : Circuit) (r : BitRead) (p : BitPlay) : Type 0 where
  pub circuit : p.run.circuit ≡ c
  pub frames : p.frames ≡ length r.frames
  pub steps : p.run.steps ≡ bit_steps_of c (length r.frames)
  pub rose : (vs : List Valuation) → IsBitTrace c r.initial r.frames vs → p.rose ≡ bit_rises c r.claim vs

pub tells_of : (c : Circuit) (r : BitRead) (p : BitPlay) → PlaysSaid c r p → TellsBits c r p
tells_of c r p plays = by r.place plays
  where
    begun : (at : BitPlace) → PlaysAt c r p at → p ≡ play_start c → r.frames ≡ [] → TellsBits c r p
    begun at plays is none =
        record {
          circuit = ap (λ (x : BitPlay). x.run.circuit) is;
          frames = ap (λ (x : BitPlay). x.frames) is ∙ ap length (sym none);
          steps = ap (λ (x : BitPlay). x.run.steps) is ∙ no_steps (bit_frame_steps c) ∙ ap (λ (frames : List (List Bool)). bit_steps_of c (length frames)) (sym none);
          rose = rose_at c p r at plays;
        }

    by : (at : BitPlace) → PlaysAt c r p at → TellsBits c r p
    by AtHeader plays = begun AtHeader plays plays.0 plays.1
    by AtClaim plays = begun AtClaim plays plays.0 plays.1
    by AtInitial plays = begun AtInitial plays plays.0 plays.1
    by _ plays = record { circuit = plays.0.run; frames = plays.0.count; steps = plays.0.steps; rose = λ vs t. (plays.0.traced vs t).rose }

-- of the position itself
at_claim : (P : ℕ → Bool) (i k : ℕ) → (nat_eq i k && P i) ≡ (nat_eq i k && P k)
at_claim P i k =
    elim (cases_eq i k) [
      | inl e ↦ ap (λ (n : ℕ). nat_eq i k && P n) e
      | inr ne ↦ and_left (nat_eq i k) (P i) (ne_eqb i k ne) ∙ sym (and_left (nat_eq i k) (P k) (ne_eqb i k ne))
    ]

pub bit_reached_is : (c : Circuit) (text : List ℕ) (j : BitJudge) (vs : List Valuation) (k : ℕ) (b : Bool) → StandsForBits c j text → IsClosedBitTrace c text vs
    → b ≡ (nat_eq j.lines.reader.claim k && j.play.rose) → b ≡ bit_reached c text vs k
unfolding reading
bit_reached_is c text j vs k b stands trace is =
    let r : BitRead = read_of c (whole_lines text) in
    let tells = tells_of c r j.play stands.played.play in
    is
    ∙ (ap₂ (λ (i : ℕ) (x : Bool). nat_eq i k && x) stands.played.lines.counts.claim (tells.rose vs trace ∙ bit_rises_shown c r.claim vs)
    ∙ at_claim (λ i. rises_in_some i (map (circuit_shows c) vs)) r.claim k)
