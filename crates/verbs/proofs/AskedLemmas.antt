-- What is noted of an accepted witness is what it claims of what is asked for.
use Rattle.std.proofs.Common.{◌≡◌, ℕ, ◌<◌, Bool, true, false, List, Option, Some, None, IfSome, length, option_and_then, slice_get, refl, sym, ap, subst, ◌∙◌, arith}
use Rattle.base.specs.Decimals.{number_of}
use Rattle.btor2.specs.declared.item.Item.{Item}
use Rattle.btor2.specs.Items.{is_bad}
use Rattle.btor2.specs.Check.{IsWellFormed}
use Rattle.btor2.specs.Lists.{places}
use Rattle.btor2.specs.Reachability.{nodes_of}
use Rattle.btor2.specs.Trace.{Frame}
use Rattle.btor2text.specs.Spelling.{IsModelOf}
use Rattle.full.specs.Lines.{FullLine, lines_of}
use Rattle.fulljudge.specs.Rises.{JudgesFullWithRises, full_claimed}
use Rattle.spread.specs.Spread.{IsShort}
use Rattle.aiger.specs.Circuit.{Circuit, IsCircuit}
use Rattle.base.specs.Literal.{Valuation}
use Rattle.witness.specs.declared.judgement.Judgement.{Judgement}
use Rattle.witness.specs.declared.judgement.Judgement.TheVariants as judgement
use Rattle.witness.specs.Judgements.{Judges}
use Rattle.witness.specs.BitJudgements.{BitJudges}
use Rattle.witness.specs.ClosedWords.{IsClosedTrace}
use Rattle.witness.specs.Reached.{word_claimed, bit_claimed, IsClosedBitTrace}
use Rattle.witness.proofs.FrameLemmas.{bad_names, length-nodes}
use Rattle.rises.specs.FirstRises.{word_first_rises, bit_first_rises, AreBitFirstRises}
use Rattle.verbs.specs.declared.refusals.Fault.{Fault}
use Rattle.verbs.specs.declared.refusals.Fault.TheVariants as fault
use Rattle.verbs.specs.Asked.{AsksFor, AsksForNone, IsAskedBy, IsNotJudgedWith, IsUnjudgedFor, is_claim_noted, is_claimed, is_name_of, is_noted, is_symbol_of}
use Rattle.verbs.specs.Judging.{IsAccepted}
use Rattle.verbs.specs.Subjects.{model_told, whole_told}

-- the entry of a list of first rises
abbrev entry : List (Option ℕ) → ℕ → Option ℕ
entry firsts k = option_and_then (λ first. first) (slice_get firsts k)

-- a first frame is noted of an accepted text exactly where it claims the bad property
noted_so : (claimed : Bool) (firsts : List (Option ℕ)) (k : ℕ) → (claimed ≡ true → (first : ℕ) × (slice_get firsts k ≡ Some (Some first))) → (claimed ≡ false → slice_get firsts k ≡ Some None) → is_noted (entry firsts k) ≡ claimed
noted_so true firsts k some none = let h = some refl in ap (λ (o : Option (Option ℕ)). is_noted (option_and_then (λ first. first) o)) h.1
noted_so false firsts k some none = ap (λ (o : Option (Option ℕ)). is_noted (option_and_then (λ first. first) o)) (none refl)

noted_words : (witness : Option (List ℕ)) (items : List Item) (verdict : Judgement) (firsts : List (Option ℕ)) (k : ℕ) → IsWellFormed items → k < length (places is_bad 0 items)
    → IfSome witness (λ text. Judges items text verdict) → IfSome witness (λ text. (fs : List Frame) → IsClosedTrace items text fs → firsts ≡ word_first_rises items text fs)
    → ((items : List Item) (text : List ℕ) → IsWellFormed items → (fs : List Frame) × IsClosedTrace items text fs)
    → ((items : List Item) (text : List ℕ) (fs : List Frame) (frames k : ℕ) → IsWellFormed items → Judges items text (judgement.Accepted frames) → IsClosedTrace items text fs → word_claimed items text k ≡ true
    → (first : ℕ) × ((slice_get (word_first_rises items text fs) k ≡ Some (Some first)) × (first < frames)))
    → ((items : List Item) (text : List ℕ) (fs : List Frame) (k : ℕ) → word_claimed items text k ≡ false → k < length (nodes_of is_bad items) → slice_get (word_first_rises items text fs) k ≡ Some None)
    → IfSome witness (λ text. IsAccepted verdict → is_noted (entry firsts k) ≡ word_claimed items text k)
noted_words None items verdict firsts k valid there is rises exists claimed others = tt
noted_words (Some text) items (judgement.Accepted frames) firsts k valid there is rises exists claimed others = λ yes.
    let trace = exists items text valid in
    ap (λ (l : List (Option ℕ)). is_noted (entry l k)) (rises trace.0 trace.1)
    ∙ noted_so (word_claimed items text k) (word_first_rises items text trace.0) k (λ so. let h = claimed items text trace.0 frames k valid is trace.1 so in (h.0, h.1.0)) (λ so. others items text trace.0 k so (omega (arith, there, length-nodes is_bad items bad_names)))
noted_words (Some text) items _ firsts k valid there is rises exists claimed others = λ no. absurd no

noted_bits : (witness : Option (List ℕ)) (c : Circuit) (verdict : Judgement) (firsts : List (Option ℕ)) (k : ℕ) → IsCircuit c → k < length c.bads
    → IfSome witness (λ text. BitJudges c text verdict) → IfSome witness (λ text. AreBitFirstRises c text firsts)
    → ((c : Circuit) (text : List ℕ) → IsCircuit c → (vs : List Valuation) × IsClosedBitTrace c text vs)
    → ((c : Circuit) (text : List ℕ) (vs : List Valuation) (frames k : ℕ) → IsCircuit c → BitJudges c text (judgement.Accepted frames) → IsClosedBitTrace c text vs → bit_claimed c text k ≡ true
    → (first : ℕ) × ((slice_get (bit_first_rises c text vs) k ≡ Some (Some first)) × (first < frames)))
    → ((c : Circuit) (text : List ℕ) (vs : List Valuation) (k : ℕ) → bit_claimed c text k ≡ false → k < length c.bads → slice_get (bit_first_rises c text vs) k ≡ Some None)
    → IfSome witness (λ text. IsAccepted verdict → is_noted (entry firsts k) ≡ bit_claimed c text k)
noted_bits None c verdict firsts k valid there is rises exists claimed others = tt
noted_bits (Some text) c (judgement.Accepted frames) firsts k valid there is rises exists claimed others = λ yes.
    let trace = exists c text valid in
    ap (λ (l : List (Option ℕ)). is_noted (entry l k)) (rises trace.0 trace.1)
    ∙ noted_so (bit_claimed c text k) (bit_first_rises c text trace.0) k (λ so. let h = claimed c text trace.0 frames k valid is trace.1 so in (h.0, h.1.0)) (λ so. others c text trace.0 k so there)
noted_bits (Some text) c _ firsts k valid there is rises exists claimed others = λ no. absurd no

-- a bad property that is asked for is there
asked_there : (position : Option ℕ) (count : ℕ) (called : ℕ → Bool) (k : ℕ) → IsAskedBy position count called k → k < count
asked_there (Some n) count called k is = omega (arith, is.0, is.1)
asked_there None count called k is = is.0

claim_there : (word : Option (List ℕ)) (count : ℕ) (called : List ℕ → ℕ → Bool) (k : ℕ) → AsksFor word count called (Some k) → k < count
claim_there None count called k is = absurd (cc)
claim_there (Some word) count called k is =
    let some : Some k ≡ Some is.0 = is.1.0 in
    let same : k ≡ is.0 = cc in
    subst (λ (n : ℕ). n < count) (sym same) (asked_there (number_of word) count (called word) is.0 is.1.1)

-- what is noted of an accepted text is what it claims of what is asked for
pub claimed_words : (claim : Option ℕ) (word witness : Option (List ℕ)) (items : List Item) (verdict : Judgement) (firsts : List (Option ℕ)) → IsWellFormed items → AsksFor word (length (places is_bad 0 items)) (is_symbol_of (model_told items)) claim
    → IfSome witness (λ text. Judges items text verdict) → IfSome witness (λ text. (fs : List Frame) → IsClosedTrace items text fs → firsts ≡ word_first_rises items text fs)
    → ((items : List Item) (text : List ℕ) → IsWellFormed items → (fs : List Frame) × IsClosedTrace items text fs)
    → ((items : List Item) (text : List ℕ) (fs : List Frame) (frames k : ℕ) → IsWellFormed items → Judges items text (judgement.Accepted frames) → IsClosedTrace items text fs → word_claimed items text k ≡ true
    → (first : ℕ) × ((slice_get (word_first_rises items text fs) k ≡ Some (Some first)) × (first < frames)))
    → ((items : List Item) (text : List ℕ) (fs : List Frame) (k : ℕ) → word_claimed items text k ≡ false → k < length (nodes_of is_bad items) → slice_get (word_first_rises items text fs) k ≡ Some None)
    → IfSome witness (λ text. IsAccepted verdict → is_claim_noted claim firsts ≡ is_claimed claim (word_claimed items text))
claimed_words None word None items verdict firsts valid asked is rises exists some none = tt
claimed_words None word (Some text) items verdict firsts valid asked is rises exists some none = λ yes. refl
claimed_words (Some k) word witness items verdict firsts valid asked is rises exists some none =
    noted_words witness items verdict firsts k valid (claim_there word (length (places is_bad 0 items)) (is_symbol_of (model_told items)) k asked) is rises exists some none

pub claimed_bits : (claim : Option ℕ) (word witness : Option (List ℕ)) (c : Circuit) (verdict : Judgement) (firsts : List (Option ℕ)) → IsCircuit c → AsksFor word (length c.bads) (is_name_of c) claim
    → IfSome witness (λ text. BitJudges c text verdict) → IfSome witness (λ text. AreBitFirstRises c text firsts)
    → ((c : Circuit) (text : List ℕ) → IsCircuit c → (vs : List Valuation) × IsClosedBitTrace c text vs)
    → ((c : Circuit) (text : List ℕ) (vs : List Valuation) (frames k : ℕ) → IsCircuit c → BitJudges c text (judgement.Accepted frames) → IsClosedBitTrace c text vs → bit_claimed c text k ≡ true
    → (first : ℕ) × ((slice_get (bit_first_rises c text vs) k ≡ Some (Some first)) × (first < frames)))
    → ((c : Circuit) (text : List ℕ) (vs : List Valuation) (k : ℕ) → bit_claimed c text k ≡ false → k < length c.bads → slice_get (bit_first_rises c text vs) k ≡ Some None)
    → IfSome witness (λ text. IsAccepted verdict → is_claim_noted claim firsts ≡ is_claimed claim (bit_claimed c text))
claimed_bits None word None c verdict firsts valid asked is rises exists some none = tt
claimed_bits None word (Some text) c verdict firsts valid asked is rises exists some none = λ yes. refl
claimed_bits (Some k) word witness c verdict firsts valid asked is rises exists some none =
    noted_bits witness c verdict firsts k valid (claim_there word (length c.bads) (is_name_of c) k asked) is rises exists some none

-- the same over a model of the whole language
pub claimed_whole : (claim : Option ℕ) (word witness : Option (List ℕ)) (full : List FullLine) (verdict : Judgement) (firsts : List (Option ℕ)) → AsksFor word (length (lines_of is_bad full)) (is_symbol_of (whole_told full)) claim
    → IfSome witness (λ text. IsShort text → JudgesFullWithRises full text verdict firsts)
    → ((full : List FullLine) (text : List ℕ) (frames k : ℕ) (firsts : List (Option ℕ)) → JudgesFullWithRises full text (judgement.Accepted frames) firsts → k < length (lines_of is_bad full) → full_claimed full text k ≡ true
    → (first : ℕ) × ((slice_get firsts k ≡ Some (Some first)) × (first < frames)))
    → ((full : List FullLine) (text : List ℕ) (frames k : ℕ) (firsts : List (Option ℕ)) → JudgesFullWithRises full text (judgement.Accepted frames) firsts → k < length (lines_of is_bad full) → full_claimed full text k ≡ false
    → slice_get firsts k ≡ Some None)
    → IfSome witness (λ text. IsShort text → IsAccepted verdict → is_claim_noted claim firsts ≡ is_claimed claim (full_claimed full text))
claimed_whole claim word None full verdict firsts asked is some none = tt
claimed_whole None word (Some text) full verdict firsts asked is some none = λ short yes. refl
claimed_whole (Some k) word (Some text) full (judgement.Accepted frames) firsts asked is some none = λ short yes.
    let there = claim_there word (length (lines_of is_bad full)) (is_symbol_of (whole_told full)) k asked in
    noted_so (full_claimed full text k) firsts k (λ so. let h = some full text frames k firsts (is short) there so in (h.0, h.1.0)) (λ so. none full text frames k firsts (is short) there so)
claimed_whole (Some k) word (Some text) full _ firsts asked is some none = λ short no. absurd no

-- what is so of each text that is known
pub each_reached : {P Q : List ℕ → Type 0} (witness : Option (List ℕ)) → IfSome witness P → ((text : List ℕ) → P text → Q text) → IfSome witness Q
each_reached None h reaches = tt
each_reached (Some text) h reaches = reaches text h

-- what a word asks for in vain
pub unasked_for : (word : Option (List ℕ)) (items : List Item) (f : Fault) → AsksForNone word (length (places is_bad 0 items)) (is_symbol_of (model_told items)) f → IsUnjudgedFor word items f
unasked_for None items f none = absurd none
unasked_for (Some word) items (fault.NoNext id) none = absurd none
unasked_for (Some word) items _ none = none

-- is what a text is refused for
pub unasked_words : (word known : Option (List ℕ)) (items : List Item) (f : Fault) → IsModelOf known items → AsksForNone word (length (places is_bad 0 items)) (is_symbol_of (model_told items)) f → IsNotJudgedWith word known f
unasked_words None known items f text none = absurd none
unasked_words (Some word) known items (fault.Engine e) text none = record { items = items; text = text; unasked = none }
unasked_words (Some word) known items (fault.SameName j k) text none = record { items = items; text = text; unasked = none }
unasked_words (Some word) known items _ text none = absurd none
