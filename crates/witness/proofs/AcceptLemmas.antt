-- What is judged of a text is that it is accepted exactly where it says a witness of which this is judged.
use Rattle.std.proofs.Common.{◌≡◌, ℕ, false, List, Ok, sym, ap, subst, ◌∙◌}
use Rattle.std.proofs.lemmas.Bool.{false_from_ne_true}
use Rattle.base.specs.Lines.{whole_lines}
use Rattle.btor2.specs.declared.item.Item.{Item}
use Rattle.btor2.specs.Check.{IsWellFormed}
use Rattle.aiger.specs.Circuit.{Circuit, IsCircuit}
use Rattle.witness.specs.declared.judgement.Judgement.{Judgement}
use Rattle.witness.specs.declared.judgement.Judgement.TheVariants as judgement
use Rattle.witness.specs.Texts.{shape_of, Witness, Says}
use Rattle.witness.specs.Admits.{Read, nothing_read, is_at_end, word_reader, read_text, witness_of}
use Rattle.witness.specs.Judgements.{words_of, makes_no_claim, JudgesWords, Judges}
use Rattle.witness.specs.BitTexts.{BitWitness, BitSays}
use Rattle.witness.specs.BitAdmits.{BitRead, is_done, bit_reader, read_bit_text, bit_witness_of}
use Rattle.witness.specs.BitJudgements.{makes_no_bit_claim, JudgesBits, BitJudges}
use Rattle.witness.specs.Accepted.{IsAcceptedText, IsAcceptedBitText, AcceptsExactly, BitAcceptsExactly}
use Rattle.witness.proofs.FitLemmas.{shape_is_small}
use Rattle.witness.proofs.ReadLemmas.{all_read, says_read}
use Rattle.witness.proofs.ReadTextLemmas.{read_says}
use Rattle.witness.proofs.BitReadLemmas.{all_bits_read, bit_says_read, bit_read_says, no_claim_is_refused}
use Rattle.witness.proofs.ReadingLemmas.{text_was_read, was_all_read}
use Rattle.witness.proofs.JudgedLemmas.{accepted_reads, read_judged}
use Rattle.witness.proofs.OneJudgement.{same_judgement}
use Rattle.witness.proofs.BitOneJudgement.{same_bit_judgement}
use Rattle.witness.proofs.WordJudgeLemmas.{nothing_is_said}

-- ---- over a model

-- a text that is read makes a claim
words_claim : (items : List Item) (text : List ℕ) (r : Read) → read_text (shape_of items) text ≡ Ok r → makes_no_claim 0 (whole_lines text) ≡ false
words_claim items text r read =
    false_from_ne_true (makes_no_claim 0 (whole_lines text)) (λ none.
    let done = (text_was_read (word_reader (shape_of items)) text r read).done in
    let is : nothing_read ≡ r = sym (nothing_is_said (shape_of items) text none) ∙ was_all_read (word_reader (shape_of items)) text r read in
    absurd (cc (ap (λ (s : Read). is_at_end s.place) is, done)))

pub judged_words : (items : List Item) (text : List ℕ) (w : Witness) (j : Judgement) → IsWellFormed items → Says (shape_of items) text w → JudgesWords items (words_of w) j → Judges items text j
judged_words items text w j well says judged =
    let read = says_read (shape_of items) text w (shape_is_small items well) says in
    read_judged (λ (s : Read). JudgesWords items (words_of (witness_of s))) (makes_no_claim 0 (whole_lines text)) (read_text (shape_of items) text) (Ok (all_read w)) j (words_claim items text (all_read w) read) read judged

pub accepts_exactly : (items : List Item) (text : List ℕ) (j : Judgement) → IsWellFormed items → Judges items text j → AcceptsExactly items text j
accepts_exactly items text j well h frames = (there, back)
  where
    there : j ≡ judgement.Accepted frames → IsAcceptedText items text frames
    there e =
        let r = accepted_reads (λ (s : Read). JudgesWords items (words_of (witness_of s))) (makes_no_claim 0 (whole_lines text)) (read_text (shape_of items) text) frames (subst (Judges items text) e h) in
        record { witness = witness_of r.what; says = read_says (shape_of items) text r.what (shape_is_small items well) r.is; judged = r.judged }

    back : IsAcceptedText items text frames → j ≡ judgement.Accepted frames
    back a = same_judgement items text j (judgement.Accepted frames) well h (judged_words items text a.witness (judgement.Accepted frames) well a.says a.judged)

-- ---- over a circuit

bits_claim : (c : Circuit) (text : List ℕ) (r : BitRead) → read_bit_text c text ≡ Ok r → makes_no_bit_claim (whole_lines text) ≡ false
bits_claim c text r read =
    false_from_ne_true (makes_no_bit_claim (whole_lines text)) (λ none.
    let done = (text_was_read (bit_reader c) text r read).done in
    let is = sym (ap (λ g. is_done g.read.place) (no_claim_is_refused c text none)) ∙ ap (λ (s : BitRead). is_done s.place) (was_all_read (bit_reader c) text r read) in
    absurd (cc (is, done)))

pub judged_bits : (c : Circuit) (text : List ℕ) (w : BitWitness) (j : Judgement) → IsCircuit c → BitSays c text w → JudgesBits c w j → BitJudges c text j
judged_bits c text w j circuit says judged =
    let read = bit_says_read c text w circuit says in
    read_judged (λ (s : BitRead). JudgesBits c (bit_witness_of s)) (makes_no_bit_claim (whole_lines text)) (read_bit_text c text) (Ok (all_bits_read w)) j (bits_claim c text (all_bits_read w) read) read judged

pub bit_accepts_exactly : (c : Circuit) (text : List ℕ) (j : Judgement) → IsCircuit c → BitJudges c text j → BitAcceptsExactly c text j
bit_accepts_exactly c text j circuit h frames = (there, back)
  where
    there : j ≡ judgement.Accepted frames → IsAcceptedBitText c text frames
    there e =
        let r = accepted_reads (λ (s : BitRead). JudgesBits c (bit_witness_of s)) (makes_no_bit_claim (whole_lines text)) (read_bit_text c text) frames (subst (BitJudges c text) e h) in
        record { witness = bit_witness_of r.what; says = bit_read_says c text r.what circuit r.is; judged = r.judged }

    back : IsAcceptedBitText c text frames → j ≡ judgement.Accepted frames
    back a = same_bit_judgement c text j (judgement.Accepted frames) circuit h (judged_bits c text a.witness (judgement.Accepted frames) circuit a.says a.judged)
