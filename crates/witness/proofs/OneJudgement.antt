-- A text has one judgement over a well-formed model: the model has one trace, and a judgement looks only at nodes with a value.
use Rattle.std.proofs.Common.{◌≡◌, ℕ, Bool, true, false, cond, nat_eq, List, [], ◌∷◌, ◌++◌, length, map, flat_map, Some, refl, sym, ap, ap₂, subst, ◌∙◌, append_assoc}
use Rattle.btor2.specs.declared.item.Item.{Item}
use Rattle.btor2.specs.declared.item.Body.{Body}
use Rattle.btor2.specs.Items.{operands, node_width, is_bad, is_constraint}
use Rattle.btor2.specs.Check.{IsWellFormed}
use Rattle.btor2.specs.Trace.{Frame, SameFrame, SameTrace}
use Rattle.btor2.proofs.AppendLemmas.{is_some_from, node_width-append}
use Rattle.btor2.proofs.AcceptedLemmas.{Each, HasWidth}
use Rattle.btor2.proofs.ModelLemmas.{IsAccepted-at}
use Rattle.btor2.proofs.TraceLemmas.{trace_exists, trace_unique}
use Rattle.witness.specs.declared.judgement.Judgement.{Judgement}
use Rattle.witness.specs.Texts.{shape_of}
use Rattle.witness.specs.Admits.{Read, read_text, witness_of}
use Rattle.btor2.specs.Lists.{of_kind}
use Rattle.btor2.specs.Reachability.{nodes_of, values_of, model_shows}
use Rattle.witness.specs.Judgements.{Words, initial_words, given_frames, verdict, words_of, makes_no_claim, JudgesWords, Judges, first_different}
use Rattle.base.specs.Lines.{whole_lines}
use Rattle.witness.proofs.JudgedLemmas.{some_judged, judged_once}

-- ---- the nodes of properties have values

each_append : (P : ℕ → Type 0) (xs ys : List ℕ) → Each P xs → Each P ys → Each P (xs ++ ys)
each_append P [] ys h k = k
each_append P (x ∷ xs) ys h k = (h.0, each_append P xs ys h.1 k)

each_weaker : (P Q : ℕ → Type 0) (xs : List ℕ) → ((a : ℕ) → P a → Q a) → Each P xs → Each Q xs
each_weaker P Q [] weaker h = tt
each_weaker P Q (x ∷ xs) weaker h = (weaker x h.0, each_weaker P Q xs weaker h.1)

operands_have_widths : (items before xs : List Item) (x : Item) → IsWellFormed items → items ≡ before ++ x ∷ xs → Each (HasWidth items) (operands x.body)
operands_have_widths items before xs x w is =
    let accepted = IsAccepted-at items x w (record { before = before; after = xs; splits = is }) in
    each_weaker (HasWidth before) (HasWidth items) (operands x.body)
    (λ a h. (h.0, subst (λ (l : List Item). node_width l a ≡ Some h.0) (sym is) (node_width-append before (x ∷ xs) a h.0 h.1)))
    accepted.nodes

nodes_from : (kind : Body → Bool) (items before xs : List Item) → IsWellFormed items → items ≡ before ++ xs → Each (HasWidth items) (nodes_of kind xs)
nodes_from kind items before [] w is = tt
nodes_from kind items before (x ∷ xs) w is =
    let rest = nodes_from kind items (before ++ x ∷ []) xs w (is ∙ sym (append_assoc before (x ∷ []) xs)) in
    elim (kind x.body) as (λ b. Each (HasWidth items) (flat_map (λ (y : Item). operands y.body) (cond b (x ∷ of_kind kind xs) (of_kind kind xs)))) [
      | true ↦ each_append (HasWidth items) (operands x.body) (nodes_of kind xs) (operands_have_widths items before xs x w is) rest
      | false ↦ rest
    ]

pub nodes_have_widths : (kind : Body → Bool) (items : List Item) → IsWellFormed items → Each (HasWidth items) (nodes_of kind items)
nodes_have_widths kind items w = nodes_from kind items [] items w refl

-- ---- traces that are the same show the same

pub same_word : (items : List Item) (f g : Frame) (a : ℕ) → SameFrame items f g → HasWidth items a → f a ≡ g a
same_word items f g a same h = same a (is_some_from (node_width items a) h.0 h.1)

-- what each frame says of nodes is the same
said_same : {A : Type 0} (says : Frame → A) (items : List Item) (fs gs : List Frame) → ((f g : Frame) → SameFrame items f g → says f ≡ says g) → SameTrace items fs gs → map says fs ≡ map says gs
said_same says items [] [] each same = refl
said_same says items [] (g ∷ gs) each same = absurd same
said_same says items (f ∷ fs) [] each same = absurd same
said_same says items (f ∷ fs) (g ∷ gs) each same = ap₂ (λ x xs. x ∷ xs) (each f g same.0) (said_same says items fs gs each same.1)

values_same : (f g : Frame) (nodes : List ℕ) → Each (λ a. f a ≡ g a) nodes → map (λ a. nat_eq (f a) 1) nodes ≡ map (λ a. nat_eq (g a) 1) nodes
values_same f g [] h = refl
values_same f g (a ∷ more) h = ap₂ (λ (v : ℕ) (l : List Bool). nat_eq v 1 ∷ l) h.0 (values_same f g more h.1)

kind_same : (kind : Body → Bool) (items : List Item) (f g : Frame) → IsWellFormed items → SameFrame items f g → values_of kind items f ≡ values_of kind items g
kind_same kind items f g well same =
    values_same f g (nodes_of kind items) (each_weaker (HasWidth items) (λ a. f a ≡ g a) (nodes_of kind items) (λ a there. same_word items f g a same there) (nodes_have_widths kind items well))

-- so they show the same
pub shown_same : (items : List Item) (fs gs : List Frame) → IsWellFormed items → SameTrace items fs gs → map (model_shows items) fs ≡ map (model_shows items) gs
shown_same items fs gs well same =
    said_same (model_shows items) items fs gs (λ f g alike. rw (kind_same is_bad items f g well alike, kind_same is_constraint items f g well alike) refl) same

-- ---- one judgement

words_judged : (items : List Item) (w : Words) → IsWellFormed items → (j : Judgement) × JudgesWords items w j
words_judged items w well =
    let trace = trace_exists items (initial_words items w) (given_frames items w) well in (
      verdict (first_different items (initial_words items w)) w.claims (length (nodes_of is_bad items)) (map (model_shows items) trace.0),
      λ fs h. ap (verdict (first_different items (initial_words items w)) w.claims (length (nodes_of is_bad items))) (shown_same items trace.0 fs well (trace_unique items (initial_words items w) (given_frames items w) trace.0 fs well trace.1 h)),
    )

words_judged_once : (items : List Item) (w : Words) (j k : Judgement) → IsWellFormed items → JudgesWords items w j → JudgesWords items w k → j ≡ k
words_judged_once items w j k well first second =
    let trace = trace_exists items (initial_words items w) (given_frames items w) well in
    first trace.0 trace.1 ∙ sym (second trace.0 trace.1)

-- a text has a judgement
pub some_judgement : (items : List Item) (text : List ℕ) → IsWellFormed items → (j : Judgement) × Judges items text j
some_judgement items text well =
    some_judged (λ (r : Read). JudgesWords items (words_of (witness_of r))) (makes_no_claim 0 (whole_lines text)) (read_text (shape_of items) text) (λ r is. words_judged items (words_of (witness_of r)) well)

-- and no other
pub same_judgement : (items : List Item) (text : List ℕ) (j k : Judgement) → IsWellFormed items → Judges items text j → Judges items text k → j ≡ k
same_judgement items text j k well =
    judged_once (λ (r : Read). JudgesWords items (words_of (witness_of r))) (makes_no_claim 0 (whole_lines text)) (read_text (shape_of items) text) j k (λ r is. words_judged_once items (words_of (witness_of r)) j k well)
