-- A model of the profile is fitted into itself, each node as its own piece.
use Rattle.std.proofs.Common.{◌≡◌, ℕ, ◌≤◌, Bool, true, false, cond, ◌||◌, List, [], ◌∷◌, ◌++◌, flat_map, Option, Some, None, is_some, unwrap_or, option_and_then, refl, sym, ap, subst, ◌∙◌, append_assoc, arith, eq-eqb}
use Rattle.std.specs.List.{AllByRecursion}
use Rattle.std.specs.Option.{option_or}
use Rattle.btor2.specs.declared.item.Item.{Item}
use Rattle.btor2.specs.declared.item.Body.{Body}
use Rattle.btor2.specs.declared.item.Body.TheVariants as body
use Rattle.btor2.specs.Items.{find_item, node_sort, sort_width, width_of_body, node_width, constant_of, is_input, is_state, init_for, init_value, init_word, next_value}
use Rattle.btor2.specs.Check.{IsWellFormed, IsWellFormedAfter}
use Rattle.btor2.specs.Lists.{of_kind}
use Rattle.btor2.specs.Trace.{Frame, bits_of, LineHolds, IsFrame, InitHolds}
use Rattle.btor2.specs.Reachability.{nodes_of}
use Rattle.btor2.proofs.AppendLemmas.{some_of, is_some_from, sort_width-append}
use Rattle.btor2.proofs.AcceptedLemmas.{HasSort, BodyIsAccepted}
use Rattle.btor2.proofs.ModelLemmas.{IsIn, IsAccepted-at, IsInitOf-from_value, find_item-in, node_width-range}
use Rattle.btor2.proofs.InitLemmas.{inits_hold}
use Rattle.btor2.proofs.TraceLemmas.{line_among}
use Rattle.wide.proofs.GrowLemmas.{tests_false}
use Rattle.wide.proofs.LawLemmas.{same_refusal}
use Rattle.full.proofs.PlainLaw.{profile_is_wide}
use Rattle.fit.specs.Fitting.{Layout, ids_of, joined, given_ids, carried_ids, is_output, NamesEarlierAfter, HasWidthOfPieces, Carries, init_words, InitIsCarried, AbsenceIsCarried, next_pieces, NextIsByPieces, NextIsCarried, IsFittingOf}
use Rattle.fit.proofs.LineLemmas.{next_by_pieces, outputs_by_pieces}
use Rattle.fit.proofs.ListLemmas.{to_ids}
use Rattle.fit.proofs.WordLemmas.{alone}
use Rattle.fitting.specs.Names.{LeafIsNamed, shown_names, piece_widths, names_of, HasNames}
use Rattle.fitting.specs.Models.{input_ids, state_ids, IsCutBy, IsFit}

-- each node is its own piece
abbrev pub itself : Layout
itself id = id ∷ []

-- ---- lists

each_itself : (ids : List ℕ) → flat_map itself ids ≡ ids
each_itself [] = refl
each_itself (a ∷ rest) = ap (λ (l : List ℕ). a ∷ l) (each_itself rest)

all_are : (P : ℕ → Type 0) (ids : List ℕ) → ((id : ℕ) → P id) → AllByRecursion P ids
all_are P [] h = tt
all_are P (a ∷ rest) h = (h a, all_are P rest h)

-- what holds of each item where it stands
all_in : (P : Item → Type 0) (items : List Item) → ((x : Item) → IsIn items x → P x) → (front xs : List Item) → items ≡ front ++ xs → AllByRecursion P xs
all_in P items h front [] e = tt
all_in P items h front (x ∷ xs) e = (h x (record { before = front; after = xs; splits = e }), all_in P items h (front ++ x ∷ []) xs (e ∙ sym (append_assoc front (x ∷ []) xs)))

-- ---- frames

same_frame : (items : List Item) (f : Frame) → f ≡ joined items itself f
same_frame items f = λ i id. sym (alone (bits_of items id) (f id)) i

own_width : (items : List Item) (id : ℕ) → HasWidthOfPieces items itself items id
own_width items id = omega arith

line_holds : (items before after : List Item) (x : Item) (state input f : Frame) → items ≡ before ++ x ∷ after → IsFrame items state input f → LineHolds items state input f x.id x.body
line_holds items before after x state input f e frame =
    line_among items state input f before after x (subst (λ (l : List Item). AllByRecursion (λ (y : Item). LineHolds items state input f y.id y.body) l) e frame)

carries_line : (items : List Item) (x : Item) → IsIn items x → Carries items itself items x
carries_line items x at state input g in_state in_input frame =
    subst (λ (s : Frame). LineHolds items s (joined items itself input) (joined items itself g) x.id x.body) (same_frame items state)
    (subst (λ (i : Frame). LineHolds items state i (joined items itself g) x.id x.body) (same_frame items input)
    (subst (λ (f : Frame). LineHolds items state input f x.id x.body) (same_frame items g) (line_holds items at.before at.after x state input g at.splits frame)))

-- ---- init and next lines

option_there : (o p : Option ℕ) → is_some p ≡ true → is_some (option_or o p) ≡ true
option_there None p h = h
option_there (Some v) p h = refl

init_there : (before after : List Item) (x : Item) (s t v : ℕ) → x.body ≡ body.Init s t v → is_some (init_value (before ++ x ∷ after) t) ≡ true
init_there [] after x s t v e =
    ap (λ (b : Body). is_some (option_or (init_for t b) (init_value after t))) e ∙ ap (λ (b : Bool). is_some (option_or (cond b (Some v) None) (init_value after t))) (eq-eqb t t refl)
init_there (y ∷ ys) after x s t v e = option_there (init_for t y.body) (init_value (ys ++ x ∷ after) t) (init_there ys after x s t v e)

word_there : (items : List Item) (t : ℕ) → IsWellFormed items → is_some (init_value items t) ≡ true → is_some (init_word items t) ≡ true
word_there items t h there =
    let value = some_of (init_value items t) there in
    let line = IsInitOf-from_value items t value.0 h value.1 in
    is_some_from (init_word items t) line.constant (word items t value.0 line.constant value.1 line.word)
  where
    word : (items : List Item) (t v c : ℕ) → init_value items t ≡ Some v → constant_of items v ≡ Some c → init_word items t ≡ Some c
    word items t v c e k = rw e k

words_hold : (items : List Item) → IsWellFormed items → AllByRecursion (λ (x : Item). InitHolds items (init_words items) x.body) items
words_hold items h = inits_hold items (init_words items) h (λ t v e. let line = IsInitOf-from_value items t v h e in by t v line.constant e line.word)
  where
    by : (t v c : ℕ) → init_value items t ≡ Some v → constant_of items v ≡ Some c → constant_of items v ≡ Some (init_words items t)
    by t v c e k = rw e (rw k refl)

init_carried : (items : List Item) → IsWellFormed items → (x : Item) → IsIn items x → InitHolds items (init_words items) x.body → InitIsCarried items itself items x.body
init_carried items h x at = by x.body refl
  where
    by : (b : Body) → x.body ≡ b → InitHolds items (init_words items) b → InitIsCarried items itself items b
    by (body.Init s t v) e holds =
        let there = subst (λ (l : List Item). is_some (init_value l t) ≡ true) (sym at.splits) (init_there at.before at.after x s t v e) in
        ((word_there items t h there, tt), holds ∙ ap (λ (f : Frame). Some (f t)) (same_frame items (init_words items)))
    by _ e holds = tt

inits_carried : (items : List Item) → IsWellFormed items → (front xs : List Item) → items ≡ front ++ xs → AllByRecursion (λ (x : Item). InitHolds items (init_words items) x.body) xs → AllByRecursion (λ (x : Item). InitIsCarried items itself items x.body) xs
inits_carried items h front [] e holds = tt
inits_carried items h front (x ∷ xs) e holds =
    (init_carried items h x (record { before = front; after = xs; splits = e }) holds.0, inits_carried items h (front ++ x ∷ []) xs (e ∙ sym (append_assoc front (x ∷ []) xs)) holds.1)

next_carried : (items : List Item) (id : ℕ) → NextIsByPieces items itself items id
next_carried items id = by (next_value items id)
  where
    by : (o : Option ℕ) → o ∷ [] ≡ next_pieces itself o (id ∷ [])
    by None = refl
    by (Some v) = refl

-- ---- a model

ordered : (front xs : List Item) → IsWellFormedAfter front xs → NamesEarlierAfter front xs
ordered front [] h = tt
ordered front (x ∷ xs) h = ((tests_false 64 front x (same_refusal front x ∙ h.0)).1.1.1.1.0, ordered (front ++ x ∷ []) xs h.1)

fits_itself : (items : List Item) → IsWellFormed items → IsFittingOf items itself items
fits_itself items h =
    record {
      ordered = ordered [] items h;
      well_formed = profile_is_wide items h;
      given = each_itself (given_ids items);
      carried = each_itself (carried_ids items);
      given_widths = all_are (HasWidthOfPieces items itself items) (given_ids items) (own_width items);
      carried_widths = all_are (HasWidthOfPieces items itself items) (carried_ids items) (own_width items);
      lines = all_in (Carries items itself items) items (carries_line items) [] items refl;
      inits = inits_carried items h [] items refl (words_hold items h);
      no_other_inits = all_are (AbsenceIsCarried items itself items) (carried_ids items) (λ id none. (none, tt));
      nexts = all_are (NextIsCarried items itself items) (carried_ids items) (λ id. next_by_pieces items items itself id (next_carried items id));
      outputs = outputs_by_pieces items items itself (each_itself (nodes_of is_output items));
      bads = refl;
      constraints = refl;
    }

-- ---- names

leaf_named : (items : List Item) → IsWellFormed items → (x : Item) → IsIn items x → LeafIsNamed itself items x
leaf_named items h x at leaf = ((x, find_item-in items x h at, refl), tt)

output_named : (items xs : List Item) (x : Item) (b : Body) → x.body ≡ b → flat_map (shown_names (piece_widths itself items)) (of_kind is_output xs) ≡ names_of is_output xs
    → flat_map (shown_names (piece_widths itself items)) (of_kind is_output (x ∷ xs)) ≡ names_of is_output (x ∷ xs)
output_named items xs x (body.Output a) e rest = rw e (ap (λ l. x.symbol ∷ l) rest)
output_named items xs x _ e rest = rw e rest

outputs_named : (items xs : List Item) → flat_map (shown_names (piece_widths itself items)) (of_kind is_output xs) ≡ names_of is_output xs
outputs_named items [] = refl
outputs_named items (x ∷ xs) = output_named items xs x x.body refl (outputs_named items xs)

named_itself : (items : List Item) → IsWellFormed items → HasNames items itself items
named_itself items h =
    record {
      leaves = all_in (LeafIsNamed itself items) items (leaf_named items h) [] items refl;
      outputs = outputs_named items items;
      bads = refl;
      constraints = refl;
    }

-- ---- leaves

-- of each item of a kind, where each item of the kind has it
of_kind_all : (P : ℕ → Type 0) (kind : Item → Bool) (items : List Item) → ((x : Item) → IsIn items x → kind x ≡ true → P x.id) → AllByRecursion P (ids_of kind items)
of_kind_all P kind items own = to_ids P kind items (all_in (λ (x : Item). kind x ≡ true → P x.id) items (λ x at is. own x at is) [] items refl)

own_cut : (items : List Item) → IsWellFormed items → (x : Item) → IsIn items x → (is_input x.body || is_state x.body) ≡ true → IsCutBy itself items x.id
own_cut items h x at leaf = by x.body refl leaf (IsAccepted-at items x h at).says
  where
    sorted : (s : ℕ) → node_sort x.body ≡ Some s → HasSort at.before s → IsCutBy itself items x.id
    sorted s names sort =
        let there : sort_width items s ≡ Some sort.0 = ap (λ (l : List Item). sort_width l s) at.splits ∙ sort_width-append at.before (x ∷ at.after) s sort.0 sort.1 in
        let width : node_width items x.id ≡ Some sort.0 =
        ap (option_and_then (λ (y : Item). width_of_body items y.body)) (find_item-in items x h at) ∙ ap (option_and_then (sort_width items)) names ∙ there in
        let range = node_width-range items x.id sort.0 h width in
        let bits : bits_of items x.id ≡ sort.0 = ap (λ (o : Option ℕ). unwrap_or o 0) width in
        (subst (λ (n : ℕ). 1 ≤ n) (sym bits) range.0, subst (λ (n : ℕ). n ≤ 64) (sym bits) range.1)

    by : (b : Body) → x.body ≡ b → (is_input b || is_state b) ≡ true → BodyIsAccepted at.before b → IsCutBy itself items x.id
    by (body.Input s) e is accepted = sorted s (ap node_sort e) accepted
    by (body.State s) e is accepted = sorted s (ap node_sort e) accepted
    by _ e is accepted = absurd (cc)

either : (i s : Bool) → s ≡ true → (i || s) ≡ true
either true s h = refl
either false s h = h

pub itself_is_fit : (items : List Item) → IsWellFormed items → (fit : IsFit items items) × ((id : ℕ) → fit.layout id ≡ id ∷ [])
itself_is_fit items h = (
  record {
    layout = itself;
    fits = fits_itself items h;
    well_formed = h;
    names = named_itself items h;
    found = all_in (λ (x : Item). find_item items x.id ≡ Some x) items (λ x at. find_item-in items x h at) [] items refl;
    inputs = each_itself (input_ids items);
    states = each_itself (state_ids items);
    nexts = all_are (NextIsByPieces items itself items) (carried_ids items) (next_carried items);
    outputs = each_itself (nodes_of is_output items);
    input_cuts = of_kind_all (IsCutBy itself items) (λ x. is_input x.body) items (λ x at is. own_cut items h x at (ap (λ (b : Bool). b || is_state x.body) is));
    state_cuts = of_kind_all (IsCutBy itself items) (λ x. is_state x.body) items (λ x at is. own_cut items h x at (either (is_input x.body) (is_state x.body) is));
  },
  λ id. refl,
)
