-- The lines of a source, one after the other.
use Rattle.std.proofs.Common.{◌≡◌, ℕ, List, [], ◌∷◌, ◌++◌, Option, Some, None, IfSome, Ok, Err, length, append-nil, append_assoc, length-append, refl, sym, ap, ap₂, subst, ◌∙◌, arith}
use Rattle.std.specs.Io.KnownBytes.{prepend_known, Keeps, Consumes, IsAtEnd}
use Rattle.std.proofs.KnownBytes.{Consumes-nil, Consumes-trans, prepend_known-nil}
use Rattle.base.specs.declared.pen.Pen.{Pen}
use Rattle.base.specs.Lines.{IsLine, text_of_lines, whole_lines, unfinished}
use Rattle.base.specs.Writing.{WritesText}
use Rattle.base.proofs.PenLemmas.{writes_none, writes_then}
use Rattle.btor2.specs.declared.item.Item.{Item}
use Rattle.witness.specs.Texts.{Shape, shape_of}
use Rattle.witness.specs.Readings.{Reading, next_line, lines_behind, so_far}
use Rattle.witness.specs.Admits.{Read, nothing_read, word_reader}
use Rattle.witness.proofs.TextEndLemmas.{lines_behind_text, whole_lines-part}
use Rattle.base.proofs.LineLemmas.{parts_of_text, whole_lines-line, whole_lines-last, unfinished-line, unfinished-last, unfinished-lines}
use Rattle.spread.specs.declared.spreader.Part.{Part}
use Rattle.spread.specs.declared.spreader.Part.TheVariants as part
use Rattle.spread.specs.Made.{lines_made, text_made, source_made}
use Rattle.base.specs.Device.{BeginsWith}
use Rattle.rejoin.specs.Pieces.{cut_shape}
use Rattle.spread.proofs.GivingLemmas.{lines_by-both, text_of_both}
use Rattle.rejoin.specs.declared.fault.UnfitFault.{UnfitFault}
use Rattle.spread.specs.Spread.{IsShort, spread_text, lines_by, admitted_line}
use Rattle.spread.specs.Stands.{Spreader, part_behind, IsWideShape, StandsFor, EndsFor, Takes, TakesAll}
use Rattle.spread.specs.Heard.{Hears, HearsAll}

-- the part that is open behind some lines
abbrev pub part_after : Part → List (List ℕ) → Part
part_after p [] = p
part_after p (line ∷ lines) = part_after (part_behind p line) lines

-- what the lines of a front of what a source gives become was taken, and heard
pub record Followed {K O H : Type 0} (written : K → Option (List ℕ)) (failures : K → ℕ) (Stands : O → H → Shape → List Item → List ℕ → Type 0) (make : Part → List ℕ → List ℕ) (open' : Part) (s t : K) (p q : Pen) (before after : Spreader) (h k : H) (known now : Option (List ℕ)) : Type 0 where
  pub front : List ℕ
  pub consumes : Consumes known now front
  pub ended : unfinished front ≡ []
  pub is_open : open' ≡ part_after part.Outside (whole_lines front)
  pub out : List ℕ
  pub writes : WritesText written failures s t p q out
  pub takes :
      (shape : Shape) (narrow : List Item) → IsWideShape shape → shape_of narrow ≡ cut_shape shape → IsShort (text_made make front) → StandsFor shape narrow before [] → StandsFor shape narrow after (text_made make front) × (out ≡ spread_text shape (text_made make front))
  pub heard :
      (over : O) (shape : Shape) (narrow : List Item) → IsWideShape shape → shape_of narrow ≡ cut_shape shape → IsShort (text_made make front) → StandsFor shape narrow before [] → Stands over h shape narrow [] → Stands over k shape narrow (text_made make front)

-- ---- what lines become

made-both : (make : Part → List ℕ → List ℕ) (p : Part) (front back : List (List ℕ)) → lines_made make p (front ++ back) ≡ lines_made make p front ++ lines_made make (part_after p front) back
made-both make p [] back = refl
made-both make p (line ∷ front) back = ap (λ (ls : List (List ℕ)). make p line ∷ ls) (made-both make (part_behind p line) front back)

after-both : (p : Part) (front back : List (List ℕ)) → part_after p (front ++ back) ≡ part_after (part_after p front) back
after-both p [] back = refl
after-both p (line ∷ front) back = after-both (part_behind p line) front back

-- lines that stay as they are are those of the text
as_they_are : (p : Part) (lines : List (List ℕ)) → lines_made (λ p line. line) p lines ≡ lines
as_they_are p [] = refl
as_they_are p (line ∷ lines) = ap (λ (ls : List (List ℕ)). line ∷ ls) (as_they_are (part_behind p line) lines)

pub same_text : (text : List ℕ) → text_made (λ p line. line) text ≡ text
same_text text = ap (λ (ls : List (List ℕ)). text_of_lines ls ++ unfinished text) (as_they_are part.Outside (whole_lines text)) ∙ parts_of_text text

pub same_source : (source : Option (List ℕ)) → source_made (λ p line. line) source ≡ source
same_source None = refl
same_source (Some text) = ap Some (same_text text)

-- what a text behind whole lines becomes stands behind what they become
module _ (make : Part → List ℕ → List ℕ) (front behind : List ℕ) (ended : unfinished front ≡ []) where
  abbrev open_behind : Part
  open_behind = part_after part.Outside (whole_lines front)

  whole_behind : whole_lines (front ++ behind) ≡ whole_lines front ++ whole_lines behind
  whole_behind = lines_behind_text front behind ∙ ap (λ (l : List ℕ). whole_lines front ++ whole_lines (l ++ behind)) ended

  whole_front : text_of_lines (whole_lines front) ≡ front
  whole_front = sym (append-nil _) ∙ (ap (λ (l : List ℕ). text_of_lines (whole_lines front) ++ l) (sym ended) ∙ parts_of_text front)

  rest_behind : unfinished (front ++ behind) ≡ unfinished behind
  rest_behind = ap (λ (l : List ℕ). unfinished (l ++ behind)) (sym whole_front) ∙ unfinished-lines (whole_lines front) behind

  alone : text_made make front ≡ text_of_lines (lines_made make part.Outside (whole_lines front))
  alone = ap (λ (l : List ℕ). text_of_lines (lines_made make part.Outside (whole_lines front)) ++ l) ended ∙ append-nil _

  pub made_behind : text_made make (front ++ behind) ≡ text_made make front ++ (text_of_lines (lines_made make open_behind (whole_lines behind)) ++ unfinished behind)
  made_behind =
      ap₂ (λ (ls : List (List ℕ)) (l : List ℕ). text_of_lines (lines_made make part.Outside ls) ++ l) whole_behind rest_behind
      ∙ (ap (λ (ls : List (List ℕ)). text_of_lines ls ++ unfinished behind) (made-both make part.Outside (whole_lines front) (whole_lines behind))
      ∙ (ap (λ (l : List ℕ). l ++ unfinished behind) (text_of_both (lines_made make part.Outside (whole_lines front)) (lines_made make open_behind (whole_lines behind)))
      ∙ (append_assoc (text_of_lines (lines_made make part.Outside (whole_lines front))) (text_of_lines (lines_made make open_behind (whole_lines behind))) (unfinished behind)
      ∙ ap (λ (l : List ℕ). l ++ (text_of_lines (lines_made make open_behind (whole_lines behind)) ++ unfinished behind)) (sym alone))))

  pub open_after : part_after part.Outside (whole_lines (front ++ behind)) ≡ part_after open_behind (whole_lines behind)
  open_after = ap (part_after part.Outside) whole_behind ∙ after-both part.Outside (whole_lines front) (whole_lines behind)

-- a line, and what stands behind the last
one_line : (line : List ℕ) → IsLine line → whole_lines (line ++ 10 ∷ []) ≡ line ∷ []
one_line line is = whole_lines-line line [] is

made_line : (make : Part → List ℕ → List ℕ) (front line : List ℕ) → unfinished front ≡ [] → IsLine line
    → text_made make (front ++ (line ++ 10 ∷ [])) ≡ text_made make front ++ (make (part_after part.Outside (whole_lines front)) line ++ 10 ∷ [])
made_line make front line ended is =
    made_behind make front (line ++ 10 ∷ []) ended
    ∙ ap (λ (l : List ℕ). text_made make front ++ l)
    (ap₂ (λ (ls : List (List ℕ)) (l : List ℕ). text_of_lines (lines_made make (part_after part.Outside (whole_lines front)) ls) ++ l) (one_line line is) (unfinished-line line [])
    ∙ (append-nil _ ∙ append-nil _))

made_rest : (make : Part → List ℕ → List ℕ) (front rest : List ℕ) → unfinished front ≡ [] → IsLine rest → text_made make (front ++ rest) ≡ text_made make front ++ rest
made_rest make front rest ended is =
    made_behind make front rest ended
    ∙ ap (λ (l : List ℕ). text_made make front ++ l) (ap₂ (λ (ls : List (List ℕ)) (l : List ℕ). text_of_lines (lines_made make (part_after part.Outside (whole_lines front)) ls) ++ l) (whole_lines-last rest is) (unfinished-last rest is))

made_ends : (make : Part → List ℕ → List ℕ) (front : List ℕ) → unfinished front ≡ [] → unfinished (text_made make front) ≡ []
made_ends make front ended = unfinished-lines (lines_made make part.Outside (whole_lines front)) (unfinished front) ∙ ap unfinished ended

-- it is the text of its lines
whole_made : (make : Part → List ℕ → List ℕ) (front : List ℕ) → unfinished front ≡ [] → text_of_lines (whole_lines (text_made make front)) ≡ text_made make front
whole_made make front ended =
    let made : List ℕ = text_made make front in
    sym (append-nil _) ∙ (ap (λ (l : List ℕ). text_of_lines (whole_lines made) ++ l) (sym (made_ends make front ended)) ∙ parts_of_text made)

-- ---- the lines of a source

nothing_spread : (shape : Shape) → spread_text shape [] ≡ []
unfolding spread_text
nothing_spread shape = refl

short_front : (front behind : List ℕ) → IsShort (front ++ behind) → IsShort front
short_front front behind short =
    omega (arith, short, ap length (lines_behind_text front behind), length-append (whole_lines front) (whole_lines (unfinished front ++ behind)))

same_spread : (shape : Shape) (text rest : List ℕ) → IsLine rest → spread_text shape (text ++ rest) ≡ spread_text shape text
unfolding spread_text
same_spread shape text rest is =
    ap (λ (ls : List (List ℕ)). text_of_lines (lines_by shape (λ g line. admitted_line shape g.read.place line (next_line (word_reader shape) g line).refused) (so_far 0 nothing_read) ls)) (whole_lines-part text rest is)

-- the spread text of a front is a beginning of it
spread_front : (shape : Shape) (front behind : List ℕ) → (more : List ℕ) × (spread_text shape (front ++ behind) ≡ spread_text shape front ++ more)
unfolding spread_text
spread_front shape front behind =
    let going : Reading Read → List ℕ → List (List ℕ) = λ g line. admitted_line shape g.read.place line (next_line (word_reader shape) g line).refused in
    let others : List (List ℕ) = lines_by shape going (lines_behind (word_reader shape) (so_far 0 nothing_read) (whole_lines front)) (whole_lines (unfinished front ++ behind)) in (
      text_of_lines others,
      ap (λ (ls : List (List ℕ)). text_of_lines (lines_by shape going (so_far 0 nothing_read) ls)) (lines_behind_text front behind)
          ∙ (ap text_of_lines (lines_by-both shape going (so_far 0 nothing_read) (whole_lines front) (whole_lines (unfinished front ++ behind))) ∙ text_of_both (lines_by shape going (so_far 0 nothing_read) (whole_lines front)) others),
    )

module _ {K O H : Type 0} {written : K → Option (List ℕ)} {failures : K → ℕ} {Stands : O → H → Shape → List Item → List ℕ → Type 0} {make : Part → List ℕ → List ℕ} where
  pub follows_none : {s : K} {p : Pen} {a : Spreader} {x : H} (known : Option (List ℕ)) → Followed written failures Stands make part.Outside s s p p a a x x known (prepend_known [] known)
  follows_none known = record {
    front = [];
    consumes = subst (λ (now : Option (List ℕ)). Consumes known now []) (sym (prepend_known-nil known)) (Consumes-nil known);
    ended = refl;
    is_open = refl;
    out = [];
    writes = writes_none;
    takes = λ shape narrow good cut short h. (h, sym (nothing_spread shape));
    heard = λ over shape narrow good cut short h stands. stands;
  }

  pub follows_line : {s t u : K} {p q r : Pen} {a b c : Spreader} {x y z : H} {known now then' : Option (List ℕ)} {open' : Part} {line : List ℕ} → Followed written failures Stands make open' s t p q a b x y known now → IsLine line → Consumes now then' (line ++ 10 ∷ [])
      → Takes written failures t u q r b c (make open' line) → Hears Stands y z c (make open' line) → Followed written failures Stands make (part_behind open' line) s u p r a c x z known then'
  follows_line {a = a} {c = c} {x = x} {z = z} {known = known} {now = now} {then' = then'} {open' = open'} {line = line} so is took takes hears =
      let made : text_made make (so.front ++ (line ++ 10 ∷ [])) ≡ text_made make so.front ++ (make open' line ++ 10 ∷ []) =
      made_line make so.front line so.ended is ∙ ap (λ (p : Part). text_made make so.front ++ (make p line ++ 10 ∷ [])) (sym so.is_open) in
      record {
        front = so.front ++ (line ++ 10 ∷ []);
        consumes = Consumes-trans known now then' so.front (line ++ 10 ∷ []) so.consumes took;
        ended = rest_behind make so.front (line ++ 10 ∷ []) so.ended ∙ unfinished-line line [];
        is_open = ap (λ (p : Part). part_behind p line) so.is_open ∙ sym (open_after make so.front (line ++ 10 ∷ []) so.ended ∙ ap (part_after (part_after part.Outside (whole_lines so.front))) (one_line line is));
        out = so.out ++ takes.out;
        writes = writes_then so.writes takes.writes;
        takes = λ shape narrow good cut.
            subst (λ (text : List ℕ). IsShort text → StandsFor shape narrow a [] → StandsFor shape narrow c text × (so.out ++ takes.out ≡ spread_text shape text)) (sym made)
            (λ short h.
            let first = so.takes shape narrow good cut (short_front (text_made make so.front) (make open' line ++ 10 ∷ []) short) h in
            let next = takes.takes shape narrow (text_made make so.front) good cut short first.0 in
            (next.0, ap (λ (l : List ℕ). l ++ takes.out) first.1 ∙ sym next.1));
        heard = λ over shape narrow good cut.
            subst (λ (text : List ℕ). IsShort text → StandsFor shape narrow a [] → Stands over x shape narrow [] → Stands over z shape narrow text) (sym made)
            (λ short h stands.
            let shorter = short_front (text_made make so.front) (make open' line ++ 10 ∷ []) short in
            hears over shape narrow (text_made make so.front) good cut (made_ends make so.front so.ended) short (takes.takes shape narrow (text_made make so.front) good cut short (so.takes shape narrow good cut shorter h).0).0 (so.heard over shape narrow good cut shorter h stands));
      }

  pub follows_all : {s t : K} {p q : Pen} {a b c : Spreader} {x y : H} {open' : Part} (known now left : Option (List ℕ)) (rest : List ℕ) → Followed written failures Stands make open' s t p q a b x y known now → Keeps now (prepend_known rest left) → IsAtEnd left → IsLine rest
      → ((shape : Shape) (narrow : List Item) (text : List ℕ) → IsLine rest → StandsFor shape narrow b text → EndsFor shape narrow c (text ++ rest)) → TakesAll {E = UnfitFault} (Ok tt) written failures s t p q a c (source_made make known)
  follows_all {a = a} {c = c} known now left rest so kept end' is ends = record {
    out = so.out;
    writes = so.writes;
    ends = λ shape narrow good cut h. by shape narrow good cut h known now left so.consumes kept end';
    stops = tt;
  }
    where
      by : (shape : Shape) (narrow : List Item) → IsWideShape shape → shape_of narrow ≡ cut_shape shape → StandsFor shape narrow a [] → (known now left : Option (List ℕ)) → Consumes known now so.front → Keeps now (prepend_known rest left) → IsAtEnd left
          → IfSome (source_made make known) (λ text. IsShort text → EndsFor shape narrow c text × (so.out ≡ spread_text shape text))
      by shape narrow good cut h None now left consumes kept end' = tt
      by shape narrow good cut h (Some text) None left consumes kept end' = absurd consumes
      by shape narrow good cut h (Some text) (Some behind) None consumes kept end' = absurd kept
      by shape narrow good cut h (Some text) (Some behind) (Some none) consumes kept end' =
          let whole : text ≡ so.front ++ rest = consumes ∙ ap (λ (l : List ℕ). so.front ++ l) (sym kept ∙ (ap (λ (l : List ℕ). rest ++ l) end' ∙ append-nil rest)) in
          subst (λ (t : List ℕ). IsShort t → EndsFor shape narrow c t × (so.out ≡ spread_text shape t)) (sym (ap (text_made make) whole ∙ made_rest make so.front rest so.ended is))
          (λ short.
          let took = so.takes shape narrow good cut (short_front (text_made make so.front) rest short) h in
          (ends shape narrow (text_made make so.front) is took.0, took.1 ∙ sym (same_spread shape (text_made make so.front) rest is)))

  -- what is heard of it
  pub heard_all : {s t : K} {p q : Pen} {a b : Spreader} {x y : H} {open' : Part} (known now left : Option (List ℕ)) (rest : List ℕ) → Followed written failures Stands make open' s t p q a b x y known now → Keeps now (prepend_known rest left) → IsAtEnd left → IsLine rest
      → HearsAll Stands x y a (source_made make known)
  heard_all {a = a} {x = x} {y = y} known now left rest so kept end' is = λ shape narrow good cut h. by shape narrow good cut h known now left so.consumes kept end'
    where
      by : (shape : Shape) (narrow : List Item) → IsWideShape shape → shape_of narrow ≡ cut_shape shape → StandsFor shape narrow a [] → (known now left : Option (List ℕ)) → Consumes known now so.front → Keeps now (prepend_known rest left) → IsAtEnd left
          → IfSome (source_made make known) (λ text. IsShort text → (over : O) → Stands over x shape narrow [] → Stands over y shape narrow (text_of_lines (whole_lines text)))
      by shape narrow good cut h None now left consumes kept end' = tt
      by shape narrow good cut h (Some text) None left consumes kept end' = absurd consumes
      by shape narrow good cut h (Some text) (Some behind) None consumes kept end' = absurd kept
      by shape narrow good cut h (Some text) (Some behind) (Some none) consumes kept end' =
          let whole : text ≡ so.front ++ rest = consumes ∙ ap (λ (l : List ℕ). so.front ++ l) (sym kept ∙ (ap (λ (l : List ℕ). rest ++ l) end' ∙ append-nil rest)) in
          let made : List ℕ = text_made make so.front in
          let lines : text_of_lines (whole_lines (made ++ rest)) ≡ made = ap text_of_lines (whole_lines-part made rest is) ∙ whole_made make so.front so.ended in
          subst (λ (t : List ℕ). IsShort t → (over : O) → Stands over x shape narrow [] → Stands over y shape narrow (text_of_lines (whole_lines t))) (sym (ap (text_made make) whole ∙ made_rest make so.front rest so.ended is))
          (λ short over stands. subst (Stands over y shape narrow) (sym lines) (so.heard over shape narrow good cut (short_front made rest short) h stands))

  -- where it is not to its end
  pub follows_fault : {E : Type 0} {s t : K} {p q : Pen} {a b c : Spreader} {x y : H} {open' : Part} (known now : Option (List ℕ)) (e : E) → Followed written failures Stands make open' s t p q a b x y known now → TakesAll (Err e) written failures s t p q a c (source_made make known)
  follows_fault {a = a} known now e so = record { out = so.out; writes = so.writes; ends = tt; stops = λ shape narrow good cut h. by shape narrow good cut h known now so.consumes }
    where
      by : (shape : Shape) (narrow : List Item) → IsWideShape shape → shape_of narrow ≡ cut_shape shape → StandsFor shape narrow a [] → (known now : Option (List ℕ)) → Consumes known now so.front → IfSome (source_made make known) (λ text. IsShort text → BeginsWith (spread_text shape text) so.out)
      by shape narrow good cut h None now consumes = tt
      by shape narrow good cut h (Some text) None consumes = absurd consumes
      by shape narrow good cut h (Some text) (Some behind) consumes =
          subst (λ (t : List ℕ). IsShort t → BeginsWith (spread_text shape t) so.out) (sym (ap (text_made make) consumes ∙ made_behind make so.front behind so.ended))
          (λ short.
          let others : List ℕ = text_of_lines (lines_made make (part_after part.Outside (whole_lines so.front)) (whole_lines behind)) ++ unfinished behind in
          let took = so.takes shape narrow good cut (short_front (text_made make so.front) others short) h in
          let more = spread_front shape (text_made make so.front) others in
          (more.0, ap (λ (l : List ℕ). l ++ more.0) took.1 ∙ sym more.1))
