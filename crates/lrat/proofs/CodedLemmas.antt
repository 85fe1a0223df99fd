-- Whole numbers of the binary form.
use Rattle.std.proofs.Common.{◌≡◌, ℕ, suc, ◌+◌, ◌-◌, ◌*◌, ◌/◌, ◌%◌, ◌^◌, ◌<◌, ◌≤◌, ◌==◌, nat_lt, Bool, true, false, not, List, [], ◌∷◌, ◌++◌, length, take, drop, get_or, append_assoc, append-nil, refl, sym, ap, ap₂, subst, ◌∙◌, arith}
use Rattle.std.specs.List.{list_any}
use Rattle.std.proofs.Math.Nat.{pow-suc, pow-le-pow_right, mul-le-mul_right}
use Rattle.std.proofs.lemmas.Bool.{ltb-false}
use Rattle.std.proofs.lemmas.List.{take_more, take_all, take-append-drop}
use Rattle.base.specs.Decimals.{is_nothing}
use Rattle.base.proofs.DecimalLemmas.{nothing}
use Rattle.drup.specs.Formula.{Formula}
use Rattle.drup.specs.BinaryProofs.{coded_number}
use Rattle.drup.specs.Numbers.{unit_behind, SpellsNumber}
use Rattle.drup.specs.ProofJudges.{ends_number}
use Rattle.drup.specs.Proofs.{most_proof_lines}
use Rattle.drup.proofs.BytesLemmas.{open_more}
use Rattle.drup.proofs.NumberLemmas.{more_value, more_unit}
use Rattle.lrat.specs.declared.scan.Scan.{Scan}
use Rattle.lrat.specs.declared.scan.Spot.{Spot as CodeSpot}
use Rattle.lrat.specs.declared.scan.Spot.TheVariants as spot
use Rattle.lrat.specs.HintedProofs.{Token, ends, adds, number, Mark, mark}
use Rattle.lrat.specs.Words.{token_said, signed}
use Rattle.lrat.specs.BinaryHintedProofs.{Spot, binary_marks}
use Rattle.lrat.specs.BinaryLratTexts.{WritesNumber}
use Rattle.lrat.specs.Codes.{IsCodedAt, coded_said, coded_behind, list_behind, step_after_list}
use Rattle.lrat.specs.Scans.{spot_of, IsWithin, BeginsNumber, IsInList, EndsList, BeginsAddition}
use Rattle.lrat.specs.TextJudges.{TextJudge}
use Rattle.lrat.specs.LratJudges.{LratJudge, ScannedBytes, StandsForBytes}
use Rattle.lrat.proofs.LratJudgeLemmas.{scanned, scanned_any, piece_passed, TakesWord}
use Rattle.lrat.proofs.BinaryLratTextLemmas.{literal_marks, other_marks, id_marks, addition_begins, rest_of}

-- ---- the bytes of a number

-- the bytes from a place on up to another have the top bit, and write this; a byte behind them counts that
pub record IsCodedTo (bytes : List ℕ) (at end value unit : ℕ) : Type 0 where
  pub word : List ℕ
  pub is : take end bytes ≡ take at bytes ++ word
  pub high : list_any ends_number word ≡ false
  pub value_is : value ≡ coded_number word
  pub unit_is : unit ≡ unit_behind word
  pub power : unit ≡ 128 ^ (end - at)
  pub low : value < unit
  pub order : at ≤ end

pub coded_first : (bytes : List ℕ) (at : ℕ) → IsCodedTo bytes at at 0 1
coded_first bytes at =
    let none : at - at ≡ 0 = omega arith in
    record { word = []; is = sym (append-nil (take at bytes)); high = refl; value_is = refl; unit_is = refl; power = sym (ap (λ (n : ℕ). 128 ^ n) none); low = omega arith; order = omega arith }

-- of at most 8 bytes there is room for one more
pub coded_room : (bytes : List ℕ) (at end value unit : ℕ) → IsCodedTo bytes at end value unit → end < at + 9 → unit ≤ 2 ^ 56
coded_room bytes at end value unit c few =
    let most : 128 ^ (end - at) ≤ 128 ^ 8 = pow-le-pow_right {n = 128} (omega arith) {i = end - at} {j = 8} (omega (arith, few)) in
    omega (arith, most, c.power)

-- what a byte counts there
pub coded_part : (b unit : ℕ) → (b % 128) * unit ≤ 127 * unit
coded_part b unit = mul-le-mul_right unit (omega arith)

pub coded_more : (bytes : List ℕ) (at end value unit b : ℕ) → IsCodedTo bytes at end value unit → end < length bytes → get_or bytes end 0 ≡ b → nat_lt b 128 ≡ false → end < at + 9 → IsCodedTo bytes at (end + 1) (value + (b % 128) * unit) (unit * 128)
coded_more bytes at end value unit b c inside there high few =
    let power : 128 ^ suc (end - at) ≡ 128 ^ (end - at) * 128 = pow-suc 128 (end - at) in
    let same : 128 ^ (end + 1 - at) ≡ 128 ^ suc (end - at) = ap (λ (n : ℕ). 128 ^ n) (omega (arith, c.order)) in
    let part = coded_part b unit in
    record {
      word = c.word ++ b ∷ [];
      is = take_more bytes end 0 inside ∙ ap₂ (λ (t : List ℕ) (x : ℕ). t ++ x ∷ []) c.is there ∙ append_assoc (take at bytes) c.word (b ∷ []);
      high = open_more c.word b c.high high;
      value_is = ap₂ (λ (v u : ℕ). v + (b % 128) * u) c.value_is c.unit_is ∙ sym (more_value c.word b);
      unit_is = omega (arith, c.unit_is, more_unit c.word b);
      power = omega (arith, c.power, power, same);
      low = omega (arith, part, c.low);
      order = omega (arith, c.order);
    }

pub coded_there : (bytes : List ℕ) (at end value unit b : ℕ) → IsCodedTo bytes at end value unit → end < length bytes → get_or bytes end 0 ≡ b → b < 128 → 0 < b → end < at + 9 → IsCodedAt bytes at (value + (b % 128) * unit) (end + 1)
coded_there bytes at end value unit b c inside there low some few =
    let room = coded_room bytes at end value unit c few in
    let part = coded_part b unit in
    record {
      word = c.word ++ b ∷ [];
      is = take_more bytes end 0 inside ∙ ap₂ (λ (t : List ℕ) (x : ℕ). t ++ x ∷ []) c.is there ∙ append_assoc (take at bytes) c.word (b ∷ []);
      writes = record {
        front = c.word;
        last = b;
        is = refl;
        high = c.high;
        low = low;
        some = omega (arith, some);
        value = more_value c.word b ∙ sym (ap₂ (λ (v u : ℕ). v + (b % 128) * u) c.value_is c.unit_is);
      };
      low = omega (arith, part, room, c.low);
      order = omega (arith, c.order);
      inside = omega (arith, inside);
    }

-- ---- pieces

-- no byte of a piece has come
abbrev HasNone : Scan → Type 0
HasNone s = (bytes : List ℕ) → SpellsNumber s.number bytes → is_nothing bytes ≡ true

-- some bytes behind which none of a piece has come
taken_piece : (f : Formula) (old : LratJudge) (t : TextJudge) (s : Scan) (text word : List ℕ) (token : Token) → old.text.reader.closed ≡ false → HasNone old.scan
    → ((more : List ℕ) → rest_of old.scan.step (spot_of old.scan.spot) (word ++ more) ≡ mark old.scan.step token ∷ rest_of s.step (spot_of s.spot) more) → s.number ≡ old.scan.number → t.reader.variables ≡ old.text.reader.variables → TakesWord old t token
    → StandsForBytes f old text → StandsForBytes f (record { text = t; variables = t.reader.variables; form = old.form; scan = s }) (text ++ word)
taken_piece f old t s text word token going begins said kept same over b =
    let own : ScannedBytes old text b.marks = scanned f old text b going in
    let none : own.bytes ≡ [] = nothing own.bytes (begins own.bytes own.spells) in
    let new : LratJudge = record { text = t; variables = t.reader.variables; form = old.form; scan = s } in
    let m : List Mark = mark old.scan.step token ∷ [] in
    let reads = λ (more : List ℕ). ap binary_marks (append_assoc text word more) ∙ own.reads (word ++ more)
    ∙ ap (λ (bs : List ℕ). b.marks ++ rest_of old.scan.step (spot_of old.scan.spot) (bs ++ (word ++ more))) none
    ∙ ap (λ (ms : List Mark). b.marks ++ ms) (said more)
    ∙ sym (append_assoc b.marks m (rest_of s.step (spot_of s.spot) more)) in
    let spells : SpellsNumber s.number [] = subst (λ n. SpellsNumber n []) (sym kept) (subst (SpellsNumber old.scan.number) none own.spells) in
    let next : ScannedBytes new (text ++ word) (b.marks ++ m) = record { bytes = []; spells = spells; unended = refl; reads = reads } in
    record { variables = same ∙ b.variables; marks = b.marks ++ m; words = over f b.marks b.words; scanned = scanned_any new (text ++ word) (b.marks ++ m) t.reader.closed next }

number_marks : (k n : ℕ) (p : CodeSpot) (bytes more : List ℕ) → n < 2 ^ 64 → IsWithin p → WritesNumber n bytes → rest_of k (spot_of p) (bytes ++ more) ≡ mark k (coded_said (spot_of p) n) ∷ rest_of k (coded_behind (spot_of p)) more
number_marks k n spot.Step bytes more low within w = absurd within
number_marks k n spot.Id bytes more low within w = id_marks k n bytes more low w
number_marks k n spot.Literal bytes more low within w = literal_marks k n bytes more low w
number_marks k n spot.Other bytes more low within w = other_marks k n bytes more low w

pub number_taken : (f : Formula) (old : LratJudge) (t : TextJudge) (s : Scan) (text word : List ℕ) (n : ℕ) → old.text.reader.closed ≡ false → BeginsNumber old.scan → n < 2 ^ 64 → WritesNumber n word
    → spot_of s.spot ≡ coded_behind (spot_of old.scan.spot) → s.step ≡ old.scan.step → s.number ≡ old.scan.number → t.reader.variables ≡ old.text.reader.variables → TakesWord old t (coded_said (spot_of old.scan.spot) n)
    → StandsForBytes f old text → StandsForBytes f (record { text = t; variables = t.reader.variables; form = old.form; scan = s }) (text ++ word)
number_taken f old t s text word n going begins low writes at step kept same over b =
    taken_piece f old t s text word (coded_said (spot_of old.scan.spot) n) going begins.none
    (λ more. number_marks old.scan.step n old.scan.spot word more low begins.within writes ∙ ap₂ (λ (k : ℕ) (p : Spot). mark old.scan.step (coded_said (spot_of old.scan.spot) n) ∷ rest_of k p more) (sym step) (sym at))
    kept same over b

-- a number among literals or ids, where the scan stays the same
pub literal_taken : (f : Formula) (old : LratJudge) (t : TextJudge) (text word : List ℕ) (n : ℕ) (even : Bool) → old.text.reader.closed ≡ false → BeginsNumber old.scan → old.scan.spot ≡ spot.Literal → n < 2 ^ 64 → WritesNumber n word → (n % 2 == 0) ≡ even
    → t.reader.variables ≡ old.text.reader.variables → TakesWord old t (token_said (signed (not even) (n / 2)))
    → StandsForBytes f old text → StandsForBytes f (record { text = t; variables = t.reader.variables; form = old.form; scan = old.scan }) (text ++ word)
literal_taken f old t text word n even going begins at low writes is same over b =
    number_taken f old t old.scan text word n going begins low writes (ap spot_of at ∙ sym (ap (λ (p : CodeSpot). coded_behind (spot_of p)) at)) refl refl same
    (subst (TakesWord old t) (said even is ∙ sym (ap (λ (p : CodeSpot). coded_said (spot_of p) n) at)) over) b
  where
    said : (e : Bool) → (n % 2 == 0) ≡ e → token_said (signed (not e) (n / 2)) ≡ coded_said (spot_of spot.Literal) n
    said true h = rw h refl
    said false h = rw h refl

pub hint_taken : (f : Formula) (old : LratJudge) (t : TextJudge) (text word : List ℕ) (n : ℕ) → old.text.reader.closed ≡ false → BeginsNumber old.scan → old.scan.spot ≡ spot.Other → n < 2 ^ 64 → WritesNumber n word
    → t.reader.variables ≡ old.text.reader.variables → TakesWord old t (number n)
    → StandsForBytes f old text → StandsForBytes f (record { text = t; variables = t.reader.variables; form = old.form; scan = old.scan }) (text ++ word)
hint_taken f old t text word n going begins at low writes same over b =
    number_taken f old t old.scan text word n going begins low writes (ap spot_of at ∙ sym (ap (λ (p : CodeSpot). coded_behind (spot_of p)) at)) refl refl same
    (subst (TakesWord old t) (sym (ap (λ (p : CodeSpot). coded_said (spot_of p) n) at)) over) b

list_marks : (k : ℕ) (p : CodeSpot) (more : List ℕ) → IsInList p → rest_of k (spot_of p) (0 ∷ more) ≡ mark k ends ∷ rest_of (step_after_list k (spot_of p)) (list_behind (spot_of p)) more
list_marks k spot.Step more within = absurd within
list_marks k spot.Id more within = absurd within
list_marks k spot.Literal more within = refl
list_marks k spot.Other more within = refl

pub list_ended : (f : Formula) (old : LratJudge) (t : TextJudge) (s : Scan) (text : List ℕ) → old.text.reader.closed ≡ false → BeginsNumber old.scan → EndsList old.scan 0
    → spot_of s.spot ≡ list_behind (spot_of old.scan.spot) → s.step ≡ step_after_list old.scan.step (spot_of old.scan.spot) → s.number ≡ old.scan.number → t.reader.variables ≡ old.text.reader.variables → TakesWord old t ends
    → StandsForBytes f old text → StandsForBytes f (record { text = t; variables = t.reader.variables; form = old.form; scan = s }) (text ++ 0 ∷ [])
list_ended f old t s text going begins at_end at step kept same over b =
    taken_piece f old t s text (0 ∷ []) ends going begins.none
    (λ more. list_marks old.scan.step old.scan.spot more at_end.0 ∙ ap₂ (λ (k : ℕ) (p : Spot). mark old.scan.step ends ∷ rest_of k p more) (sym step) (sym at))
    kept same over b

pub addition_begun : (f : Formula) (old : LratJudge) (t : TextJudge) (s : Scan) (text : List ℕ) → old.text.reader.closed ≡ false → BeginsAddition old.scan 97 → s.spot ≡ spot.Id → s.step ≡ old.scan.step → s.number ≡ old.scan.number
    → t.reader.variables ≡ old.text.reader.variables → TakesWord old t adds → StandsForBytes f old text → StandsForBytes f (record { text = t; variables = t.reader.variables; form = old.form; scan = s }) (text ++ 97 ∷ [])
addition_begun f old t s text going begins at step kept same over b =
    taken_piece f old t s text (97 ∷ []) adds going begins.none
    (λ more. ap (λ (p : CodeSpot). rest_of old.scan.step (spot_of p) (97 ∷ more)) begins.at ∙ addition_begins old.scan.step more (ltb-false most_proof_lines old.scan.step begins.few)
    ∙ ap₂ (λ (k : ℕ) (p : CodeSpot). mark old.scan.step adds ∷ rest_of k (spot_of p) more) (sym step) (sym at))
    kept same over b

-- ---- bytes from a place on

pub word_there : (f : Formula) (j : LratJudge) (text bytes word : List ℕ) (at end : ℕ) → take end bytes ≡ take at bytes ++ word → StandsForBytes f j ((text ++ take at bytes) ++ word) → StandsForBytes f j (text ++ take end bytes)
word_there f j text bytes word at end is b = subst (StandsForBytes f j) (append_assoc text (take at bytes) word ∙ ap (λ (t : List ℕ). text ++ t) (sym is)) b

pub byte_there : (f : Formula) (j : LratJudge) (text bytes : List ℕ) (at b : ℕ) → at < length bytes → get_or bytes at 0 ≡ b → StandsForBytes f j ((text ++ take at bytes) ++ b ∷ []) → StandsForBytes f j (text ++ take (at + 1) bytes)
byte_there f j text bytes at b inside there stands = word_there f j text bytes (b ∷ []) at (at + 1) (take_more bytes at 0 inside ∙ ap (λ (x : ℕ). take at bytes ++ x ∷ []) there) stands

pub all_there : (f : Formula) (j : LratJudge) (text bytes : List ℕ) (at : ℕ) → j.text.reader.closed ≡ true → StandsForBytes f j (text ++ take at bytes) → StandsForBytes f j (text ++ take (length bytes) bytes)
all_there f j text bytes at closed b =
    word_there f j text bytes (drop at bytes) at (length bytes) (take_all (length bytes) bytes (omega arith) ∙ sym (take-append-drop at bytes)) (piece_passed f j (text ++ take at bytes) (drop at bytes) closed b)
