-- A text of an invariant is read as the cubes that it says, and says those that it is read as.
use Rattle.std.proofs.Common.{◌≡◌, ℕ, zero, suc, pred, ◌<◌, Bool, true, false, not, cond, ◌||◌, ◌==◌, List, [], ◌∷◌, ◌++◌, length, map, filter, All, Option, None, Some, IfSome, Result, Ok, Err, if◌then◌else◌, refl, sym, ap, ap₂, subst, ◌∙◌, append_assoc, append-nil, arith, nat_eq, codes, bytes_eq}
use Rattle.std.specs.List.{list_all, AllZip, IsDistinct}
use Rattle.std.proofs.lemmas.Bool.{eqb-true, and_parts, and_from}
use Rattle.std.proofs.lemmas.Bool.Decides.{nat_tests}
use Rattle.std.proofs.lemmas.List.{length-map}
use Rattle.std.proofs.lemmas.List.Elements.{All-nil, All-cons, All-head, All-tail, filter-append}
use Rattle.std.proofs.lemmas.Slice.Eq.{bytes_eq-Decides}
use Rattle.base.specs.Lines.{HasNone, whole_lines, unfinished, line_of, all_lines, line_after}
use Rattle.base.specs.Decimals.{number_of}
use Rattle.certificates.specs.declared.expected.Expected.{Expected}
use Rattle.certificates.specs.declared.expected.Expected.TheVariants as expect
use Rattle.certificates.specs.declared.why.InvariantFault.{InvariantFault}
use Rattle.certificates.specs.declared.why.InvariantWhy.{InvariantWhy}
use Rattle.certificates.specs.declared.why.InvariantWhy.TheVariants as why
use Rattle.certificates.specs.Invariants.{asks_one}
use Rattle.certificates.specs.Reading.{line_words, sole, value_behind, decimal_of, behind_key, named_latches, is_part, part_of, cube_of, is_word_one, parts_of, asking, cube_or_why, CubesReading, at_start, with_width, with_outputs, with_count, with_names, with_output_name, with_cube, with_line, admit_cube_line, is_ended, ended, read_cube_lines, read_cubes}
use Rattle.certificates.specs.Reader.{GivesCubes, lines_begun}
use Rattle.certificates.specs.Texts.{tells_something, names_line, NamesLatch, part_byte, part_literals, cube_line, cube_literals, Pla, pla_lines, SaysCubes}
use Rattle.certificates.proofs.WordLemmas.{words-none, words-blank, words-some}
use Rattle.certificates.proofs.SaidWordLemmas.{joined, words_joined, decimal_line, decimal_read, value_line, value_read}
use Rattle.certificates.proofs.SaidNameLemmas.{SaysLatches, latches_said, latches_read}

-- ---- cubes

part_is : (k : ℕ) (part : Option Bool) → part_of k (part_byte part) ≡ part_literals k part
part_is k None = refl
part_is k (Some true) = refl
part_is k (Some false) = refl

literals_are : (named : List ℕ) (parts : List (Option Bool)) → cube_of named (map part_byte parts) ≡ cube_literals named parts
literals_are [] parts = refl
literals_are (k ∷ named) [] = refl
literals_are (k ∷ named) (part ∷ parts) = ap₂ ◌++◌ (part_is k part) (literals_are named parts)

part_from : ℕ → Option Bool
part_from b = if b == 45 then None else Some (b == 49)

byte_back : (b : ℕ) → is_part b ≡ true → part_byte (part_from b) ≡ b
unfolding part_from
byte_back b h = by (b == 45) (b == 49) (b == 48) refl refl refl h
  where
    by : (dash one zeroes : Bool) → (b == 45) ≡ dash → (b == 49) ≡ one → (b == 48) ≡ zeroes → (zeroes || one || dash) ≡ true → part_byte (if dash then None else Some one) ≡ b
    by true one zeroes d o z h = sym (eqb-true b 45 d)
    by false true zeroes d o z h = sym (eqb-true b 49 o)
    by false false true d o z h = sym (eqb-true b 48 z)
    by false false false d o z h = absurd (cc)

bytes_back : (bytes : List ℕ) → list_all is_part bytes ≡ true → map part_byte (map part_from bytes) ≡ bytes
bytes_back [] h = refl
bytes_back (b ∷ bytes) h = let parts = and_parts (is_part b) (list_all is_part bytes) h in ap₂ ◌∷◌ (byte_back b parts.0) (bytes_back bytes parts.1)

part_is_part : (part : Option Bool) → is_part (part_byte part) ≡ true
part_is_part None = refl
part_is_part (Some true) = refl
part_is_part (Some false) = refl

are_parts : (parts : List (Option Bool)) → list_all is_part (map part_byte parts) ≡ true
are_parts [] = refl
are_parts (part ∷ parts) = and_from (is_part (part_byte part)) (list_all is_part (map part_byte parts)) (part_is_part part) (are_parts parts)

parts_bare : (parts : List (Option Bool)) → HasNone 32 (map part_byte parts)
parts_bare [] = refl
parts_bare (None ∷ parts) = parts_bare parts
parts_bare (Some true ∷ parts) = parts_bare parts
parts_bare (Some false ∷ parts) = parts_bare parts

sole_one : (more : List (List ℕ)) → is_word_one (sole more) ≡ true → more ≡ codes "1" ∷ []
sole_one [] e = absurd (cc)
sole_one (word ∷ []) e = ap (λ (w : List ℕ). w ∷ []) ((bytes_eq-Decides word (codes "1")).0 e)
sole_one (word ∷ next ∷ more) e = absurd (cc)

bytes_line : (line bytes : List ℕ) → parts_of (line_words line) ≡ Some bytes → line ≡ bytes ++ codes " 1"
bytes_line line bytes e = let some = words-some line in by some.0 some.1 (is_word_one (sole some.1)) some.2 refl (ap parts_of (sym some.2) ∙ e)
  where
    by : (word : List ℕ) (more : List (List ℕ)) (b : Bool) → line_words line ≡ word ∷ more → is_word_one (sole more) ≡ b → (if b then Some word else None) ≡ Some bytes → line ≡ bytes ++ codes " 1"
    by word more true is one e =
        let same : word ≡ bytes = cc in
        sym (words_joined line) ∙ (ap joined (is ∙ ap (λ (ws : List (List ℕ)). word ∷ ws) (sole_one more one)) ∙ ap (λ (w : List ℕ). w ++ codes " 1") same)
    by word more false is one e = absurd (cc)

line_bytes : (bytes : List ℕ) → HasNone 32 bytes → parts_of (line_words (bytes ++ codes " 1")) ≡ Some bytes
line_bytes bytes none = ap parts_of (words-blank bytes (codes "1") none ∙ ap (λ (ws : List (List ℕ)). bytes ∷ ws) (words-none (codes "1") refl))

-- what a line says that is read as a cube
record SaysCube (named : List ℕ) (width : ℕ) (line cube : List ℕ) : Type 0 where
  pub parts : List (Option Bool)
  pub line_is : line ≡ cube_line parts
  pub wide : length parts ≡ width
  pub literals : cube ≡ cube_literals named parts
  pub asks : asks_one cube ≡ true

cube_said : (named : List ℕ) (width : ℕ) (line cube : List ℕ) → cube_or_why named width (parts_of (line_words line)) ≡ Ok cube → SaysCube named width line cube
cube_said named width line cube e = by (parts_of (line_words line)) refl e
  where
    made : (bytes found : List ℕ) (asks : Bool) → parts_of (line_words line) ≡ Some bytes → list_all is_part bytes ≡ true → (length bytes == width) ≡ true → cube_of named bytes ≡ found → asks_one found ≡ asks
        → (if asks then Ok found else Err why.HoldsAtStart) ≡ Ok cube → SaysCube named width line cube
    made bytes found true is all many own asks e =
        let back = bytes_back bytes all in
        let same : found ≡ cube = cc in
        record {
          parts = map part_from bytes;
          line_is = bytes_line line bytes is ∙ ap (λ (bs : List ℕ). bs ++ codes " 1") (sym back);
          wide = length-map bytes part_from ∙ eqb-true (length bytes) width many;
          literals = sym same ∙ (sym own ∙ (ap (cube_of named) (sym back) ∙ literals_are named (map part_from bytes)));
          asks = ap asks_one (sym same) ∙ asks;
        }
    made bytes found false is all many own asks e = absurd (cc)

    told : (bytes : List ℕ) (all many : Bool) → parts_of (line_words line) ≡ Some bytes → list_all is_part bytes ≡ all → (length bytes == width) ≡ many
        → asking (if not all then Err why.BadCube else (if many then Ok (cube_of named bytes) else Err why.WrongLength)) ≡ Ok cube → SaysCube named width line cube
    told bytes true true is all many e = made bytes (cube_of named bytes) (asks_one (cube_of named bytes)) is all many refl refl e
    told bytes true false is all many e = absurd (cc)
    told bytes false many is all n e = absurd (cc)

    by : (o : Option (List ℕ)) → parts_of (line_words line) ≡ o → cube_or_why named width o ≡ Ok cube → SaysCube named width line cube
    by None is e = absurd (cc)
    by (Some bytes) is e = told bytes (list_all is_part bytes) (length bytes == width) is refl refl e

yes : (m n : ℕ) → m ≡ n → (m == n) ≡ true
yes m n e = grind (arith, nat_tests)

cube_read : (named : List ℕ) (width : ℕ) (parts : List (Option Bool)) → length parts ≡ width → asks_one (cube_literals named parts) ≡ true → cube_or_why named width (parts_of (line_words (cube_line parts))) ≡ Ok (cube_literals named parts)
cube_read named width parts wide asks =
    let bytes : List ℕ = map part_byte parts in
    ap (cube_or_why named width) (line_bytes bytes (parts_bare parts))
    ∙ (ap (λ (x : Bool). asking (if not x then Err why.BadCube else (if length bytes == width then Ok (cube_of named bytes) else Err why.WrongLength))) (are_parts parts)
    ∙ (ap (λ (x : Bool). asking (if x then Ok (cube_of named bytes) else Err why.WrongLength)) (yes (length bytes) width (length-map parts part_byte ∙ wide))
    ∙ (ap (λ (cube : List ℕ). asking (Ok cube)) (literals_are named parts)
    ∙ ap (λ (x : Bool). if x then Ok (cube_literals named parts) else Err why.HoldsAtStart) asks)))

-- ---- the lines that tell something, after a reading

abbrev tells : ℕ → Result CubesReading InvariantWhy → List (List ℕ) → Option (List (List ℕ))
tells latches (Err e) lines = None
tells latches (Ok r) [] = if is_ended r.expected then Some r.cubes else None
tells latches (Ok r) (line ∷ more) = tells latches (with_line r.expected latches r line) more

some_told : {A : Type 0} (x y : A) → Some x ≡ Some y → x ≡ y
some_told x y e = cc

-- behind the end nothing is told
nothing_behind : (latches : ℕ) (r : CubesReading) (lines cubes : List (List ℕ)) → r.expected ≡ expect.Nothing → tells latches (Ok r) lines ≡ Some cubes → (lines ≡ []) × (r.cubes ≡ cubes)
nothing_behind latches r [] cubes is e = (refl, some_told r.cubes cubes (ap (λ (x : Expected). if is_ended x then Some r.cubes else None) (sym is) ∙ e))
nothing_behind latches r (line ∷ more) cubes is e = let none : None ≡ Some cubes = ap (λ (x : Expected). tells latches (with_line x latches r line) more) (sym is) ∙ e in absurd (cc)

abbrev at_cubes : ℕ → ℕ → List ℕ → List (List ℕ) → CubesReading
at_cubes width left named cubes = record { expected = expect.Cubes; width = width; left = left; named = named; cubes = cubes }

abbrev at_end : ℕ → ℕ → List ℕ → List (List ℕ) → CubesReading
at_end width left named cubes = record { expected = expect.Nothing; width = width; left = left; named = named; cubes = cubes }

-- what the lines of cubes and the end say, behind the cubes before
record SaysRows (named : List ℕ) (width left : ℕ) (before lines cubes : List (List ℕ)) : Type 0 where
  pub rows : List (List (Option Bool))
  pub lines_are : lines ≡ map cube_line rows ++ codes ".e" ∷ []
  pub many : left ≡ length rows
  pub wide : All (λ parts. length parts ≡ width) rows
  pub all : cubes ≡ before ++ map (cube_literals named) rows
  pub ask : list_all asks_one (map (cube_literals named) rows) ≡ true

one_more : (m n : ℕ) → (m == 0) ≡ false → pred m ≡ n → m ≡ suc n
one_more zero n off e = absurd (cc)
one_more (suc m) n off e = ap suc e

rows_said : (latches width left : ℕ) (named : List ℕ) (before lines cubes : List (List ℕ)) → tells latches (Ok (at_cubes width left named before)) lines ≡ Some cubes → SaysRows named width left before lines cubes
rows_said latches width left named before [] cubes e = absurd (cc)
rows_said latches width left named before (line ∷ more) cubes e =
    by (λ cube. rows_said latches width (pred left) named (before ++ cube ∷ []) more cubes) (bytes_eq line (codes ".e")) (left == 0) refl refl e
  where
    Back : Type 0
    Back = (cube : List ℕ) → tells latches (Ok (at_cubes width (pred left) named (before ++ cube ∷ []))) more ≡ Some cubes → SaysRows named width (pred left) (before ++ cube ∷ []) more cubes

    one : Back → (c : Result (List ℕ) InvariantWhy) → cube_or_why named width (parts_of (line_words line)) ≡ c → (left == 0) ≡ false → tells latches (with_cube (at_cubes width left named before) c) more ≡ Some cubes
        → SaysRows named width left before (line ∷ more) cubes
    one back (Err why) is some e = absurd (cc)
    one back (Ok cube) is some e =
        let own = cube_said named width line cube is in
        let rest = back cube e in
        record {
          rows = own.parts ∷ rest.rows;
          lines_are = ap₂ ◌∷◌ own.line_is rest.lines_are;
          many = one_more left (length rest.rows) some rest.many;
          wide = All-cons (λ (parts : List (Option Bool)). length parts ≡ width) own.parts rest.rows own.wide rest.wide;
          all = rest.all ∙ (append_assoc before (cube ∷ []) (map (cube_literals named) rest.rows) ∙ ap (λ (c : List ℕ). before ++ c ∷ map (cube_literals named) rest.rows) own.literals);
          ask = and_from (asks_one (cube_literals named own.parts)) (list_all asks_one (map (cube_literals named) rest.rows)) (ap asks_one (sym own.literals) ∙ own.asks) rest.ask;
        }

    by : Back → (end none : Bool) → bytes_eq line (codes ".e") ≡ end → (left == 0) ≡ none
        → tells latches (if end then (if none then Ok (at_end width left named before) else Err why.WrongCubes) else (if none then Err why.WrongCubes else with_cube (at_cubes width left named before) (cube_or_why named width (parts_of (line_words line))))) more ≡ Some cubes
        → SaysRows named width left before (line ∷ more) cubes
    by back true true is some e =
        let rest = nothing_behind latches (at_end width left named before) more cubes refl e in
        record {
          rows = [];
          lines_are = ap₂ ◌∷◌ ((bytes_eq-Decides line (codes ".e")).0 is) rest.0;
          many = eqb-true left 0 some;
          wide = All-nil (λ (parts : List (Option Bool)). length parts ≡ width);
          all = sym rest.1 ∙ sym (append-nil before);
          ask = refl;
        }
    by back true false is some e = absurd (cc)
    by back false true is some e = absurd (cc)
    by back false false is some e = one back (cube_or_why named width (parts_of (line_words line))) refl some e

none_left : (n : ℕ) → (suc n == 0) ≡ false
none_left n = grind (arith, nat_tests)

-- no line of a cube is that of the end, since it is longer
longer : (parts : List (Option Bool)) → bytes_eq (cube_line parts) (codes ".e") ≡ false
longer [] = refl
longer (None ∷ parts) = refl
longer (Some true ∷ parts) = refl
longer (Some false ∷ parts) = refl

rows_read : (latches width : ℕ) (named : List ℕ) (before : List (List ℕ)) (rows : List (List (Option Bool))) → All (λ parts. length parts ≡ width) rows → list_all asks_one (map (cube_literals named) rows) ≡ true
    → tells latches (Ok (at_cubes width (length rows) named before)) (map cube_line rows ++ codes ".e" ∷ []) ≡ Some (before ++ map (cube_literals named) rows)
rows_read latches width named before [] wide ask = ap Some (sym (append-nil before))
rows_read latches width named before (parts ∷ rows) wide ask =
    let r : CubesReading = at_cubes width (suc (length rows)) named before in
    let more : List (List ℕ) = map cube_line rows ++ codes ".e" ∷ [] in
    let cube : List ℕ = cube_literals named parts in
    let asks = and_parts (asks_one cube) (list_all asks_one (map (cube_literals named) rows)) ask in
    ap (λ (x : Bool). tells latches (if x then (if suc (length rows) == 0 then Ok (at_end width (suc (length rows)) named before) else Err why.WrongCubes) else (if suc (length rows) == 0 then Err why.WrongCubes else with_cube r (cube_or_why named width (parts_of (line_words (cube_line parts)))))) more) (longer parts)
    ∙ (ap (λ (x : Bool). tells latches (if x then Err why.WrongCubes else with_cube r (cube_or_why named width (parts_of (line_words (cube_line parts))))) more) (none_left (length rows))
    ∙ (ap (λ (c : Result (List ℕ) InvariantWhy). tells latches (with_cube r c) more) (cube_read named width parts (All-head (λ (ps : List (Option Bool)). length ps ≡ width) parts rows wide) asks.0)
    ∙ (rows_read latches width named (before ++ cube ∷ []) rows (All-tail (λ (ps : List (Option Bool)). length ps ≡ width) parts rows wide) asks.1
    ∙ ap Some (append_assoc before (cube ∷ []) (map (cube_literals named) rows)))))

-- ---- the lines before the cubes

abbrev at_outputs : ℕ → CubesReading
at_outputs width = record { expected = expect.Outputs; width = width; left = 0; named = []; cubes = [] }

abbrev at_count : ℕ → CubesReading
at_count width = record { expected = expect.Count; width = width; left = 0; named = []; cubes = [] }

abbrev at_names : ℕ → ℕ → CubesReading
at_names width left = record { expected = expect.Names; width = width; left = left; named = []; cubes = [] }

abbrev at_output : ℕ → ℕ → List ℕ → CubesReading
at_output width left named = record { expected = expect.Output; width = width; left = left; named = named; cubes = [] }

-- the lines of a text say cubes
all_said : (latches : ℕ) (text width count output line named : List ℕ) (n m : ℕ) (more cubes : List (List ℕ))
    → filter tells_something (all_lines text) ≡ (codes ".i " ++ width) ∷ codes ".o 1" ∷ (codes ".p " ++ count) ∷ line ∷ (codes ".ob " ++ output) ∷ more
    → number_of width ≡ Some n → number_of count ≡ Some m → SaysLatches latches n line named → HasNone 32 output → SaysRows named n m [] more cubes → SaysCubes latches text cubes
all_said latches text width count output line named n m more cubes lines w c latch_names bare rows =
    record {
      pla = record { width = width; count = count; names = latch_names.names; output = output; cubes = rows.rows };
      named = named;
      lines =
          lines
          ∙ ap₂ (λ (l : List ℕ) (ls : List (List ℕ)). (codes ".i " ++ width) ∷ codes ".o 1" ∷ (codes ".p " ++ count) ∷ l ∷ (codes ".ob " ++ output) ∷ ls) latch_names.line_is rows.lines_are;
      names = latch_names.say;
      there = latch_names.there;
      once = latch_names.once;
      width = w ∙ ap Some (sym latch_names.many);
      count = c ∙ ap Some rows.many;
      output = bare;
      parts = subst (λ (k : ℕ). All (λ (parts : List (Option Bool)). length parts ≡ k) rows.rows) (sym latch_names.many) rows.wide;
      are_cubes = rows.all;
      ask = ap (list_all asks_one) rows.all ∙ rows.ask;
    }

-- and so do those that are read from each line on, the last one first
output_on : (latches : ℕ) (text width count names named : List ℕ) (n m : ℕ) (lines cubes : List (List ℕ)) → filter tells_something (all_lines text) ≡ (codes ".i " ++ width) ∷ codes ".o 1" ∷ (codes ".p " ++ count) ∷ names ∷ lines
    → number_of width ≡ Some n → number_of count ≡ Some m → SaysLatches latches n names named → tells latches (Ok (at_output n m named)) lines ≡ Some cubes → SaysCubes latches text cubes
output_on latches text width count names named n m [] cubes is w c own e = absurd (cc)
output_on latches text width count names named n m (line ∷ more) cubes is w c own e = by (value_behind (codes ".ob") line) refl e
  where
    by : (o : Option (List ℕ)) → value_behind (codes ".ob") line ≡ o → tells latches (with_output_name (at_output n m named) o) more ≡ Some cubes → SaysCubes latches text cubes
    by None found e = absurd (cc)
    by (Some output) found e =
        let word = value_line (codes ".ob") line output found in
        all_said latches text width count output names named n m more cubes (is ∙ ap (λ (l : List ℕ). (codes ".i " ++ width) ∷ codes ".o 1" ∷ (codes ".p " ++ count) ∷ names ∷ l ∷ more) word.0)
        w c own word.1 (rows_said latches n m named [] more cubes e)

names_on : (latches : ℕ) (text width count : List ℕ) (n m : ℕ) (lines cubes : List (List ℕ)) → filter tells_something (all_lines text) ≡ (codes ".i " ++ width) ∷ codes ".o 1" ∷ (codes ".p " ++ count) ∷ lines
    → number_of width ≡ Some n → number_of count ≡ Some m → tells latches (Ok (at_names n m)) lines ≡ Some cubes → SaysCubes latches text cubes
names_on latches text width count n m [] cubes is w c e = absurd (cc)
names_on latches text width count n m (line ∷ more) cubes is w c e = by (named_latches latches n (behind_key (codes ".ilb") (line_words line))) refl e
  where
    by : (r : Result (List ℕ) InvariantWhy) → named_latches latches n (behind_key (codes ".ilb") (line_words line)) ≡ r → tells latches (with_names (at_names n m) r) more ≡ Some cubes → SaysCubes latches text cubes
    by (Err why) found e = absurd (cc)
    by (Ok named) found e = output_on latches text width count line named n m more cubes is w c (latches_said latches n line named found) e

count_on : (latches : ℕ) (text width : List ℕ) (n : ℕ) (lines cubes : List (List ℕ)) → filter tells_something (all_lines text) ≡ (codes ".i " ++ width) ∷ codes ".o 1" ∷ lines
    → number_of width ≡ Some n → tells latches (Ok (at_count n)) lines ≡ Some cubes → SaysCubes latches text cubes
count_on latches text width n [] cubes is w e = absurd (cc)
count_on latches text width n (line ∷ more) cubes is w e = by (decimal_of (value_behind (codes ".p") line)) refl e
  where
    by : (o : Option ℕ) → decimal_of (value_behind (codes ".p") line) ≡ o → tells latches (with_count (at_count n) o) more ≡ Some cubes → SaysCubes latches text cubes
    by None found e = absurd (cc)
    by (Some m) found e =
        let word = decimal_line (codes ".p") line m found in
        names_on latches text width word.0 n m more cubes (is ∙ ap (λ (l : List ℕ). (codes ".i " ++ width) ∷ codes ".o 1" ∷ l ∷ more) word.1) w word.2 e

outputs_on : (latches : ℕ) (text width : List ℕ) (n : ℕ) (lines cubes : List (List ℕ)) → filter tells_something (all_lines text) ≡ (codes ".i " ++ width) ∷ lines
    → number_of width ≡ Some n → tells latches (Ok (at_outputs n)) lines ≡ Some cubes → SaysCubes latches text cubes
outputs_on latches text width n [] cubes is w e = absurd (cc)
outputs_on latches text width n (line ∷ more) cubes is w e = by (value_behind (codes ".o") line) refl e
  where
    one : (word : List ℕ) (b : Bool) → value_behind (codes ".o") line ≡ Some word → bytes_eq word (codes "1") ≡ b → tells latches (if b then Ok (at_count n) else Err why.BadOutputs) more ≡ Some cubes → SaysCubes latches text cubes
    one word true found same e =
        let own : line ≡ codes ".o 1" = (value_line (codes ".o") line word found).0 ∙ ap (λ (x : List ℕ). codes ".o " ++ x) ((bytes_eq-Decides word (codes "1")).0 same) in
        count_on latches text width n more cubes (is ∙ ap (λ (l : List ℕ). (codes ".i " ++ width) ∷ l ∷ more) own) w e
    one word false found same e = absurd (cc)

    by : (o : Option (List ℕ)) → value_behind (codes ".o") line ≡ o → tells latches (with_outputs (at_outputs n) o) more ≡ Some cubes → SaysCubes latches text cubes
    by None found e = absurd (cc)
    by (Some word) found e = one word (bytes_eq word (codes "1")) found refl e

lines_said : (latches : ℕ) (text : List ℕ) (lines cubes : List (List ℕ)) → filter tells_something (all_lines text) ≡ lines → tells latches (Ok at_start) lines ≡ Some cubes → SaysCubes latches text cubes
lines_said latches text [] cubes is e = absurd (cc)
lines_said latches text (line ∷ more) cubes is e = by (decimal_of (value_behind (codes ".i") line)) refl e
  where
    by : (o : Option ℕ) → decimal_of (value_behind (codes ".i") line) ≡ o → tells latches (with_width at_start o) more ≡ Some cubes → SaysCubes latches text cubes
    by None found e = absurd (cc)
    by (Some n) found e = let word = decimal_line (codes ".i") line n found in outputs_on latches text word.0 n more cubes (is ∙ ap (λ (l : List ℕ). l ∷ more) word.1) word.2 e

-- and the lines of what is written are read as them
lines_read : (latches : ℕ) (pla : Pla) (named : List ℕ) → AllZip NamesLatch pla.names named → All (λ k. k < latches) named → IsDistinct nat_eq named → number_of pla.width ≡ Some (length named)
    → number_of pla.count ≡ Some (length pla.cubes) → HasNone 32 pla.output → All (λ parts. length parts ≡ length named) pla.cubes → list_all asks_one (map (cube_literals named) pla.cubes) ≡ true
    → tells latches (Ok at_start) (pla_lines pla) ≡ Some (map (cube_literals named) pla.cubes)
lines_read latches pla named names there once width count output parts ask =
    let n : ℕ = length named in
    let m : ℕ = length pla.cubes in
    let rows : List (List ℕ) = map cube_line pla.cubes ++ codes ".e" ∷ [] in
    let from_output : List (List ℕ) = (codes ".ob " ++ pla.output) ∷ rows in
    let from_names : List (List ℕ) = names_line pla.names ∷ from_output in
    ap (λ (o : Option ℕ). tells latches (with_width at_start o) (codes ".o 1" ∷ (codes ".p " ++ pla.count) ∷ from_names)) (decimal_read (codes ".i") pla.width n refl width)
    ∙ (ap (λ (o : Option ℕ). tells latches (with_count (at_count n) o) from_names) (decimal_read (codes ".p") pla.count m refl count)
    ∙ (ap (λ (r : Result (List ℕ) InvariantWhy). tells latches (with_names (at_names n m) r) from_output) (latches_read latches n pla.names named names there once refl)
    ∙ (ap (λ (o : Option (List ℕ)). tells latches (with_output_name (at_output n m named) o) rows) (value_read (codes ".ob") pla.output refl output)
    ∙ rows_read latches n named [] pla.cubes parts ask)))

-- ---- the text

-- the cubes, where there are any
read_of : Result (List (List ℕ)) InvariantFault → Option (List (List ℕ))
read_of (Ok cubes) = Some cubes
read_of (Err e) = None

read_back : (r : Result (List (List ℕ)) InvariantFault) (cubes : List (List ℕ)) → read_of r ≡ Some cubes → r ≡ Ok cubes
unfolding read_of
read_back (Ok found) cubes e = ap Ok (some_told found cubes e)
read_back (Err why) cubes e = absurd (cc)

ended_told : (latches number : ℕ) (a : Result CubesReading InvariantWhy) → read_of (ended number a) ≡ tells latches a []
unfolding read_of
ended_told latches number (Err e) = refl
ended_told latches number (Ok r) = by (is_ended r.expected)
  where
    by : (b : Bool) → read_of (if b then Ok r.cubes else Err (record { line = number; why = why.CutOff })) ≡ (if b then Some r.cubes else None)
    by true = refl
    by false = refl

-- a line is passed over where it tells nothing
told_more : (latches : ℕ) (r : CubesReading) (line : List ℕ) (rest : List (List ℕ)) → tells latches (admit_cube_line latches r line) (filter tells_something rest) ≡ tells latches (Ok r) (filter tells_something (line ∷ rest))
told_more latches r [] rest = refl
told_more latches r (b ∷ bs) rest = by (b == 35)
  where
    by : (x : Bool) → tells latches (if x then Ok r else with_line r.expected latches r (b ∷ bs)) (filter tells_something rest) ≡ tells latches (Ok r) (cond (not x) ((b ∷ bs) ∷ filter tells_something rest) (filter tells_something rest))
    by true = refl
    by false = refl

lines_told : (latches number : ℕ) (a : Result CubesReading InvariantWhy) (lines : List (List ℕ)) (last : List ℕ) → read_of (read_cube_lines latches number a lines last) ≡ tells latches a (filter tells_something (lines ++ last ∷ []))
unfolding read_of
lines_told latches number (Err e) lines last = refl
lines_told latches number (Ok r) [] last = ended_told latches (line_after number) (admit_cube_line latches r last) ∙ told_more latches r last []
lines_told latches number (Ok r) (line ∷ more) last = lines_told latches (line_after number) (admit_cube_line latches r line) more last ∙ told_more latches r line (more ++ last ∷ [])

-- an end without a byte tells nothing
same_lines : (lines : List (List ℕ)) (last : List ℕ) → filter tells_something (lines ++ last ∷ []) ≡ filter tells_something (lines ++ line_of last)
same_lines lines [] = filter-append tells_something lines ([] ∷ []) ∙ sym (filter-append tells_something lines [])
same_lines lines (b ∷ bs) = refl

text_told : (latches : ℕ) (text : List ℕ) → read_of (read_cubes latches text) ≡ tells latches (Ok at_start) (filter tells_something (all_lines text))
text_told latches text = lines_told latches 0 (Ok at_start) (whole_lines text) (unfinished text) ∙ ap (tells latches (Ok at_start)) (same_lines (whole_lines text) (unfinished text))

pub said : (latches : ℕ) (text : List ℕ) (cubes : List (List ℕ)) → SaysCubes latches text cubes → read_cubes latches text ≡ Ok cubes
said latches text cubes says =
    read_back (read_cubes latches text) cubes
    (text_told latches text
    ∙ (ap (tells latches (Ok at_start)) says.lines
    ∙ (lines_read latches says.pla says.named says.names says.there says.once says.width says.count says.output says.parts (ap (list_all asks_one) (sym says.are_cubes) ∙ says.ask)
    ∙ ap Some (sym says.are_cubes))))

pub read : (latches : ℕ) (text : List ℕ) (cubes : List (List ℕ)) → read_cubes latches text ≡ Ok cubes → SaysCubes latches text cubes
unfolding read_of
read latches text cubes e = lines_said latches text (filter tells_something (all_lines text)) cubes refl (sym (text_told latches text) ∙ ap read_of e)

-- the same of known bytes, before which nothing was read
pub gives_said : (latches : ℕ) (known : Option (List ℕ)) (cubes : List (List ℕ)) → GivesCubes 0 (lines_begun latches) known (Ok cubes) → IfSome known (λ text. SaysCubes latches text cubes)
gives_said latches None cubes e = tt
gives_said latches (Some text) cubes e = read latches text cubes e

-- a text says at most one list of cubes
pub one_list : (latches : ℕ) (text : List ℕ) (cubes others : List (List ℕ)) → SaysCubes latches text cubes → SaysCubes latches text others → cubes ≡ others
one_list latches text cubes others one other = by (sym (said latches text cubes one) ∙ said latches text others other)
  where
    by : ◌≡◌ {A = Result (List (List ℕ)) InvariantFault} (Ok cubes) (Ok others) → cubes ≡ others
    by e = cc
