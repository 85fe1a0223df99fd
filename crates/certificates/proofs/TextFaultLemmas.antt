-- What reading a text tells is never that its source failed.
use Rattle.std.proofs.Common.{◌≡◌, ℕ, ◌==◌, Bool, true, false, not, List, [], ◌∷◌, ◌++◌, length, Option, None, Some, Result, Ok, Err, if◌then◌else◌, ap, subst, nat_eq, nat_lt, codes}
use Rattle.std.specs.List.{list_all, list_any}
use Rattle.std.specs.Str.{bytes_eq}
use Rattle.certificates.specs.declared.expected.Expected.{Expected}
use Rattle.certificates.specs.declared.expected.Expected.TheVariants as expect
use Rattle.certificates.specs.declared.why.InvariantWhy.{InvariantWhy}
use Rattle.certificates.specs.declared.why.InvariantWhy.TheVariants as why
use Rattle.certificates.specs.declared.why.InvariantFault.{InvariantFault}
use Rattle.certificates.specs.Invariants.{asks_one}
use Rattle.certificates.specs.Reading.{line_words, behind_key, value_behind, decimal_of, is_word_one, latch_named, with_named_latch, then_named, counted, named_latches, is_part, cube_of, parts_of, plain_cube, asking, cube_or_why, CubesReading, with_width, with_outputs, with_count, with_names, with_output_name, with_cube, with_cube_or_end, with_line, is_skipped, admit_cube_line, is_ended, ended}

-- a why is not that the source failed
abbrev IsOfText : InvariantWhy → Type 0
IsOfText why.Device = ⊥
IsOfText _ = Unit {0}

abbrev IsTold : {T : Type 0} → Result T InvariantWhy → Type 0
IsTold (Ok x) = Unit {0}
IsTold (Err e) = IsOfText e

either : {T : Type 0} (b : Bool) (x y : Result T InvariantWhy) → IsTold x → IsTold y → IsTold (if b then x else y)
either true x y p q = p
either false x y p q = q

told_latch : (latches : ℕ) (named : List ℕ) (o : Option ℕ) → IsTold (with_named_latch latches named o)
told_latch latches named None = tt
told_latch latches named (Some k) =
    either (not (nat_lt k latches)) (Err why.NoSuchLatch) (if list_any (nat_eq k) named then Err why.NamedTwice else Ok (named ++ k ∷ [])) tt
    (either (list_any (nat_eq k) named) (Err why.NamedTwice) (Ok (named ++ k ∷ [])) tt tt)

told_named : (latches : ℕ) (r : Result (List ℕ) InvariantWhy) (more : List (List ℕ)) → IsTold r → IsTold (then_named latches r more)
told_named latches (Err e) more p = p
told_named latches (Ok named) [] p = tt
told_named latches (Ok named) (word ∷ more) p = told_named latches (with_named_latch latches named (latch_named word)) more (told_latch latches named (latch_named word))

told_counted : (width : ℕ) (r : Result (List ℕ) InvariantWhy) → IsTold r → IsTold (counted width r)
told_counted width (Err e) p = p
told_counted width (Ok named) p = either (length named == width) (Ok named) (Err why.WrongNames) tt tt

told_names : (latches width : ℕ) (o : Option (List (List ℕ))) → IsTold (named_latches latches width o)
told_names latches width None = tt
told_names latches width (Some more) = told_counted width (then_named latches (Ok []) more) (told_named latches (Ok []) more tt)

told_plain : (named : List ℕ) (width : ℕ) (o : Option (List ℕ)) → IsTold (plain_cube named width o)
told_plain named width None = tt
told_plain named width (Some parts) =
    either (not (list_all is_part parts)) (Err why.BadCube) (if length parts == width then Ok (cube_of named parts) else Err why.WrongLength) tt
    (either (length parts == width) (Ok (cube_of named parts)) (Err why.WrongLength) tt tt)

told_asking : (r : Result (List ℕ) InvariantWhy) → IsTold r → IsTold (asking r)
told_asking (Err e) p = p
told_asking (Ok cube) p = either (asks_one cube) (Ok cube) (Err why.HoldsAtStart) tt tt

told_width : (r : CubesReading) (o : Option ℕ) → IsTold (with_width r o)
told_width r None = tt
told_width r (Some n) = tt

told_outputs : (r : CubesReading) (o : Option (List ℕ)) → IsTold (with_outputs r o)
told_outputs r o = either (is_word_one o) (Ok (record r { expected = expect.Count })) (Err why.BadOutputs) tt tt

told_count : (r : CubesReading) (o : Option ℕ) → IsTold (with_count r o)
told_count r None = tt
told_count r (Some n) = tt

told_with_names : (r : CubesReading) (named : Result (List ℕ) InvariantWhy) → IsTold named → IsTold (with_names r named)
told_with_names r (Err e) p = p
told_with_names r (Ok named) p = tt

told_output : (r : CubesReading) (o : Option (List ℕ)) → IsTold (with_output_name r o)
told_output r None = tt
told_output r (Some word) = tt

told_cube : (r : CubesReading) (cube : Result (List ℕ) InvariantWhy) → IsTold cube → IsTold (with_cube r cube)
told_cube r (Err e) p = p
told_cube r (Ok cube) p = tt

told_cube_or_end : (r : CubesReading) (line : List ℕ) → IsTold (with_cube_or_end r line)
told_cube_or_end r line =
    let cube : Result (List ℕ) InvariantWhy = cube_or_why r.named r.width (parts_of (line_words line)) in
    either (bytes_eq line (codes ".e")) (if r.left == 0 then Ok (record r { expected = expect.Nothing }) else Err why.WrongCubes) (if r.left == 0 then Err why.WrongCubes else with_cube r cube)
    (either (r.left == 0) (Ok (record r { expected = expect.Nothing })) (Err why.WrongCubes) tt tt)
    (either (r.left == 0) (Err why.WrongCubes) (with_cube r cube) tt
    (told_cube r cube (told_asking (plain_cube r.named r.width (parts_of (line_words line))) (told_plain r.named r.width (parts_of (line_words line))))))

told_line : (x : Expected) (latches : ℕ) (r : CubesReading) (line : List ℕ) → IsTold (with_line x latches r line)
told_line expect.Inputs latches r line = told_width r (decimal_of (value_behind (codes ".i") line))
told_line expect.Outputs latches r line = told_outputs r (value_behind (codes ".o") line)
told_line expect.Count latches r line = told_count r (decimal_of (value_behind (codes ".p") line))
told_line expect.Names latches r line = let o = behind_key (codes ".ilb") (line_words line) in told_with_names r (named_latches latches r.width o) (told_names latches r.width o)
told_line expect.Output latches r line = told_output r (value_behind (codes ".ob") line)
told_line expect.Cubes latches r line = told_cube_or_end r line
told_line expect.Nothing latches r line = tt

told_admit : (latches : ℕ) (r : CubesReading) (line : List ℕ) → IsTold (admit_cube_line latches r line)
told_admit latches r line = either (is_skipped line) (Ok r) (with_line r.expected latches r line) tt (told_line r.expected latches r line)

no_device : (e : InvariantWhy) → IsOfText e → e ≡ why.Device → ⊥
no_device e p is = subst IsOfText is p

-- a why of a line is not that the source failed
pub line_is_of_text : (latches : ℕ) (r : CubesReading) (line : List ℕ) (e : InvariantWhy) → admit_cube_line latches r line ≡ Err e → e ≡ why.Device → ⊥
line_is_of_text latches r line e told is = no_device e (subst IsTold told (told_admit latches r line)) is

ended_told : (number : ℕ) (r : Result CubesReading InvariantWhy) (e : InvariantFault) → IsTold r → ended number r ≡ Err e → IsOfText e.why
ended_told number (Err w) e p is = let same : w ≡ e.why = ap (λ (x : Result (List (List ℕ)) InvariantFault). why_of w x) is in subst IsOfText same p
  where
    why_of : InvariantWhy → Result (List (List ℕ)) InvariantFault → InvariantWhy
    why_of w (Ok x) = w
    why_of w (Err f) = f.why
ended_told number (Ok r) e p is = by (is_ended r.expected) is
  where
    by : (b : Bool) → (if b then Ok r.cubes else Err (record { line = number; why = why.CutOff })) ≡ Err e → IsOfText e.why
    by true is = absurd (cc)
    by false is = let same : why.CutOff ≡ e.why = cc in subst IsOfText same tt

-- and neither is that of its end
pub end_is_of_text : (latches number : ℕ) (r : CubesReading) (line : List ℕ) (e : InvariantFault) → ended number (admit_cube_line latches r line) ≡ Err e → e.why ≡ why.Device → ⊥
end_is_of_text latches number r line e told is = no_device e.why (ended_told number (admit_cube_line latches r line) e (told_admit latches r line) told) is
