-- What holds of the numbers of a header that is read, and how they are read one after the other.
use Rattle.std.proofs.Common.{◌≡◌, List, ℕ, ◌≤◌, true, false, nat_lt, [], ◌∷◌, ◌++◌, length, Option, Some, None, Result, Ok, Err, refl, sym, ap, ◌∙◌, append_assoc, length-append, arith}
use Rattle.std.proofs.lemmas.Bool.Decides.{nat_tests}
use Rattle.base.specs.Decimals.{number_of}
use Rattle.aigertext.specs.declared.fault.Why.{Why}
use Rattle.aigertext.specs.declared.fault.Why.TheVariants as why
use Rattle.aigertext.specs.declared.reading.counts.Counts.{Counts}
use Rattle.aigertext.specs.declared.forms.Form.{Form}
use Rattle.aigertext.specs.Counts.{AreSmall, Fits}
use Rattle.aigertext.specs.Reading.{◌>>=◌, line_at, some_or, numbers_in, counts_of, header_of}
use Rattle.aigertext.proofs.BackLemmas.{err_same, not_err, bind-then, line-back}
use Rattle.aigertext.proofs.HeaderBackLemmas.{header-back}

pub record IsHeaderOf (form : Form) (h : Counts) : Type 0 where
  pub small : AreSmall h
  pub fits : Fits form h

pub header_says : (line : List ℕ) (form : Form) (h : Counts) → header_of line ≡ Ok (form, h) → IsHeaderOf form h
header_says line form h said =
    let k = header-back line form h said in
    record {
      small = record {
        variables = k.few_first.0;
        inputs = k.few_first.1.0;
        latches = k.few_first.1.1.0;
        outputs = k.few_first.1.1.1.0;
        gates = k.few_first.1.1.1.1.0;
        bads = k.few_last.0;
        constraints = k.few_last.1.0;
        justice = k.few_last.1.1.0;
        fair = k.few_last.1.1.1.0;
      };
      fits = k.fits;
    }

pub header_small : (text rest : List ℕ) (form : Form) (h : Counts) → line_at header_of text ≡ Ok ((form, h), rest) → IsHeaderOf form h
header_small text rest form h e = let s = line-back header_of text (form, h) rest e in header_says s.line form h s.said

-- ---- one number after the other

-- numbers that were read, before those that follow
abbrev pub ahead : List ℕ → Result (List ℕ) Why → Result (List ℕ) Why
ahead xs (Ok ys) = Ok (xs ++ ys)
ahead xs (Err e) = Err e

ahead_one : (xs : List ℕ) (n : ℕ) (r : Result (List ℕ) Why) → ahead (xs ++ n ∷ []) r ≡ ahead xs (◌>>=◌ {A = List ℕ} {B = List ℕ} {E = Why} r (λ ns. Ok (n ∷ ns)))
ahead_one xs n (Ok ys) = ap (λ (l : List ℕ). Ok l) (append_assoc xs (n ∷ []) ys)
ahead_one xs n (Err e) = refl

-- what is no number is refused for one reason
bad_by : (f : List ℕ) (fs : List (List ℕ)) (e : Why) → numbers_in (f ∷ fs) ≡ Err e → ((w : Why) → numbers_in fs ≡ Err w → w ≡ why.BadHeader) → (r : Option ℕ) → number_of f ≡ r → (q : Result (List ℕ) Why) → numbers_in fs ≡ q → e ≡ why.BadHeader
bad_by f fs e is others None none q rest = let bad : numbers_in (f ∷ fs) ≡ Err why.BadHeader = rw none refl in err_same e why.BadHeader (sym is ∙ bad)
bad_by f fs e is others (Some n) some (Ok ns) rest = let good : numbers_in (f ∷ fs) ≡ Ok (n ∷ ns) = rw (some, rest) refl in absurd (not_err e (n ∷ ns) (sym is ∙ good))
bad_by f fs e is others (Some n) some (Err w) rest = let bad : numbers_in (f ∷ fs) ≡ Err w = rw (some, rest) refl in err_same e w (sym is ∙ bad) ∙ others w rest

only_bad : (fs : List (List ℕ)) (e : Why) → numbers_in fs ≡ Err e → e ≡ why.BadHeader
only_bad [] e is = absurd (not_err e [] (sym is))
only_bad (f ∷ fs) e is = bad_by f fs e is (λ w rest. only_bad fs w rest) (number_of f) refl (numbers_in fs) refl

too_many : (ns : List ℕ) → 10 ≤ length ns → counts_of ns ≡ Err why.BadHeader
unfolding counts_of
too_many ns large =
    let enough : nat_lt (length ns) 5 ≡ false = grind (arith, nat_tests) in
    let beyond : nat_lt 9 (length ns) ≡ true = grind (arith, nat_tests) in
    rw (enough, beyond) refl

module _ (xs : List ℕ) (all fs : List (List ℕ)) (field : List ℕ) (whole : Result (List ℕ) Why) (next : all ≡ field ∷ fs) (so_far : ahead xs (numbers_in all) ≡ whole) where
  own : ahead xs (numbers_in (field ∷ fs)) ≡ whole
  own = ap (λ (l : List (List ℕ)). ahead xs (numbers_in l)) (sym next) ∙ so_far

  pub number_more : (n : ℕ) → number_of field ≡ Some n → ahead (xs ++ n ∷ []) (numbers_in fs) ≡ whole
  number_more n is = ahead_one xs n (numbers_in fs) ∙ (rw is at own)

  -- there are too many
  pub number_beyond : length xs ≡ 9 → (whole >>= counts_of) ≡ Err why.BadHeader
  number_beyond nine = by (numbers_in (field ∷ fs)) refl
    where
      by : (r : Result (List ℕ) Why) → numbers_in (field ∷ fs) ≡ r → (whole >>= counts_of) ≡ Err why.BadHeader
      by (Err e) is = ap (λ (r : Result (List ℕ) Why). r >>= counts_of) (sym own ∙ ap (ahead xs) is) ∙ ap (λ (w : Why). Err w) (only_bad (field ∷ fs) e is)
      by (Ok ns) is =
          bind-then (some_or why.BadHeader (number_of field)) _ ns is
          (λ n n' e1. bind-then (numbers_in fs) _ ns e1
          (λ ms ms' e2. ap (λ (r : Result (List ℕ) Why). r >>= counts_of) (sym own ∙ ap (ahead xs) (is ∙ sym e2)) ∙ too_many (xs ++ n ∷ ms) (omega (arith, length-append xs (n ∷ ms), nine))))
