-- What a symbol is not longer than, and which bytes it has.
use Rattle.std.proofs.Common.{◌≡◌, ◌<◌, ◌≤◌, ◌+◌, ◌%◌, ◌^◌, ◌==◌, ◌&&◌, ℕ, Bool, true, false, not, cond, eqb, nat_le, List, [], ◌∷◌, length, map, get_or, Fits, w8, inl, inr, refl, sym, ap, ◌∙◌, arith}
use Rattle.std.specs.List.{list_all, prefix_len}
use Rattle.std.proofs.lemmas.Bool.{and_parts, lt-leb, cases_lt, cases_eq, agree_below_at, cond-true, cond-false, eq-eqb, ne_eqb}
use Rattle.std.proofs.lemmas.List.{length-map}
use Rattle.std.proofs.lemmas.List.Folds.{list_all_at}
use Rattle.std.proofs.lemmas.List.Sums.{prefix_len-le-length, prefix_len_passes, prefix_len_stops, list_all-from_AllPass}
use Rattle.std.proofs.lemmas.Simd.{map-map, zip2_splat, zip2_splat_left, mask_l-mod, first_set_mask_l, length-chunk, run_in_chunk_le, run_in_chunk_fails, run_in_chunk_stops}
use lib.Lanes.{zip2, mask_l, top, chunk}
use lib.ListN.{replicate}
use lib.Count.{count_trailing_zeros}
use borrow.Rule.Simd.Lanes.{act2}
use borrow.Table.Row.{s_int}
use mir.Syntax.{mask, le, unsigned, wrap_sub}
use Rattle.btor2.specs.Symbols.{is_printed, is_symbol}

pub symbol_printed : (name : List ℕ) → is_symbol name ≡ true → list_all is_printed name ≡ true
symbol_printed [] h = absurd cc
symbol_printed (b ∷ name) h = (and_parts (nat_le (length (b ∷ name)) 255) (list_all is_printed (b ∷ name)) (and_parts (not (b == 59)) (nat_le (length (b ∷ name)) 255 && list_all is_printed (b ∷ name)) h).1).1

pub long_is_no_symbol : (name : List ℕ) → 255 < length name → is_symbol name ≡ false
long_is_no_symbol [] long = refl
long_is_no_symbol (b ∷ bs) long = rw (lt-leb (length (b ∷ bs)) 255 long) (by (not (b == 59)))
  where
    by : (t : Bool) → (t && false) ≡ false
    by true = refl
    by false = refl

-- the first bytes of a text are those of names
abbrev pub ArePrinted : List ℕ → ℕ → Type 0
ArePrinted text at = (k : ℕ) → k < at → is_printed (get_or text k 0) ≡ true

pub more_printed : (text : List ℕ) (at n : ℕ) → ArePrinted text at → ((k : ℕ) → at ≤ k → k < at + n → is_printed (get_or text k 0) ≡ true) → ArePrinted text (at + n)
more_printed text at n front more k lt =
    elim (cases_lt k at) [
      | inl before ↦ front k before
      | inr behind ↦ more k behind lt
    ]

-- all bytes are at the front where they are all those of names
pub whole_printed : (bs : List ℕ) → eqb (prefix_len is_printed bs) (length bs) ≡ list_all is_printed bs
whole_printed bs =
    elim (cases_eq (prefix_len is_printed bs) (length bs)) [
      | inl whole ↦ eq-eqb _ _ whole ∙ sym (list_all-from_AllPass is_printed bs (λ k d lt. prefix_len_passes is_printed bs k d (omega (arith, whole, lt))))
      | inr part ↦
          let short : prefix_len is_printed bs < length bs = omega (arith, part, prefix_len-le-length is_printed bs) in
          ne_eqb _ _ part ∙ sym (list_all_at is_printed bs (prefix_len is_printed bs) 0 short (prefix_len_stops is_printed bs 0 short))
    ]

-- ---- sixteen bytes of a text from a place on, each tested in a lane of its own
module _ (text : List ℕ) (at : ℕ) (room : at + 16 ≤ length text) (fit : (k : ℕ) → Fits w8 (get_or text k 0)) where
  abbrev bytes : List ℕ
  bytes = chunk at 16 text

  abbrev less : ℕ → ℕ → ℕ
  less = act2 wrap_sub (s_int w8) (s_int w8) (s_int w8)

  abbrev at_most : ℕ → ℕ → ℕ
  at_most = act2 (mask (le unsigned)) (s_int w8) (s_int w8) (s_int w8)

  abbrev others : ℕ
  others = mask_l (map (top 7) (zip2 at_most (replicate 16 94) (zip2 less bytes (replicate 16 33)))) % 2 ^ 64

  abbrev stops : ℕ → Bool
  stops b = top 7 (at_most 94 (less b 33))

  many : length bytes ≡ 16
  many = length-chunk at 16 text room

  stopped : others ≡ mask_l (map stops bytes)
  stopped =
      let lanes = ap (zip2 at_most (replicate 16 94)) (zip2_splat less bytes 16 33 many) ∙ zip2_splat_left at_most 94 16 (map (λ b. less b 33) bytes) (length-map bytes (λ b. less b 33) ∙ many) in
      let each = ap (map (top 7)) (lanes ∙ map-map (at_most 94) (λ b. less b 33) bytes) ∙ map-map (top 7) (λ b. at_most 94 (less b 33)) bytes in
      ap (λ (l : List Bool). mask_l l % 2 ^ 64) each ∙ mask_l-mod (map stops bytes) 64 (omega (arith, length-map bytes stops, many))

  counted : cond (eqb others 0) 16 (count_trailing_zeros 64 others) ≡ prefix_len (λ b. not (stops b)) bytes
  counted = ap (λ (m : ℕ). cond (eqb m 0) 16 (count_trailing_zeros 64 m)) stopped ∙ first_set_mask_l stops bytes 16 many (omega arith)

  told : (k : ℕ) → not (stops (get_or text k 0)) ≡ is_printed (get_or text k 0)
  told k = agree_below_at (λ b. not (stops b)) is_printed 256 (get_or text k 0) refl (fit k).fits

  pub record Counts (n : ℕ) : Type 0 where
    pub few : n ≤ 16
    pub printed : (k : ℕ) → at ≤ k → k < at + n → is_printed (get_or text k 0) ≡ true
    pub stops_there : n < 16 → is_printed (get_or text (at + n) 0) ≡ false

  counts : (n : ℕ) → n ≡ prefix_len (λ b. not (stops b)) bytes → Counts n
  counts n is = record {
    few = run_in_chunk_le stops text at 16 n 0 room is;
    printed = λ k from to. sym (told k) ∙ ap not (run_in_chunk_fails stops text at 16 n 0 room is k from to);
    stops_there = λ short. sym (told (at + n)) ∙ ap not (run_in_chunk_stops stops text at 16 n 0 room is short);
  }

  pub all_printed : others ≡ 0 → Counts 16
  all_printed none = counts 16 (sym (cond-true _ _ _ (eq-eqb _ _ none)) ∙ counted)

  pub some_other : (others ≡ 0 → ⊥) → Counts (count_trailing_zeros 64 others)
  some_other some = counts (count_trailing_zeros 64 others) (sym (cond-false _ _ _ (ne_eqb _ _ some)) ∙ counted)
