-- Lines of vectors that are read one by one.
use native.Mathlib.Omega.{arith}
use Rattle.std.proofs.Common.{◌≡◌, ℕ, suc, ◌+◌, inl, inr, length, List, [], ◌∷◌, ◌++◌, refl, sym, ap, ap₂, ◌∙◌, append_assoc}
use Rattle.std.proofs.lemmas.List.{append-nil}
use Rattle.base.specs.Lines.{text_of_lines, IsLine}
use Rattle.vectors.specs.declared.lines.Vector.{Vector}
use Rattle.std.specs.Prelude.{◌<◌, flat_map}
use Rattle.vectors.specs.Vectors.{Writes, WriteAll, AreVectorsOf, IsFirstBad, NumberedVector, numbered, differs_line}
use Rattle.vectors.proofs.DifferingLemmas.{numbered_more, length-numbered}

-- the lines read so far write the vectors read so far, and behind them stands the rest of the text
pub record ReadSoFar (text rest : List ℕ) (vectors : List Vector) : Type 0 where
  pub lines : List (List ℕ)
  pub is : text ≡ text_of_lines lines ++ rest
  pub written : WriteAll lines vectors

push_line : (lines : List (List ℕ)) (line after : List ℕ) → text_of_lines (lines ++ line ∷ []) ++ after ≡ text_of_lines lines ++ (line ++ 10 ∷ after)
push_line [] line after = ap (λ (t : List ℕ). t ++ after) (append-nil (line ++ 10 ∷ [])) ∙ append_assoc line (10 ∷ []) after
push_line (l ∷ ls) line after =
    append_assoc (l ++ 10 ∷ []) (text_of_lines (ls ++ line ∷ [])) after
    ∙ (ap (λ (t : List ℕ). (l ++ 10 ∷ []) ++ t) (push_line ls line after) ∙ sym (append_assoc (l ++ 10 ∷ []) (text_of_lines ls) (line ++ 10 ∷ after)))

push_written : (lines : List (List ℕ)) (vectors : List Vector) (line : List ℕ) (v : Vector) → WriteAll lines vectors → Writes line v → WriteAll (lines ++ line ∷ []) (vectors ++ v ∷ [])
push_written [] [] line v all one = (one, tt)
push_written [] (w ∷ ws) line v all one = absurd all
push_written (l ∷ ls) [] line v all one = absurd all
push_written (l ∷ ls) (w ∷ ws) line v all one = (all.0, push_written ls ws line v all.1 one)

one_read : (text rest line after : List ℕ) (vectors more : List Vector) (v : Vector) → ReadSoFar text rest vectors → rest ≡ line ++ 10 ∷ after → Writes line v → more ≡ vectors ++ v ∷ [] → ReadSoFar text after more
one_read text rest line after vectors more v r e w m =
    rw m (record { lines = r.lines ++ line ∷ []; is = r.is ∙ (ap (λ (t : List ℕ). text_of_lines r.lines ++ t) e ∙ sym (push_line r.lines line after)); written = push_written r.lines vectors line v r.written w })

all_read : (text rest : List ℕ) (vectors : List Vector) → length rest ≡ 0 → ReadSoFar text rest vectors → AreVectorsOf text vectors
all_read text [] vectors e r = record { lines = r.lines; is = r.is ∙ append-nil (text_of_lines r.lines); written = r.written }
all_read text (b ∷ bs) vectors e r = absurd cc

-- the same, of vectors that are kept with the numbers of their lines
pub record NumberedSoFar (text rest : List ℕ) (read : List NumberedVector) : Type 0 where
  pub vectors : List Vector
  pub so_far : ReadSoFar text rest vectors
  pub numbers : read ≡ numbered 1 vectors

pub one_numbered : (text rest line after : List ℕ) (read more : List NumberedVector) (v : Vector) → NumberedSoFar text rest read → rest ≡ line ++ 10 ∷ after → Writes line v → more ≡ read ++ record { line = length read + 1; vector = v } ∷ [] → NumberedSoFar text after more
one_numbered text rest line after read more v r e w m =
    record {
      vectors = r.vectors ++ v ∷ [];
      so_far = one_read text rest line after r.vectors (r.vectors ++ v ∷ []) v r.so_far e w refl;
      numbers = m ∙ (ap₂ (λ (ns : List NumberedVector) (l : ℕ). ns ++ record { line = l; vector = v } ∷ []) r.numbers (omega (arith, ap length r.numbers, length-numbered 1 r.vectors)) ∙ sym (numbered_more 1 r.vectors v));
    }

pub all_numbered : (text rest : List ℕ) (read : List NumberedVector) → length rest ≡ 0 → NumberedSoFar text rest read → (vectors : List Vector) × AreVectorsOf text vectors × (read ≡ numbered 1 vectors)
all_numbered text rest read e r = (r.vectors, all_read text rest r.vectors e r.so_far, r.numbers)

same_count : (lines : List (List ℕ)) (vectors : List Vector) → WriteAll lines vectors → length lines ≡ length vectors
same_count [] [] all = refl
same_count [] (v ∷ vs) all = absurd all
same_count (line ∷ lines) [] all = absurd all
same_count (line ∷ lines) (v ∷ vs) all = ap suc (same_count lines vs all.1)

counted : (text rest : List ℕ) (read : List NumberedVector) (k : ℕ) → (r : NumberedSoFar text rest read) → k ≡ length read → k + 1 ≡ length r.so_far.lines + 1
counted text rest read k r e = omega (arith, e, ap length r.numbers, length-numbered 1 r.vectors, same_count r.so_far.lines r.vectors r.so_far.written)

-- the first line of the rest writes no vector
pub first_bad : (text rest line after : List ℕ) (read : List NumberedVector) (k : ℕ) → NumberedSoFar text rest read → k ≡ length read → rest ≡ line ++ 10 ∷ after → IsLine line → ((v : Vector) → Writes line v → ⊥) → IsFirstBad text (k + 1)
first_bad text rest line after read k r e cut whole bad = record {
  lines = r.so_far.lines;
  vectors = r.vectors;
  rest = rest;
  parts = r.so_far.is;
  written = r.so_far.written;
  number = counted text rest read k r e;
  bad = inr (record { line = line; after = after; parts = cut; whole = whole; bad = bad });
}

-- the rest has no byte 10
pub first_unfinished : (text rest : List ℕ) (read : List NumberedVector) (k : ℕ) → NumberedSoFar text rest read → k ≡ length read → IsLine rest → (rest ≡ [] → ⊥) → IsFirstBad text (k + 1)
first_unfinished text rest read k r e line some = record {
  lines = r.so_far.lines;
  vectors = r.vectors;
  rest = rest;
  parts = r.so_far.is;
  written = r.so_far.written;
  number = counted text rest read k r e;
  bad = inl (record { line = line; some = some });
}

-- the lines of vectors that differ are all written where no vector is left
pub none_behind : (written all rest : List ℕ) → written ++ flat_map differs_line rest ≡ all → length rest < 1 → written ≡ all
none_behind written all [] e few = sym (append-nil written) ∙ e
none_behind written all (x ∷ xs) e few = absurd (omega (arith, few))
