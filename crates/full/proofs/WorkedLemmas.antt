-- The worked rows: a memory and its runs.
use Rattle.std.proofs.Common.{◌≡◌, true, false, [], ◌∷◌, length, refl, arith, inl}
use Rattle.full.specs.Agreement.{IsFullModel}
use Rattle.full.specs.Runs.{IsRun, CanRiseFull}
use Rattle.full.specs.Worked.{memory, negated_memory, memory_frame}

pub memory_is_model : IsFullModel memory
memory_is_model = (
  record { fresh = refl; sort = tt; nodes = tt; minuses = tt; agrees = (refl, refl, refl, tt) },
  (
    record { fresh = refl; sort = tt; nodes = tt; minuses = tt; agrees = (refl, refl, refl, tt) },
    (
      record { fresh = refl; sort = tt; nodes = tt; minuses = tt; agrees = (refl, refl) },
      (
        record { fresh = refl; sort = refl; nodes = tt; minuses = tt; agrees = (tt, refl, refl, tt) },
        (
          record { fresh = refl; sort = refl; nodes = tt; minuses = tt; agrees = (tt, refl, refl, tt) },
          (
            record { fresh = refl; sort = refl; nodes = tt; minuses = tt; agrees = (tt, refl, refl, tt) },
            (
              record { fresh = refl; sort = refl; nodes = (refl, (refl, (refl, tt))); minuses = ((λ e. absurd (cc)), ((λ e. refl), ((λ e. refl), tt))); agrees = (1, 2, refl, refl, refl, refl) },
              (
                record { fresh = refl; sort = tt; nodes = (refl, (refl, tt)); minuses = ((λ e. absurd (cc)), ((λ e. absurd (cc)), tt)); agrees = ((refl, refl), refl, refl, (refl, refl, refl)) },
                (
                  record { fresh = refl; sort = refl; nodes = tt; minuses = tt; agrees = (tt, refl, refl, tt) },
                  (
                    record { fresh = refl; sort = tt; nodes = (refl, (refl, tt)); minuses = ((λ e. refl), ((λ e. refl), tt)); agrees = ((refl, inl refl), tt, refl, (refl, refl, refl)) },
                    (
                      record { fresh = refl; sort = refl; nodes = (refl, (refl, tt)); minuses = ((λ e. absurd (cc)), ((λ e. refl), tt)); agrees = (1, 2, refl, refl, refl) },
                      (
                        record { fresh = refl; sort = refl; nodes = (refl, (refl, tt)); minuses = ((λ e. refl), ((λ e. refl), tt)); agrees = ((refl, refl), refl, refl, tt) },
                        (record { fresh = refl; sort = tt; nodes = (refl, tt); minuses = ((λ e. refl), tt); agrees = (refl, refl, refl, tt) }, tt),
                      ),
                    ),
                  ),
                ),
              ),
            ),
          ),
        ),
      ),
    ),
  ),
)

pub array_is_no_word : IsFullModel negated_memory → ⊥
array_is_no_word h = let e : false ≡ true = h.1.1.1.0.agrees.0.0 in absurd (cc)

-- ---- runs

-- the memory is written, and in the second frame the other cell is read
pub first_run : IsRun memory (memory_frame 1 3 0 12 3 0 0 ∷ memory_frame 0 1 12 13 3 3 1 ∷ [])
first_run = (
  ((tt, (tt, (tt, (omega arith, (omega arith, (omega arith, (refl, (tt, (omega arith, (tt, (refl, (refl, (tt, tt))))))))))))), ((tt, (tt, (tt, (omega arith, (omega arith, (omega arith, (refl, (tt, (omega arith, (tt, (refl, (refl, (tt, tt))))))))))))), tt)),
  (tt, (tt, (tt, (tt, (tt, (tt, (tt, (tt, (tt, (refl, (tt, (tt, (tt, tt))))))))))))),
  ((tt, (tt, (tt, (tt, (tt, (tt, (tt, (refl, (tt, (tt, (tt, (tt, (tt, tt))))))))))))), tt),
)

-- in the second frame the state without a next line has another word
pub second_run : IsRun memory (memory_frame 0 1 0 1 1 0 0 ∷ memory_frame 1 0 1 1 0 1 0 ∷ [])
second_run = (
  ((tt, (tt, (tt, (omega arith, (omega arith, (omega arith, (refl, (tt, (omega arith, (tt, (refl, (refl, (tt, tt))))))))))))), ((tt, (tt, (tt, (omega arith, (omega arith, (omega arith, (refl, (tt, (omega arith, (tt, (refl, (refl, (tt, tt))))))))))))), tt)),
  (tt, (tt, (tt, (tt, (tt, (tt, (tt, (tt, (tt, (refl, (tt, (tt, (tt, tt))))))))))))),
  ((tt, (tt, (tt, (tt, (tt, (tt, (tt, (refl, (tt, (tt, (tt, (tt, (tt, tt))))))))))))), tt),
)

-- what was written is lost
pub lost : IsRun memory (memory_frame 1 3 0 12 3 0 0 ∷ memory_frame 0 1 0 1 3 0 0 ∷ []) → ⊥
lost h = let e : 0 ≡ 12 = h.2.0.1.1.1.1.1.1.1.0 in omega (arith, e)

-- the state does not begin with the input
pub begins_otherwise : IsRun memory (memory_frame 1 3 0 12 2 0 0 ∷ []) → ⊥
begins_otherwise h = let e : 2 ≡ 3 = h.1.1.1.1.1.1.1.1.1.1.0 in omega (arith, e)

-- the cell of the operand without its minus is read
pub not_negated : IsRun memory (memory_frame 1 3 12 12 3 3 1 ∷ []) → ⊥
not_negated h = let e : 3 ≡ 0 = h.0.0.1.1.1.1.1.1.1.1.1.1.0 in omega (arith, e)

-- the bad property can rise in two frames
pub memory_rises : (h : CanRiseFull memory 0) × (length h.frames ≡ 2)
memory_rises = (record { frames = memory_frame 1 3 0 12 3 0 0 ∷ memory_frame 0 1 12 13 3 3 1 ∷ []; run = first_run; rises = refl }, refl)
