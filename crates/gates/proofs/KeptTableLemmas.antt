-- A table whose inputs stand for themselves.
use Rattle.std.proofs.Common.{◌≡◌, ℕ, ◌+◌, ◌-◌, ◌*◌, ◌<◌, ◌≤◌, List, ◌++◌, length, get_or, map, ap, length-append, arith}
use Rattle.std.proofs.Math.ListN.{get_or-append}
use Rattle.std.proofs.lemmas.List.{get_or-append_right}
use Rattle.std.proofs.lemmas.List.FromFn.{length-map-range_with_len, get_or-map-range_with_len}
use Rattle.std.specs.List.{range_with_len}

-- false and so many inputs
abbrev pub own : ℕ → List ℕ
own n = map (λ k. 2 * k) (range_with_len 0 (n + 1))

pub length-own : (n : ℕ) → length (own n) ≡ n + 1
length-own n = length-map-range_with_len (λ k. 2 * k) 0 (n + 1)

pub length-table : (n : ℕ) (more table : List ℕ) → own n ++ more ≡ table → length table ≡ n + 1 + length more
length-table n more table is = omega (arith, ap length is, length-append (own n) more, length-own n)

pub own_literal : (n : ℕ) (more table : List ℕ) (v : ℕ) → own n ++ more ≡ table → v ≤ n → 2 * v ≡ get_or table v 0
own_literal n more table v is h =
    let inside : v < length (own n) = omega (arith, h, length-own n) in
    let at : get_or (own n) v 0 ≡ 2 * v = get_or-map-range_with_len (λ k. 2 * k) 0 (n + 1) v v 0 (omega (arith, h)) (omega arith) in
    omega (arith, at, get_or-append (own n) more 0 v inside, ap (λ (ls : List ℕ). get_or ls v 0) is)

pub later_literal : (n : ℕ) (more table : List ℕ) (v : ℕ) → own n ++ more ≡ table → n < v → get_or more (v - n - 1) 0 ≡ get_or table v 0
later_literal n more table v is h =
    let at : get_or (own n ++ more) v 0 ≡ get_or more (v - (n + 1)) 0 = get_or-append_right (own n) more (n + 1) v 0 (length-own n) (omega (arith, h)) in
    let place : v - (n + 1) ≡ v - n - 1 = omega (arith, h) in
    omega (arith, at, ap (λ (k : ℕ). get_or more k 0) place, ap (λ (ls : List ℕ). get_or ls v 0) is)
