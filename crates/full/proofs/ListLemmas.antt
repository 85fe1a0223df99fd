-- What holds of each element of a list, and of two lists in step.
use Rattle.std.proofs.Common.{◌≡◌, List, [], ◌∷◌, ◌++◌, map, refl, ap₂}
use Rattle.std.specs.List.{AllByRecursion, AllZip}

pub all_with : {A : Type 0} (P Q : A → Type 0) (xs : List A) → ((x : A) → P x → Q x) → AllByRecursion P xs → AllByRecursion Q xs
all_with P Q [] f h = tt
all_with P Q (x ∷ xs) f h = (f x h.0, all_with P Q xs f h.1)

pub all_of : {A : Type 0} (P : A → Type 0) (xs : List A) → ((x : A) → P x) → AllByRecursion P xs
all_of P [] h = tt
all_of P (x ∷ xs) h = (h x, all_of P xs h)

pub all_both : {A : Type 0} (P Q : A → Type 0) (xs : List A) → AllByRecursion P xs → AllByRecursion Q xs → AllByRecursion (λ x. P x × Q x) xs
all_both P Q [] h k = tt
all_both P Q (x ∷ xs) h k = ((h.0, k.0), all_both P Q xs h.1 k.1)

pub all_join : {A : Type 0} (P : A → Type 0) (xs ys : List A) → AllByRecursion P xs → AllByRecursion P ys → AllByRecursion P (xs ++ ys)
all_join P [] ys h k = k
all_join P (x ∷ xs) ys h k = (h.0, all_join P xs ys h.1 k)

-- what holds of the element behind a front
pub all_at : {A : Type 0} (P : A → Type 0) (before after : List A) (x : A) → AllByRecursion P (before ++ x ∷ after) → P x
all_at P [] after x h = h.0
all_at P (y ∷ ys) after x h = all_at P ys after x h.1

-- two lists whose elements are alike in step are mapped to one list
pub zip_map : {A B C : Type 0} (P : A → B → Type 0) (f : A → C) (g : B → C) (xs : List A) (ys : List B) → ((x : A) (y : B) → P x y → f x ≡ g y) → AllZip P xs ys → map f xs ≡ map g ys
zip_map P f g [] [] same h = refl
zip_map P f g [] (y ∷ ys) same h = absurd h
zip_map P f g (x ∷ xs) [] same h = absurd h
zip_map P f g (x ∷ xs) (y ∷ ys) same h = ap₂ ◌∷◌ (same x y h.0) (zip_map P f g xs ys same h.1)
