-- Lemmas on lists split at an element, on the lines and items of elements, and on lists that are recovered from items.
use Rattle.std.proofs.Common.{◌≡◌, ◌<◌, suc, true, false, Option, Some, None, List, [], ◌∷◌, ◌++◌, length, map, refl, ap, arith, append_assoc, append-nil, length-append}
use Rattle.std.specs.List.{AllByRecursion, filter_map}
use Rattle.dn_line.specs.declared.line.Line.{Line}
use Rattle.dn_line.specs.Words.{said}
use Rattle.dn_instance.specs.Items.{counted, is_counted}
use Rattle.dn_sink.specs.Rows.{Cells}
use Rattle.dn_canon.proofs.ItemLaws.{Follows, AllFollow}

-- x is an element of the list, and d are the elements before it
pub record Splits {X : Type 0} (xs d : List X) (x : X) : Type 0 where
  pub rest : List X
  pub is : xs ≡ d ++ x ∷ rest

-- what holds of each element holds of the elements from this position on
pub all_after : {X : Type 0} (P : X → Type 0) (d xs : List X) → AllByRecursion P (d ++ xs) → AllByRecursion P xs
all_after P [] xs h = h
all_after P (x ∷ d) xs h = all_after P d xs h.1

-- what holds of each element holds of the element at this position
pub all_at : {X : Type 0} {xs d : List X} {x : X} (P : X → Type 0) → Splits xs d x → AllByRecursion P xs → P x
all_at {d = d} {x = x} P s h = (all_after P d (x ∷ s.rest) (rw s.is at h)).0

-- fewer elements come before an element than there are
pub fewer : {X : Type 0} {xs d : List X} {x : X} → Splits xs d x → length d < length xs
fewer {d = d} {x = x} s = omega (arith, ap length s.is, length-append d (x ∷ s.rest))

-- what holds of each element of two lists holds of both together
pub all_append : {X : Type 0} (P : X → Type 0) (xs ys : List X) → AllByRecursion P xs → AllByRecursion P ys
    → AllByRecursion P (xs ++ ys)
all_append P [] ys h g = g
all_append P (x ∷ xs) ys h g = (h.0, all_append P xs ys h.1 g)

-- what holds of the image of each element holds of the mapped list
pub all_map : {X Y : Type 0} (P : Y → Type 0) (f : X → Y) → ((x : X) → P (f x)) → (xs : List X)
    → AllByRecursion P (map f xs)
all_map P f h [] = tt
all_map P f h (x ∷ xs) = (h x, all_map P f h xs)

-- items that follow, and items that follow all of these, follow together
pub follow_append : (before : List Line) (rs ss : List Cells) (xs ys : List Line) → AllFollow before rs xs
    → AllFollow (before ++ xs) ss ys → AllFollow before (rs ++ ss) (xs ++ ys)
follow_append before [] ss [] ys f g = rw append-nil at g
follow_append before (r ∷ rs) ss (x ∷ xs) ys f g =
    (f.0, follow_append (before ++ x ∷ []) rs ss xs ys f.1 (rw append_assoc g))
follow_append before _ ss _ ys f g = absurd f

-- the items of elements follow if each follows those of the elements before it
pub each_follow : {X : Type 0} (row : X → Cells) (item : X → Line) (before : List Line) (xs : List X)
    → ((d : List X) (x : X) → Splits xs d x → Follows (before ++ map item d) (map said (row x)) (item x))
    → AllFollow before (map row xs) (map item xs)
each_follow row item before [] h = tt
each_follow row item before (x ∷ xs) h = (
  rw append-nil at (h [] x (record { rest = xs; is = refl })),
  each_follow row item (before ++ item x ∷ []) xs
      (λ d y s. rw append_assoc (h (x ∷ d) y (record { rest = s.rest; is = ap (λ l. x ∷ l) s.is }))),
)

-- if each item gives its element, the items give the list
pub items_back : {X : Type 0} (f : Line → Option X) (item : X → Line) → ((x : X) → f (item x) ≡ Some x) → (xs : List X)
    → filter_map f (map item xs) ≡ xs
items_back f item h [] = refl
items_back f item h (x ∷ xs) = rw (h x, items_back f item h xs)

-- if no item gives an element, the items give the empty list
pub no_items : {X Y : Type 0} (f : Line → Option X) (item : Y → Line) → ((y : Y) → f (item y) ≡ None) → (ys : List Y)
    → filter_map f (map item ys) ≡ []
no_items f item h [] = refl
no_items f item h (y ∷ ys) = rw (h y) (no_items f item h ys)

-- if no item is counted, the count is 0
pub none_counted : {X : Type 0} (item : X → Line) → ((x : X) → is_counted (item x) ≡ false) → (xs : List X)
    → counted (map item xs) ≡ 0
none_counted item h [] = refl
none_counted item h (x ∷ xs) = rw (h x) (none_counted item h xs)

-- if each item is counted, the count is the length
pub all_counted : {X : Type 0} (item : X → Line) → ((x : X) → is_counted (item x) ≡ true) → (xs : List X)
    → counted (map item xs) ≡ length xs
all_counted item h [] = refl
all_counted item h (x ∷ xs) = rw (h x) (ap suc (all_counted item h xs))
