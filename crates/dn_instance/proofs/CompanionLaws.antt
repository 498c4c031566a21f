-- Lemmas on the nodes of a companion, which are checked one after another.
use Rattle.std.proofs.Common.{Bool, true, false, cond, ◌≡◌, ◌+◌, ℤ, Option, Some, None, Ok, Err, drop, get_or, sym, ap, refl, ◌∙◌, ℕ, List, [], ◌∷◌, length, ◌<◌, int_lt, find, flat_map}
use Rattle.std.proofs.lemmas.List.{drop_more}
use Rattle.dn_instance.specs.Companions.{unless_found, within}
use Rattle.dn_instance.specs.declared.companion.CompanionFault.{CompanionFault}

on_after : (b : Bool) (id : ℤ) (rest : Option ℤ) → Ok tt ≡ unless_found (cond b (Some id) None)
    → unless_found rest ≡ unless_found (cond b (Some id) rest)
on_after true id rest e = cc
on_after false id rest e = refl

stopped : (b : Bool) (id : ℤ) (rest : Option ℤ) (fault : CompanionFault)
    → Err fault ≡ unless_found (cond b (Some id) None) → Err fault ≡ unless_found (cond b (Some id) rest)
stopped true id rest fault e = e
stopped false id rest fault e = cc

-- a node up to NODES leaves the fault to the nodes after it
pub node_fits : (nodes id : ℤ) (rest : List ℤ) → Ok tt ≡ within nodes (id ∷ [])
    → within nodes rest ≡ within nodes (id ∷ rest)
node_fits nodes id rest e = on_after (int_lt nodes id) id (find (int_lt nodes) rest) e

-- a node above NODES is the fault of the nodes that it begins
pub node_stops : (nodes id : ℤ) (rest : List ℤ) (fault : CompanionFault) → Err fault ≡ within nodes (id ∷ [])
    → Err fault ≡ within nodes (id ∷ rest)
node_stops nodes id rest fault e = stopped (int_lt nodes id) id (find (int_lt nodes) rest) fault e

-- the nodes of the item at an index come before those of the items after it
module _ {X : Type 0} (nodes : ℤ) (first second : X → ℤ) (xs : List X) (i : ℕ) (d : X) (some : i < length xs)
    (left : within nodes (flat_map (λ x. first x ∷ second x ∷ []) (drop i xs))
    ≡ within nodes (flat_map (λ x. first x ∷ second x ∷ []) xs)) where
  abbrev ends : X → List ℤ
  ends x = first x ∷ second x ∷ []

  abbrev one : ℤ
  one = first (get_or xs i d)

  abbrev other : ℤ
  other = second (get_or xs i d)

  abbrev rest : List ℤ
  rest = flat_map ends (drop (i + 1) xs)

  whole : within nodes (one ∷ other ∷ rest) ≡ within nodes (flat_map ends xs)
  whole = sym (ap (λ l. within nodes (flat_map ends l)) (drop_more xs i d some)) ∙ left

  -- the first node of the item is the fault
  pub first_stops : (fault : CompanionFault) → Err fault ≡ within nodes (one ∷ [])
      → Err fault ≡ within nodes (flat_map ends xs)
  first_stops fault e = node_stops nodes one (other ∷ rest) fault e ∙ whole

  -- the second node of the item is the fault
  pub second_stops : (fault : CompanionFault) → Ok tt ≡ within nodes (one ∷ []) → Err fault ≡ within nodes (other ∷ [])
      → Err fault ≡ within nodes (flat_map ends xs)
  second_stops fault f e = node_stops nodes other rest fault e ∙ node_fits nodes one (other ∷ rest) f ∙ whole

  -- the fault is that of the items after it
  pub both_fit : Ok tt ≡ within nodes (one ∷ []) → Ok tt ≡ within nodes (other ∷ [])
      → within nodes rest ≡ within nodes (flat_map ends xs)
  both_fit f e = node_fits nodes other rest e ∙ node_fits nodes one (other ∷ rest) f ∙ whole
