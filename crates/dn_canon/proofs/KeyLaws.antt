-- Lemmas on entries by ascending key: inserting them one after another makes the same list.
use Rattle.std.proofs.Common.{◌≡◌, ℤ, List, [], ◌∷◌, ◌++◌, Bool, false, map, refl, sym, append_assoc, append-nil}
use Rattle.std.specs.List.{AllByRecursion, fold, list_any}
use Rattle.std.specs.Map.{keys_of}
use Rattle.std.specs.Ordering.{int_cmp, int_eq}
use Rattle.std.specs.BTreeMap.{insert_entry}
use Rattle.std.specs.declared.cmp.Ordering.TheVariants.{Less}
use Rattle.std.proofs.lemmas.Cmp.{int_cmp_total}
use Rattle.std.proofs.lemmas.Map.Keys.{sorted_head, sorted_tail}
use Rattle.dn_line.specs.declared.line.Line.{Line}
use Rattle.dn_instance.specs.Items.{by_key}
use Rattle.dn_instance.specs.Validity.{IsMap}
use Rattle.dn_canon.proofs.PartLaws.{Splits}

module _ {X : Type 0} where
  -- each key is below k
  abbrev AllBelow : ℤ → List (ℤ × X) → Type 0
  AllBelow k es = AllByRecursion (λ (e : ℤ × X). int_cmp e.0 k ≡ Less) es

  -- the keys before an entry are below its key
  below_at : (d : List (ℤ × X)) (e : ℤ × X) (r : List (ℤ × X)) → IsMap (d ++ e ∷ r) → AllBelow e.0 d
  below_at [] e r m = tt
  below_at (x ∷ d) e r m = (
    key_at d e r (sorted_head int_cmp x.0 (keys_of (d ++ e ∷ r)) m),
    below_at d e r (sorted_tail int_cmp x.0 (keys_of (d ++ e ∷ r)) m),
  )
    where
      key_at : (d : List (ℤ × X)) (e : ℤ × X) (r : List (ℤ × X))
          → AllByRecursion (λ y. int_cmp x.0 y ≡ Less) (keys_of (d ++ e ∷ r)) → int_cmp x.0 e.0 ≡ Less
      key_at [] e r h = h.0
      key_at (y ∷ d) e r h = key_at d e r h.1

  -- an entry whose key is above all keys is appended
  put_last : (es : List (ℤ × X)) (k : ℤ) (v : X) → AllBelow k es → insert_entry int_cmp es k v ≡ es ++ (k, v) ∷ []
  put_last [] k v h = refl
  put_last (e ∷ es) k v h = rw (int_cmp_total.antisymm k e.0, h.0, put_last es k v h.1)

  -- entries by ascending key are appended one after another
  put_all : (done es : List (ℤ × X)) → IsMap (done ++ es)
      → fold (λ m e. insert_entry int_cmp m e.0 e.1) done es ≡ done ++ es
  put_all done [] m = sym (append-nil done)
  put_all done (e ∷ es) m =
      rw (put_last done e.0 e.1 (below_at done e es m), put_all (done ++ e ∷ []) es (rw append_assoc m), append_assoc)

  -- entries by ascending key make themselves
  pub by_key_ascending : (es : List (ℤ × X)) → IsMap es → by_key es ≡ es
  by_key_ascending = put_all []

  -- no item before that of an entry has its key
  pub no_earlier : {es d : List (ℤ × X)} {e : ℤ × X} (has : ℤ → Line → Bool) (item : ℤ × X → Line)
      → ((k : ℤ) (e : ℤ × X) → has k (item e) ≡ int_eq e.0 k) → Splits es d e → IsMap es
      → list_any (has e.0) (map item d) ≡ false
  no_earlier {d = d} {e = e} has item h s m = none_below d (below_at d e s.rest (rw s.is at m))
    where
      none_below : (es : List (ℤ × X)) → AllBelow e.0 es → list_any (has e.0) (map item es) ≡ false
      none_below [] b = refl
      none_below (x ∷ es) b = rw (h e.0 x, b.0) (none_below es b.1)
