-- For the worked reports of graphs, it suffices to look at the pairs of the arcs.
use Rattle.std.proofs.Common.{◌≡◌, ◌↔◌, ℤ, List, [], map, Option, Some, None, IfSome, refl}
use Rattle.std.specs.List.{AllByRecursion}
use Rattle.std.specs.List.Sorted.{IsStrictlySortedBy}
use Rattle.std.specs.Map.{keys_of, lookup}
use Rattle.dn_arc_theory.specs.State.Bundles.{IsKind}
use Rattle.dn_arc_theory.specs.Kinds.{ArcKind}
use Rattle.dn_arc_theory.specs.Pairs.{bundle, pair_cmp, same_pair}
use Rattle.dn_arc_theory.proofs.PairLaws.{pair_total}
use Rattle.dn_compare.proofs.ArcPartings.{exact_pair}
use Rattle.dn_laws.proofs.differences.SomeVerdict.{IsApart, bundle_apart, everywhere, lookup_apart}
use Rattle.dn_sink.specs.Rows.{Cells}
use Rattle.dn_report.specs.Shows.{pair_row, ArePairRows}

-- the words at a pair, or none, are right for its arcs
pub record IsListed {Arc : Type 0} (kind : ArcKind Arc) (AreWords : List Arc → Cells → Type 0) (o : Option Cells)
    (xs : List Arc) : Type 0 where
  pub meant : (o ≡ None) ↔ kind.Same xs []
  pub words : IfSome o (AreWords xs)

module _ {Arc : Type 0} (kind : ArcKind Arc) (AreWords : List Arc → Cells → Type 0) where
  -- words are right for arcs that mean something
  pub some_words : {row : Cells} {xs : List Arc} → (kind.Same xs [] → ⊥) → AreWords xs row
      → IsListed kind AreWords (Some row) xs
  some_words never is = record { meant = (λ h. cc, λ h. absurd (never h)); words = is }

  module _ (laws : IsKind kind) (arcs : List ((ℤ × ℤ) × Arc)) (entries : List ((ℤ × ℤ) × Cells)) where
    abbrev pub ListedAt : ℤ × ℤ → Type 0
    ListedAt p = IsListed kind AreWords (lookup (same_pair p) entries) (bundle p arcs)

    pub pair_rows : IsStrictlySortedBy pair_cmp (keys_of entries) → AllByRecursion ListedAt (keys_of arcs)
        → ((p : ℤ × ℤ) → IsApart (same_pair p) (keys_of arcs) → IsApart (same_pair p) (keys_of entries))
        → ArePairRows kind AreWords arcs (map (λ e. pair_row e.0 e.1) entries)
    pair_rows ascending at apart =
        let nothing : IsListed kind AreWords None [] =
        record { meant = (λ h. laws.meaning.same_refl [], λ h. refl); words = tt } in
        let listed : (p : ℤ × ℤ) → ListedAt p =
        λ p. everywhere pair_cmp pair_total exact_pair ListedAt p (keys_of arcs) at
        (λ h. rw (lookup_apart (same_pair p) entries (apart p h), bundle_apart p arcs h) nothing) in
        record {
          entries = entries;
          ascending = ascending;
          meant = λ p. (listed p).meant;
          words = λ p. (listed p).words;
          rows_are = refl;
        }
