-- The laws of `max` arcs as a kind. Their meaning determines canonical arcs, and the arcs listed for a total capacity
-- are canonical and fit 64 bits if the total does.
use Rattle.std.proofs.Common.{◌≡◌, ◌-◌, ◌^◌, ℤ, pos, ◌+ℤ◌, ◌≤ℤ◌, ◌<ℤ◌, List, [], ◌∷◌, ◌++◌, Option, Some, None, cond, int_lt, refl, ap, arith, sym, ◌∙◌}
use Rattle.std.proofs.lemmas.Int.{ints, by_lt_z}
use Rattle.dn_arc_theory.proofs.PartsLaws.{test_yes}
use Rattle.std.specs.List.{AllByRecursion}
use Rattle.std.specs.Int.Signed.{≤ℤ_refl}
use Rattle.dn_arc_theory.specs.declared.arc.CapArc.{CapArc}
use Rattle.dn_arc_theory.specs.declared.difference.How.{How}
use Rattle.dn_arc_theory.specs.declared.difference.How.TheVariants.{Totals}
use Rattle.dn_arc_theory.specs.Kinds.{capacities}
use Rattle.dn_arc_theory.specs.State.Bundles.{AreDifferences, AreSizes, IsKind, IsDetermined, NumbersFit}
use Rattle.dn_arc_theory.specs.Capacities.{total_cap}
use Rattle.dn_arc_theory.specs.Entries.{cap_entries}
use Rattle.dn_arc_theory.specs.State.Sizes.{cap_sizes}
use Rattle.dn_arc_theory.specs.State.SingleArcs.{cap_listed}
use Rattle.dn_arc_theory.specs.Meanings.{SameTotal}
use Rattle.dn_arc_theory.specs.Canonical.{IsCapArc, AreCanonCaps}
use Rattle.dn_arc_theory.specs.Differences.{TotalsDiffer}
use Rattle.dn_arc_theory.proofs.TotalsLaws.{total_meaning, totals_determined, totals_differ}
use Rattle.dn_arc_theory.proofs.MeansLaws.{fits_some}

abbrev arc_of : List ℤ → Option CapArc
arc_of (c ∷ []) = Some (record { cap = c })
arc_of _ = None

one_arc : (a b : CapArc) → capacities.numbers a ≡ capacities.numbers b → a ≡ b
one_arc a b e = let s : Some a ≡ Some b = ap arc_of e in cc

pub total-append : (xs ys : List CapArc) → total_cap (xs ++ ys) ≡ total_cap xs +ℤ total_cap ys
total-append [] ys = omega (arith, ints)
total-append (a ∷ xs) ys = omega (arith, ints, total-append xs ys)

pub total_some : (xs : List CapArc) → AllByRecursion IsCapArc xs → pos 0 ≤ℤ total_cap xs
total_some [] h = ≤ℤ_refl _
total_some (a ∷ xs) h = omega (arith, ints, total_some xs h.1)

no_total : (xs : List CapArc) → AllByRecursion IsCapArc xs → cap_entries xs ≡ 0 → total_cap xs ≡ pos 0
no_total xs h e =
    let some = total_some xs h in
    by_lt_z (pos 0) (total_cap xs)
    (λ lt. absurd (omega (arith, rw (test_yes (pos 0) (total_cap xs) lt) at e)))
    (λ le. omega (arith, ints))

canon_arcs : (xs : List CapArc) → AreCanonCaps xs → AllByRecursion IsCapArc xs
canon_arcs [] c = tt
canon_arcs (a ∷ []) c = (record { some = omega (arith, ints) }, tt)
canon_arcs (a ∷ b ∷ xs) c = absurd c

one_differ : (xs ys : List CapArc) (how other : How) → TotalsDiffer xs ys how → TotalsDiffer xs ys other → how ≡ other
one_differ xs ys (Totals l r) (Totals l' r') d e = ap (λ v. Totals v r) (sym d.0 ∙ e.0) ∙ ap (Totals l') (sym d.1 ∙ e.1)
one_differ xs ys (Totals l r) other d e = absurd e
one_differ xs ys how other d e = absurd d

same_differ : (xs xs' ys ys' : List CapArc) (how : How) → SameTotal xs xs' → SameTotal ys ys' → TotalsDiffer xs ys how
    → TotalsDiffer xs' ys' how
same_differ xs xs' ys ys' (Totals l r) s t d = (sym s.is ∙ d.0, sym t.is ∙ d.1, d.2)
same_differ xs xs' ys ys' how s t d = d

pub total_kind : IsKind capacities
total_kind = record {
  meaning = total_meaning;
  one_arc = one_arc;
  capacity_append = total-append;
  capacity_some = total_some;
  canon_arcs = λ form xs c. canon_arcs xs c;
  none_canon = λ form. tt;
  nothing_listed = λ form xs c s. totals_determined xs [] c tt s;
  same_capacity = λ xs ys h g s. s.is;
}

pub total_sized : AreSizes capacities cap_sizes
total_sized = record {
  same_entries = λ xs ys h g s. ap (λ z. cond (int_lt (pos 0) z) 1 0) s.is;
  same_spreads = λ xs ys a h g s m. m;
  none_entries = refl;
  no_entries = λ xs h e. record { is = no_total xs h e };
}

pub total_differs : AreDifferences capacities TotalsDiffer
total_differs = record {
  none_differ = totals_differ;
  one_differ = one_differ;
  same_differ = same_differ;
}

pub total_determined : IsDetermined capacities
total_determined form xs ys p q s = totals_determined xs ys p q s

pub total_canonical : (z : ℤ) → pos 0 <ℤ z → AreCanonCaps (cap_listed z)
total_canonical z some = omega (arith, ints)

pub total_fit : (z : ℤ) → pos 0 <ℤ z → z ≤ℤ pos (2 ^ 63 - 1) → NumbersFit capacities (cap_listed z)
total_fit z some most = ((fits_some z (omega (arith, ints)) most, tt), tt)
