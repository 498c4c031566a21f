-- The laws of `sp` arcs as a kind. Their meaning determines canonical arcs, and the arcs listed for a least length are
-- canonical and fit 64 bits if the length does.
use Rattle.std.proofs.Common.{◌≡◌, ℤ, List, [], ◌∷◌, Option, Some, None, refl, FitsSigned, w64, ap, arith, ◌∙◌}
use Rattle.std.proofs.lemmas.Int.{ints}
use Rattle.std.specs.List.{AllByRecursion}
use Rattle.dn_arc_theory.specs.declared.arc.LengthArc.{LengthArc}
use Rattle.dn_arc_theory.specs.declared.difference.How.{How}
use Rattle.dn_arc_theory.specs.declared.difference.How.TheVariants.{Lengths}
use Rattle.dn_arc_theory.specs.Kinds.{lengths}
use Rattle.dn_arc_theory.specs.State.Bundles.{AreDifferences, AreSizes, IsKind, IsDetermined, NumbersFit}
use Rattle.dn_arc_theory.specs.Meanings.{SameLength}
use Rattle.dn_arc_theory.specs.Canonical.{AreCanonLengths}
use Rattle.dn_arc_theory.specs.Differences.{LengthsDiffer}
use Rattle.dn_arc_theory.specs.Entries.{length_entries}
use Rattle.dn_arc_theory.specs.State.Sizes.{length_sizes}
use Rattle.dn_arc_theory.specs.State.SingleArcs.{length_listed}
use Rattle.dn_arc_theory.proofs.LengthsLaws.{length_meaning, lengths_determined, lengths_differ, length_of_one, length_of_same, first_length}

any_arcs : (xs : List LengthArc) → AllByRecursion (λ (a : LengthArc). Unit {0}) xs
any_arcs [] = tt
any_arcs (a ∷ rest) = (tt, any_arcs rest)

abbrev arc_of : List ℤ → Option LengthArc
arc_of (w ∷ []) = Some (record { length = w })
arc_of _ = None

one_arc : (a b : LengthArc) → lengths.numbers a ≡ lengths.numbers b → a ≡ b
one_arc a b e = let s : Some a ≡ Some b = ap arc_of e in cc

same_entries : (xs ys : List LengthArc) → SameLength xs ys → length_entries xs ≡ length_entries ys
same_entries [] [] s = refl
same_entries [] (b ∷ ys) s = absurd (first_length b ys (length_meaning.same_sym _ _ s))
same_entries (a ∷ xs) [] s = absurd (first_length a xs s)
same_entries (a ∷ xs) (b ∷ ys) s = refl

no_entries : (xs : List LengthArc) → AllByRecursion (λ (a : LengthArc). Unit {0}) xs → length_entries xs ≡ 0
    → SameLength xs []
no_entries [] h e = length_meaning.same_refl []
no_entries (a ∷ xs) h e = cc

one_differ : (xs ys : List LengthArc) (how other : How) → LengthsDiffer xs ys how → LengthsDiffer xs ys other
    → how ≡ other
one_differ xs ys (Lengths l r) (Lengths l' r') d e =
    ap (λ v. Lengths v r) (length_of_one xs l l' d.0 e.0) ∙ ap (Lengths l') (length_of_one ys r r' d.1 e.1)
one_differ xs ys (Lengths l r) other d e = absurd e
one_differ xs ys how other d e = absurd d

same_differ : (xs xs' ys ys' : List LengthArc) (how : How) → SameLength xs xs' → SameLength ys ys'
    → LengthsDiffer xs ys how → LengthsDiffer xs' ys' how
same_differ xs xs' ys ys' (Lengths l r) s t d = (length_of_same xs xs' l s d.0, length_of_same ys ys' r t d.1, d.2)
same_differ xs xs' ys ys' how s t d = d

pub length_kind : IsKind lengths
length_kind = record {
  meaning = length_meaning;
  one_arc = one_arc;
  capacity_append = λ xs ys. refl;
  capacity_some = λ xs h. omega (arith, ints);
  canon_arcs = λ form xs c. any_arcs xs;
  none_canon = λ form. tt;
  nothing_listed = λ form xs c s. lengths_determined xs [] c tt s;
  same_capacity = λ xs ys h g s. refl;
}

pub length_sized : AreSizes lengths length_sizes
length_sized = record {
  same_entries = λ xs ys h g s. same_entries xs ys s;
  same_spreads = λ xs ys a h g s m. m;
  none_entries = refl;
  no_entries = no_entries;
}

pub length_differs : AreDifferences lengths LengthsDiffer
length_differs = record {
  none_differ = lengths_differ;
  one_differ = one_differ;
  same_differ = same_differ;
}

pub length_determined : IsDetermined lengths
length_determined form xs ys p q s = lengths_determined xs ys p q s

pub length_canonical : (w : ℤ) → AreCanonLengths (length_listed w)
length_canonical w = tt

pub length_fit : (w : ℤ) → FitsSigned w64 w → NumbersFit lengths (length_listed w)
length_fit w h = ((h, tt), tt)
