-- Where two lists of entries first differ.
use Rattle.std.specs.Prelude.{◌≡◌, ◌≢◌, ℕ, ◌<◌, ℤ, List, length, Option, MatchOption}
use Rattle.std.specs.BTreeMap.{is_at}
use Rattle.std.specs.Map.{lookup}
use Rattle.std.specs.declared.cmp.Ordering.{Ordering}
use Rattle.std.specs.declared.cmp.Ordering.TheVariants.{Less}
use Rattle.dn_arc_theory.specs.State.Bundles.{ArcDiffer, listed_of}
use Rattle.dn_arc_theory.specs.Kinds.{ArcKind}
use Rattle.dn_arc_theory.specs.declared.difference.How.{How}
use Rattle.dn_instance.specs.State.Helds.{Contents, Shows}
use Rattle.dn_instance.specs.Instances.{Instance, nodes_of}
use Rattle.dn_arc_theory.specs.Pairs.{bundle, pair_cmp}
use Rattle.dn_instance.specs.Validity.{IsValid}
use Rattle.dn_compare.specs.Observed.{flow_or_zero, item_at}
use Rattle.dn_compare.specs.FirstDifference.{Differ, IsFirstDifference}
use Rattle.dn_instance.specs.declared.verdict.Verdict.{Verdict}
use Rattle.dn_instance.specs.declared.verdict.Verdict.TheVariants.{Same, Pair, Length, Item}

-- which values, each of which may be missing, count as the same, and what is said of two that differ
pub record Comparison (V W : Type 0) : Type 1 where
  pub Alike : Option V → Option V → Type 0
  pub Differ : Option V → Option V → W → Type 0

-- the values count as the same, or this is how they differ
abbrev pub Compares : {V W : Type 0} → Comparison V W → Option V → Option V → Option W → Type 0
Compares by a b how = MatchOption how (by.Alike a b) (by.Differ a b)

module _ {K V W : Type 0} (cmp : K → K → Ordering) (by : Comparison V W) (left right : List (K × V)) where
  -- both lists have the same value at a key
  abbrev pub AlikeAt : K → Type 0
  AlikeAt k = by.Alike (lookup (is_at (cmp k)) left) (lookup (is_at (cmp k)) right)

  -- the least key at which the lists differ, and how they differ
  pub record PartAt (key : K) (what : W) : Type 0 where
    pub differ : by.Differ (lookup (is_at (cmp key)) left) (lookup (is_at (cmp key)) right) what
    pub same_before : (k : K) → cmp k key ≡ Less → AlikeAt k

  -- the lists have the same value at every key, or this is where they first differ
  abbrev pub IsParting : Option (K × W) → Type 0
  IsParting parting = MatchOption parting ((k : K) → AlikeAt k) (λ x. PartAt x.0 x.1)

-- compares bundles by the meaning of the arcs that they list
abbrev pub by_meaning : {B Arc : Type 0} → ArcKind Arc → ArcDiffer Arc → (B → List Arc) → Comparison B How
by_meaning kind ArcsDiffer lists = record {
  Alike = λ a b. kind.Same (listed_of lists a) (listed_of lists b);
  Differ = λ a b how. ArcsDiffer (listed_of lists a) (listed_of lists b) how;
}

-- compares flows, and says both if they differ
abbrev pub by_flow : Comparison ℤ (ℤ × ℤ)
by_flow = record {
  Alike = λ a b. flow_or_zero a ≡ flow_or_zero b;
  Differ = λ a b flows. (flow_or_zero a ≡ flows.0) × (flow_or_zero b ≡ flows.1) × (flows.0 ≢ flows.1);
}

-- compares points
abbrev pub by_point : Comparison (ℤ × ℤ) (Unit {0})
by_point = record { Alike = λ a b. a ≡ b; Differ = λ a b what. a ≢ b }

-- the least pair at which the arcs of two graphs differ in meaning, and how
pub record ArcsPartAt {Arc : Type 0} (kind : ArcKind Arc) (ArcsDiffer : ArcDiffer Arc)
    (xs ys : List ((ℤ × ℤ) × Arc)) (pair : ℤ × ℤ) (how : How) : Type 0 where
  pub differ : ArcsDiffer (bundle pair xs) (bundle pair ys) how
  pub same_before : (p : ℤ × ℤ) → pair_cmp p pair ≡ Less → kind.Same (bundle p xs) (bundle p ys)

-- the graphs mean the same at every pair, or this is where they first differ
abbrev pub IsArcsParting : {Arc : Type 0} → ArcKind Arc → ArcDiffer Arc → List ((ℤ × ℤ) × Arc) → List ((ℤ × ℤ) × Arc)
    → Option ((ℤ × ℤ) × How) → Type 0
IsArcsParting kind ArcsDiffer xs ys parting =
    MatchOption parting ((p : ℤ × ℤ) → kind.Same (bundle p xs) (bundle p ys))
    (λ x. ArcsPartAt kind ArcsDiffer xs ys x.0 x.1)

-- the verdict on two graphs with the same NODES and the same supplies or terminals
abbrev pub IsPairVerdict : {Arc : Type 0} → ArcKind Arc → ArcDiffer Arc → List ((ℤ × ℤ) × Arc) → List ((ℤ × ℤ) × Arc)
    → Verdict → Type 0
IsPairVerdict kind ArcsDiffer xs ys Same = (p : ℤ × ℤ) → kind.Same (bundle p xs) (bundle p ys)
IsPairVerdict kind ArcsDiffer xs ys (Pair src dst how) = ArcsPartAt kind ArcsDiffer xs ys (src, dst) how
IsPairVerdict kind ArcsDiffer xs ys _ = ⊥

-- the least index, counted from 1, at which two lists differ
pub record ItemsPartAt {A : Type 0} (xs ys : List A) (index : ℕ) : Type 0 where
  pub differ : item_at xs index ≢ item_at ys index
  pub same_before : (j : ℕ) → j < index → item_at xs j ≡ item_at ys j

-- the verdict on two lists
abbrev pub IsListVerdict : {A : Type 0} → List A → List A → Verdict → Type 0
IsListVerdict xs ys Same = xs ≡ ys
IsListVerdict xs ys (Length left right) = Differ (length xs) (length ys) left right
IsListVerdict xs ys (Item index) = (length xs ≡ length ys) × ItemsPartAt xs ys index
IsListVerdict xs ys _ = ⊥

-- the verdict on any two valid instances with the same NODES that these contents represent
abbrev pub IsVerdictOn : Contents → Contents → Verdict → Type 0
IsVerdictOn a b v =
    (I J : Instance) → IsValid I → IsValid J → nodes_of I ≡ nodes_of J → Shows a I → Shows b J → IsFirstDifference I J v
