-- The first difference between two instances, as C has it.
use Rattle.std.specs.Prelude.{◌≡◌, ◌^◌, ◌*ℤ◌, ◌+ℤ◌, ℕ, ℤ, pos, true, false, Option, Some, None}
use Rattle.dn_arc_theory.specs.declared.difference.How.{How}
use Rattle.dn_arc_theory.specs.declared.difference.How.TheVariants as Hows
use Rattle.dn_instance.specs.State.Helds.{OfBoth}
use Rattle.dn_instance.specs.declared.verdict.Verdict.{Verdict}
use Rattle.dn_instance.specs.declared.verdict.Verdict.TheVariants as Verdicts
use Rattle.dn_compare.specs.FirstDifference.{IsFirstDifference}
use Rattle.dn_c.specs.State.Facts.{kind_number}
use Rattle.dn_c.specs.declared.difference.Difference.{Difference}
use Rattle.dn_c.specs.declared.difference.WideNumber.{WideNumber}
use Rattle.dn_c.specs.declared.work.Work.{Work}
use Rattle.dn_c.specs.declared.work.Work.TheVariants as Works

-- the value is that of this number, in two halves; there is none without a number
abbrev pub IsWideNumber : Option ℤ → WideNumber → Type 0
IsWideNumber None v = v ≡ record { known = false; high = pos 0; low = 0 }
IsWideNumber (Some n) v = (v.known ≡ true) × (v.high *ℤ pos (2 ^ 64) +ℤ pos v.low ≡ n)

-- a difference of this sort, at a node or an ordered pair, or at an item, or from an amount on, with these values
pub record TellsVerdict (what : ℕ) (at to : ℤ) (index : ℕ) (amount : ℤ) (left right : Option ℤ) (d : Difference)
    : Type 0 where
  pub what_is : d.what ≡ what
  pub at_is : d.at ≡ at
  pub to_is : d.to ≡ to
  pub index_is : d.index ≡ index
  pub amount_is : d.amount ≡ amount
  pub left_is : IsWideNumber left d.left
  pub right_is : IsWideNumber right d.right

-- a difference of this sort of the whole instances, with these values
abbrev pub OfWhole : ℕ → Option ℤ → Option ℤ → Difference → Type 0
OfWhole what left right d = TellsVerdict what (pos 0) (pos 0) 0 (pos 0) left right d

-- how the arcs of an ordered pair differ, as C has it
abbrev pub PairDiffers : ℤ → ℤ → How → Difference → Type 0
PairDiffers src dst (Hows.Lengths left right) d = TellsVerdict 6 src dst 0 (pos 0) left right d
PairDiffers src dst (Hows.Totals left right) d = TellsVerdict 6 src dst 0 (pos 0) (Some left) (Some right) d
PairDiffers src dst (Hows.Costs gap) d = TellsVerdict 6 src dst 0 gap.amount gap.left gap.right d

-- a verdict as C has it
abbrev pub DiffersAs : Verdict → Difference → Type 0
DiffersAs Verdicts.Same d = OfWhole 0 None None d
DiffersAs (Verdicts.Kind left right) d =
    OfWhole 1 (Some (pos (kind_number left))) (Some (pos (kind_number right))) d
DiffersAs (Verdicts.Nodes left right) d = OfWhole 2 (Some left) (Some right) d
DiffersAs (Verdicts.Supply id left right) d = TellsVerdict 3 id (pos 0) 0 (pos 0) (Some left) (Some right) d
DiffersAs (Verdicts.Source left right) d = OfWhole 4 (Some left) (Some right) d
DiffersAs (Verdicts.Sink left right) d = OfWhole 5 (Some left) (Some right) d
DiffersAs (Verdicts.Pair src dst how) d = PairDiffers src dst how d
DiffersAs (Verdicts.Length left right) d = OfWhole 7 (Some (pos left)) (Some (pos right)) d
DiffersAs (Verdicts.Item index) d = TellsVerdict 8 (pos 0) (pos 0) index (pos 0) None None d
DiffersAs (Verdicts.Point id) d = TellsVerdict 9 id (pos 0) 0 (pos 0) None None d

-- the first difference between the instances that two works hold, or that they do not both hold one
abbrev pub ComparesWorks : Option Work → Option Work → Difference → Type 0
ComparesWorks (Some (Works.Read left _)) (Some (Works.Read right _)) d =
    (v : Verdict) × OfBoth left right (λ I J. IsFirstDifference I J v) × DiffersAs v d
ComparesWorks _ _ d = OfWhole 255 None None d
