-- What the three kinds of graphs have in common: an arc is a list of numbers, and parallel arcs have a meaning together
-- (this project's profile).
use Rattle.std.specs.Prelude.{ℤ, pos, List, [], ◌∷◌, map}
use Rattle.dn_arc_theory.specs.Capacities.{total_cap}
use Rattle.dn_arc_theory.specs.Splits.{total}
use Rattle.dn_arc_theory.specs.Meanings.{SameLength, SameTotal, SameCurve}
use Rattle.dn_arc_theory.specs.Canonical.{IsCapArc, IsCostArc, AreCanonLengths, AreCanonCaps, AreCanonCosts}
use Rattle.dn_arc_theory.specs.declared.arc.LengthArc.{LengthArc}
use Rattle.dn_arc_theory.specs.declared.arc.CapArc.{CapArc}
use Rattle.dn_arc_theory.specs.declared.arc.CostArc.{CostArc}
use Rattle.dn_arc_theory.specs.declared.arc.Form.{Form}

-- a kind of arcs consists of these definitions
pub record ArcKind (Arc : Type 0) : Type 1 where
  -- the numbers of an arc in the order of its line, after SRC and DST
  pub numbers : Arc → List ℤ
  -- a problem may have this arc
  pub IsArc : Arc → Type 0
  -- the sum of the CAPs, or 0 if the arcs of this kind have no CAP
  pub capacity : List Arc → ℤ
  -- two lists of arcs of one pair mean the same
  pub Same : List Arc → List Arc → Type 0
  -- the arcs are the canonical arcs of one pair in this form
  pub IsCanon : Form → List Arc → Type 0

-- the arcs of `sp` graphs, which have lengths
abbrev pub lengths : ArcKind LengthArc
lengths = record {
  numbers = λ a. a.length ∷ [];
  IsArc = λ a. Unit {0};
  capacity = λ arcs. pos 0;
  Same = SameLength;
  IsCanon = λ form. AreCanonLengths;
}

-- the arcs of `max` problems, which have capacities
abbrev pub capacities : ArcKind CapArc
capacities = record {
  numbers = λ a. a.cap ∷ [];
  IsArc = IsCapArc;
  capacity = total_cap;
  Same = SameTotal;
  IsCanon = λ form. AreCanonCaps;
}

-- the arcs of `min` problems, which have costs
abbrev pub costs : ArcKind CostArc
costs = record {
  numbers = λ a. a.low ∷ a.cap ∷ a.cost ∷ [];
  IsArc = IsCostArc;
  capacity = λ arcs. total (map (λ a. a.cap) arcs);
  Same = SameCurve;
  IsCanon = AreCanonCosts;
}
