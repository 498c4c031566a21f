use Rattle.std.proofs.Common.{◌≡◌, Some, slice_get}
use Rattle.dn_arc_theory.specs.State.CurveListed.{listed}
use Rattle.dn_bundle.proofs.curve.CurveBundle.canon_arc.Given as goal

abbrev pub invariant-loop-k : goal.invariant-loop-k
invariant-loop-k l = slice_get (listed l.form l.self.units l.self.cost l.self.steps) l._k ≡ Some l.arc
