-- Which graph is the canonical graph of a graph, in each form (this project's profile).
use Rattle.dn_arc_theory.specs.declared.arc.Form.{Form}
use Rattle.dn_arc_theory.specs.Kinds.{ArcKind}
use Rattle.dn_instance.specs.Instances.{Graph}
use Rattle.dn_instance.specs.Sameness.{SameGraph}
use Rattle.dn_instance.specs.Validity.{IsValidGraph}
use Rattle.dn_canon.specs.CanonInstances.{IsCanonGraph}

-- H is the canonical graph of G in this form: valid, canonical, and with the same meaning
pub record IsCanonGraphOf {Arc : Type 0} (kind : ArcKind Arc) (form : Form) (H G : Graph Arc) : Type 0 where
  pub valid : IsValidGraph kind H
  pub canonical : IsCanonGraph kind form H
  pub same : SameGraph kind.Same G H
