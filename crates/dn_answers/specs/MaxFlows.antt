-- Flows of a `max` problem, their values and the greatest of these (Ahuja, Magnanti and Orlin, Network Flows: the
-- maximum flow problem; First DIMACS Challenge, network flow format: source, sink and CAP).
use Rattle.std.specs.Prelude.{◌≡◌, ◌≢◌, ℤ, pos, ◌≤ℤ◌, List}
use Rattle.dn_arc_theory.specs.declared.arc.CapArc.{CapArc}
use Rattle.dn_instance.specs.Instances.{Graph}
use Rattle.dn_answers.specs.Flows.{IsWithin, net_outflow, HaveSameUnits}

-- a flow from the source to the sink has 0 to CAP units on each arc, and as many units leave each other node as enter
-- it (mass balance)
pub record IsFlow (source sink : ℤ) (G : Graph CapArc) (flow : List ℤ) : Type 0 where
  pub within : IsWithin (λ a. pos 0) (λ a. a.cap) G.arcs flow
  pub conserved : (v : ℤ) → v ≢ source → v ≢ sink → net_outflow v G.arcs flow ≡ pos 0

-- some flow has this value: the units that leave the source minus those that enter it
pub record HasValue (source sink : ℤ) (G : Graph CapArc) (value : ℤ) : Type 0 where
  pub flow : List ℤ
  pub is : IsFlow source sink G flow
  pub value_is : net_outflow source G.arcs flow ≡ value

-- the greatest value is the value of a flow such that no flow has a greater value
pub record IsGreatestValue (source sink : ℤ) (G : Graph CapArc) (value : ℤ) : Type 0 where
  pub has : HasValue source sink G value
  pub greatest : (other : ℤ) → HasValue source sink G other → other ≤ℤ value

-- H has a flow with the same units on each ordered pair as this flow of G, and so with the same value
pub record HasMatchingFlow (source sink : ℤ) (G H : Graph CapArc) (flow : List ℤ) : Type 0 where
  pub other : List ℤ
  pub is : IsFlow source sink H other
  pub units : HaveSameUnits G.arcs flow H.arcs other
