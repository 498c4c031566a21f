-- Self-loops do not change the values of flows, and those of no negative length do not change distances.
use Rattle.std.proofs.Common.{inl, inr, sym, arith, ◌∙◌}
use Rattle.std.proofs.lemmas.Bool.{cases_Bool}
use Rattle.std.proofs.lemmas.Int.{ints}
use Rattle.std.proofs.lemmas.Bool.Decides.{Decides-int_eq}
use Rattle.std.specs.Prelude.{◌≡◌, ◌↔◌, ℤ, pos, ◌≤ℤ◌, List, [], ◌∷◌, Bool, false, cond, refl}
use Rattle.std.specs.List.{AllByRecursion}
use Rattle.std.specs.Int.Signed.{≤ℤ_refl}
use Rattle.std.specs.Ordering.{int_eq}
use Rattle.dn_arc_theory.specs.declared.arc.LengthArc.{LengthArc}
use Rattle.dn_arc_theory.specs.declared.arc.CapArc.{CapArc}
use Rattle.dn_arc_theory.specs.Canonical.{IsCapArc}
use Rattle.dn_instance.specs.Instances.{Graph}
use Rattle.dn_answers.specs.Walks.{IsAmong, Leads, walk_length, HasWalkWithin, IsDistance}
use Rattle.dn_answers.specs.Flows.{IsWithin, net_outflow}
use Rattle.dn_answers.specs.MaxFlows.{HasValue}
use Rattle.dn_answers.specs.Loops.{without_loops, loopless, HasNoNegativeLoop}
use Rattle.dn_answers.proofs.CarryLaws.{cap_low, cap_high}
use Rattle.dn_answers.proofs.WalkLaws.{at_among, Covers, covered_bounds, covered_distances}

-- whether the arc is a self-loop
abbrev is_loop : {Arc : Type 0} → (ℤ × ℤ) × Arc → Bool
is_loop a = int_eq a.0.0 a.0.1

-- an arc without self-loops is an arc
among_all : (a : (ℤ × ℤ) × LengthArc) (arcs : List ((ℤ × ℤ) × LengthArc)) → IsAmong a (without_loops arcs)
    → IsAmong a arcs
among_all a [] h = h
among_all a (b ∷ arcs) h = elim (cases_Bool (is_loop b)) [
  | inl t ↦ inr (among_all a arcs (rw t at h))
  | inr t ↦ elim (rw t at h) [ inl e ↦ inl e | inr g ↦ inr (among_all a arcs g) ]
]

-- an arc that is no self-loop is among the arcs without self-loops
among_rest : (a : (ℤ × ℤ) × LengthArc) (arcs : List ((ℤ × ℤ) × LengthArc)) → is_loop a ≡ false → IsAmong a arcs
    → IsAmong a (without_loops arcs)
among_rest a [] n h = h
among_rest a (b ∷ arcs) n (inl e) = rw (rw e at n) (inl e)
among_rest a (b ∷ arcs) n (inr h) =
    elim (cases_Bool (is_loop b)) [ inl t ↦ rw t (among_rest a arcs n h) | inr t ↦ rw t (inr (among_rest a arcs n h)) ]

walk_all : (arcs walk : List ((ℤ × ℤ) × LengthArc)) → AllByRecursion (λ a. IsAmong a (without_loops arcs)) walk
    → AllByRecursion (λ a. IsAmong a arcs) walk
walk_all arcs [] h = tt
walk_all arcs (a ∷ walk) h = (among_all a arcs h.0, walk_all arcs walk h.1)

walk_rest : (arcs walk : List ((ℤ × ℤ) × LengthArc)) → AllByRecursion (λ a. IsAmong a arcs) walk
    → AllByRecursion (λ a. IsAmong a (without_loops arcs)) (without_loops walk)
walk_rest arcs [] h = tt
walk_rest arcs (a ∷ walk) h = elim (cases_Bool (is_loop a)) [
  | inl t ↦ rw t (walk_rest arcs walk h.1)
  | inr t ↦ rw t (among_rest a arcs t h.0, walk_rest arcs walk h.1)
]

leads_rest : (u v : ℤ) (walk : List ((ℤ × ℤ) × LengthArc)) → Leads u walk v → Leads u (without_loops walk) v
leads_rest u v [] l = l
leads_rest u v (a ∷ walk) l = elim (cases_Bool (is_loop a)) [
  | inl t ↦ rw (t, ← l.0, (Decides-int_eq a.0.0 a.0.1).0 t) (leads_rest a.0.1 v walk l.1)
  | inr t ↦ rw t (l.0, leads_rest a.0.1 v walk l.1)
]

rest_shorter : (arcs walk : List ((ℤ × ℤ) × LengthArc))
    → AllByRecursion (λ a. a.0.0 ≡ a.0.1 → pos 0 ≤ℤ a.1.length) arcs → AllByRecursion (λ a. IsAmong a arcs) walk
    → walk_length (without_loops walk) ≤ℤ walk_length walk
rest_shorter arcs [] n h = ≤ℤ_refl (pos 0)
rest_shorter arcs (a ∷ walk) n h = elim (cases_Bool (is_loop a)) [
  | inl t ↦
      let some = at_among (λ b. b.0.0 ≡ b.0.1 → pos 0 ≤ℤ b.1.length) arcs n a h.0 ((Decides-int_eq a.0.0 a.0.1).0 t) in
      rw t (omega (arith, ints, rest_shorter arcs walk n h.1))
  | inr t ↦ rw t (omega (arith, ints, rest_shorter arcs walk n h.1))
]

module _ (G : Graph LengthArc) (n : HasNoNegativeLoop G) (u v : ℤ) where
  walk_in : Covers u v G (loopless G)
  walk_in = record {
    at = λ walk w. record {
      walk = without_loops walk;
      is = record { start = w.start; arcs = walk_rest G.arcs walk w.arcs; leads = leads_rest u v walk w.leads };
      within = rest_shorter G.arcs walk n w.arcs;
    };
  }

  walk_out : Covers u v (loopless G) G
  walk_out = record {
    at = λ walk w. record {
      walk = walk;
      is = record { start = w.start; arcs = walk_all G.arcs walk w.arcs; leads = w.leads };
      within = ≤ℤ_refl (walk_length walk);
    };
  }

  pub loop_bounds : (bound : ℤ) → HasWalkWithin G u v bound ↔ HasWalkWithin (loopless G) u v bound
  loop_bounds = covered_bounds u v G (loopless G) walk_in walk_out

  pub loop_distances : (d : ℤ) → IsDistance G u v d ↔ IsDistance (loopless G) u v d
  loop_distances = covered_distances u v G (loopless G) walk_in walk_out

-- the units of a flow on arcs that are no self-loops
abbrev kept : {Arc : Type 0} → List ((ℤ × ℤ) × Arc) → List ℤ → List ℤ
kept [] fs = []
kept (a ∷ arcs) [] = []
kept (a ∷ arcs) (f ∷ fs) = cond (is_loop a) (kept arcs fs) (f ∷ kept arcs fs)

module _ {Arc : Type 0} (low cap : Arc → ℤ) where
  kept_within : (arcs : List ((ℤ × ℤ) × Arc)) (fs : List ℤ) → IsWithin low cap arcs fs
      → IsWithin low cap (without_loops arcs) (kept arcs fs)
  kept_within [] [] h = tt
  kept_within [] (f ∷ fs) h = absurd h
  kept_within (a ∷ arcs) [] h = absurd h
  kept_within (a ∷ arcs) (f ∷ fs) h = elim (cases_Bool (is_loop a)) [
    | inl t ↦ rw t (kept_within arcs fs h.2)
    | inr t ↦ rw t (h.0, h.1, kept_within arcs fs h.2)
  ]

  kept_net : (arcs : List ((ℤ × ℤ) × Arc)) (fs : List ℤ) → IsWithin low cap arcs fs → (v : ℤ)
      → net_outflow v arcs fs ≡ net_outflow v (without_loops arcs) (kept arcs fs)
  kept_net [] [] h v = refl
  kept_net [] (f ∷ fs) h v = absurd h
  kept_net (a ∷ arcs) [] h v = absurd h
  kept_net (a ∷ arcs) (f ∷ fs) h v = elim (cases_Bool (is_loop a)) [
    | inl t ↦ rw (t, (Decides-int_eq a.0.0 a.0.1).0 t) (omega (arith, ints, kept_net arcs fs h.2 v))
    | inr t ↦ rw t (omega (arith, ints, kept_net arcs fs h.2 v))
  ]

-- a flow of all arcs, without units on self-loops
record Refilled (arcs : List ((ℤ × ℤ) × CapArc)) (gs : List ℤ) : Type 0 where
  flow : List ℤ
  within : IsWithin cap_low cap_high arcs flow
  is : kept arcs flow ≡ gs

refilled : (arcs : List ((ℤ × ℤ) × CapArc)) (gs : List ℤ) → AllByRecursion (λ a. IsCapArc a.1) arcs
    → IsWithin cap_low cap_high (without_loops arcs) gs → Refilled arcs gs
refilled [] [] c h = record { flow = []; within = tt; is = refl }
refilled [] (g ∷ gs) c h = absurd h
refilled (a ∷ arcs) gs c h = elim (cases_Bool (is_loop a)) [
  | inl t ↦
      let r = refilled arcs gs c.1 (rw t at h) in
      record { flow = pos 0 ∷ r.flow; within = (≤ℤ_refl (pos 0), c.0.some, r.within); is = rw t r.is }
  | inr t ↦ more t gs (rw t at h) (λ ks. refilled arcs ks c.1)
]
  where
    more : is_loop a ≡ false → (hs : List ℤ) → IsWithin cap_low cap_high (a ∷ without_loops arcs) hs
        → ((ks : List ℤ) → IsWithin cap_low cap_high (without_loops arcs) ks → Refilled arcs ks)
        → Refilled (a ∷ arcs) hs
    more t [] w go = absurd w
    more t (k ∷ ks) w go =
        let r = go ks w.2 in
        record { flow = k ∷ r.flow; within = (w.0, w.1, r.within); is = rw (t, r.is) }

pub loop_values : (source sink : ℤ) (G : Graph CapArc) → AllByRecursion (λ a. IsCapArc a.1) G.arcs → (x : ℤ)
    → HasValue source sink G x ↔ HasValue source sink (loopless G) x
loop_values source sink G c x = (
  λ h.
      (let net = kept_net cap_low cap_high G.arcs h.flow h.is.within in
      record {
        flow = kept G.arcs h.flow;
        is = record {
          within = kept_within cap_low cap_high G.arcs h.flow h.is.within;
          conserved = λ v g k. sym (net v) ∙ h.is.conserved v g k;
        };
        value_is = sym (net source) ∙ h.value_is;
      }),
  λ h.
      (let r = refilled G.arcs h.flow c h.is.within in
      let net = λ (v : ℤ). rw r.is at (kept_net cap_low cap_high G.arcs r.flow r.within v) in
      record {
        flow = r.flow;
        is = record { within = r.within; conserved = λ v g k. net v ∙ h.is.conserved v g k };
        value_is = net source ∙ h.value_is;
      }),
)
