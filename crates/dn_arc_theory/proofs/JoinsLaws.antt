-- Merging fixed arcs by COST into sorted arcs of LOW 0 makes arcs of form 2. Forced units, forced costs and capacities
-- add up, and the free parts do not change.
use Rattle.std.proofs.Common.{◌≡◌, ℤ, pos, ◌+ℤ◌, ◌*ℤ◌, ◌≤ℤ◌, ◌<ℤ◌, List, [], ◌∷◌, filter, refl, sym, ap, arith, ◌∙◌, inl, inr}
use Rattle.std.proofs.lemmas.Int.{ints, by_lt_z}
use Rattle.std.specs.List.{AllByRecursion}
use Rattle.dn_arc_theory.specs.Kinds.{costs}
use Rattle.dn_arc_theory.specs.declared.arc.CostArc.{CostArc}
use Rattle.dn_arc_theory.specs.Canonical.{IsFixedArc, IsMixedArc, AreNear, AreAscending, has_low}
use Rattle.dn_arc_theory.specs.Entries.{has_room}
use Rattle.dn_arc_theory.specs.Fillings.{forced_units, forced_cost}
use Rattle.dn_arc_theory.specs.State.FillCosts.{room}
use Rattle.dn_arc_theory.specs.State.CurveListed.{join_arc, join_arcs}
use Rattle.dn_arc_theory.proofs.ProductsLaws.{mul_add}
use Rattle.dn_arc_theory.proofs.FormsLaws.{AreAbove, AreFixed, above_lower, fixed_arc_is}
use Rattle.dn_arc_theory.proofs.PartsLaws.{test_yes, test_no, free_parts}
use Rattle.std.proofs.lemmas.Bool.{cases_Bool}

-- the arc that two arcs of one cost make together
abbrev pub joined : CostArc → CostArc → CostArc
joined a b = record { low = a.low +ℤ b.low; cap = a.cap +ℤ b.cap; cost = b.cost }

-- a case distinction by where the arc is inserted
by_place : (P : List CostArc → Type 0) (a b : CostArc) (rest : List CostArc) → (a.cost <ℤ b.cost → P (a ∷ b ∷ rest))
    → (b.cost <ℤ a.cost → P (b ∷ join_arc a rest)) → (a.cost ≡ b.cost → P (joined a b ∷ rest))
    → P (join_arc a (b ∷ rest))
by_place P a b rest f g h =
    by_lt_z a.cost b.cost (λ lt. simp test_yes (f lt))
    (λ le. by_lt_z b.cost a.cost (λ lt. simp (test_no, test_yes) (g lt)) (λ ge. simp test_no (h (omega (arith, ints)))))

pub joined_units : (a : CostArc) (arcs : List CostArc) → forced_units (join_arc a arcs) ≡ a.low +ℤ forced_units arcs
joined_units a [] = refl
joined_units a (b ∷ rest) =
    by_place (λ (l : List CostArc). forced_units l ≡ a.low +ℤ forced_units (b ∷ rest)) a b rest
    (λ lt. refl)
    (λ gt. omega (arith, ints, joined_units a rest))
    (λ eq. omega (arith, ints))

cost_of_both : (p q u v f : ℤ) → p ≡ q → (q *ℤ (u +ℤ v)) +ℤ f ≡ (p *ℤ u) +ℤ ((q *ℤ v) +ℤ f)
cost_of_both p q u v f e = omega (arith, ints, ap (λ z. z *ℤ u) e, mul_add q u v)

pub joined_cost : (a : CostArc) (arcs : List CostArc)
    → forced_cost (join_arc a arcs) ≡ (a.cost *ℤ a.low) +ℤ forced_cost arcs
joined_cost a [] = refl
joined_cost a (b ∷ rest) =
    by_place (λ (l : List CostArc). forced_cost l ≡ (a.cost *ℤ a.low) +ℤ forced_cost (b ∷ rest)) a b rest
    (λ lt. refl)
    (λ gt. omega (arith, ints, joined_cost a rest))
    (λ eq. cost_of_both a.cost b.cost a.low b.low (forced_cost rest) eq)

pub joined_cap : (a : CostArc) (arcs : List CostArc) → costs.capacity (join_arc a arcs) ≡ a.cap +ℤ costs.capacity arcs
joined_cap a [] = refl
joined_cap a (b ∷ rest) =
    by_place (λ (l : List CostArc). costs.capacity l ≡ a.cap +ℤ costs.capacity (b ∷ rest)) a b rest
    (λ lt. refl)
    (λ gt. omega (arith, ints, joined_cap a rest))
    (λ eq. omega (arith, ints))

-- each cost after an insertion is the inserted cost or was there before
pub joined_costs : (P : ℤ → Type 0) (a : CostArc) (arcs : List CostArc) → P a.cost
    → AllByRecursion (λ (b : CostArc). P b.cost) arcs → AllByRecursion (λ (b : CostArc). P b.cost) (join_arc a arcs)
joined_costs P a [] p h = (p, tt)
joined_costs P a (b ∷ rest) p h =
    by_place (AllByRecursion (λ (b : CostArc). P b.cost)) a b rest
    (λ lt. (p, h))
    (λ gt. (h.0, joined_costs P a rest p h.1))
    (λ eq. h)

pub joined_ascending : (a : CostArc) (arcs : List CostArc) → AreAscending arcs → AreAscending (join_arc a arcs)
joined_ascending a [] r = (tt, tt)
joined_ascending a (b ∷ rest) r =
    by_place AreAscending a b rest
    (λ lt. ((lt, above_lower a.cost b.cost rest lt r.0), r))
    (λ gt. (joined_costs (λ c. b.cost <ℤ c) a rest gt r.0, joined_ascending a rest r.1))
    (λ eq. r)

joined_mixed : (a : CostArc) (arcs : List CostArc) → IsFixedArc a → AllByRecursion IsMixedArc arcs
    → AllByRecursion IsMixedArc (join_arc a arcs)
joined_mixed a [] f m = (fixed_mixed a f, tt)
  where
    fixed_mixed : (a : CostArc) → IsFixedArc a → IsMixedArc a
    fixed_mixed a f = record { is_arc = fixed_arc_is a f; room = omega (arith, ints) }
joined_mixed a (b ∷ rest) f m =
    by_place (AllByRecursion IsMixedArc) a b rest
    (λ lt. (record { is_arc = fixed_arc_is a f; room = omega (arith, ints) }, m))
    (λ gt. (m.0, joined_mixed a rest f m.1))
    (λ eq. (
      record { is_arc = record { some = omega (arith, ints); room = omega (arith, ints) }; room = omega (arith, ints) },
      m.1,
    ))

-- inserting an arc without free capacity does not change the free parts
joined_free : (a : CostArc) (arcs : List CostArc) → a.cap ≡ a.low → free_parts (join_arc a arcs) ≡ free_parts arcs
joined_free a [] f = let none : a.cap ≤ℤ a.low = omega (arith, ints) in rw test_no
joined_free a (b ∷ rest) f =
    let none : a.cap ≤ℤ a.low = omega (arith, ints) in
    by_place (λ l. free_parts l ≡ free_parts (b ∷ rest)) a b rest (λ lt. simp test_no)
    (λ gt. elim (cases_Bool (has_room b)) [
      | inl t ↦ rw (t, joined_free a rest f)
      | inr t ↦ rw (t, joined_free a rest f)
    ])
    (λ eq.
    let same : room (joined a b) ≡ room b = omega (arith, ints) in
    by_lt_z b.low b.cap
    (λ lt. let both : (a.low +ℤ b.low) <ℤ (a.cap +ℤ b.cap) = omega (arith, ints) in simp (test_yes, same))
    (λ le. let both : (a.cap +ℤ b.cap) ≤ℤ (a.low +ℤ b.low) = omega (arith, ints) in simp test_no))

-- after the insertion, one more arc has LOW above 0, at the cost of the inserted arc
record IsLowFirst (a : CostArc) (arcs lows : List CostArc) : Type 0 where
  arc : CostArc
  is : filter has_low arcs ≡ arc ∷ lows
  cost : arc.cost ≡ a.cost

kept_low : (a : CostArc) (rest : List CostArc) → pos 0 <ℤ a.low → filter has_low (a ∷ rest) ≡ a ∷ filter has_low rest
kept_low a rest h = rw test_yes

-- an arc whose cost is not above that of the inserted arc has LOW 0
no_low : (a b : CostArc) (rest : List CostArc) → b.cost ≤ℤ a.cost → AreAbove a.cost (filter has_low (b ∷ rest))
    → (filter has_low (b ∷ rest) ≡ filter has_low rest) × (b.low ≤ℤ pos 0)
no_low a b rest h u =
    by_lt_z (pos 0) b.low (λ lt. absurd (omega (arith, ints, (rw test_yes at u).0))) (λ le. (rw test_no, le))

joined_low : (a : CostArc) (arcs : List CostArc) → pos 1 ≤ℤ a.low → AllByRecursion IsMixedArc arcs
    → AreAbove a.cost (filter has_low arcs) → IsLowFirst a (join_arc a arcs) (filter has_low arcs)
joined_low a [] f m u = record { arc = a; is = kept_low a [] (omega (arith, ints)); cost = refl }
joined_low a (b ∷ rest) f m u =
    by_place (λ (l : List CostArc). IsLowFirst a l (filter has_low (b ∷ rest))) a b rest
    (λ lt. record { arc = a; is = kept_low a (b ∷ rest) (omega (arith, ints)); cost = refl })
    (λ gt.
    let n = no_low a b rest (omega (arith, ints)) u in
    let none = n.1 in
    let i = joined_low a rest f m.1 (rw n.0 at u) in
    record { arc = i.arc; is = rw (test_no, i.is); cost = i.cost })
    (λ eq.
    let n = no_low a b rest (omega (arith, ints)) u in
    record { arc = joined a b; is = rw n.0 (kept_low (joined a b) rest (omega (arith, ints))); cost = sym eq })

-- what holds of the arcs after fixed arcs have been merged into arcs without LOW
pub record AreJoined (fixed free arcs : List CostArc) : Type 0 where
  pub each : AllByRecursion IsMixedArc arcs
  pub ascending : AreAscending arcs
  pub near : AreNear (filter has_low arcs)
  pub units : forced_units arcs ≡ forced_units fixed +ℤ forced_units free
  pub cost : forced_cost arcs ≡ forced_cost fixed +ℤ forced_cost free
  pub cap : costs.capacity arcs ≡ costs.capacity fixed +ℤ costs.capacity free
  pub parts : free_parts arcs ≡ free_parts free

join_none : (free : List CostArc) → AllByRecursion IsMixedArc free → AreAscending free → filter has_low free ≡ []
    → AreJoined [] free free
join_none free m r n =
    record {
      each = m;
      ascending = r;
      near = rw n tt;
      units = omega (arith, ints);
      cost = omega (arith, ints);
      cap = omega (arith, ints);
      parts = refl;
    }

join_one : (a : CostArc) (free : List CostArc) → IsFixedArc a → AllByRecursion IsMixedArc free → AreAscending free
    → filter has_low free ≡ [] → AreJoined (a ∷ []) free (join_arc a free)
join_one a free f m r n =
    let l = joined_low a free f.some m (rw n tt) in
    let is : filter has_low (join_arc a free) ≡ l.arc ∷ [] = l.is ∙ ap (λ x. l.arc ∷ x) n in
    record {
      each = joined_mixed a free f m;
      ascending = joined_ascending a free r;
      near = rw is tt;
      units = omega (arith, ints, joined_units a free);
      cost = omega (arith, ints, joined_cost a free);
      cap = omega (arith, ints, joined_cap a free);
      parts = joined_free a free f.full;
    }

join_two : (a b : CostArc) (free : List CostArc) → IsFixedArc a → IsFixedArc b → b.cost ≡ a.cost +ℤ pos 1
    → AllByRecursion IsMixedArc free → AreAscending free → filter has_low free ≡ []
    → AreJoined (a ∷ b ∷ []) free (join_arc a (join_arc b free))
join_two a b free f g e m r n =
    let arcs = join_arc b free in
    let i = join_one b free g m r n in
    let l = joined_low b free g.some m (rw n tt) in
    let is : filter has_low arcs ≡ l.arc ∷ [] = l.is ∙ ap (λ x. l.arc ∷ x) n in
    let k = joined_low a arcs f.some i.each (rw is (omega (arith, ints), tt)) in
    let both : filter has_low (join_arc a arcs) ≡ k.arc ∷ l.arc ∷ [] = k.is ∙ ap (λ x. k.arc ∷ x) is in
    record {
      each = joined_mixed a arcs f i.each;
      ascending = joined_ascending a arcs i.ascending;
      near = rw both (omega (arith, ints));
      units = omega (arith, ints, joined_units a arcs);
      cost = omega (arith, ints, joined_cost a arcs);
      cap = omega (arith, ints, joined_cap a arcs);
      parts = joined_free a arcs f.full ∙ i.parts;
    }

pub join_all : (fixed free : List CostArc) → AreFixed fixed → AllByRecursion IsMixedArc free → AreAscending free
    → filter has_low free ≡ [] → AreJoined fixed free (join_arcs fixed free)
join_all [] free f m r n = join_none free m r n
join_all (a ∷ []) free f m r n = join_one a free f.each.0 m r n
join_all (a ∷ b ∷ []) free f m r n = join_two a b free f.each.0 f.each.1.0 f.near m r n
join_all (a ∷ b ∷ c ∷ fixed) free f m r n = absurd f.near
