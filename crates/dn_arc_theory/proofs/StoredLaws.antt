-- A curve is stored as its numbers, which distinguish it from every other curve.
use Rattle.std.proofs.Common.{◌≡◌, ℤ, List, sym, ap, subst}
use Rattle.std.specs.Coded.{Coded, coded_ℤ, coded×, coded_list}
use base.Stored.{coded_via}
use Rattle.dn_arc_theory.specs.State.CurveListed.{IsSound}
use Rattle.dn_arc_theory.specs.State.Curves.{CurveNumbers}
use Rattle.dn_arc_theory.proofs.SoundLaws.{IsSound-prop}

-- the numbers of a curve as a tuple
abbrev pub tuple : CurveNumbers → ℤ × (ℤ × (ℤ × List (ℤ × ℤ)))
tuple b = (b.units, (b.cost, (b.total, b.steps)))

pub same_numbers : (a b : CurveNumbers) → tuple a ≡ tuple b → a ≡ b
same_numbers a b e =
    let P : ℤ × (ℤ × (ℤ × List (ℤ × ℤ))) → Type 0 = λ t. (s : IsSound t.0 t.1.0 t.1.1.0 t.1.1.1)
    → record { units = t.0; cost = t.1.0; total = t.1.1.0; steps = t.1.1.1; sound = s } ≡ b in
    subst P (sym e)
    (λ s. ap
    (λ (p : IsSound b.units b.cost b.total b.steps). let c : CurveNumbers =
    record { units = b.units; cost = b.cost; total = b.total; steps = b.steps; sound = p } in c)
    (IsSound-prop b.units b.cost b.total b.steps s b.sound)) a.sound

abbrev pub curve_code : Coded CurveNumbers
curve_code =
    coded_via
    (coded× coded_ℤ (coded× coded_ℤ (coded× coded_ℤ (coded_list (coded× coded_ℤ coded_ℤ))))) tuple same_numbers
