-- An upper bound on the least cost of an amount, arc by arc: the bound may be raised, and two arcs may be exchanged.
use Rattle.std.proofs.Common.{◌≡◌, ℤ, pos, ◌+ℤ◌, ◌*ℤ◌, ◌≤ℤ◌, List, [], ◌∷◌, refl, arith}
use Rattle.std.proofs.lemmas.Int.{ints}
use Rattle.std.specs.Int.Signed.{≤ℤ_refl}
use Rattle.dn_arc_theory.specs.declared.arc.CostArc.{CostArc}

-- one arc takes a share, and the remaining arcs carry the rest
pub record Share (low cap cost : ℤ) (Rest : ℤ → ℤ → Type 0) (x k : ℤ) : Type 0 where
  pub share : ℤ
  pub other : ℤ
  pub spent : ℤ
  pub low_is : low ≤ℤ share
  pub cap_is : share ≤ℤ cap
  pub amount : x ≡ share +ℤ other
  pub within : ((cost *ℤ share) +ℤ spent) ≤ℤ k
  pub rest : Rest other spent

pub record IsNothing (x k : ℤ) : Type 0 where
  pub amount : x ≡ pos 0
  pub within : pos 0 ≤ℤ k

-- some split of the amount costs at most k
abbrev pub AtMost : List CostArc → ℤ → ℤ → Type 0
AtMost [] = IsNothing
AtMost (a ∷ rest) = Share a.low a.cap a.cost (AtMost rest)

-- the arc takes the same share under other bounds, for another amount and another cost
pub same_share : {l c m d p : ℤ} {R S : ℤ → ℤ → Type 0} {x y k j : ℤ} (s : Share l c p R x k) → m ≤ℤ s.share
    → s.share ≤ℤ d → y ≡ s.share +ℤ s.other → ((p *ℤ s.share) +ℤ s.spent) ≤ℤ j → S s.other s.spent
    → Share m d p S y j
same_share s low cap amount within rest = record {
  share = s.share;
  other = s.other;
  spent = s.spent;
  low_is = low;
  cap_is = cap;
  amount = amount;
  within = within;
  rest = rest;
}

pub share_map : (l c p : ℤ) (R S : ℤ → ℤ → Type 0) → ((x k : ℤ) → R x k → S x k) → (x k : ℤ) → Share l c p R x k
    → Share l c p S x k
share_map l c p R S f x k s = same_share s s.low_is s.cap_is s.amount s.within (f s.other s.spent s.rest)

pub share_swap : (l c p m d q : ℤ) (R : ℤ → ℤ → Type 0) (x k : ℤ) → Share l c p (Share m d q R) x k
    → Share m d q (Share l c p R) x k
share_swap l c p m d q R x k s =
    let t = s.rest in
    record {
      share = t.share;
      other = s.share +ℤ t.other;
      spent = (p *ℤ s.share) +ℤ t.spent;
      low_is = t.low_is;
      cap_is = t.cap_is;
      amount = omega (arith, ints);
      within = omega (arith, ints);
      rest = record {
        share = s.share;
        other = t.other;
        spent = t.spent;
        low_is = s.low_is;
        cap_is = s.cap_is;
        amount = refl;
        within = ≤ℤ_refl _;
        rest = t.rest;
      };
    }

pub share_more : (l c p : ℤ) (R : ℤ → ℤ → Type 0) (x k j : ℤ) → k ≤ℤ j → Share l c p R x k → Share l c p R x j
share_more l c p R x k j h s = same_share s s.low_is s.cap_is s.amount (omega (arith, ints)) s.rest

pub more : (arcs : List CostArc) (x k j : ℤ) → k ≤ℤ j → AtMost arcs x k → AtMost arcs x j
more [] x k j h s = record { amount = s.amount; within = omega (arith, ints) }
more (a ∷ rest) x k j h s = share_more a.low a.cap a.cost (AtMost rest) x k j h s
