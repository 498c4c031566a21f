-- How runs find keys. Only the proofs of this crate use these definitions.
use Rattle.std.specs.Prelude.{◌≡◌, ℕ, ◌<◌, ◌≤◌, ℤ, List, length, take, drop}
use Rattle.std.specs.declared.cmp.Ordering.TheVariants.{Less}
use Rattle.dn_arc_theory.specs.Pairs.{pair_cmp}
use Rattle.pair_index.specs.State.Chained.{IsChained}
use Rattle.pair_index.specs.State.Positions.{key_at}
use Rattle.pair_index.specs.State.Sorted.{AreSorted}
use Rattle.pair_index.specs.declared.runs.Group.{Group}
use Rattle.pair_index.specs.declared.runs.Group.TheVariants.{Sorted, Few, Linked}
use Rattle.pair_index.specs.declared.runs.Runs.{Runs}

-- the keys from `begin` on are a group: they have one tail, and those before are sorted and come before each pair of
-- this tail
pub record IsGroup (keys : List (ℤ × ℤ)) (begin : ℕ) : Type 0 where
  pub tail : ℤ
  pub inside : begin < length keys
  pub one_tail : (i : ℕ) → begin ≤ i → i < length keys → (key_at keys i).0 ≡ tail
  pub sorted : AreSorted (take begin keys)
  pub before : (i : ℕ) (p : ℤ × ℤ) → i < begin → p.0 ≡ tail → pair_cmp (key_at keys i) p ≡ Less

-- all keys are sorted, or those from `begin` on are a group, which is scanned or linked by chains
abbrev pub ShowsGroup : ℕ → Group → List (ℤ × ℤ) → Type 0
ShowsGroup begin Sorted keys = AreSorted keys
ShowsGroup begin Few keys = IsGroup keys begin
ShowsGroup begin (Linked chains) keys = IsGroup keys begin × IsChained chains (drop begin keys)

-- the runs find the position of each key
abbrev pub ShowsRuns : Runs → List (ℤ × ℤ) → Type 0
ShowsRuns runs keys = ShowsGroup runs.begin runs.group keys
