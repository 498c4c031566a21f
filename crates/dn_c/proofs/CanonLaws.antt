-- Lemmas that calls get the canonical instance out of a parsed instance.
use Rattle.std.proofs.Common.{◌≡◌, ◌<◌, ℕ, ℤ, zero, suc, List, [], ◌∷◌, ◌++◌, length, map, take, drop, flat_map, append-nil, None, Some, Ok, refl, sym, ap, ◌∙◌, arith}
use Rattle.std.proofs.lemmas.List.{length-map}
use Rattle.dn_arc_theory.specs.Kinds.{costs, capacities, lengths}
use Rattle.dn_arc_theory.specs.declared.arc.Form.{Form}
use Rattle.dn_arc_theory.proofs.CostKindLaws.{cost_kind}
use Rattle.dn_arc_theory.proofs.LengthKindLaws.{length_kind, length_canonical, length_fit}
use Rattle.dn_arc_theory.proofs.SoundLaws.{sound_canonical, sound_same, sound_fit}
use Rattle.dn_arc_theory.proofs.TotalKindLaws.{total_kind, total_canonical, total_fit}
use Rattle.dn_bundle.specs.State.Listings.{least_arcs, total_arcs, curve_arcs}
use Rattle.dn_instance.specs.Instances.{Instance, MinCostFlow, MaxFlow, ShortestPaths, Sources, Queries, Coordinates}
use Rattle.dn_instance.specs.State.Helds.{Bundles, Contents, Parsed, OfHeld, OfMin, OfMax, OfSp, OfSs, OfP2p, OfCo, Shows}
use Rattle.dn_instance.specs.State.ReaderResults.{Outcome}
use Rattle.dn_instance.specs.Texts.{Reads}
use Rattle.dn_instance.specs.Validity.{IsValid}
use Rattle.dn_instance.proofs.SameLaws.{refl_of}
use Rattle.dn_instance.proofs.ValidLaws.{reads_valid, some_is}
use Rattle.dn_canon.specs.CanonInstances.{IsCanonInstanceOf}
use Rattle.dn_canon.specs.State.ListedArcs.{listed_arcs, listed_graph}
use Rattle.dn_canon.proofs.ListedLaws.{listed_canon, min_canon, max_canon}
use Rattle.dn_c.specs.State.CanonCopies.{Call, Walks, copied, first_cursor, GivesOut}
use Rattle.dn_c.specs.State.Items.{flow_item, point_item, id_item, pair_item}
use Rattle.dn_c.specs.State.Outputs.{CopiesNone, CountsListed}
use Rattle.dn_c.specs.State.Statuses.{wrong_count}
use Rattle.dn_c.specs.State.Cursors.{cost_at, cap_at, length_at}
use Rattle.dn_c.specs.State.Rows.{rows_by}
use Rattle.dn_c.specs.State.Walks.{CopiesFrom, IsLeftAfter}
use Rattle.dn_c.specs.declared.arcs.Arc.{Arc}
use Rattle.dn_c.specs.declared.cursor.Cursor.{Cursor}
use Rattle.dn_c.specs.declared.status.Count.{Count}
use Rattle.dn_c.proofs.WalkLaws.{begins}

module _ {A : Type 0} where
  -- what is taken of a list and what is left after it are the list
  whole : (n : ℕ) (xs : List A) → take n xs ++ drop (length (take n xs)) xs ≡ xs
  whole zero xs = refl
  whole (suc n) [] = refl
  whole (suc n) (x ∷ xs) = ap (λ l. x ∷ l) (whole n xs)

  -- if fewer are taken than were asked for, all are
  all_taken : (n : ℕ) (xs : List A) → length (take n xs) < n → take n xs ≡ xs
  all_taken zero xs few = absurd (omega (arith, few))
  all_taken (suc n) [] few = refl
  all_taken (suc n) (x ∷ xs) few = ap (λ l. x ∷ l) (all_taken n xs (omega (arith, few)))

module _ {B A : Type 0} (numbers : A → List ℤ) (lists : B → List A) (arc : Cursor → A) (table : Bundles B) where
  -- the call copies arcs of the table after the cursor
  abbrev Copies : Cursor → Call → Type 0
  Copies cursor call =
      CopiesFrom numbers lists arc table cursor call.cursor (length call.old) call.new call.result

  abbrev Left : Cursor → List Arc → Type 0
  Left = IsLeftAfter numbers lists arc table

  first_rows : (rows : List Arc) (cursor : Cursor) (call : Call) → Left cursor rows → Copies cursor call
      → copied call ≡ take (length call.old) rows
  first_rows rows cursor call left c =
      let got = c.1 rows left in ap (λ n. take n call.new) got.1 ∙ got.0

  -- a walk copies what is left after its first cursor
  walk_copies : (rows : List Arc) (cursor : Cursor) (calls : List Call) → Left cursor rows → Walks Copies cursor calls
      → flat_map copied calls ≡ rows
  walk_copies rows cursor [] left w = absurd w
  walk_copies rows cursor (call ∷ []) left w =
      let got = w.0.1 rows left in
      append-nil (copied call) ∙ first_rows rows cursor call left w.0
      ∙ all_taken (length call.old) rows (omega (arith, got.1, w.1))
  walk_copies rows cursor (call ∷ next ∷ rest) left w =
      let got = w.0.1 rows left in
      ap (λ l. copied call ++ l) (walk_copies (drop call.result.count rows) call.cursor (next ∷ rest) got.2 w.1)
      ∙ ap (λ l. l ++ drop call.result.count rows) (first_rows rows cursor call left w.0)
      ∙ ap (λ n. take (length call.old) rows ++ drop n rows) got.1 ∙ whole (length call.old) rows

  walk_first : (calls : List Call) → Walks Copies first_cursor calls
      → flat_map copied calls ≡ rows_by numbers (listed_arcs lists table)
  walk_first calls w = walk_copies _ first_cursor calls (begins numbers lists arc table) w

-- calls on a companion copy no arcs
abbrev CopiesNothing : Cursor → Call → Type 0
CopiesNothing cursor call = CopiesNone cursor call.cursor call.old call.new call.result

none_copied : (cursor : Cursor) (calls : List Call) → Walks CopiesNothing cursor calls → flat_map copied calls ≡ []
none_copied cursor [] w = absurd w
none_copied cursor (call ∷ []) w =
    ap (λ (r : Count). take r.count call.new ++ []) w.0.0
none_copied cursor (call ∷ next ∷ rest) w =
    ap (λ (r : Count). take r.count call.new ++ flat_map copied (next ∷ rest)) w.0.0
    ∙ none_copied call.cursor (next ∷ rest) w.1

-- the number of listed arcs is that of their rows
counted : {B A : Type 0} (numbers : A → List ℤ) (lists : B → List A) (table : Bundles B) (result : Count)
    → CountsListed lists table result → result.code ≡ 0
    → result.count ≡ length (rows_by numbers (listed_arcs lists table))
counted numbers lists table result (Some n, is, told) fine =
    ap (λ (r : Count). r.count) told ∙ is ∙ sym (length-map (listed_arcs lists table) _)
counted numbers lists table result (None, is, told) fine = absurd (omega (arith, ap (λ (r : Count). r.code) told, fine))

-- a companion has no arcs to count
none_counted : (result : Count) → result ≡ wrong_count → result.code ≡ 0 → result.count ≡ 0
none_counted result told fine = absurd (omega (arith, ap (λ (r : Count). r.code) told, fine))

module _ (form : Form) where
  -- the canonical instance of I is what calls get out of the contents
  abbrev GivesCanon : Contents → Instance → Type 0
  GivesCanon contents I = (J : Instance) × IsCanonInstanceOf form J I × GivesOut form contents J

  by_contents : (contents : Contents) (I : Instance) → IsValid I → Shows contents I → GivesCanon contents I
  by_contents (OfMin flows table) (MinCostFlow supplies G) valid s = (
    MinCostFlow supplies (listed_graph (curve_arcs form) G.nodes table),
    min_canon form supplies G _ (listed_canon cost_kind curve_arcs
        (λ f b. sound_canonical b.units b.cost b.total b.steps b.sound f)
        (λ b. sound_same b.units b.cost b.total b.steps b.sound)
        (λ f b. sound_fit b.units b.cost b.total b.steps b.sound f) form G.nodes table G refl s.1.ascending
        s.1.lists_them.stands valid.0) valid.1,
    record {
      first = begins costs.numbers (curve_arcs form) cost_at table;
      walk = walk_first costs.numbers (curve_arcs form) cost_at table;
      count = counted costs.numbers (curve_arcs form) table;
      items = ap (map flow_item) s.0;
    },
  )
  by_contents (OfMax source sink table) (MaxFlow a b G) valid s = (
    MaxFlow a b (listed_graph total_arcs G.nodes table),
    max_canon form a b G _ (listed_canon total_kind (λ f. total_arcs) (λ f b. total_canonical b.total b.some)
        (λ b. total_kind.meaning.same_refl (total_arcs b)) (λ f b. total_fit b.total b.some b.most) form G.nodes table G
        refl s.2.ascending s.2.lists_them.stands valid.0) valid.1,
    record {
      first = begins capacities.numbers total_arcs cap_at table;
      walk = walk_first capacities.numbers total_arcs cap_at table;
      count = counted capacities.numbers total_arcs table;
      items = rw (s.0, s.1) refl;
    },
  )
  by_contents (OfSp table) (ShortestPaths G) valid s =
      let canon = listed_canon length_kind (λ f. least_arcs) (λ f b. length_canonical b.length)
      (λ b. length_kind.meaning.same_refl (least_arcs b)) (λ f b. length_fit b.length b.fits) form G.nodes table G refl
      s.ascending s.lists_them.stands valid in (
        ShortestPaths (listed_graph least_arcs G.nodes table),
        record { valid = canon.valid; canonical = canon.canonical; same = canon.same },
        record {
          first = begins lengths.numbers least_arcs length_at table;
          walk = walk_first lengths.numbers least_arcs length_at table;
          count = counted lengths.numbers least_arcs table;
          items = refl;
        },
      )
  by_contents (OfSs ids) (Sources items) valid s = (
    Sources items,
    record { valid = valid; canonical = tt; same = refl_of (Sources items) },
    record { first = refl; walk = none_copied first_cursor; count = none_counted; items = ap (map id_item) s },
  )
  by_contents (OfP2p pairs) (Queries items) valid s = (
    Queries items,
    record { valid = valid; canonical = tt; same = refl_of (Queries items) },
    record { first = refl; walk = none_copied first_cursor; count = none_counted; items = ap (map pair_item) s },
  )
  by_contents (OfCo points) (Coordinates items) valid s = (
    Coordinates items,
    record { valid = valid; canonical = tt; same = refl_of (Coordinates items) },
    record { first = refl; walk = none_copied first_cursor; count = none_counted; items = ap (map point_item) s },
  )
  by_contents (OfMin flows table) _ valid s = absurd s
  by_contents (OfMax source sink table) _ valid s = absurd s
  by_contents (OfSp table) _ valid s = absurd s
  by_contents (OfSs ids) _ valid s = absurd s
  by_contents (OfP2p pairs) _ valid s = absurd s
  by_contents (OfCo points) _ valid s = absurd s

-- calls get the canonical instance of I, in either form, out of a parsed instance that represents I
pub held_copies : (form : Form) (held : Parsed) → OfHeld held (GivesCanon form held.contents)
held_copies form held I valid h = by_contents form held.contents I valid h.shows

-- calls get the canonical instance of what a text reads as, in either form, out of what reading the text returned
pub copies_canon : (form : Form) (t : List ℕ) (held : Parsed) (I : Instance) → Outcome t (Ok held) → Reads t I
    → (J : Instance) × IsCanonInstanceOf form J I × GivesOut form held.contents J
copies_canon form t held I outcome reads =
    let is : outcome.0 ≡ I = some_is outcome.0 I (sym outcome.1.instance_is ∙ reads.instance_is) in
    held_copies form held I (reads_valid t I reads) (rw is at outcome.2)
