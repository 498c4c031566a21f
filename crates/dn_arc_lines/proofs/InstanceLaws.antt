-- The arcs among the items of a text are those of its instance.
use Rattle.std.proofs.Common.{◌≡◌, ℤ, pos, List, [], ◌∷◌, Option, Some, None, refl, ap, ◌∙◌, option_and_then}
use Rattle.std.specs.Option.{option_map}
use Rattle.dn_line.specs.declared.kind.Kind.{Kind}
use Rattle.dn_line.specs.declared.kind.Kind.TheVariants as Kinds
use Rattle.dn_line.specs.declared.line.Line.{Line}
use Rattle.dn_line.specs.declared.line.Line.TheVariants as Item
use Rattle.dn_instance.specs.Instances.{Instance, MinCostFlow, MaxFlow, ShortestPaths}
use Rattle.dn_instance.specs.Items.{Problem, cap_arc_in, cost_arc_in, graph_of, instance_as, instance_of, kind_known, length_arc_in, max_flow, problem_of}
use Rattle.dn_instance.specs.Items as Of
use Rattle.dn_arc_lines.specs.State.ArcLines.{arcs_among, arcs_in}
use Rattle.dn_arc_lines.specs.declared.arc_line.ArcLine.{ArcLine}
use Rattle.dn_arc_lines.proofs.ItemsLaws.{AllFit}

abbrev row : ℤ → ℤ → ℤ → ℤ → ℤ → ArcLine
row s d x y z = record { line = 0; tail = s; head = d; a = x; b = y; c = z }

of_min : (nodes : ℤ) (flows : List (ℤ × ℤ)) (items : List Line) → AllFit (Some Kinds.Min) items
    → arcs_among items ≡ arcs_in (MinCostFlow flows (graph_of cost_arc_in nodes items))
of_min nodes flows [] h = refl
of_min nodes flows (Item.MinArc src dst low cap cost ∷ items) h =
    ap (λ l. row src dst low cap cost ∷ l) (of_min nodes flows items h.1)
of_min nodes flows (Item.MaxArc src dst cap ∷ items) h = absurd (let e = h.0 in cc)
of_min nodes flows (Item.SpArc src dst length ∷ items) h = absurd (let e = h.0 in cc)
of_min nodes flows (i ∷ items) h = of_min nodes flows items h.1

of_max : (nodes source sink : ℤ) (items : List Line) → AllFit (Some Kinds.Max) items
    → arcs_among items ≡ arcs_in (MaxFlow source sink (graph_of cap_arc_in nodes items))
of_max nodes source sink [] h = refl
of_max nodes source sink (Item.MaxArc src dst cap ∷ items) h =
    ap (λ l. row src dst cap (pos 0) (pos 0) ∷ l) (of_max nodes source sink items h.1)
of_max nodes source sink (Item.MinArc src dst low cap cost ∷ items) h = absurd (let e = h.0 in cc)
of_max nodes source sink (Item.SpArc src dst length ∷ items) h = absurd (let e = h.0 in cc)
of_max nodes source sink (i ∷ items) h = of_max nodes source sink items h.1

of_sp : (nodes : ℤ) (items : List Line) → AllFit (Some Kinds.Sp) items
    → arcs_among items ≡ arcs_in (ShortestPaths (graph_of length_arc_in nodes items))
of_sp nodes [] h = refl
of_sp nodes (Item.SpArc src dst length ∷ items) h =
    ap (λ l. row src dst length (pos 0) (pos 0) ∷ l) (of_sp nodes items h.1)
of_sp nodes (Item.MinArc src dst low cap cost ∷ items) h = absurd (let e = h.0 in cc)
of_sp nodes (Item.MaxArc src dst cap ∷ items) h = absurd (let e = h.0 in cc)
of_sp nodes (i ∷ items) h = of_sp nodes items h.1

-- a kind that is not of graphs
abbrev IsOther : Kind → Type 0
IsOther kind = (Some kind ≡ Some Kinds.Min → ⊥) × (Some kind ≡ Some Kinds.Max → ⊥) × (Some kind ≡ Some Kinds.Sp → ⊥)

no_arcs : (kind : Kind) (items : List Line) → IsOther kind → AllFit (Some kind) items → arcs_among items ≡ []
no_arcs kind [] o h = refl
no_arcs kind (Item.MinArc src dst low cap cost ∷ items) o h = absurd (o.0 h.0)
no_arcs kind (Item.MaxArc src dst cap ∷ items) o h = absurd (o.1 h.0)
no_arcs kind (Item.SpArc src dst length ∷ items) o h = absurd (o.2 h.0)
no_arcs kind (i ∷ items) o h = no_arcs kind items o h.1

same : {I J : Instance} → Some I ≡ Some J → I ≡ J
same e = cc

by_ends : (nodes : ℤ) (items : List Line) (I : Instance) (source sink : Option ℤ) → AllFit (Some Kinds.Max) items
    → max_flow source sink (graph_of cap_arc_in nodes items) ≡ Some I → arcs_among items ≡ arcs_in I
by_ends nodes items I (Some source) (Some sink) h e = of_max nodes source sink items h ∙ ap arcs_in (same e)
by_ends nodes items I _ _ h e = cc

by_kind : (kind : Kind) (nodes : ℤ) (items : List Line) (I : Instance) → AllFit (Some kind) items
    → instance_as kind nodes items ≡ Some I → arcs_among items ≡ arcs_in I
by_kind Kinds.Min nodes items I h e = of_min nodes (Of.supplies_of items) items h ∙ ap arcs_in (same e)
by_kind Kinds.Max nodes items I h e = by_ends nodes items I _ _ h e
by_kind Kinds.Sp nodes items I h e = of_sp nodes items h ∙ ap arcs_in (same e)
by_kind Kinds.Ss nodes items I h e = no_arcs Kinds.Ss items ((λ x. cc), (λ x. cc), (λ x. cc)) h ∙ ap arcs_in (same e)
by_kind Kinds.P2p nodes items I h e = no_arcs Kinds.P2p items ((λ x. cc), (λ x. cc), (λ x. cc)) h ∙ ap arcs_in (same e)
by_kind Kinds.Co nodes items I h e = no_arcs Kinds.Co items ((λ x. cc), (λ x. cc), (λ x. cc)) h ∙ ap arcs_in (same e)

by_problem : (p : Option Problem) (items : List Line) (I : Instance)
    → AllFit (option_map (λ (q : Problem). q.kind) p) items
    → option_and_then (λ (q : Problem). instance_as q.kind q.nodes items) p ≡ Some I → arcs_among items ≡ arcs_in I
by_problem None items I h e = cc
by_problem (Some p) items I h e = by_kind p.kind p.nodes items I h e

-- the arcs among items of one kind are those of the instance that they make
pub of_instance : (items : List Line) (I : Instance) → AllFit (kind_known items) items → instance_of items ≡ Some I
    → arcs_among items ≡ arcs_in I
of_instance items I h e = by_problem (problem_of items) items I h e
