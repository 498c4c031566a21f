-- Lemmas on parsed instances and the instances that they represent.
use Rattle.std.proofs.Common.{◌≡◌, refl}
use Rattle.dn_instance.specs.State.Helds.{Contents, Parsed, IsHeld, OfMin, OfMax, OfSp, OfSs, OfP2p, OfCo, Shows, contents_kind}
use Rattle.dn_instance.specs.Instances.{Instance, MinCostFlow, MaxFlow, ShortestPaths, Sources, Queries, Coordinates, kind_of}

shown_kind : (c : Contents) (I : Instance) → Shows c I → contents_kind c ≡ kind_of I
shown_kind (OfMin flows table) (MinCostFlow s G) h = refl
shown_kind (OfMax source sink table) (MaxFlow s t G) h = refl
shown_kind (OfSp table) (ShortestPaths G) h = refl
shown_kind (OfSs ids) (Sources xs) h = refl
shown_kind (OfP2p pairs) (Queries xs) h = refl
shown_kind (OfCo points) (Coordinates xs) h = refl
shown_kind _ _ h = absurd h

-- a parsed instance has the kind of the instance that it represents
pub held_kind : (g : Parsed) (I : Instance) → IsHeld g I → contents_kind g.contents ≡ kind_of I
held_kind g I h = shown_kind g.contents I h.shows
