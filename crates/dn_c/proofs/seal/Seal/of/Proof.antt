-- `of` moves the pointer, and what it owns goes with it.
use Rattle.dn_c.proofs.Steps.{move, [], ◌∷◌, ◌++◌, refl, ◌∙◌, List, Some, Val, vstruct, of_list, WpFn, emp, ftrue, fsep, tables, ‵, raw, ◌⊛◌, prop, ◌$◌, ◌∵◌, !, qed, done, keep, drop, split, join, fsplit, fjoin, fpick, fpack, feq_l, feq_i, regoal, suffices, agg, sub, whole, stop, fld, no_more, and_then, of_opd, returns, enter, alloc_all, pass_all, free_all, look_at, get, get_in, sets, yes, Valss, RawPtr, ptr_val, rawptr_Lawful, plain, within, shape, nothing, says, Stays, stay_dropped, walk_of, ends_at, Goes-dropped, handle_tells, proved_at}
use Rattle.dn_c.proofs.AsBox.{E, seal_at, seal_typed, parts_typed}
use Rattle.std_heap.specs.contracts.GlobalAllocator.TheImpl.{ghosts}
use Rattle.dn_c.specs.contracts.seal.box_parts.BoxParts as BoxParts
use Rattle.dn_c.specs.contracts.seal.Seal as Seal
use Rattle.dn_c.specs.contracts.seal.Seal.of as f
use Rattle.dn_c.proofs.seal.Seal.of.Statement.{statement}
use Rattle.dn_c.proofs.seal.Seal.of.Code as code
use Rattle.std.specs.Global.{Global}
use denote.Memory.{lone}
use denote.Signature.{Slot}
use mir.Raw.{raw as bare}

abbrev From : Slot 0
From = plain (λ _. BoxParts.the_row E.row E.al.row ghosts)

abbrev stayed : Stays f.ended.signature.params f.ended.kept
stayed = (stay_dropped From yes, tt)

pub of_spec : {M : Type 1} → statement M
of_spec 𝓤 𝓛 𝓜 𝓡 wired =
    let c = f.clauses 𝓛 𝓜.mem 𝓡.returns in let W = walk_of 𝓛 f.ended stayed c in let 𝓣 = tables 𝓤 𝓛.H 𝓜 𝓡 𝓡.env in
    proved_at 𝓛 f.ended stayed c 𝓜 𝓡 (Goes-dropped 𝓛 0 From yes (λ κs x w. refl), tt) f.Key.name code.function
    (code.unfolded 𝓤 𝓛.H 𝓜 𝓡 wired) (λ y are.
    let d = y.0.3.0 in let p = d.ptr in
    qed 𝓛 ((‵ ftrue ⊛ ‵ (fsep ((From.row tt).own_val d y.0.4.0) ftrue)) ∷ raw (emp 𝓤) ∷ []) ∵ split ! $
    drop ! $ fsplit ! $ fsplit ! $ fpick ! (λ vss. fsplit ! $ feq_l ! (λ ev. fsplit ! $ feq_l ! (λ ep. fsplit ! $
    handle_tells E.al ! d.alloc vss.1.0 (λ hv ea fits.
    -- [the heap; nothing; what the pointer owns; nothing; nothing]
    regoal ! (λ (vs : List Val). prop (WpFn 𝓤 𝓛.H 𝓣.C 𝓣.Λ code.function (vs ++ []) (W.post y)))
    (ev ∙ (λ i. vstruct (of_list (ep i ++ (ea i ++ []))) ∷ [])) refl $
    enter ! _ _ _ _ _ $ alloc_all ! (λ l. pass_all ! refl (parts_typed hv p fits, tt) $
    let good = ((rawptr_Lawful 𝓛).typed p _ refl).0 in
    sets ! (of_opd ! (get_in ! (fld ! refl (stop !)) (sub ! 0 refl (whole !)))) refl good $
    sets ! (of_opd ! (get_in ! (fld ! refl (stop !)) (sub ! 1 refl (whole !)))) refl fits $
    sets ! (of_opd ! (get ! refl)) refl good $
    sets ! (agg ! (and_then ! (get ! refl) (no_more !))) refl (seal_typed p) $
    returns ! (look_at ! 0 refl) $ free_all ! refl $ keep ! (2 ∷ []) $ fsplit ! $ move ! (1 ∷ []) $
    fpack ! Global (λ alloc. ghosts.dealloc_token alloc (bare (lone E.row.mir)) p) d.alloc $ move ! (1 ∷ 0 ∷ []) $
    fjoin ! $
    let made : Seal.the_row.Denot = record { ptr = p; work = Some d.value } in
    suffices ! _ (ends_at 𝓛 f.ended stayed c y (seal_at p) made (tt, tt) (tt, tt)) $
    says ! refl $ nothing ! $ feq_i ! (List Val) (ptr_val p ∷ []) (ptr_val p ∷ []) refl $ fjoin ! $
    feq_i ! (List Val) (seal_at p ∷ []) (seal_at p ∷ []) refl $ fjoin ! $
    fpack ! (Valss (RawPtr ∷ [])) (within (shape Seal.the_type) (p, tt) (seal_at p ∷ [])) (ptr_val p ∷ [], tt) $
    fjoin ! $ nothing ! $ nothing ! $ fjoin ! $ join ! $ nothing ! $ join ! $ done !))))))
