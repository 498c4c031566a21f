-- `into_parts` moves the pointer, and what it owns goes with it.
use Rattle.dn_c.proofs.Steps.{[], ◌∷◌, ◌++◌, refl, sym, ap, ◌∙◌, List, IsSome, Option, Val, vstruct, of_list, fact, WpFn, ftrue, fsep, tables, ‵, raw, ◌⊛◌, prop, ◌$◌, ◌∵◌, !, qed, done, move, drop, split, join, fsplit, fjoin, fpick, fpack, feq_l, feq_i, rewrite, regoal, suffices, agg, sub, whole, stop, fld, no_more, and_then, of_opd, returns, enter, alloc_all, pass_all, free_all, look_at, get, get_in, sets, yes, Valss, RawPtr, ptr_val, rawptr_Lawful, plain, within, shape, nothing, heard, says, Stays, stay_dropped, walk_of, ends_at, Goes-dropped, handle_tells, proved_at, type_at, P, owning}
use Rattle.dn_c.proofs.AsBox.{E, some_of, seal_at, seal_typed, parts_at, parts_typed}
use Rattle.dn_c.specs.State.Sealed.{seal_owns}
use Rattle.std_heap.specs.contracts.Global.{the_row as Heap}
use Rattle.dn_c.specs.contracts.seal.Seal.{the_row as Seal}
use Rattle.dn_c.specs.contracts.seal.Seal.into_parts as f
use Rattle.dn_c.proofs.seal.Seal.into_parts.Statement.{statement}
use Rattle.dn_c.proofs.seal.Seal.into_parts.Code as code

abbrev stayed : Stays f.ended.signature.params f.ended.kept
stayed = (stay_dropped (plain (λ _. Seal)) yes, (stay_dropped (plain (λ _. Heap)) yes, tt))

pub into_parts_spec : {M : Type 1} → statement M
into_parts_spec 𝓤 𝓛 𝓜 𝓡 wired =
    let c = f.clauses 𝓛 𝓜.mem 𝓡.returns in let W = walk_of 𝓛 f.ended stayed c in let 𝓣 = tables 𝓤 𝓛.H 𝓜 𝓡 𝓡.env in
    proved_at 𝓛 f.ended stayed c 𝓜 𝓡 (
      Goes-dropped 𝓛 0 (plain (λ _. Seal)) yes (λ κs x w. refl),
      (Goes-dropped 𝓛 0 (plain (λ _. Heap)) yes (λ κs x w. refl), tt),
    ) f.Key.name code.function (code.unfolded 𝓤 𝓛.H 𝓜 𝓡 wired) (λ y are.
    let s = y.0.3.0 in let a = y.0.3.1.0 in let us = y.0.4.0 in let ws = y.0.4.1.0 in
    qed 𝓛 ((‵ ftrue ⊛ ‵ (fsep (Seal.own_val s us) (fsep (Heap.own_val a ws) ftrue))) ∷
    raw (fact 𝓤 (IsSome s.work)) ∷ []) ∵ move ! (1 ∷ []) $
    heard ! (IsSome s.work) (λ full. let found = some_of s.work full in
    split ! $ drop ! $ fsplit ! $ move ! (1 ∷ []) $ fsplit ! $ handle_tells E.al ! a ws (λ hv ea fits.
    move ! (2 ∷ []) $ fsplit ! $ fpick ! (λ vss. fsplit ! $ feq_l ! (λ ev. fsplit ! $ feq_l ! (λ ep. drop ! $
    -- [what the pointer owns; the heap; nothing]
    rewrite ! 0 (λ (o : Option E.row.Denot). ‵ (seal_owns s.ptr o)) found.1 refl $
    fsplit ! $ move ! (1 ∷ []) $ fpick ! (λ _. move ! (1 ∷ 0 ∷ []) $ fjoin ! $
    regoal ! (λ (vs : List Val). prop (WpFn 𝓤 𝓛.H 𝓣.C 𝓣.Λ code.function (vs ++ (ws ++ [])) (W.post y)))
    (ev ∙ ap (λ (ps : List Val). vstruct (of_list (ps ++ [])) ∷ []) ep) refl $
    regoal ! (λ (vs : List Val). prop (WpFn 𝓤 𝓛.H 𝓣.C 𝓣.Λ code.function (seal_at s.ptr ∷ (vs ++ [])) (W.post y)))
    ea refl $
    enter ! _ _ _ _ _ $ alloc_all ! (λ l. pass_all ! refl (seal_typed s.ptr, (fits, tt)) $
    sets ! (of_opd ! (get_in ! (fld ! refl (stop !)) (sub ! 0 refl (whole !)))) refl
    ((rawptr_Lawful 𝓛).typed s.ptr _ refl).0 $
    sets ! (agg ! (and_then ! (get ! refl) (and_then ! (get ! refl) (no_more !)))) refl (parts_typed hv s.ptr fits) $
    returns ! (look_at ! 0 refl) $ free_all ! refl $
    let w = parts_at hv s.ptr in let To = type_at (f.signature).result tt in
    let made : To.Denot = record { ptr = s.ptr; alloc = a; value = found.0 } in
    suffices ! _ (ends_at 𝓛 f.ended stayed c y w made (tt, (tt, tt)) (tt, (tt, tt))) $ says ! (sym found.1) $
    move ! (1 ∷ 2 ∷ []) $ fjoin ! $ feq_i ! (List Val) (ptr_val s.ptr ∷ []) (ptr_val s.ptr ∷ []) refl $ fjoin ! $
    feq_i ! (List Val) (w ∷ []) (w ∷ []) refl $ fjoin ! $
    fpack ! (Valss (RawPtr ∷ P E ∷ [])) (within (shape (owning E)) (s.ptr, (a, tt)) (w ∷ []))
    (ptr_val s.ptr ∷ [], (hv ∷ [], tt)) $ fjoin ! $
    nothing ! $ nothing ! $ fjoin ! $ nothing ! $ fjoin ! $ join ! $ nothing ! $ join ! $ done !))))))))
