-- `empty` owns nothing but its field.
use Rattle.dn_c.proofs.Steps.{[], ◌∷◌, refl, List, None, Val, emp, raw, ◌$◌, ◌∵◌, !, qed, done, drop, join, fjoin, feq_i, fpack, suffices, agg, no_more, and_then, returns, enter, alloc_all, pass_all, free_all, look_at, get, sets, yes, Valss, RawPtr, ptr_val, rawptr_vals, rawptr_Tells, rawptr_Lawful, plain, within, shape, nothing, says, Stays, stay_dropped, walk_of, ends_at, Goes-dropped, proved, on_entry}
use Rattle.dn_c.proofs.AsBox.{seal_at, seal_typed}
use Rattle.dn_c.specs.contracts.seal.Seal as Seal
use Rattle.dn_c.specs.contracts.seal.Seal.empty as f
use Rattle.dn_c.proofs.seal.Seal.empty.Statement.{statement}
use Rattle.dn_c.proofs.seal.Seal.empty.Code as code

abbrev stayed : Stays f.ended.signature.params f.ended.kept
stayed = (stay_dropped (plain (λ _. RawPtr)) yes, tt)

pub empty_spec : {M : Type 1} → statement M
empty_spec 𝓤 𝓛 𝓜 𝓡 wired =
    let c = f.clauses 𝓛 𝓜.mem 𝓡.returns in let W = walk_of 𝓛 f.ended stayed c in
    proved 𝓛 f.ended stayed c 𝓜 𝓡 (Goes-dropped 𝓛 0 (plain (λ _. RawPtr)) yes (λ κs x w. refl), tt)
    f.Key.name code.function (code.unfolded 𝓤 𝓛.H 𝓜 𝓡 wired)
    (λ κs. (rawptr_vals, tt)) (λ κs. (rawptr_Tells, tt)) (λ κs qs bounds a g are.
    let p = a.0 in let y : W.Ghost = ((κs, qs, bounds, a, (rawptr_vals p, tt)), tt) in
    qed 𝓛 (raw (on_entry 𝓛 f.signature κs qs a y.0.4) ∷ raw (emp 𝓤) ∷ []) ∵ drop ! $ drop ! $
    enter ! _ _ _ _ _ $ alloc_all ! (λ l. pass_all ! refl (((rawptr_Lawful 𝓛).typed p _ refl).0, tt) $
    sets ! (agg ! (and_then ! (get ! refl) (no_more !))) refl (seal_typed p) $
    returns ! (look_at ! 0 refl) $ free_all ! refl $
    suffices ! _ (ends_at 𝓛 f.ended stayed c y (seal_at p) (record { ptr = p; work = None }) (tt, tt) (tt, tt)) $ says !
    refl $
    nothing ! $ nothing ! $ feq_i ! (List Val) (ptr_val p ∷ []) (ptr_val p ∷ []) refl $ fjoin ! $
    feq_i ! (List Val) (seal_at p ∷ []) (seal_at p ∷ []) refl $ fjoin ! $
    fpack ! (Valss (RawPtr ∷ [])) (within (shape Seal.the_type) (p, tt) (seal_at p ∷ [])) (ptr_val p ∷ [], tt) $ fjoin !
    $
    nothing ! $ nothing ! $ fjoin ! $ join ! $ nothing ! $ join ! $ done !))
