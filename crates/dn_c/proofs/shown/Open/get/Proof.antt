-- `get` reads the pointer through the `&`, and lends what a full seal shares.
use Rattle.dn_c.proofs.Steps.{rewrite, refl, sym, ◌+◌, List, [], ◌∷◌, named, Val, vptr, ent, sep, ftrue, fhide, flft, fact, tables, sem, ‵, raw, ◌⊛◌, at_ret, ◌$◌, ◌∵◌, !, qed, done, move, keep, use1, drop, split, join, fsplit, fjoin, feq_i, suffices, look, stop, hop, fld, of_opd, first, blocks, exec, returns, enter, addr, alloc_all, pass_all, free_all, look_at, get, through, sets, env, yes, RattleType, hidden_shr, shr_dup, unhide, hide, RawPtr, block_of, count_of, InBlock, ptr_row_laws, ShrRef, shr_vals, shr_Tells, plain, heard, nothing, proved, Struct, Struct-row_laws, shape, to, in_block_says, lent_out, says, Stays, stay_none_ref, walk_of, ends_at, Goes-none_ref, pointer_in, pointer_out, Option, IsSome, Logic, Ura, Lft, ℕ}
use types.ByLocal.{sets_last}
use Rattle.dn_c.proofs.AsBox.{some_of}
use Rattle.dn_c.specs.State.Sealed.{seal_shares}
use Rattle.dn_c.specs.contracts.work.Work.{the_row as R}
use Rattle.dn_c.specs.contracts.shown.Open as Open
use Rattle.dn_c.proofs.shown.Open.TheLaws.{the_row_laws as laws}
use Rattle.dn_c.specs.contracts.shown.Open.get as f
use Rattle.dn_c.proofs.shown.Open.get.Statement.{statement}
use Rattle.dn_c.proofs.shown.Open.get.Code as code

abbrev B : RattleType
B = Open.the_row

abbrev Words : RattleType
Words = Struct (shape Open.the_type)

abbrev stayed : Stays f.ended.signature.params f.ended.kept
stayed = (stay_none_ref (0 ∷ []) tt (plain (λ _. B)) yes, tt)

-- a `&` to the fields is one to the pointer
shows_ptr : {M : Type 1} {𝓤 : Ura M} (𝓛 : Logic 𝓤) (κ : Lft) (d : B.Denot) (b o : ℕ)
    → let S = hidden_shr Words κ (to Open.the_type d) b o in
    ent 𝓤 (sem 𝓛 S) (sep 𝓤 (sem 𝓛 (hidden_shr RawPtr κ d.ptr b (o + 0))) (sem 𝓛 S))
shows_ptr 𝓛 κ d b o =
    qed 𝓛 (‵ (hidden_shr Words κ (to Open.the_type d) b o) ∷ []) ∵
    shr_dup ! Words (Struct-row_laws (shape Open.the_type) (ptr_row_laws, tt)) (to Open.the_type d) b o κ $ unhide ! $
    fsplit ! $ fsplit ! $ hide ! $ keep ! (0 ∷ 3 ∷ []) $ done !

pub get_spec : {M : Type 1} → statement M
get_spec 𝓤 𝓛 𝓜 𝓡 wired =
    let c = f.clauses 𝓛 𝓜.mem 𝓡.returns in let W = walk_of 𝓛 f.ended stayed c in let 𝓣 = tables 𝓤 𝓛.H 𝓜 𝓡 𝓡.env in
    proved 𝓛 f.ended stayed c 𝓜 𝓡 (Goes-none_ref 𝓛 1 (0 ∷ []) tt (plain (λ _. B)) yes, tt)
    f.Key.name code.function (code.unfolded 𝓤 𝓛.H 𝓜 𝓡 wired)
    (λ κs. (shr_vals, tt)) (λ κs. (shr_Tells (named 0) κs.0 B, tt)) (λ κs qs bounds a g are.
    let κ = κs.0 in let b = a.0.ref_ptr.0 in let o = a.0.ref_ptr.1 in let d = a.0.now in
    let y : W.Ghost = ((κs, qs, bounds, a, (shr_vals a.0, tt)), tt) in
    qed 𝓛 (((‵ (flft κ qs.0) ⊛ ‵ ftrue) ⊛ (‵ ((ShrRef (named 0) κ B).own_val a.0 (shr_vals a.0)) ⊛ ‵ ftrue)) ∷
    raw (fact 𝓤 (IsSome d.work)) ∷ []) ∵ move ! (1 ∷ []) $ heard ! (IsSome d.work) (λ full.
    let found = some_of d.work full in
    split ! $ split ! $ move ! (2 ∷ []) $ split ! $ keep ! (0 ∷ 2 ∷ []) $ fsplit ! $ drop ! $
    shr_dup ! B laws.shr_laws d b o κ $
    use1 𝓛 (‵ (hidden_shr Words κ (to Open.the_type d) b o) ⊛ ‵ (fhide (seal_shares d.ptr d.work κ)))
    (lent_out 𝓛 Open.struct Open.the_codes Open.the_heap Open.the_lent κ d b o) $ split ! $ move ! (1 ∷ []) $
    rewrite ! 0 (λ (w : Option R.Denot). ‵ (fhide (seal_shares d.ptr w κ))) found.1 refl $
    unhide ! $ fsplit ! $ use1 𝓛 (raw (fact 𝓤 (InBlock d.ptr))) (in_block_says 𝓛 d.ptr) $ heard ! (InBlock d.ptr)
    (λ inb.
    hide ! $
    -- [the work; the words; self; the token]
    enter ! _ _ _ _ _ $ alloc_all ! (λ l. pass_all ! refl ((tt, tt), tt) $ move ! (1 ∷ 3 ∷ []) $ first ! $ blocks ! $
    pointer_in ! tt d.ptr inb b (o + 0) (shows_ptr 𝓛 κ d b o) (λ q.
    sets_last ! (addr ! (through ! refl (fld ! refl (hop ! (look ! 1 refl) (stop !))))) refl (tt, tt) $
    exec ! 𝓣.C 𝓣.Λ (env code.Mir.locals l) code.Mir.t-2 (at_ret _ (W.post y)) $
    pointer_out ! tt d.ptr inb b (o + 0) $
    sets ! (of_opd ! (get ! refl)) refl (tt, tt) $ returns ! (look_at ! 0 refl) $ free_all ! refl $
    -- [the token; the words; the work; self]
    let at : ℕ × ℕ = (block_of d.ptr, count_of d.ptr) in
    suffices ! _ (ends_at 𝓛 f.ended stayed c y (vptr at.0 at.1) (record { ref_ptr = at; now = found.0 }) (tt, tt)
    (tt, tt)) $
    says ! (sym found.1) $ keep ! (2 ∷ 3 ∷ 0 ∷ []) $
    feq_i ! (List Val) (vptr at.0 at.1 ∷ []) (vptr at.0 at.1 ∷ []) refl $ fjoin ! $ move ! (1 ∷ []) $
    feq_i ! (List Val) (vptr b o ∷ []) (vptr b o ∷ []) refl $ fjoin ! $ nothing ! $ move ! (1 ∷ 0 ∷ []) $ join ! $
    move ! (0 ∷ 1 ∷ []) $ join ! $ nothing ! $ move ! (2 ∷ 0 ∷ []) $ join ! $ join ! $ done !)))))
