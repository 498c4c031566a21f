-- How a call that only reads hands on what it is lent: a handle at a pointer becomes a `&`, and the token of its
-- lifetime comes back after the call.
use Rattle.dn_c.proofs.Steps.{refl, by, frame, List, [], ◌∷◌, ℕ, fst∗, never, ent, sep, emp, SProp, fsep, flft, Lft, Share, Val, vptr, sem, Logic, Ura, ‵, raw, ◌⊛◌, some, later, prop, ◌$◌, ◌∵◌, !, qed, done, move, drop, use1, split, join, fsplit, fjoin, feq_i, pick, await, regoal, Is, shows, hide, Ptr, RawPtr, block_ptr, in_a_block, rawptr_vals, shr_vals, ShrRef, named, nothing, peeks, lent_at, shared_of, null_ptr, block_of, count_of, Bor, Fun, Ended, Clauses, lasts, triple_of, type_at}
use base.Logic.{ex, guard, via, wand, wand_i, apply∗, comm∗, mono_l}
use contract.Lifetimes.{Lfts, Shares, AllOutlive}
use denote.Laws.{Spells, Tellss, Ises, Are, valss}
use denote.RattleType.{Denots, Valss, flat, owns}
use denote.Signature.{Signature, types_at}
use denote.Steps.{said}
use denote.Triple.Clauses.{Lasts, at_exit, closing}
use denote.Triple.Entry.{Args, Res, Vals, alive}
use denote.Triple.Spec.{Spec, Meets}
use types.Kit.{updating, now, show, check}
use Rattle.dn_c.specs.State.Reads.{read_at}
use Rattle.dn_c.specs.contracts.shown.Shown.{the_row as Row}

abbrev pub others : {A : Type 2} → List A → List A
others [] = []
others (x ∷ xs) = xs

-- the `&` to the handle there
abbrev pub ref : Row.Denot → ℕ → ℕ → Bor Row.Denot
ref h b o = record { ref_ptr = (b, o); now = h }

module _ {M : Type 1} {𝓤 : Ura M} (𝓛 : Logic 𝓤) where
  open 𝓛 use {H, A}

  -- a function meets its contract, if it does where the parameters' machine values are written out
  pub told : (S : Signature) (c : Spec 𝓤 S) (run : Fun 𝓤) (sp : (κs : Lfts S.lifetimes) → Spells (types_at S.params κs))
      → ((κs : Lfts S.lifetimes) → Tellss (types_at S.params κs) (Ises (types_at S.params κs)) (sp κs))
      → ((κs : Lfts S.lifetimes) (qs : Shares S.lifetimes) (bounds : AllOutlive S.lifetimes S.outlives κs)
      (a : Args S κs)
      (g : (c κs a).ghost) → let vss = valss (types_at S.params κs) (sp κs) a in
      let y : (triple_of 𝓛 S c).Ghost = ((κs, qs, bounds, a, vss), g) in
      Are (types_at S.params κs) (Ises (types_at S.params κs)) a vss
      → ent 𝓤 ((triple_of 𝓛 S c).pre y) (run (flat (types_at S.params κs) vss) ((triple_of 𝓛 S c).post y)))
      → Meets 𝓛 S run c
  told S c run sp tells walk y =
      let R : SProp 𝓤 = (c y.0.0 y.0.3).requires y.1 in
      let Q : Vals S y.0.0 → SProp 𝓤 = λ us. run (flat (types_at S.params y.0.0) us) ((triple_of 𝓛 S c).post y) in
      via 𝓤 (sep 𝓤 (wand 𝓤 R (Q y.0.4)) R)
      (mono_l 𝓤 R (said 𝓛 S y.0.0 y.0.1 (sp y.0.0) (tells y.0.0) y.0.3 (λ us. wand 𝓤 R (Q us)) y.0.4
      (λ are. wand_i 𝓤 _ R _ (walk y.0.0 y.0.1 y.0.2 y.0.3 y.1 are))))
      (via 𝓤 (sep 𝓤 R (wand 𝓤 R (Q y.0.4))) (comm∗ 𝓤 (wand 𝓤 R (Q y.0.4)) R) (apply∗ 𝓤 R (Q y.0.4)))

  -- what a `&` to a handle there holds
  abbrev Ref : Lft × Share → Row.Denot → ℕ → ℕ → SProp 𝓤
  Ref l h b o = sem 𝓛 ((ShrRef (named 0) l.0 Row).own_val (ref h b o) (shr_vals (ref h b o)))

  -- what is lent at a pointer is a `&`
  refers : (l : Lft × Share) (p : Ptr) (h : Row.Denot) (X : SProp 𝓤) (Goal : Ptr → SProp 𝓤)
      → ((b o : ℕ) → ent 𝓤 (sep 𝓤 (Ref l h b o) X) (Goal (block_ptr b o)))
      → ent 𝓤 (sep 𝓤 (sem 𝓛 (lent_at Row p h l.0)) X) (Goal p)
  refers l p h X Goal k =
      qed 𝓛 (‵ (lent_at Row p h l.0) ∷ raw X ∷ []) ∵
      in_a_block ! p (λ p. lent_at Row p h l.0) (fst∗ 𝓤 (never 𝓤)
      (sem 𝓛 (shared_of Row h (block_of null_ptr) (count_of null_ptr) l.0))) (λ b o e.
      regoal ! (λ p. prop (Goal p)) e refl $ fsplit ! $ drop ! $ hide ! $
      feq_i ! (List Val) (vptr b o ∷ []) (vptr b o ∷ []) refl $ fjoin ! $ join ! $ by ! (k b o))

  -- the same of two pointers that are all that a call has
  pub takes_both : (X : SProp 𝓤) (l l' : Lft × Share) (p p' : Ptr) (h h' : Row.Denot) (Goal : Ptr → Ptr → SProp 𝓤)
      → ((b o b' o' : ℕ) → ent 𝓤 (sep 𝓤 (sep 𝓤 (sep 𝓤 (A.lft l.0 l.1) (sep 𝓤 (A.lft l'.0 l'.1) (emp 𝓤)))
      (sep 𝓤 (Ref l h b o) (sep 𝓤 (Ref l' h' b' o') (emp 𝓤)))) (emp 𝓤)) (Goal (block_ptr b o) (block_ptr b' o')))
      → ent 𝓤 (sep 𝓤 X (sem 𝓛 (fsep (read_at l p h) (read_at l' p' h')))) (Goal p p')
  takes_both X l l' p p' h h' Goal k =
      let Lent : SProp 𝓤 = sem 𝓛 (lent_at Row p' h' l'.0) in
      let T : SProp 𝓤 = sep 𝓤 (A.lft l.0 l.1) (A.lft l'.0 l'.1) in
      qed 𝓛 (raw X ∷ ‵ (fsep (read_at l p h) (read_at l' p' h')) ∷ []) ∵ drop ! $ fsplit ! $ fsplit ! $
      move ! (2 ∷ []) $ fsplit ! $
      -- [the second loan; its token; the first loan; its token]
      move ! (3 ∷ 1 ∷ []) $ join ! $ move ! (1 ∷ 0 ∷ []) $ join ! $ move ! (1 ∷ 0 ∷ []) $
      by ! (refers l p h (sep 𝓤 Lent T) (λ p. Goal p p') (λ b o.
      qed 𝓛 (raw (Ref l h b o) ∷ (raw Lent ⊛ raw T) ∷ []) ∵ move ! (1 ∷ []) $ split ! $ move ! (2 ∷ 1 ∷ []) $ join ! $
      move ! (1 ∷ 0 ∷ []) $
      by ! (refers l' p' h' (sep 𝓤 (Ref l h b o) T) (Goal (block_ptr b o)) (λ b' o'.
      qed 𝓛 (raw (Ref l' h' b' o') ∷ (raw (Ref l h b o) ⊛ (‵ (flft l.0 l.1) ⊛ ‵ (flft l'.0 l'.1))) ∷ []) ∵
      nothing ! $ move ! (1 ∷ 0 ∷ []) $ join ! $ move ! (1 ∷ []) $ split ! $ move ! (0 ∷ 2 ∷ []) $ join ! $
      move ! (1 ∷ []) $ split ! $ nothing ! $ move ! (2 ∷ 0 ∷ []) $ join ! $ move ! (1 ∷ 0 ∷ []) $ join ! $ join ! $
      nothing ! $ move ! (1 ∷ 0 ∷ []) $ join ! $ by ! (k b o b' o')))))

  module _ (S : Signature) (κs : Lfts S.lifetimes) (qs : Shares S.lifetimes) where
    -- the same of what a call requires, beside the tokens and what its other parameters own
    pub takes : (l : Lft × Share) (p : Ptr) (h : Row.Denot) (a : Denots (types_at (others S.params) κs))
        (vss : Valss (types_at (others S.params) κs)) (Goal : Ptr → SProp 𝓤)
        → ((b o : ℕ) → ent 𝓤 (sep 𝓤 (sep 𝓤 (sep 𝓤 (A.lft l.0 l.1) (alive 𝓛 S κs qs))
        (sep 𝓤 (Ref l h b o) (sem 𝓛 (owns (types_at (others S.params) κs) a vss)))) (emp 𝓤)) (Goal (block_ptr b o)))
        → ent 𝓤 (sep 𝓤 (sep 𝓤 (alive 𝓛 S κs qs) (sep 𝓤 (sem 𝓛 (RawPtr.own_val p (rawptr_vals p)))
        (sem 𝓛 (owns (types_at (others S.params) κs) a vss)))) (sem 𝓛 (read_at l p h))) (Goal p)
    takes l p h a vss Goal k =
        let os = owns (types_at (others S.params) κs) a vss in let O = ‵ os in
        qed 𝓛 ((raw (alive 𝓛 S κs qs) ⊛ (‵ (RawPtr.own_val p (rawptr_vals p)) ⊛ O)) ∷
        ‵ (fsep (lent_at Row p h l.0) (flft l.0 l.1)) ∷ []) ∵
        split ! $ move ! (1 ∷ []) $ split ! $ drop ! $ move ! (2 ∷ []) $ fsplit ! $
        -- [the loan; its token; what the others own; their tokens]
        move ! (1 ∷ 3 ∷ []) $ join ! $ move ! (1 ∷ 2 ∷ 0 ∷ []) $
        by ! (refers l p h (sep 𝓤 (sem 𝓛 os) (sep 𝓤 (A.lft l.0 l.1) (alive 𝓛 S κs qs))) Goal (λ b o.
        qed 𝓛 (raw (Ref l h b o) ∷ O ∷ (‵ (flft l.0 l.1) ⊛ raw (alive 𝓛 S κs qs)) ∷ []) ∵
        join ! $ move ! (1 ∷ 0 ∷ []) $ join ! $ nothing ! $ move ! (1 ∷ 0 ∷ []) $ join ! $ by ! (k b o)))

    -- what the function that reads gives is what the call gives; B are the tokens of the loans
    module _ (B : SProp 𝓤) (U : Ended) (d : Clauses 𝓤 U) (z : (triple_of 𝓛 U.signature (closing 𝓛 U d)).Ghost) (v : Val)
        {K : Type 0} (typed : (r : Res U.signature z.0.0) → Is (type_at (U.signature).result z.0.0) r (v ∷ []) → K)
      where
        abbrev Own : Res U.signature z.0.0 → SProp 𝓤
        Own r = sem 𝓛 ((type_at (U.signature).result z.0.0).own_val r (v ∷ []))

        abbrev Said : Res U.signature z.0.0 → Lasts U z.0.0 z.0.3 → SProp 𝓤
        Said r w = (d z.0.0 z.0.3).ensures z.1 r (at_exit U z.0.0 z.0.3 w)

        abbrev Gives : SProp 𝓤
        Gives = H.⇛ (ex 𝓤 (λ (r : Res U.signature z.0.0). sep 𝓤 (sep 𝓤 (alive 𝓛 S κs qs) (Own r))
            (ex 𝓤 (λ (w : Lasts U z.0.0 z.0.3). sep 𝓤 (sem 𝓛 (lasts U z.0.0 z.0.3 w)) (sep 𝓤 B (Said r w))))))

        pub gives : ent 𝓤 (alive 𝓛 U.signature z.0.0 z.0.1) (sep 𝓤 B (alive 𝓛 S κs qs))
            → ent 𝓤 ((triple_of 𝓛 U.signature (closing 𝓛 U d)).post z v) (H.⇛ (guard 𝓤 K Gives))
        gives cut =
            let R = type_at (U.signature).result z.0.0 in
            qed 𝓛 (later (some (λ (r : R.Denot). (raw (alive 𝓛 U.signature z.0.0 z.0.1) ⊛ ‵ (R.own_val r (v ∷ []))) ⊛
            some (λ (w : Lasts U z.0.0 z.0.3). ‵ (lasts U z.0.0 z.0.3 w) ⊛ raw (Said r w)))) ∷ []) ∵
            updating ! $ await ! tt $ pick ! (λ r. split ! $ split ! $
            use1 𝓛 (raw B ⊛ raw (alive 𝓛 S κs qs)) cut $ split ! $ move ! (2 ∷ []) $
            peeks ! R (Is R) (shows 𝓛 R) r (v ∷ []) (λ is. now ! $ check ! (typed r is) $ updating ! $ now ! $
            move ! (3 ∷ []) $ pick ! (λ w. split ! $
            show ! (λ (r : R.Denot). sep 𝓤 (sep 𝓤 (alive 𝓛 S κs qs) (Own r))
            (ex 𝓤 (λ (w : Lasts U z.0.0 z.0.3). sep 𝓤 (sem 𝓛 (lasts U z.0.0 z.0.3 w)) (sep 𝓤 B (Said r w))))) r $
            move ! (4 ∷ 2 ∷ []) $ join ! $ frame ! $
            show ! (λ (w : Lasts U z.0.0 z.0.3). sep 𝓤 (sem 𝓛 (lasts U z.0.0 z.0.3 w)) (sep 𝓤 B (Said r w))) w $
            move ! (2 ∷ 1 ∷ []) $ join ! $ move ! (1 ∷ 0 ∷ []) $ join ! $ done !)))
