-- `dnorm_spread` makes a `&` of the pointer, and hands it on with the other parameters.
use Rattle.dn_c.proofs.Steps.{[], ◌∷◌, refl, id⊢, tables, WpFn, sem, raw, later, given, ◌$◌, ◌∵◌, !, qed, done, use1, await, learn, enter, of_opd, addr, stop, no_more, and_then, returns, alloc_all, pass_all, free_all, look_at, get, through, sets, lands_as, rawptr_vals, rawptr_Tells, shr_vals, calls_at, triple_of, framed, entered, ◌++◌, w8, vint, uint_vals, uint_Tells, named, mut_slice_vals, mut_slice_Tells, shr_slice_vals, shr_slice_Tells, agg, sub, whole, fld, hop, from, get_in, look_in_at}
use Rattle.std.specs.Borrow.{i64}
use Rattle.dn_c.proofs.Handing.{ref, told, takes, gives}
use Rattle.dn_c.specs.State.Reads.{alive_at}
use Rattle.dn_c.specs.contracts.exports.dnorm_spread as f
use Rattle.dn_c.proofs.exports.dnorm_spread.Statement.{statement}
use Rattle.dn_c.proofs.exports.dnorm_spread.Code as code
use Rattle.dn_c.specs.contracts.flows.spread_on as g
use Rattle.dn_c.proofs.flows.spread_on.Met.{met}
use Rattle.dn_arc_lines.specs.contracts.arc_line.ArcLine.{the_row as ArcLine}
use Rattle.dn_flow.specs.contracts.share.PairShare.{the_row as PairShare}
use Rattle.dn_c.proofs.status.Status.TheLaws as out

pub dnorm_spread_spec : {M : Type 1} → statement M
dnorm_spread_spec 𝓤 𝓛 𝓜 𝓡 wired =
    let 𝓣 = tables 𝓤 𝓛.H 𝓜 𝓡 𝓡.env in let F = triple_of 𝓛 f.signature (f.spec 𝓛 𝓜.mem 𝓡.returns) in
    let d = g.clauses 𝓛 𝓜.mem 𝓡.returns in let G = triple_of 𝓛 g.signature (g.spec 𝓛 𝓜.mem 𝓡.returns) in
    entered 𝓤 𝓛.H F 𝓣.C 𝓣.Λ f.Key.name code.function (code.unfolded 𝓤 𝓛.H 𝓜 𝓡 wired)
    (told 𝓛 f.signature (f.spec 𝓛 𝓜.mem 𝓡.returns) (WpFn 𝓤 𝓛.H 𝓣.C 𝓣.Λ code.function)
    (λ κs. (rawptr_vals, (uint_vals w8, (shr_slice_vals, (shr_slice_vals, (mut_slice_vals, (mut_slice_vals, tt)))))))
    (λ κs. (
      rawptr_Tells,
      (
        uint_Tells w8,
        (
          shr_slice_Tells (named 0) κs.0 i64,
          (
            shr_slice_Tells (named 1) κs.1.0 ArcLine,
            (
              mut_slice_Tells (named 2) κs.1.1.0 PairShare,
              (mut_slice_Tells (named 3) κs.1.1.1.0 i64, tt),
            ),
          ),
        ),
      ),
    )) (λ κs qs bounds a n are.
    let fs = shr_slice_vals a.1.1.0 in let ls = shr_slice_vals a.1.1.1.0 in
    let ss = mut_slice_vals a.1.1.1.1.0 in let us = mut_slice_vals a.1.1.1.1.1.0 in
    let y : F.Ghost = ((κs, qs, bounds, a, (rawptr_vals a.0, (vint w8 a.1.0 ∷ [], (fs, (ls, (ss, (us, tt))))))), n) in
    takes 𝓛 f.signature κs qs n.0 a.0 n.1 a.1 y.0.4.1
    (λ p. WpFn 𝓤 𝓛.H 𝓣.C 𝓣.Λ code.function (rawptr_vals p ++ (vint w8 a.1.0 ∷ (fs ++ (ls ++ (ss ++ us)))))
    (F.post y)) (λ b o.
    let s = ref n.1 b o in let z : G.Ghost = (((n.0.0, κs), (n.0.1, qs), tt, (s, a.1), (shr_vals s, y.0.4.1)), tt) in
    qed 𝓛 (raw (G.pre z) ∷ []) ∵ enter ! _ _ _ _ _ $ alloc_all ! (λ l.
    pass_all ! refl (
      (tt, tt),
      (
        (tt, record { fits = are.1.0.1 }),
        (
          (tt, (tt, (record { fits = are.1.1.0.0.1.0 }, tt))),
          (
            (tt, (tt, (record { fits = are.1.1.1.0.0.1.0 }, tt))),
            (
              (tt, (tt, (record { fits = are.1.1.1.1.0.0.1.0 }, tt))),
              ((tt, (tt, (record { fits = are.1.1.1.1.1.0.0.1.0 }, tt))), tt),
            ),
          ),
        ),
      ),
    ) $
    sets ! (of_opd ! (get ! refl)) refl (tt, tt) $ sets ! (addr ! (through ! refl (stop !))) refl (tt, tt) $
    sets ! (addr ! (from ! (fld ! refl (hop ! (look_in_at ! 5 (sub ! 0 refl (whole !))) (stop !))))) refl (tt, tt) $
    sets ! (agg ! (and_then ! (get ! refl) (and_then ! (get_in ! (fld ! refl (stop !)) (sub ! 1 refl (whole !)))
    (no_more !)))) refl (tt, (tt, (record { fits = are.1.1.1.1.0.0.1.0 }, tt))) $
    sets ! (addr ! (from ! (fld ! refl (hop ! (look_in_at ! 6 (sub ! 0 refl (whole !))) (stop !))))) refl (tt, tt) $
    sets ! (agg ! (and_then ! (get ! refl) (and_then ! (get_in ! (fld ! refl (stop !)) (sub ! 1 refl (whole !)))
    (no_more !)))) refl (tt, (tt, (record { fits = are.1.1.1.1.1.0.0.1.0 }, tt))) $
    calls_at ! (framed 𝓤 𝓛.H 𝓜 𝓣) G (met 𝓤 𝓛 𝓜 𝓡 (code.calls-dn_c::flows::spread_on 𝓡.env wired)) z
    (and_then ! (get ! refl) (and_then ! (get ! refl) (and_then ! (get ! refl) (and_then ! (get ! refl)
    (and_then ! (get ! refl) (and_then ! (get ! refl) (no_more !)))))))
    (λ v.
    use1 𝓛 (later (given _ (raw (F.post y v)))) (gives 𝓛 f.signature κs qs (sem 𝓛 (alive_at n.0)) g.ended d z v
    (λ r is. ((out.the_row_laws.lawful 𝓛).typed r _ is).0) (id⊢ 𝓤 _)) $
    await ! tt $ learn ! (λ ok. lands_as ! refl refl ok $ returns ! (look_at ! 0 refl) $ free_all ! refl $ done !))))))
