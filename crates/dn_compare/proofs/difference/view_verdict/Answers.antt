use Rattle.std.proofs.Common.{rules, w64}
use Rattle.std.specs.Int.RustNames.{FitsSigned}
use Rattle.std.proofs.lemmas.Int.{to_z-of_z}
use Rattle.dn_compare.proofs.HeldVerdicts.{sp_on, ss_on, p2p_on}
use Rattle.dn_compare.proofs.difference.view_verdict.Goals as goal

pub returns-in-Min-Min : goal.returns-in-Min-Min
returns-in-Min-Min c = (let m = c.in-Min-Min in rw (m.is-0, m.is-1) c.min_verdict.ensures)

pub returns-in-Max-Max : goal.returns-in-Max-Max
returns-in-Max-Max c =
    let m = c.in-Max-Max in
    let ls : FitsSigned w64 m.ls = search rules in
    let lt : FitsSigned w64 m.lt = search rules in
    let rs : FitsSigned w64 m.rs = search rules in
    let rt : FitsSigned w64 m.rt = search rules in
    rw (m.is-0, m.is-1) (simp to_z-of_z at c.max_verdict.ensures)

pub returns-in-Sp-Sp : goal.returns-in-Sp-Sp
returns-in-Sp-Sp c =
    let m = c.in-Sp-Sp in rw (m.is-0, m.is-1) (sp_on m.l.now m.r.now _ c.pair_verdict.ensures)

pub returns-in-Ss-Ss : goal.returns-in-Ss-Ss
returns-in-Ss-Ss c =
    let m = c.in-Ss-Ss in rw (m.is-0, m.is-1) (ss_on m.l.now m.r.now _ c.list_verdict.ensures)

pub returns-in-P2p-P2p : goal.returns-in-P2p-P2p
returns-in-P2p-P2p c =
    let m = c.in-P2p-P2p in rw (m.is-0, m.is-1) (p2p_on m.l.now m.r.now _ c.list_verdict-in-P2p-P2p.ensures)

pub returns-in-Co-Co : goal.returns-in-Co-Co
returns-in-Co-Co c = (let m = c.in-Co-Co in rw (m.is-0, m.is-1) c.point_verdict.ensures)
