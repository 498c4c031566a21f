use Rattle.std.proofs.Common.{rules, FitsSigned, w64, ◌∙◌}
use Rattle.dn_instance.proofs.EntryLaws.{entries_fit, min_entries, max_entries, sp_entries, ss_entries, p2p_entries, co_entries}
use Rattle.dn_instance.proofs.held.Held.entries.Goals as goal

pub returns-in-Min : goal.returns-in-Min
returns-in-Min c I v held =
    let h = rw (← c.self.view_is) at held in
    let lines : FitsSigned w64 c.self.inside.lines = search rules in
    min_entries _ c.in-Min.table c.entries.result c.entries.ensures I v (rw c.in-Min.is at h.shows)
    (entries_fit I c.self.inside.lines lines h.lines_are)

pub returns-in-Max : goal.returns-in-Max
returns-in-Max c I v held =
    let h = rw (← c.self.view_is) at held in
    let lines : FitsSigned w64 c.self.inside.lines = search rules in
    max_entries _ _ c.in-Max.table c.entries-in-Max.result c.entries-in-Max.ensures I v (rw c.in-Max.is at h.shows)
    (entries_fit I c.self.inside.lines lines h.lines_are)

pub returns-in-Sp : goal.returns-in-Sp
returns-in-Sp c I v held =
    let h = rw (← c.self.view_is) at held in
    let lines : FitsSigned w64 c.self.inside.lines = search rules in
    sp_entries c.in-Sp.table c.entries-in-Sp.result c.entries-in-Sp.ensures I v (rw c.in-Sp.is at h.shows)
    (entries_fit I c.self.inside.lines lines h.lines_are)

pub returns-in-Ss : goal.returns-in-Ss
returns-in-Ss c I v held =
    let h = rw (← c.self.view_is) at held in
    c.len.ensures ∙ c.in-Ss.ids.ok.0 ∙ ss_entries c.in-Ss.ids.items I (rw c.in-Ss.is at h.shows)

pub returns-in-P2p : goal.returns-in-P2p
returns-in-P2p c I v held =
    let h = rw (← c.self.view_is) at held in
    c.len-in-P2p.ensures ∙ c.in-P2p.pairs.ok.0 ∙ p2p_entries c.in-P2p.pairs.items I (rw c.in-P2p.is at h.shows)

pub returns-in-Co : goal.returns-in-Co
returns-in-Co c I v held =
    let h = rw (← c.self.view_is) at held in
    c.len-in-Co.ensures.value ∙ co_entries c.in-Co.points.entries I (rw c.in-Co.is at h.shows)
