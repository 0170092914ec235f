-- `explain::candidate::leads` meets its contract: from slice t on every slice agrees.
use Rattle.std.proofs.Common.{◌≡◌, arith}
use Rattle.explain.proofs.Leading.{agrees_first, back_allowed, unfit_leads, look_allowed, other_leads, agrees_more, all_agree}
use Rattle.explain.proofs.candidate.leads.Goals as goal

pub loop-t-init : goal.loop-t-init
loop-t-init c = agrees_first _ _ _ c.requires _ _ c.unranked-ranked.ensures c.by_rank.ensures

pub go_back-requires : goal.go_back-requires
go_back-requires c = back_allowed _ _ _ c.requires _ _ c.unranked-ranked.ensures c.by_rank.ensures _ _ (omega arith) c.loop-t.auto.t _ _ c.loop-t.invariant

pub returns-then-not-go_back : goal.returns-then-not-go_back
returns-then-not-go_back c = unfit_leads _ _ _ c.requires _ _ c.unranked-ranked.ensures c.by_rank.ensures _ _ (omega arith) c.loop-t.auto.t _ _ c.loop-t.invariant _ c.from-entry.ensures _ _ _ c.go_back.ensures c.if-not-go_back.true

pub next_entry-requires : goal.next_entry-requires
next_entry-requires c = look_allowed _ _ _ c.requires _ _ c.unranked-ranked.ensures c.by_rank.ensures _ _ (omega arith) c.loop-t.auto.t _ _ c.loop-t.invariant _ c.from-entry.ensures _ _ _ c.go_back.ensures

pub returns-then-next_entry-entry : goal.returns-then-next_entry-entry
returns-then-next_entry-entry c = other_leads _ _ _ c.requires _ _ c.unranked-ranked.ensures c.by_rank.ensures _ _ (omega arith) c.loop-t.auto.t _ _ c.loop-t.invariant _ c.from-entry.ensures _ _ _ c.go_back.ensures _ c.next_entry.ensures c.if-next_entry-entry.true

pub loop-t-preserved : goal.loop-t-preserved
loop-t-preserved c = agrees_more _ _ _ c.requires _ _ c.unranked-ranked.ensures c.by_rank.ensures _ _ (omega arith) c.loop-t.auto.t _ _ c.loop-t.invariant _ c.from-entry.ensures _ _ _ c.go_back.ensures _ c.next_entry.ensures c.if-not-go_back.false (omega arith)

pub returns : goal.returns
returns c = let end : c.loop-t.t ≡ 0 = omega arith in all_agree _ _ _ c.requires _ _ _ (rw end at c.loop-t.invariant)
