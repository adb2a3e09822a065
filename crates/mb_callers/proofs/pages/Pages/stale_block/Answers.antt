use Rattle.mb_callers.proofs.Staleness.{search_none, search_some, tables_stale}
use Rattle.mb_callers.proofs.pages.Pages.stale_block.Goals as goal

pub returns-then-not-is_fresh-clause-some : goal.returns-then-not-is_fresh-clause-some
returns-then-not-is_fresh-clause-some g c = λ live same. rw (← c.self.view_is, ← c.pages.view_is) (tables_stale _ _ _ live _ _ c.is_fresh.result (c.is_fresh.ensures live same) c.if-not-is_fresh.true)

pub returns-clause-none : goal.returns-clause-none
returns-clause-none g c = λ live same. rw (← c.self.view_is, ← c.pages.view_is) (search_none _ _ _ live _ _ _ c.least_stale.ensures.least c.least_stale.ensures.once ((c.is_fresh.ensures live same).0 c.if-not-is_fresh.false))

pub returns-clause-some : goal.returns-clause-some
returns-clause-some g c = λ live same. rw (← c.self.view_is, ← c.pages.view_is) (search_some _ _ _ live _ _ _ c.least_stale.ensures.least c.least_stale.ensures.once ((c.is_fresh.ensures live same).0 c.if-not-is_fresh.false))
