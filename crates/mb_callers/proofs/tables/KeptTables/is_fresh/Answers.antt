use Rattle.mb_callers.proofs.tables.KeptTables.is_fresh.Goals as goal

pub returns-then-shared : goal.returns-then-shared
returns-then-shared c = λ live same. rw c.if-shared.true (c.is_same.ensures live same)
