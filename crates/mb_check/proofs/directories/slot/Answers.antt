use Rattle.std.proofs.Common.{sym, ◌∙◌}
use Rattle.mb_check.proofs.SlotWalks.{dots_fail, leads_fail, named_fail, slot_passes, once_by_names, knows_more}
use Rattle.mb_check.proofs.directories.slot.Goals as goal

pub returns-then-not-has_dots-clause-walk : goal.returns-then-not-has_dots-clause-walk
returns-then-not-has_dots-clause-walk c blocks met keeps here there knows = dots_fail blocks c.args.ino c.args.at c.args.found.now c.args.block here there met (sym c.has_dots.ensures ∙ c.if-not-has_dots.true)

pub returns-then-not-leads_there-clause-walk : goal.returns-then-not-leads_there-clause-walk
returns-then-not-leads_there-clause-walk c blocks met keeps here there knows = leads_fail blocks c.args.ino c.args.at c.args.found.now c.args.block here there met (sym c.has_dots.ensures ∙ c.if-not-has_dots.false)
    (sym (c.leads_there.ensures blocks keeps) ∙ c.if-not-leads_there.true)

pub returns-then-not-named-clause-walk : goal.returns-then-not-named-clause-walk
returns-then-not-named-clause-walk c blocks met keeps here there knows = named_fail blocks c.args.ino c.args.at c.args.found.now c.args.block here there met (sym c.has_dots.ensures ∙ c.if-not-has_dots.false)
    (sym (c.leads_there.ensures blocks keeps) ∙ c.if-not-leads_there.false) (sym (once_by_names blocks c.args.ino c.args.at c.args.found.now c.args.names.now knows) ∙ sym c.in_ok-named.ensures.named ∙ c.if-not-named.true)

pub returns-clause-walk : goal.returns-clause-walk
returns-clause-walk c blocks met keeps here there knows = slot_passes blocks c.args.ino c.args.at c.args.found.now c.args.block here there met (sym c.has_dots.ensures ∙ c.if-not-has_dots.false)
    (sym (c.leads_there.ensures blocks keeps) ∙ c.if-not-leads_there.false) (sym (once_by_names blocks c.args.ino c.args.at c.args.found.now c.args.names.now knows) ∙ sym c.in_ok-named.ensures.named ∙ c.if-not-named.false)

pub returns-clause-names : goal.returns-clause-names
returns-clause-names c blocks here knows = knows_more blocks c.args.ino c.args.at c.args.found.now c.args.names.now c.is_named_once.new.names here knows (c.in_ok-named.ensures.names c.if-not-named.false)
