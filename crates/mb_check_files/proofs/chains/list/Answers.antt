use Rattle.std.proofs.Common.{rules, ◌≤◌, ◌+◌, ◌*◌, ◌-◌, ℕ, zero, suc, List, length, ◌≡◌, [], IfSome, IfOk, ◌<◌, Option, Some, None, Ok, Err, refl, sym, ap, subst, ◌∙◌, arith}
use Rattle.mb_word.specs.Numbers.{word_at, long_at}
use Rattle.mb_kinds.specs.Image.{Image}
use Rattle.mb_rules.specs.Items.{each_from, walked}
use Rattle.mb_rules.specs.FreeChain.{free_items, chain_items}
use Rattle.mb_check_files.specs.Passes.{Stands, AreBounds, Walks, Passes, Lists, listed_at, DeviceCause}
use Rattle.mb_check_files.proofs.Listing.{if_told, stops_first, ends_empty, ends_hole, stops_next, stops_count, leads_next, given, real, real_at, at_first, more_at, few_at}
use Rattle.mb_check_files.proofs.chains.list.Goals as goal

-- src/chains.rt:45:24
pub returns-in-Err-clause-list : goal.returns-in-Err-clause-list
returns-in-Err-clause-list g c = if_told (g.D.Disk.told c.args.disk.now) _ (λ image told list are stands lists.
    stops_first image.at c.args.holder (listed_at c.args.bytes.now c.args.base) list c.in-Err.broken lists (c.in-Err.ensures image.at list are stands))

-- src/chains.rt:48:9
pub returns-then-word_at-eq0-clause-list : goal.returns-then-word_at-eq0-clause-list
returns-then-word_at-eq0-clause-list g c = if_told (g.D.Disk.told c.args.disk.now) _ (λ image told list are stands lists.
    let so = c.in-Ok.ensures image.at list are stands in
    (so.0, ends_empty image.at c.args.holder (listed_at c.args.bytes.now c.args.base) list so.0 lists so.1 (sym c.word_at.ensures ∙ c.if-word_at-eq0.true), so.2))

-- src/chains.rt:52:9
pub returns-then-next-eq0-clause-list : goal.returns-then-next-eq0-clause-list
returns-then-next-eq0-clause-list g c = if_told (g.D.Disk.told c.args.disk.now) _ (λ image told list are stands lists.
    let so = c.in-Ok.ensures image.at list are stands in
    let hole : long_at c.args.bytes.now (c.args.base + 2 + 4 * 0) ≡ 0 = (let e : c.args.base + 2 + 4 * 0 ≡ c.args.base + 2 = omega arith in ap (long_at c.args.bytes.now) e ∙ sym c.long_at-next.ensures ∙ c.if-next-eq0.true) in
    (so.0, ends_hole image.at c.args.holder (listed_at c.args.bytes.now c.args.base) list so.0 lists so.1 hole, so.2))

-- src/chains.rt:56:24
pub returns-in-Err-claim-clause-list : goal.returns-in-Err-claim-clause-list
returns-in-Err-claim-clause-list g c = if_told (g.D.Disk.told c.args.disk.now) _ (λ image told list are stands lists.
    let so = c.in-Ok.ensures image.at list are stands in
    stops_next image.at c.args.holder (listed_at c.args.bytes.now c.args.base) list c.long_at-next.result
    (at_first c.args.bytes.now c.args.base c.long_at-next.result c.long_at-next.ensures) (real c.long_at-next.result c.if-next-eq0.false) (real_at c.args.bytes.now c.args.base c.word_at.result c.word_at.ensures c.if-word_at-eq0.false)
    so.0 so.1 c.in-Err-claim.broken lists (c.in-Err-claim.ensures.walk image.at so.0 are so.2))

-- src/chains.rt:63:9
pub returns-then-word_at-gt50-clause-list : goal.returns-then-word_at-gt50-clause-list
returns-then-word_at-gt50-clause-list g c = if_told (g.D.Disk.told c.args.disk.now) _ (λ image told list are stands lists.
    let so = c.in-Ok.ensures image.at list are stands in
    let on = c.in-Ok-claim.ensures.walk image.at so.0 are so.2 in
    let same = given (g.D.Disk.told c.args.disk.now) image c.read.new.into c.long_at-next.result told c.in-Ok-read.ensures.bytes in
    stops_count image.at c.args.holder (listed_at c.args.bytes.now c.args.base) list c.long_at-next.result
    (at_first c.args.bytes.now c.args.base c.long_at-next.result c.long_at-next.ensures) (real c.long_at-next.result c.if-next-eq0.false) (real_at c.args.bytes.now c.args.base c.word_at.result c.word_at.ensures c.if-word_at-eq0.false)
    so.0 so.1 on.0 lists on.1 (more_at c.read.new.into (image.at c.long_at-next.result) c.word_at-2.result same c.word_at-2.ensures c.if-word_at-gt50.true))

-- src/chains.rt:34:1
pub returns-clause-list : goal.returns-clause-list
returns-clause-list g c = if_told (g.D.Disk.told c.args.disk.now) _ (λ image told list are stands.
    let so = c.in-Ok.ensures image.at list are stands in
    let on = c.in-Ok-claim.ensures.walk image.at so.0 are so.2 in
    let same = given (g.D.Disk.told c.args.disk.now) image c.read.new.into c.long_at-next.result told c.in-Ok-read.ensures.bytes in (
      same,
      λ lists. (
        on.0,
        leads_next image.at c.args.holder (listed_at c.args.bytes.now c.args.base) list c.long_at-next.result
            (at_first c.args.bytes.now c.args.base c.long_at-next.result c.long_at-next.ensures) (real c.long_at-next.result c.if-next-eq0.false) (real_at c.args.bytes.now c.args.base c.word_at.result c.word_at.ensures c.if-word_at-eq0.false)
            so.0 so.1 on.0 lists on.1 (few_at c.read.new.into (image.at c.long_at-next.result) c.word_at-2.result same c.word_at-2.ensures c.if-word_at-gt50.false),
        on.2,
      ),
    ))
