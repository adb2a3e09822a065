use Rattle.std.proofs.Common.{◌≡◌, ℕ, List, [], true, false, ap, sym, ◌∙◌, subst, arith}
use Rattle.mb_rules.specs.SuperBlock.{are_sizes, are_counts}
use Rattle.mb_check_files.proofs.Listing.{if_told, given}
use Rattle.mb_check_files.proofs.SuperTests.{cut_stops, sizes_stop, counts_stop, super_passes}
use Rattle.mb_check_files.proofs.Underways.{told_of}
use Rattle.mb_check_files.proofs.super_blocks.super_block.Goals as goal

pub returns-then-blocks-lt2-clause-walk : goal.returns-then-blocks-lt2-clause-walk
returns-then-blocks-lt2-clause-walk g c = if_told (g.D.Disk.told c.args.disk.now) _ (λ image told.
    cut_stops image c.in_ok-blocks.blocks (told_of (g.D.Disk.told c.args.disk.now) image _ told c.in_ok-blocks.ensures.count) c.if-blocks-lt2.true)

pub returns-then-not-are_sizes-clause-walk : goal.returns-then-not-are_sizes-clause-walk
returns-then-not-are_sizes-clause-walk g c = if_told (g.D.Disk.told c.args.disk.now) _ (λ image told.
    let count = told_of (g.D.Disk.told c.args.disk.now) image _ told c.in_ok-blocks.ensures.count in
    let same = given (g.D.Disk.told c.blocks-2.new.self) image c.read.new.into 1 (c.blocks-2.ensures.told ∙ told) c.in_ok-read.ensures.bytes in
    sizes_stop image c.in_ok-blocks.blocks count c.if-blocks-lt2.false (ap (λ b. are_sizes b c.in_ok-blocks.blocks) (sym same) ∙ sym c.are_sizes.ensures ∙ c.if-not-are_sizes.true))

pub returns-then-not-are_counts-clause-walk : goal.returns-then-not-are_counts-clause-walk
returns-then-not-are_counts-clause-walk g c = if_told (g.D.Disk.told c.args.disk.now) _ (λ image told.
    let count = told_of (g.D.Disk.told c.args.disk.now) image _ told c.in_ok-blocks.ensures.count in
    let same = given (g.D.Disk.told c.blocks-2.new.self) image c.read.new.into 1 (c.blocks-2.ensures.told ∙ told) c.in_ok-read.ensures.bytes in
    counts_stop image c.in_ok-blocks.blocks count c.if-blocks-lt2.false (ap (λ b. are_sizes b c.in_ok-blocks.blocks) (sym same) ∙ sym c.are_sizes.ensures ∙ c.if-not-are_sizes.false)
    (ap are_counts (sym same) ∙ sym c.are_counts.ensures ∙ c.if-not-are_counts.true))

pub returns-clause-walk : goal.returns-clause-walk
returns-clause-walk g c = if_told (g.D.Disk.told c.args.disk.now) _ (λ image told.
    let count = told_of (g.D.Disk.told c.args.disk.now) image _ told c.in_ok-blocks.ensures.count in
    let same = given (g.D.Disk.told c.blocks-2.new.self) image c.read.new.into 1 (c.blocks-2.ensures.told ∙ told) c.in_ok-read.ensures.bytes in (
      [],
      super_passes image c.in_ok-blocks.blocks count c.if-blocks-lt2.false (ap (λ b. are_sizes b c.in_ok-blocks.blocks) (sym same) ∙ sym c.are_sizes.ensures ∙ c.if-not-are_sizes.false)
          (ap are_counts (sym same) ∙ sym c.are_counts.ensures ∙ c.if-not-are_counts.false),
    ))

pub returns-clause-passes : goal.returns-clause-passes
returns-clause-passes g c = if_told (g.D.Disk.told c.args.disk.now) _ (λ image told.
    let count = told_of (g.D.Disk.told c.args.disk.now) image _ told c.in_ok-blocks.ensures.count in
    let same = given (g.D.Disk.told c.blocks-2.new.self) image c.read.new.into 1 (c.blocks-2.ensures.told ∙ told) c.in_ok-read.ensures.bytes in
    (super_passes image c.in_ok-blocks.blocks count c.if-blocks-lt2.false (ap (λ b. are_sizes b c.in_ok-blocks.blocks) (sym same) ∙ sym c.are_sizes.ensures ∙ c.if-not-are_sizes.false)
    (ap are_counts (sym same) ∙ sym c.are_counts.ensures ∙ c.if-not-are_counts.false)))
