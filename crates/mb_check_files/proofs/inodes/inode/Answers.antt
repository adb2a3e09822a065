use Rattle.std.proofs.Common.{◌≤◌, ◌+◌, ◌*◌, ◌-◌, ℕ, suc, List, length, ◌≡◌, [], ◌<◌, Ok, Err, true, false, refl, sym, ap, subst, ◌∙◌, arith}
use Rattle.std.proofs.lemmas.List.Sums.{count_by-le-length}
use Rattle.mb_check_files.proofs.Covering.{few_parts, has_parts, lists_all}
use Rattle.mb_check_files.proofs.InodeWalks.{free_walks, kind_stops, size_stops, special_walks, area_stops, plain_walks, torn_stops, whole_walks, directory_size, not_zero_test, zero_test}
use Rattle.mb_check_files.proofs.Listing.{if_told}
use Rattle.mb_check_files.proofs.Notings.{extends_same, extends_more}
use Rattle.mb_check_files.proofs.Stopping.{came_from, passes_on}
use Rattle.mb_check_files.proofs.Underways.{told_of}
use Rattle.mb_scan_laws.proofs.ModeTests.{Tests, directory_tests, special_tests}
use Rattle.mb_check_files.proofs.inodes.inode.Goals as goal

pub returns-then-inode-eq0-clause-walk : goal.returns-then-inode-eq0-clause-walk
returns-then-inode-eq0-clause-walk g c = if_told (g.D.Disk.told c.args.disk.now) _ (λ image told ino list reads are stands.
    (list, free_walks image.at ino c.args.holder c.args.inode.now.mode c.args.inode.now.size reads.stands reads.mode reads.size list (zero_test c.args.inode.now.mode c.if-inode-eq0.true), stands))

pub returns-then-not-is_kind-clause-walk : goal.returns-then-not-is_kind-clause-walk
returns-then-not-is_kind-clause-walk g c = if_told (g.D.Disk.told c.args.disk.now) _ (λ image told ino list reads are stands.
    kind_stops image.at ino c.args.holder c.args.inode.now.mode c.args.inode.now.size reads.stands reads.mode reads.size list (not_zero_test c.args.inode.now.mode c.if-inode-eq0.false) (sym c.is_kind.ensures ∙ c.if-not-is_kind.true))

pub returns-then-not-is_size-clause-walk : goal.returns-then-not-is_size-clause-walk
returns-then-not-is_size-clause-walk g c = if_told (g.D.Disk.told c.args.disk.now) _ (λ image told ino list reads are stands.
    size_stops image.at ino c.args.holder c.args.inode.now.mode c.args.inode.now.size reads.stands reads.mode reads.size list (not_zero_test c.args.inode.now.mode c.if-inode-eq0.false) (sym c.is_kind.ensures ∙ c.if-not-is_kind.false)
    (sym c.is_size.ensures ∙ c.if-not-is_size.true))

pub returns-then-is_special-clause-walk : goal.returns-then-is_special-clause-walk
returns-then-is_special-clause-walk g c = if_told (g.D.Disk.told c.args.disk.now) _ (λ image told ino list reads are stands.
    let special = sym c.is_special.ensures ∙ c.if-is_special.true in (
      list,
      special_walks image.at ino c.args.holder c.args.inode.now.mode c.args.inode.now.size reads.stands reads.mode reads.size list (not_zero_test c.args.inode.now.mode c.if-inode-eq0.false) (sym c.is_kind.ensures ∙ c.if-not-is_kind.false)
          (sym c.is_size.ensures ∙ c.if-not-is_size.false) special (special_tests c.args.inode.now.mode special).directory_is,
      stands,
    ))

pub returns-in_err-area-clause-walk : goal.returns-in_err-area-clause-walk
returns-in_err-area-clause-walk g c = if_told (g.D.Disk.told c.args.disk.now) _ (λ image told ino list reads are stands.
    rw (came_from c.from_residual.result c.in_err-area.field-0.0 c.from_residual.ensures)
    (passes_on c.in_err-area.field-0.0 c.area.new.met c.area.new.met list list _ _
    (λ broken h. area_stops image.at ino c.args.holder c.args.inode.now.mode c.args.inode.now.size reads.stands reads.mode reads.size list (not_zero_test c.args.inode.now.mode c.if-inode-eq0.false) (sym c.is_kind.ensures ∙ c.if-not-is_kind.false)
    (sym c.is_size.ensures ∙ c.if-not-is_size.false) (sym c.is_special.ensures ∙ c.if-is_special.false) broken h)
    (told_of (g.D.Disk.told c.args.disk.now) image _ told c.in_err-area.ensures.walk ino list reads are stands)))

pub returns-then-not-directory-clause-walk : goal.returns-then-not-directory-clause-walk
returns-then-not-directory-clause-walk g c = if_told (g.D.Disk.told c.args.disk.now) _ (λ image told ino list reads are stands.
    let on = told_of (g.D.Disk.told c.args.disk.now) image _ told c.in_ok-area.ensures.walk ino list reads are stands in (
      on.0,
      plain_walks image.at ino c.args.holder c.args.inode.now.mode c.args.inode.now.size reads.stands reads.mode reads.size list (not_zero_test c.args.inode.now.mode c.if-inode-eq0.false) (sym c.is_kind.ensures ∙ c.if-not-is_kind.false)
          (sym c.is_size.ensures ∙ c.if-not-is_size.false) (sym c.is_special.ensures ∙ c.if-is_special.false) on.0 on.1 (sym c.is_directory-directory.ensures ∙ c.if-not-directory.true),
      on.2,
    ))

pub returns-then-not-covers-clause-walk : goal.returns-then-not-covers-clause-walk
returns-then-not-covers-clause-walk g c = if_told (g.D.Disk.told c.args.disk.now) _ (λ image told ino list reads are stands.
    let on = told_of (g.D.Disk.told c.args.disk.now) image _ told c.in_ok-area.ensures.walk ino list reads are stands in
    let lists = lists_all image.at ino c.begin.new.self c.area.new.parts c.listed-from.result c.listed-from.ensures (c.begin.ensures.begins c.if-not-directory.false) (told_of (g.D.Disk.told c.args.disk.now) image _ told c.in_ok-area.ensures.notes ino reads) in
    let few = few_parts c.begin.new.self c.area.new.parts c.listed-from.result c.args.met.now c.area.new.met c.listed-from.ensures c.in_ok-area.ensures.few (let same = c.area.auto.met in let small = c.requires.small in omega arith) in
    torn_stops image.at ino c.args.holder c.args.inode.now.mode c.args.inode.now.size reads.stands reads.mode reads.size list (not_zero_test c.args.inode.now.mode c.if-inode-eq0.false) (sym c.is_kind.ensures ∙ c.if-not-is_kind.false)
    (sym c.is_size.ensures ∙ c.if-not-is_size.false) (sym c.is_special.ensures ∙ c.if-is_special.false) on.0 on.1 (sym c.is_directory-directory.ensures ∙ c.if-not-directory.false)
    (sym (c.covers.ensures image.at ino lists few reads.size) ∙ c.if-not-covers.true))

pub returns-clause-walk : goal.returns-clause-walk
returns-clause-walk g c = if_told (g.D.Disk.told c.args.disk.now) _ (λ image told ino list reads are stands.
    let on = told_of (g.D.Disk.told c.args.disk.now) image _ told c.in_ok-area.ensures.walk ino list reads are stands in
    let lists = lists_all image.at ino c.begin.new.self c.area.new.parts c.listed-from.result c.listed-from.ensures (c.begin.ensures.begins c.if-not-directory.false) (told_of (g.D.Disk.told c.args.disk.now) image _ told c.in_ok-area.ensures.notes ino reads) in
    let few = few_parts c.begin.new.self c.area.new.parts c.listed-from.result c.args.met.now c.area.new.met c.listed-from.ensures c.in_ok-area.ensures.few (let same = c.area.auto.met in let small = c.requires.small in omega arith) in (
      on.0,
      whole_walks image.at ino c.args.holder c.args.inode.now.mode c.args.inode.now.size reads.stands reads.mode reads.size list (not_zero_test c.args.inode.now.mode c.if-inode-eq0.false) (sym c.is_kind.ensures ∙ c.if-not-is_kind.false)
          (sym c.is_size.ensures ∙ c.if-not-is_size.false) (sym c.is_special.ensures ∙ c.if-is_special.false) on.0 on.1 (sym c.is_directory-directory.ensures ∙ c.if-not-directory.false)
          (sym (c.covers.ensures image.at ino lists few reads.size) ∙ c.if-not-covers.false),
      on.2,
    ))

pub returns-clause-listed : goal.returns-clause-listed
returns-clause-listed g c = if_told (g.D.Disk.told c.args.disk.now) _ (λ image told ino reads directory.
    let here : length c.args.parts.now.addresses.items ≡ length c.begin.new.self.addresses.items = ap (λ v. length v.items) (sym c.begin.ensures.kept) in
    let notes = told_of (g.D.Disk.told c.args.disk.now) image _ told c.in_ok-area.ensures.notes ino reads in
    let lists = lists_all image.at ino c.begin.new.self c.area.new.parts c.listed-from.result c.listed-from.ensures (c.begin.ensures.begins c.if-not-directory.false) notes in
    let few = few_parts c.begin.new.self c.area.new.parts c.listed-from.result c.args.met.now c.area.new.met c.listed-from.ensures c.in_ok-area.ensures.few (let same = c.area.auto.met in let small = c.requires.small in omega arith) in
    let sizes = directory_size c.args.inode.now.mode c.args.inode.now.size directory (sym c.is_size.ensures ∙ c.if-not-is_size.false) in
    has_parts image.at ino (length c.args.parts.now.addresses.items) c.area.new.parts (lists_all image.at ino c.begin.new.self c.area.new.parts (length c.args.parts.now.addresses.items) here (c.begin.ensures.begins c.if-not-directory.false) notes)
    c.args.inode.now.size reads.size (sym (c.covers.ensures image.at ino lists few reads.size) ∙ c.if-not-covers.false)
    (few_parts c.begin.new.self c.area.new.parts (length c.args.parts.now.addresses.items) c.args.met.now c.area.new.met here c.in_ok-area.ensures.few (let same = c.area.auto.met in let small = c.requires.small in omega arith))
    sizes.0 sizes.1)
