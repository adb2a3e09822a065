use Rattle.std.proofs.Common.{◌≡◌, ◌∙◌, Some, nat_eq, slice_set, ap, sym, subst, arith}
use Rattle.std.specs.List.{position_or_len, zip}
use Rattle.indexmap.specs.IndexMap.{insert_entry}
use Rattle.indexmap.specs.IndexSet.{insert_key}
use Rattle.mb_copies.proofs.CopyLoops.{same_read}
use Rattle.mb_copies.proofs.Zipped.{inserted, not_behind}
use Rattle.mb_copies.proofs.copies.Copies.put_from.Goals as goal

pub returns-clause-items : goal.returns-clause-items
returns-clause-items c block kept here =
    let blocks = c.self.inside.numbers.items in
    let copies = c.self.inside.copies.items in
    let same = same_read _ c.args.at block c.at-block.result.0 kept c.at-block.result.1.now here c.at-block.ensures in
    let last = not_behind block blocks in
    let room = c.requires.room in
    let view = ap (λ now. now.spare) c.self.view_is in
    subst (λ now. zip c.insert-place.new.self.items (slice_set copies c.insert-place.result c.swap.new.kept) ≡ insert_entry nat_eq now.items block kept) c.self.view_is
    (ap (λ keys. zip keys (slice_set copies c.insert-place.result c.swap.new.kept)) (c.insert-place.ensures.blocks ∙ ap (insert_key nat_eq blocks) (sym same))
    ∙ ap (λ place. zip (insert_key nat_eq blocks block) (slice_set copies place c.swap.new.kept)) (c.insert-place.ensures.place ∙ ap (λ n. position_or_len (nat_eq n) blocks) (sym same))
    ∙ ap (λ given. zip (insert_key nat_eq blocks block) (slice_set copies (position_or_len (nat_eq block) blocks) given)) (c.swap.ensures.given block kept here)
    ∙ inserted block kept blocks copies (grind (arith, last, room, view)))

pub index_mut-requires : goal.index_mut-requires
index_mut-requires c =
    let last = not_behind c.at-block.result.0 c.self.inside.numbers.items in
    let view = ap (λ now. now.spare) c.self.view_is in
    grind (arith, last, view, c.requires.room, c.insert-place.ensures.place, c.self.inside.copies.ok.0)
