use Rattle.std.proofs.Common.{◌≡◌, ◌∙◌, nat_eq, slice_set, ap, subst, arith}
use Rattle.std.specs.List.{position_or_len, zip}
use Rattle.indexmap.specs.IndexMap.{insert_entry}
use Rattle.indexmap.specs.IndexSet.{insert_key}
use Rattle.mb_copies.proofs.Zipped.{inserted, not_behind}
use Rattle.mb_copies.proofs.copies.Copies.put.Goals as goal

pub returns-clause-items : goal.returns-clause-items
returns-clause-items c =
    let blocks = c.self.inside.numbers.items in
    let copies = c.self.inside.copies.items in
    let last = not_behind c.args.block blocks in
    let room = c.requires in
    let view = ap (λ now. now.spare) c.self.view_is in
    subst (λ now. zip c.insert-place.new.self.items (slice_set copies c.insert-place.result c.copy_from.new.self) ≡ insert_entry nat_eq now.items c.args.block c.args.kept.now) c.self.view_is
    (ap (λ keys. zip keys (slice_set copies c.insert-place.result c.copy_from.new.self)) c.insert-place.ensures.blocks
    ∙ ap (λ place. zip (insert_key nat_eq blocks c.args.block) (slice_set copies place c.copy_from.new.self)) c.insert-place.ensures.place
    ∙ ap (λ kept. zip (insert_key nat_eq blocks c.args.block) (slice_set copies (position_or_len (nat_eq c.args.block) blocks) kept)) c.copy_from.ensures
    ∙ inserted c.args.block c.args.kept.now blocks copies (grind (arith, last, room, view)))

pub index_mut-requires : goal.index_mut-requires
index_mut-requires c =
    let last = not_behind c.args.block c.self.inside.numbers.items in
    let view = ap (λ now. now.spare) c.self.view_is in
    grind (arith, last, view, c.requires, c.insert-place.ensures.place, c.self.inside.copies.ok.0)
