use Rattle.std.proofs.Common.{refl}
use Rattle.mb_iface.proofs.ChangePlaces.{changes_set}
use Rattle.mb_iface.proofs.Standing.{marked_in_place, patched_there}
use Rattle.mb_iface.proofs.change_lists.Changes.patch_at.Goals as goal

pub invariant_of-self : goal.invariant_of-self
invariant_of-self c = record {
  list = changes_set c.self.inside.map.entries c.args.place c.write_at.new.into c.self.invariant.list c.write_at.ensures.sized;
  marked = marked_in_place c.self.inside.guesses c.self.inside.map.entries c.args.place c.pair_mut-page.result.0.now c.pair_mut-page.result.1.now c.write_at.new.into c.self.invariant.list c.pair_mut-page.ensures.value c.self.invariant.marked;
}

pub returns : goal.returns
returns c = patched_there c.self.inside.map.entries c.args.self.now _ c.args.place c.args.at c.pair_mut-page.result.0.now c.pair_mut-page.result.1.now c.args.bytes.now c.write_at.new.into
    c.self.invariant.list c.self.view_is c.pair_mut-page.ensures.value refl c.write_at.ensures.bytes
