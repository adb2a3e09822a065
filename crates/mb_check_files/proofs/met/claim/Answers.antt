use Rattle.std.proofs.Common.{rules, ◌≤◌, ℕ, List, length, ◌<◌, ◌≡◌, ◌∷◌, [], Bool, true, false, nat_eq, nat_lt, slice_index_or, slice_set, arith}
use Rattle.mb_rules.specs.Items.{Holds, Held}
use Rattle.mb_rules.specs.FreeChain.{is_open}
use Rattle.mb_check_files.specs.Passes.{Stands, AreBounds, Walks}
use Rattle.mb_check_files.proofs.Claims.{below, past, again, new, stands_more, count_more}
use Rattle.mb_check_files.proofs.met.claim.Goals as goal

pub returns-then-address-bounds-clause-walk : goal.returns-then-address-bounds-clause-walk
returns-then-address-bounds-clause-walk c blocks list are stands = below blocks list c.args.bounds.now c.args.holder c.args.rule c.args.address are c.if-address-bounds.true

pub returns-then-bounds-address-clause-walk : goal.returns-then-bounds-address-clause-walk
returns-then-bounds-address-clause-walk c blocks list are stands = past blocks list c.args.bounds.now c.args.holder c.args.rule c.args.address are c.if-bounds-address.true

pub returns-then-met-at-clause-walk : goal.returns-then-met-at-clause-walk
returns-then-met-at-clause-walk c blocks list are stands = again blocks list c.args.met.now c.args.bounds.now c.args.holder c.args.rule c.args.address are stands c.if-address-bounds.false c.if-bounds-address.false (let room = c.requires in let less = c.if-bounds-address.false in omega arith) c.if-met-at.true

pub returns-clause-walk : goal.returns-clause-walk
returns-clause-walk c blocks list are stands =
    let inside : c.args.address < length c.args.met.now = (let room = c.requires in let less = c.if-bounds-address.false in omega arith) in (
      c.args.address ∷ list,
      new blocks list c.args.met.now c.args.bounds.now c.args.holder c.args.rule c.args.address are stands c.if-address-bounds.false c.if-bounds-address.false inside c.if-met-at.false,
      stands_more list c.args.met.now c.args.address stands inside c.if-met-at.false,
    )

pub returns-clause-count : goal.returns-clause-count
returns-clause-count c = (let e = count_more c.args.met.now c.args.address (let room = c.requires in let less = c.if-bounds-address.false in omega arith) c.if-met-at.false in omega (arith, e))
