use Rattle.std.proofs.Common.{rules, ◌≤◌, ◌+◌, ℕ, List, length, ◌≡◌, [], IfSome, ◌<◌, Option, Some, None, Ok, Err, refl, sym, subst, ◌∙◌, arith}
use Rattle.mb_kinds.specs.Image.{Image}
use Rattle.mb_check_files.specs.Passes.{Stands, AreBounds, Passes, Lists, listed_at, Underway}
use Rattle.mb_check_files.proofs.Listing.{if_told}
use Rattle.mb_check_files.proofs.Underways.{told_of, begins, ends_so, stops_so, goes_on, done_so}
use Rattle.mb_check_files.proofs.chains.chain.Goals as goal

pub loop-init : goal.loop-init
loop-init g c = (omega arith, c.requires.few, refl, omega arith, if_told (g.D.Disk.told c.args.disk.now) _ (λ image told same are stands. begins image c.args.bounds.now c.args.met.now c.args.first.now same are stands))

pub returns-in-Ok-None-clause-chain : goal.returns-in-Ok-None-clause-chain
returns-in-Ok-None-clause-chain g c = if_told (g.D.Disk.told c.args.disk.now) _ (λ image told same are stands.
    let under = told_of (g.D.Disk.told c.args.disk.now) image _ told c.loop.invariant.4 same are stands in
    let lists = told_of (g.D.Disk.told c.loop.disk) image _ (c.loop.invariant.2 ∙ told) (rw c.in-Ok-None.field-0-is at c.in-Ok-None.ensures.list) under.met are under.stands in
    ends_so image c.args.bounds.now c.loop.met c.loop.bytes c.loop.base c.loop.holder (c.args.bounds.now.high + 1) c.loop.counter under c.list.new.met c.list.new.bytes c.loop-test.true lists)

pub returns-in-Err-clause-chain : goal.returns-in-Err-clause-chain
returns-in-Err-clause-chain g c = if_told (g.D.Disk.told c.args.disk.now) _ (λ image told same are stands.
    let under = told_of (g.D.Disk.told c.args.disk.now) image _ told c.loop.invariant.4 same are stands in
    let lists = told_of (g.D.Disk.told c.loop.disk) image _ (c.loop.invariant.2 ∙ told) c.in-Err.ensures.list under.met are under.stands in
    stops_so image c.args.bounds.now c.loop.met c.loop.bytes c.loop.base c.loop.holder (c.args.bounds.now.high + 1) c.loop.counter under c.list.new.met c.list.new.bytes c.in-Err.stop c.loop-test.true lists)

pub loop-preserved : goal.loop-preserved
loop-preserved g c = (
  omega arith,
  (rw c.in-Ok-Some.field-0-is at c.in-Ok-Some.ensures.few),
  c.list.ensures.told ∙ c.loop.invariant.2,
  (let before = c.loop.invariant.3 in let now = c.list.ensures.cause.later in omega (arith, before, now)),
  if_told (g.D.Disk.told c.args.disk.now) _ (λ image told same are stands.
      let under = told_of (g.D.Disk.told c.args.disk.now) image _ told c.loop.invariant.4 same are stands in
      let lists = told_of (g.D.Disk.told c.loop.disk) image _ (c.loop.invariant.2 ∙ told) (rw c.in-Ok-Some.field-0-is at c.in-Ok-Some.ensures.list) under.met are under.stands in
      goes_on image c.args.bounds.now c.loop.met c.loop.bytes c.loop.base c.loop.holder (c.args.bounds.now.high + 1) c.loop.counter under c.list.new.met c.list.new.bytes c.in-Ok-Some.next c.loop-test.true lists),
)

pub returns-clause-chain : goal.returns-clause-chain
returns-clause-chain g c = if_told (g.D.Disk.told c.args.disk.now) _ (λ image told same are stands.
    let under = told_of (g.D.Disk.told c.args.disk.now) image _ told c.loop.invariant.4 same are stands in
    done_so image c.args.bounds.now c.loop.met c.loop.bytes c.loop.base c.loop.holder (c.args.bounds.now.high + 1) c.loop.counter under c.loop-test.false)
