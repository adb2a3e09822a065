use Rattle.std.proofs.Common.{◌∙◌, arith}
use Rattle.mb_tree.proofs.MapCopies.{copied_none, copied_more, copied_all}
use Rattle.mb_tree.proofs.maps.MapCopied.copied.Goals as goal

pub loop-key-init : goal.loop-key-init
loop-key-init g c = copied_none c.args.self.now _ c.new-copy.ensures

pub loop-key-preserved : goal.loop-key-preserved
loop-key-preserved g c = copied_more c.args.self.now c.loop-key.copy c.insert.new.self c.deref-key-items.result.now c.loop-key.key-index 0 c.in-Some.value.now c.in_ok-copied.field-0 c.loop-key-test.true c.in-Some.ensures c.in_ok-copied.ensures c.in_ok-insert.ensures.ok c.loop-key.invariant

pub returns : goal.returns
returns g c = copied_all c.args.self.now c.loop-key.copy c.deref-key-items.result.now c.loop-key.key-index (c.deref-key-items.ensures.value ∙ c.in_ok-keys.ensures) (omega arith) c.loop-key.invariant
