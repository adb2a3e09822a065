use Rattle.std.proofs.Common.{◌∙◌, ◌+◌, ◌++◌, ◌∷◌, [], ap, arith}
use Rattle.mb_tree.specs.Inodes.{byte_at}
use Rattle.mb_tree.proofs.Searches.{bytes_step, bytes_end}
use Rattle.mb_tree.proofs.nodes.Body.bytes.Goals as goal

pub turns-preserved : goal.turns-preserved
turns-preserved c = record {
  bound = omega arith;
  many = omega (arith, c.in_ok-push.ensures.len);
  so_far = bytes_step c.args.self.now c.args.index c.turns.done c.args.count c.turns.bytes.items c.push.new.self.items c.turns-test.true
      (c.in_ok-push.ensures.items ∙ ap (λ b. c.turns.bytes.items ++ b ∷ []) (c.byte.ensures ∙ ap (λ n. byte_at c.args.self.now (c.args.index + n)) c.from.ensures)) c.turns.invariant.so_far;
}

pub returns-clause-bytes : goal.returns-clause-bytes
returns-clause-bytes c = c.from_vec.ensures ∙ bytes_end c.args.self.now c.args.index c.turns.done c.args.count c.turns.bytes.items c.turns-test.false c.turns.invariant.so_far
