use Rattle.std.proofs.Common.{ap, sym, ◌∙◌}
use Rattle.mb_check_tree.specs.Sweeping.{kept_node}
use Rattle.mb_check_tree.proofs.SweptNodes.{kept_added}
use Rattle.mb_check_tree.proofs.nodes.add_node.Goals as goal

pub returns : goal.returns
returns c value has is =
    kept_added c.args.nodes.now c.insert.new.self c.args.ino c.from.result c.in-Some.node value c.from.ensures c.in_ok-insert.ensures.ok (sym c.is_nameless.ensures ∙ c.if-is_nameless.false) has (is ∙ ap (kept_node c.args.ino) c.in-Some.is)
