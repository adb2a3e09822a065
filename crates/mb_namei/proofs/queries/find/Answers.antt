use Rattle.std.proofs.Common.{ap, ◌∙◌}
use Rattle.mb_tree.specs.Lookup.{start_of}
use Rattle.mb_namei.proofs.Answering.{walk_begins, walk_next, all_but_one, find_missing, find_refused, find_asks, find_found, end_asks}
use Rattle.mb_namei.proofs.queries.find.Goals as goal

pub names-init : goal.names-init
names-init g c =
    walk_begins (g.V.View.shown c.args.view.now) c.new-none.result c.new-none.ensures c.args.cwd c.args.cred c.args.path.now c.start_of-ino.result c.as_slice-path.result.now
    (c.start_of-ino.ensures ∙ ap (start_of c.args.cwd) c.as_slice-path.ensures.bytes) c.as_slice-path.ensures.bytes

pub returns-in-Missing-clause-answer : goal.returns-in-Missing-clause-answer
returns-in-Missing-clause-answer g c =
    (let shown = g.V.View.shown c.args.view.now in
    let e = c.in-Some.ensures in
    find_missing shown c.new-none.result c.new-none.ensures c.args.cwd c.args.cred c.args.path.now c.names.ino c.in-Some.first.name c.in-Some.first.rest.now
    (all_but_one shown c.new-none.result c.new-none.ensures c.args.cwd c.args.cred c.args.path.now c.names.ino c.in-Some.first.name c.names.rest.now c.in-Some.first.rest.now e.0 c.names.invariant) c.in-Missing.ensures)

pub returns-in-Refused-clause-answer : goal.returns-in-Refused-clause-answer
returns-in-Refused-clause-answer g c =
    (let shown = g.V.View.shown c.args.view.now in
    let e = c.in-Some.ensures in
    find_refused shown c.new-none.result c.new-none.ensures c.args.cwd c.args.cred c.args.path.now c.names.ino c.in-Some.first.name c.in-Some.first.rest.now
    (all_but_one shown c.new-none.result c.new-none.ensures c.args.cwd c.args.cred c.args.path.now c.names.ino c.in-Some.first.name c.names.rest.now c.in-Some.first.rest.now e.0 c.names.invariant) c.in-Refused.error c.in-Refused.ensures)

pub returns-in-Need-clause-answer : goal.returns-in-Need-clause-answer
returns-in-Need-clause-answer g c =
    (let shown = g.V.View.shown c.args.view.now in
    let e = c.in-Some.ensures in
    let n = c.in-Need.ensures in
    find_asks shown c.new-none.result c.new-none.ensures c.args.cwd c.args.cred c.args.path.now c.names.ino c.in-Some.first.name c.in-Some.first.rest.now
    (all_but_one shown c.new-none.result c.new-none.ensures c.args.cwd c.args.cred c.args.path.now c.names.ino c.in-Some.first.name c.names.rest.now c.in-Some.first.rest.now e.0 c.names.invariant) c.in-Need.need n.1)

pub names-preserved : goal.names-preserved
names-preserved g c =
    (let shown = g.V.View.shown c.args.view.now in
    let e = c.in-Some.ensures in
    walk_next shown c.new-none.result c.new-none.ensures c.args.cwd c.args.cred c.args.path.now c.names.ino c.in-Some.first.name c.in-Some.first.rest.now
    (all_but_one shown c.new-none.result c.new-none.ensures c.args.cwd c.args.cred c.args.path.now c.names.ino c.in-Some.first.name c.names.rest.now c.in-Some.first.rest.now e.0 c.names.invariant) c.in-Number.next c.in-Number.ensures)

pub returns-in-Inode-clause-answer : goal.returns-in-Inode-clause-answer
returns-in-Inode-clause-answer g c =
    (let e = c.in_default.ensures in
    find_found (g.V.View.shown c.args.view.now) c.new-none.result c.new-none.ensures c.args.cwd c.args.cred c.args.path.now c.names.ino c.names.rest.now e c.names.invariant c.in-Inode.inode c.stat_by.result c.in-Inode.ensures c.stat_by.ensures)

pub returns-clause-answer : goal.returns-clause-answer
returns-clause-answer g c =
    (let e = c.in_default.ensures in
    let n = c.in-Need-info.ensures in
    end_asks (g.V.View.shown c.args.view.now) c.new-none.result c.new-none.ensures c.args.cwd c.args.cred c.args.path.now c.names.ino c.names.rest.now e c.names.invariant c.in-Need-info.need n.1)
