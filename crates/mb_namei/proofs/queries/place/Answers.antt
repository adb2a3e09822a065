use Rattle.std.proofs.Common.{Some, None, sym, ap, ◌∙◌}
use Rattle.mb_tree.specs.Lookup.{start_of, components}
use Rattle.mb_namei.proofs.Answering.{place_begins, placed_itself, walk_next, all_but_one, place_missing, place_refused, place_asks, last_found, last_refused, some_more}
use Rattle.mb_namei.proofs.queries.place.Goals as goal

pub names-init : goal.names-init
names-init g c =
    (let e = c.in-Some.ensures in
    place_begins (g.V.View.shown c.args.view.now) c.new-none.result c.new-none.ensures c.args.cwd c.args.cred c.args.path.now c.start_of-dir.result c.in-Some.here.name c.in-Some.here.rest.now
    (c.start_of-dir.ensures ∙ ap (start_of c.args.cwd) c.as_slice-path.ensures.bytes) (ap components (sym c.as_slice-path.ensures.bytes) ∙ e.0))

pub returns-in_default-clause-answer : goal.returns-in_default-clause-answer
returns-in_default-clause-answer g c =
    placed_itself (g.V.View.shown c.args.view.now) c.new-none.result c.new-none.ensures c.args.cwd c.args.cred c.args.path.now c.start_of-dir.result
    (c.start_of-dir.ensures ∙ ap (start_of c.args.cwd) c.as_slice-path.ensures.bytes) (let e = c.in_default.ensures in ap components (sym c.as_slice-path.ensures.bytes) ∙ e)

pub returns-in-Missing-clause-answer : goal.returns-in-Missing-clause-answer
returns-in-Missing-clause-answer g c =
    (let e = c.in-Some-first_component.ensures in
    place_missing (g.V.View.shown c.args.view.now) c.new-none.result c.new-none.ensures c.args.cwd c.args.cred c.args.path.now c.names.dir c.names.here.name c.names.here.rest.now c.names.invariant
    (some_more c.names.here.rest.now c.in-Some-first_component.next.name (components c.in-Some-first_component.next.rest.now) e.0) c.in-Missing.ensures)

pub returns-in-Refused-clause-answer : goal.returns-in-Refused-clause-answer
returns-in-Refused-clause-answer g c =
    (let e = c.in-Some-first_component.ensures in
    place_refused (g.V.View.shown c.args.view.now) c.new-none.result c.new-none.ensures c.args.cwd c.args.cred c.args.path.now c.names.dir c.names.here.name c.names.here.rest.now c.names.invariant c.in-Refused.error
    (some_more c.names.here.rest.now c.in-Some-first_component.next.name (components c.in-Some-first_component.next.rest.now) e.0) c.in-Refused.ensures)

pub returns-in-Need-clause-answer : goal.returns-in-Need-clause-answer
returns-in-Need-clause-answer g c =
    (let n = c.in-Need.ensures in
    place_asks (g.V.View.shown c.args.view.now) c.new-none.result c.new-none.ensures c.args.cwd c.args.cred c.args.path.now c.names.dir c.names.here.name c.names.here.rest.now c.names.invariant c.in-Need.need n.1)

pub names-preserved : goal.names-preserved
names-preserved g c =
    (let shown = g.V.View.shown c.args.view.now in
    let e = c.in-Some-first_component.ensures in
    all_but_one shown c.new-none.result c.new-none.ensures c.args.cwd c.args.cred c.args.path.now c.in-Number.ino c.in-Some-first_component.next.name c.names.here.rest.now c.in-Some-first_component.next.rest.now e.0
    (walk_next shown c.new-none.result c.new-none.ensures c.args.cwd c.args.cred c.args.path.now c.names.dir c.names.here.name c.names.here.rest.now c.names.invariant c.in-Number.ino c.in-Number.ensures))

pub returns-in-Number-look_up-clause-answer : goal.returns-in-Number-look_up-clause-answer
returns-in-Number-look_up-clause-answer g c =
    (let e = c.in_default-first_component.ensures in
    last_found (g.V.View.shown c.args.view.now) c.new-none.result c.new-none.ensures c.args.cwd c.args.cred c.args.path.now c.names.dir c.names.here.name c.names.here.rest.now c.names.invariant (Some c.in-Number-look_up.ino) e c.in-Number-look_up.ensures)

pub returns-in-Missing-look_up-clause-answer : goal.returns-in-Missing-look_up-clause-answer
returns-in-Missing-look_up-clause-answer g c =
    (let e = c.in_default-first_component.ensures in
    last_found (g.V.View.shown c.args.view.now) c.new-none.result c.new-none.ensures c.args.cwd c.args.cred c.args.path.now c.names.dir c.names.here.name c.names.here.rest.now c.names.invariant None e c.in-Missing-look_up.ensures)

pub returns-in-Refused-look_up-clause-answer : goal.returns-in-Refused-look_up-clause-answer
returns-in-Refused-look_up-clause-answer g c =
    (let e = c.in_default-first_component.ensures in
    last_refused (g.V.View.shown c.args.view.now) c.new-none.result c.new-none.ensures c.args.cwd c.args.cred c.args.path.now c.names.dir c.names.here.name c.names.here.rest.now c.names.invariant c.in-Refused-look_up.error e c.in-Refused-look_up.ensures)

pub returns-clause-answer : goal.returns-clause-answer
returns-clause-answer g c =
    (let n = c.in-Need-look_up.ensures in
    place_asks (g.V.View.shown c.args.view.now) c.new-none.result c.new-none.ensures c.args.cwd c.args.cred c.args.path.now c.names.dir c.names.here.name c.names.here.rest.now c.names.invariant c.in-Need-look_up.need n.1)
