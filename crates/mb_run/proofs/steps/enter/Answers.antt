use Rattle.mb_run.proofs.Entered.{did_done, did_shut, may_inside, did_inside, did_not_enter}
use Rattle.mb_run.proofs.Inside.{room}
use Rattle.mb_run.proofs.Starting.{ended_begun, inside_begun, kept_begun, shut_begun}
use Rattle.std.proofs.Common.{false, refl, sym, ◌∙◌}
use Rattle.mb_core_spec.specs.Copies.{no_pages}
use Rattle.mb_run.specs.declared.runner.At.TheVariants as at
use Rattle.mb_run.proofs.TallySteps.{entering_done, entering_inside, entering_shut}
use Rattle.mb_run.proofs.steps.enter.Goals as goal
use Rattle.mb_run.proofs.Calmly.{entered_done, entered_inside, entered_shut}

pub returns-in-Done-clause-begins : goal.returns-in-Done-clause-begins
returns-in-Done-clause-begins g c = λ goes. ended_begun _ _ _ _ _ _ (did_done _ _ _ _ _ c.requires.may _ _ c.in-Done.ensures.enters)

pub returns-in-Shut-clause-begins : goal.returns-in-Shut-clause-begins
returns-in-Shut-clause-begins g c = λ goes. shut_begun _ _ _ _ _ _ (did_shut _ _ _ _ _ c.requires.may c.requires.outside _ c.in-Shut.ensures.enters)

pub returns-in-Inside-clause-begins : goal.returns-in-Inside-clause-begins
returns-in-Inside-clause-begins g c = λ goes. kept_begun _ _ _ c.go_in.ensures.did.nears.acts.firsts (inside_begun _ _ _ _ _ _ (may_inside _ _ _ _ _ c.requires.may c.requires.outside _ _ c.in-Inside.ensures.enters c.enter.ensures.right) refl)

pub advance-requires-clause-done : goal.advance-requires-clause-done
advance-requires-clause-done g c = room _ _ _ _ _ c.requires.may

pub returns-in-Done-clause-did : goal.returns-in-Done-clause-did
returns-in-Done-clause-did g c = rw c.advance.ensures (did_done _ _ _ _ _ c.requires.may _ _ c.in-Done.ensures.enters)

pub returns-in-Shut-clause-did : goal.returns-in-Shut-clause-did
returns-in-Shut-clause-did g c = did_shut _ _ _ _ _ c.requires.may c.requires.outside _ c.in-Shut.ensures.enters

pub returns-in-NoMemory-clause-did : goal.returns-in-NoMemory-clause-did
returns-in-NoMemory-clause-did g c = did_not_enter _ _ _ _ _ c.requires.may _ c.in-NoMemory.ensures.enters

pub go_in-requires-clause-may : goal.go_in-requires-clause-may
go_in-requires-clause-may g c = rw c.clear.ensures (may_inside _ _ _ _ _ c.requires.may c.requires.outside _ _ c.in-Inside.ensures.enters c.enter.ensures.right)

pub go_in-requires-clause-present : goal.go_in-requires-clause-present
go_in-requires-clause-present g c = c.in-Inside.ensures.enters.present ∙ sym c.in-Inside.ensures.enters.begins.stays.incarnation

pub returns-in-Inside-clause-did : goal.returns-in-Inside-clause-did
returns-in-Inside-clause-did g c = did_inside _ _ _ _ _ c.requires.may c.requires.outside _ _ _ _ _ c.in-Inside.ensures.enters (rw c.clear.ensures at c.go_in.ensures.did)

pub returns-in-Done-clause-tallied : goal.returns-in-Done-clause-tallied
returns-in-Done-clause-tallied g c = rw c.advance.ensures (entering_done _ _ _ _ _ c.requires.may c.requires.outside _ _ c.in-Done.ensures.enters)

pub returns-in-Shut-clause-tallied : goal.returns-in-Shut-clause-tallied
returns-in-Shut-clause-tallied g c = entering_shut _ _ _ _ _ c.requires.may c.requires.outside _ c.in-Shut.ensures.enters

pub returns-in-NoMemory-clause-tallied : goal.returns-in-NoMemory-clause-tallied
returns-in-NoMemory-clause-tallied g c = λ tally. tt

pub returns-in-Inside-clause-tallied : goal.returns-in-Inside-clause-tallied
returns-in-Inside-clause-tallied g c = λ tally. c.go_in.ensures.tallied (rw c.clear.ensures (entering_inside _ _ _ _ _ c.requires.may c.requires.outside _ _ _ c.in-Inside.ensures.enters refl tally))

pub returns-in-Done-clause-calm : goal.returns-in-Done-clause-calm
returns-in-Done-clause-calm g c = λ goes. entered_done (g.H.Hook.test c.args.hook.now) (g.C.EventCore.sight c.args.core.now) (g.C.EventCore.sight c.enter.new.self) c.args.runner.now c.args.call.now c.requires.outside _ c.in-Done.field-0 c.in-Done.ensures.enters

pub returns-in-Shut-clause-calm : goal.returns-in-Shut-clause-calm
returns-in-Shut-clause-calm g c = λ goes. entered_shut (g.H.Hook.test c.args.hook.now) (g.C.EventCore.sight c.args.core.now) (g.C.EventCore.sight c.enter.new.self) c.args.runner.now c.args.call.now c.requires.outside _ c.in-Shut.ensures.enters

pub returns-in-Inside-clause-calm : goal.returns-in-Inside-clause-calm
returns-in-Inside-clause-calm g c = λ goes. entered_inside (g.H.Hook.test c.args.hook.now) (g.C.EventCore.sight c.args.core.now) (g.C.EventCore.sight c.enter.new.self) (g.C.EventCore.sight c.go_in.new.core) c.args.runner.now
    (record c.args.runner.now { at = at.Inside c.in-Inside.ticket; asked = false; pages = no_pages }) c.go_in.new.runner c.args.call.now c.in-Inside.ticket c.requires.outside c.in-Inside.ensures.enters refl refl (rw c.clear.ensures at c.go_in.ensures.calm)
