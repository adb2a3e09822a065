use Rattle.std.proofs.Common.{ap, sym, ◌∙◌, arith}
use Rattle.mb_run.specs.CoreSight.{sight_of}
use Rattle.mb_volume.proofs.Quitting.{begun_by, declared_by}
use Rattle.mb_volume.specs.Attempts.{new_attempt}
use Rattle.mb_volume.proofs.volume.Volume.begin.Goals as goal

pub new-requires : goal.new-requires
new-requires g c =
    let saw = sight_of c.args.pass.now.value.core.core in
    let number = begun_by saw c.args.pass.now.caller c.begun.result c.begun.ensures in
    omega (arith, number, c.requires, c.show.ensures)

pub returns-clause-declared : goal.returns-clause-declared
returns-clause-declared g c = declared_by (sight_of c.args.pass.now.value.core.core) c.args.pass.now.caller c.begun.result c.begun.ensures

pub returns-clause-attempt : goal.returns-clause-attempt
returns-clause-attempt g c =
    let saw = sight_of c.args.pass.now.value.core.core in
    c.new.ensures ∙ ap (λ n. new_attempt n c.begun.result) c.caller.ensures
    ∙ ap (λ n. new_attempt c.args.pass.now.caller n) (sym (begun_by saw c.args.pass.now.caller c.begun.result c.begun.ensures))
