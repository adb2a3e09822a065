use Rattle.mb_iface.specs.declared.queries.Query.TheVariants as query
use Rattle.mb_fsops.proofs.Asking.{found_so}
use Rattle.mb_fsops.proofs.v7.V7FileSys.ask.Goals as goal

pub returns-in-Find-clause-answer : goal.returns-in-Find-clause-answer
returns-in-Find-clause-answer g c = λ image tree part volume.
    found_so c.args.query.now (query.Find c.in-Find.cwd c.in-Find.cred c.in-Find.path) c.in-Find.is image tree c.find.result (c.find.ensures.answer image tree part volume)

pub returns-in-Place-clause-answer : goal.returns-in-Place-clause-answer
returns-in-Place-clause-answer g c = λ image tree part volume.
    found_so c.args.query.now (query.Place c.in-Place.cwd c.in-Place.cred c.in-Place.path) c.in-Place.is image tree c.place.result (c.place.ensures.answer image tree part volume)
