use Rattle.std.proofs.Common.{[], ap, sym, subst}
use Rattle.mb_calls.specs.Halts.Scope.{lacking}
use Rattle.std.specs.Prelude.{slice_get}
use Rattle.std.specs.List.{Contains}
use Rattle.mb_calls.specs.Looked.{paths_of}
use Rattle.mb_calls.specs.Halts.Scope.{around}
use Rattle.mb_calls.proofs.Nearby.{first_of}
use Rattle.mb_calls.proofs.planning.plan_of_inode.Goals as goal

pub returns-in-Open-clause-wants : goal.returns-in-Open-clause-wants
returns-in-Open-clause-wants g c = c.open_asked.ensures.follows.need (lacking _) c.find-asked.ensures.wants

pub returns-in-Open-clause-says : goal.returns-in-Open-clause-says
returns-in-Open-clause-says g c = λ image tree others over. rw c.in-Open.is (c.open_asked.ensures.follows.gives _ (c.find-asked.ensures.says image tree over))

pub returns-in-Chdir-clause-wants : goal.returns-in-Chdir-clause-wants
returns-in-Chdir-clause-wants g c = c.chdir_asked.ensures.follows.need (lacking _) c.find-asked-in-Chdir.ensures.wants

pub returns-in-Chdir-clause-says : goal.returns-in-Chdir-clause-says
returns-in-Chdir-clause-says g c = λ image tree others over. rw c.in-Chdir.is (c.chdir_asked.ensures.follows.gives _ (c.find-asked-in-Chdir.ensures.says image tree over))

pub returns-in-Stat-clause-wants : goal.returns-in-Stat-clause-wants
returns-in-Stat-clause-wants g c = c.stat_asked.ensures.follows.need (lacking _) c.find-asked-in-Stat.ensures.wants

pub returns-in-Stat-clause-says : goal.returns-in-Stat-clause-says
returns-in-Stat-clause-says g c = λ image tree others over. rw c.in-Stat.is (c.stat_asked.ensures.follows.gives _ (c.find-asked-in-Stat.ensures.says image tree over))

pub returns-in-Chmod-clause-wants : goal.returns-in-Chmod-clause-wants
returns-in-Chmod-clause-wants g c = c.chmod_asked.ensures.follows.need (lacking _) c.find-asked-in-Chmod.ensures.wants

pub returns-in-Chmod-clause-says : goal.returns-in-Chmod-clause-says
returns-in-Chmod-clause-says g c = λ image tree others over. rw c.in-Chmod.is (c.chmod_asked.ensures.follows.gives _ (c.find-asked-in-Chmod.ensures.says image tree over))

pub returns-in-Chown-clause-wants : goal.returns-in-Chown-clause-wants
returns-in-Chown-clause-wants g c = c.chown_asked.ensures.follows.need (lacking _) c.find-asked-in-Chown.ensures.wants

pub returns-in-Chown-clause-says : goal.returns-in-Chown-clause-says
returns-in-Chown-clause-says g c = λ image tree others over. rw c.in-Chown.is (c.chown_asked.ensures.follows.gives _ (c.find-asked-in-Chown.ensures.says image tree over))

pub returns-in-Utime-clause-wants : goal.returns-in-Utime-clause-wants
returns-in-Utime-clause-wants g c = c.utime_asked.ensures.follows.need (lacking _) c.find-asked-in-Utime.ensures.wants

pub returns-in-Utime-clause-says : goal.returns-in-Utime-clause-says
returns-in-Utime-clause-says g c = λ image tree others over. rw c.in-Utime.is (c.utime_asked.ensures.follows.gives _ (c.find-asked-in-Utime.ensures.says image tree over))

pub returns-in-Access-clause-wants : goal.returns-in-Access-clause-wants
returns-in-Access-clause-wants g c = c.access_asked.ensures.follows.need (lacking _) c.find-asked-in-Access.ensures.wants

pub returns-in-Access-clause-says : goal.returns-in-Access-clause-says
returns-in-Access-clause-says g c = λ image tree others over. rw c.in-Access.is (c.access_asked.ensures.follows.gives _ (c.find-asked-in-Access.ensures.says image tree over))

pub returns-in-Open-clause-near : goal.returns-in-Open-clause-near
returns-in-Open-clause-near g c = λ image tree over. c.open_asked.ensures.follows.need (around image tree c.args.seat.now c.args.call.now) (c.find-asked.ensures.near image tree c.args.call.now over (subst (λ a. Contains (paths_of a) c.in-Open.path) (sym c.in-Open.is) (first_of c.in-Open.path [])))

pub returns-in-Chdir-clause-near : goal.returns-in-Chdir-clause-near
returns-in-Chdir-clause-near g c = λ image tree over. c.chdir_asked.ensures.follows.need (around image tree c.args.seat.now c.args.call.now) (c.find-asked-in-Chdir.ensures.near image tree c.args.call.now over (subst (λ a. Contains (paths_of a) c.in-Chdir.path) (sym c.in-Chdir.is) (first_of c.in-Chdir.path [])))

pub returns-in-Stat-clause-near : goal.returns-in-Stat-clause-near
returns-in-Stat-clause-near g c = λ image tree over. c.stat_asked.ensures.follows.need (around image tree c.args.seat.now c.args.call.now) (c.find-asked-in-Stat.ensures.near image tree c.args.call.now over (subst (λ a. Contains (paths_of a) c.in-Stat.path) (sym c.in-Stat.is) (first_of c.in-Stat.path [])))

pub returns-in-Chmod-clause-near : goal.returns-in-Chmod-clause-near
returns-in-Chmod-clause-near g c = λ image tree over. c.chmod_asked.ensures.follows.need (around image tree c.args.seat.now c.args.call.now) (c.find-asked-in-Chmod.ensures.near image tree c.args.call.now over (subst (λ a. Contains (paths_of a) c.in-Chmod.path) (sym c.in-Chmod.is) (first_of c.in-Chmod.path [])))

pub returns-in-Chown-clause-near : goal.returns-in-Chown-clause-near
returns-in-Chown-clause-near g c = λ image tree over. c.chown_asked.ensures.follows.need (around image tree c.args.seat.now c.args.call.now) (c.find-asked-in-Chown.ensures.near image tree c.args.call.now over (subst (λ a. Contains (paths_of a) c.in-Chown.path) (sym c.in-Chown.is) (first_of c.in-Chown.path [])))

pub returns-in-Utime-clause-near : goal.returns-in-Utime-clause-near
returns-in-Utime-clause-near g c = λ image tree over. c.utime_asked.ensures.follows.need (around image tree c.args.seat.now c.args.call.now) (c.find-asked-in-Utime.ensures.near image tree c.args.call.now over (subst (λ a. Contains (paths_of a) c.in-Utime.path) (sym c.in-Utime.is) (first_of c.in-Utime.path [])))

pub returns-in-Access-clause-near : goal.returns-in-Access-clause-near
returns-in-Access-clause-near g c = λ image tree over. c.access_asked.ensures.follows.need (around image tree c.args.seat.now c.args.call.now) (c.find-asked-in-Access.ensures.near image tree c.args.call.now over (subst (λ a. Contains (paths_of a) c.in-Access.path) (sym c.in-Access.is) (first_of c.in-Access.path [])))

pub find-asked-requires : goal.find-asked-requires
find-asked-requires g c = record { kept = c.requires.going.first c.in-Open.path (ap (λ a. slice_get (paths_of a) 0) c.in-Open.is) }

pub find-asked-requires-in-Chdir : goal.find-asked-requires-in-Chdir
find-asked-requires-in-Chdir g c = record { kept = c.requires.going.first c.in-Chdir.path (ap (λ a. slice_get (paths_of a) 0) c.in-Chdir.is) }

pub find-asked-requires-in-Stat : goal.find-asked-requires-in-Stat
find-asked-requires-in-Stat g c = record { kept = c.requires.going.first c.in-Stat.path (ap (λ a. slice_get (paths_of a) 0) c.in-Stat.is) }

pub find-asked-requires-in-Chmod : goal.find-asked-requires-in-Chmod
find-asked-requires-in-Chmod g c = record { kept = c.requires.going.first c.in-Chmod.path (ap (λ a. slice_get (paths_of a) 0) c.in-Chmod.is) }

pub find-asked-requires-in-Chown : goal.find-asked-requires-in-Chown
find-asked-requires-in-Chown g c = record { kept = c.requires.going.first c.in-Chown.path (ap (λ a. slice_get (paths_of a) 0) c.in-Chown.is) }

pub find-asked-requires-in-Utime : goal.find-asked-requires-in-Utime
find-asked-requires-in-Utime g c = record { kept = c.requires.going.first c.in-Utime.path (ap (λ a. slice_get (paths_of a) 0) c.in-Utime.is) }

pub find-asked-requires-in-Access : goal.find-asked-requires-in-Access
find-asked-requires-in-Access g c = record { kept = c.requires.going.first c.in-Access.path (ap (λ a. slice_get (paths_of a) 0) c.in-Access.is) }
