use Rattle.std.proofs.Common.{Ok, sym, subst, ◌∙◌}
use Rattle.mb_calls.specs.Halts.{Matches}
use Rattle.mb_calls.proofs.Asking.{told_directory}
use Rattle.mb_calls.specs.Spots.{IsBeside, placed_of}
use Rattle.mb_calls.proofs.asks.used_beside.Goals as goal

pub returns-then-is_directory-clause-says : goal.returns-then-is_directory-clause-says
returns-then-is_directory-clause-says g c = λ image tree part volume told.
    let at = told_directory tree c.args.spot.now _ _ c.in-Present.ino c.in-Present.stat _ c.in-Ok.stat volume.sound c.in-Present.is c.in-Ok.is (sym c.is_directory.ensures ∙ c.if-is_directory.true) told in
    subst (λ n. Matches c.used_slots.result (Ok n)) (sym at.1) (c.used_slots.ensures.says image tree part volume at.0)

pub returns-then-is_directory-clause-near : goal.returns-then-is_directory-clause-near
returns-then-is_directory-clause-near g c = λ image tree seat made part volume told beside.
    let at = told_directory tree c.args.spot.now _ _ c.in-Present.ino c.in-Present.stat _ c.in-Ok.stat volume.sound c.in-Present.is c.in-Ok.is (sym c.is_directory.ensures ∙ c.if-is_directory.true) told in
    c.used_slots.ensures.near image tree seat made part volume at.0 (subst (λ s. IsBeside tree.nodes seat made (placed_of s)) c.in-Present.is beside).0
