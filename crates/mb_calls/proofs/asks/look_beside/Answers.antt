use Rattle.std.proofs.Common.{ap, subst, ◌∙◌}
use Rattle.mb_tree.specs.declared.lookups.Placed.TheVariants as placed
use Rattle.mb_tree.specs.LocalLaws.{IsKnown}
use Rattle.mb_calls.specs.Spots.{IsBeside}
use Rattle.mb_calls.proofs.asks.look_beside.Goals as goal

pub returns-in-Itself-clause-told : goal.returns-in-Itself-clause-told
returns-in-Itself-clause-told g c = λ image tree part volume known. c.info.ensures.says image tree part volume (subst (IsKnown tree.nodes) c.in-Itself.is known)

pub returns-in-None-clause-told : goal.returns-in-None-clause-told
returns-in-None-clause-told g c = λ image tree part volume known.
    c.info-parent.ensures.says image tree part volume (subst (IsKnown tree.nodes) (c.in-At.is ∙ ap (placed.At c.in-At.dir c.in-At.name) c.in-None.is) known)

pub returns-in-Some-clause-told : goal.returns-in-Some-clause-told
returns-in-Some-clause-told g c = λ image tree part volume known.
    let both = subst (IsKnown tree.nodes) (c.in-At.is ∙ ap (placed.At c.in-At.dir c.in-At.name) c.in-Some.is) known in
    (c.info-in-Some.ensures.says image tree part volume both.0, c.info-parent.ensures.says image tree part volume both.1)

pub returns-in-Itself-clause-near : goal.returns-in-Itself-clause-near
returns-in-Itself-clause-near g c = λ image tree seat made part volume known beside.
    c.info.ensures.near image tree seat made part volume (subst (IsKnown tree.nodes) c.in-Itself.is known) (subst (IsBeside tree.nodes seat made) c.in-Itself.is beside)

pub returns-in-None-clause-near : goal.returns-in-None-clause-near
returns-in-None-clause-near g c = λ image tree seat made part volume known beside.
    let is = c.in-At.is ∙ ap (placed.At c.in-At.dir c.in-At.name) c.in-None.is in
    c.info-parent.ensures.near image tree seat made part volume (subst (IsKnown tree.nodes) is known) (subst (IsBeside tree.nodes seat made) is beside)

pub returns-in-Some-clause-near : goal.returns-in-Some-clause-near
returns-in-Some-clause-near g c = λ image tree seat made part volume known beside.
    let is = c.in-At.is ∙ ap (placed.At c.in-At.dir c.in-At.name) c.in-Some.is in
    let both = subst (IsKnown tree.nodes) is known in
    let near = subst (IsBeside tree.nodes seat made) is beside in
    (c.info-in-Some.ensures.near image tree seat made part volume both.0 near.0, c.info-parent.ensures.near image tree seat made part volume both.1 near.1)
