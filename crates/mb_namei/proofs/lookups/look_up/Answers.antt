use Rattle.std.proofs.Common.{Some, None, sym, ap, ◌∙◌}
use Rattle.mb_tree.specs.Inodes.{may}
use Rattle.mb_kinds.specs.declared.replies.Stat.{Stat}
use Rattle.mb_namei.proofs.Looking.{near_asked, refused_leaf, refused_search, looked_up, near_searched}
use Rattle.mb_namei.proofs.lookups.look_up.Goals as goal

pub returns-in-Need : goal.returns-in-Need
returns-in-Need g c =
    (let e = c.in-Need.ensures in
    (e.0, near_asked (g.V.View.shown c.args.view.now) c.args.changes.now c.args.cred c.args.dir c.args.name.now c.in-Need.need.first e.1))

pub returns-then-not-is_directory : goal.returns-then-not-is_directory
returns-then-not-is_directory g c =
    refused_leaf (g.V.View.shown c.args.view.now) c.args.changes.now c.args.cred c.args.dir c.args.name.now c.in-Inode.inode c.in-Inode.ensures (sym c.is_directory.ensures ∙ c.if-not-is_directory.true)

pub returns-then-not-may : goal.returns-then-not-may
returns-then-not-may g c =
    refused_search (g.V.View.shown c.args.view.now) c.args.changes.now c.args.cred c.args.dir c.args.name.now c.in-Inode.inode c.in-Inode.ensures (sym c.is_directory.ensures ∙ c.if-not-is_directory.false)
    (sym (c.may.ensures ∙ ap (λ (s : Stat). may c.args.cred s 1) c.stat_by.ensures) ∙ c.if-not-may.true)

pub returns-in-Found : goal.returns-in-Found
returns-in-Found g c =
    looked_up (g.V.View.shown c.args.view.now) c.args.changes.now c.args.cred c.args.dir c.args.name.now c.in-Inode.inode c.in-Inode.ensures (sym c.is_directory.ensures ∙ c.if-not-is_directory.false)
    (Some c.in-Found.ino) (sym (c.may.ensures ∙ ap (λ (s : Stat). may c.args.cred s 1) c.stat_by.ensures) ∙ c.if-not-may.false) (let e = c.in-Found.ensures in λ blocks slots part is. (e blocks slots part is).1)

pub returns-in-Empty : goal.returns-in-Empty
returns-in-Empty g c =
    looked_up (g.V.View.shown c.args.view.now) c.args.changes.now c.args.cred c.args.dir c.args.name.now c.in-Inode.inode c.in-Inode.ensures (sym c.is_directory.ensures ∙ c.if-not-is_directory.false)
    None (sym (c.may.ensures ∙ ap (λ (s : Stat). may c.args.cred s 1) c.stat_by.ensures) ∙ c.if-not-may.false) (let e = c.in-Empty.ensures in λ blocks slots part is. (e blocks slots part is).0)

pub returns-in-Full : goal.returns-in-Full
returns-in-Full g c =
    looked_up (g.V.View.shown c.args.view.now) c.args.changes.now c.args.cred c.args.dir c.args.name.now c.in-Inode.inode c.in-Inode.ensures (sym c.is_directory.ensures ∙ c.if-not-is_directory.false)
    None (sym (c.may.ensures ∙ ap (λ (s : Stat). may c.args.cred s 1) c.stat_by.ensures) ∙ c.if-not-may.false) (let e = c.in-Full.ensures in λ blocks slots part is. (e blocks slots part is).0)

pub returns-in-Need-search : goal.returns-in-Need-search
returns-in-Need-search g c =
    (let e = c.in-Need-search.ensures in
    (e.0, near_searched (g.V.View.shown c.args.view.now) c.args.changes.now c.args.cred c.args.dir c.args.name.now c.in-Inode.inode c.in-Inode.ensures (sym c.is_directory.ensures ∙ c.if-not-is_directory.false) c.in-Need-search.need.first e.1))
