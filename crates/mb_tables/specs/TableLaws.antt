-- How the tables keep to the reference model.
use Rattle.std.specs.Prelude.{List, ℕ, ◌+◌, ◌<◌, ◌≤◌, ◌≡◌, Option, Ok}
use Rattle.mb_edge.specs.Damage.{OpenCounts, damaged}
use Rattle.mb_edge.specs.declared.strokes.Stroke.{Stroke}
use Rattle.mb_iface.specs.OpenCounts.{count_of}
use Rattle.mb_tree.specs.CarriedOut.{IsCarriedOut}
use Rattle.mb_tree.specs.Effect.{TreeAndOpens}
use Rattle.mb_tree.specs.Step.{effect_of}
use Rattle.mb_tree.specs.declared.operations.FsOp.{FsOp}
use Rattle.mb_tree.specs.declared.seats.SessionChange.{SessionChange}
use Rattle.mb_tree.specs.declared.trees.Tree.{Tree}
use Rattle.mb_oplog.specs.declared.oplogs.Logged.{Logged}
use Rattle.mb_cache.specs.Pages.{PageList}
use Rattle.mb_core_spec.specs.Copies.{LiveTables}
use Rattle.mb_session.specs.OpenFiles.{TellsCounts}
use Rattle.mb_core_spec.specs.Histories.{as_picked}
use Rattle.mb_core_spec.specs.Owed.{TablesMove}
use Rattle.mb_tables.specs.Follows.{counts_damaged, followed, followed_if, tables_after}

-- where none of them is the greatest, the counts follow the effect of an operation, or of none
abbrev pub CountsFollowEffect : Type 0
CountsFollowEffect = (opens : OpenCounts) (tree : Tree) (op : Option FsOp) (pick : Option ℕ) (held : TreeAndOpens) → ((ino : ℕ) → count_of opens ino < 4294967295)
    → effect_of tree (count_of opens) op pick ≡ Ok held → TellsCounts (followed_if opens op pick) held.opens

-- and so they follow an operation that is done again
abbrev pub CountsFollowReplay : Type 0
CountsFollowReplay = (opens : OpenCounts) (logged : Logged) (made next : TreeAndOpens) → TellsCounts opens made.opens → ((ino : ℕ) → made.opens ino ≤ 136)
    → IsCarriedOut made (as_picked logged) next → TellsCounts (followed opens logged.op logged.pick) next.opens

-- a call that is logged does nothing to the tables that another call could see, or their stamp rises
abbrev pub LoggedTablesMove : Type 0
LoggedTablesMove = (live : LiveTables) (caller : ℕ) (op : Option FsOp) (pick : Option ℕ) (made : SessionChange) → TablesMove live (tables_after live caller op pick made)

-- and their stamp rises by one at most
abbrev pub StampRisesByOne : Type 0
StampRisesByOne = (live : LiveTables) (caller : ℕ) (op : Option FsOp) (pick : Option ℕ) (made : SessionChange) → (tables_after live caller op pick made).stamp ≤ live.stamp + 1

-- a fault does to the counts of open files, beside any current pages, what it does to counts alone
abbrev pub DamageOfCounts : Type 0
DamageOfCounts = (pages : PageList) (opens : OpenCounts) (strokes : List Stroke) → (damaged (record { pages = pages; opens = opens }) strokes).opens ≡ counts_damaged opens strokes
