-- The counts of open files follow the effects of operations.
use Rattle.std.proofs.Common.{◌≡◌, ℕ, ◌<◌, ◌≤◌, Option, Some, None, Ok, Err, refl, ap, ◌∙◌, arith}
use Rattle.mb_edge.specs.Damage.{OpenCounts}
use Rattle.mb_iface.specs.OpenCounts.{count_of}
use Rattle.mb_tree.proofs.Always.{same_ok}
use Rattle.mb_tree.specs.Answers.{Answer, ◌>>=◌}
use Rattle.mb_tree.specs.CarriedOut.{IsCarriedOut}
use Rattle.mb_tree.specs.Effect.{TreeAndOpens, effect, opens_after, tree_after}
use Rattle.mb_tree.specs.Sessions.{Counts}
use Rattle.mb_tree.specs.Step.{effect_of}
use Rattle.mb_tree.specs.declared.operations.FsOp.{FsOp}
use Rattle.mb_tree.specs.declared.operations.FsOp.TheVariants.{Create, Empty, MakeDir, RemoveDir, Enlink, Delink, Put, SetMode, SetOwner, SetTimes, Hold, Release}
use Rattle.mb_tree.specs.declared.trees.Tree.{Tree}
use Rattle.mb_oplog.specs.declared.oplogs.Logged.{Logged}
use Rattle.mb_session.specs.OpenFiles.{TellsCounts}
use Rattle.mb_core_spec.specs.Histories.{as_picked}
use Rattle.mb_tables.proofs.OneCount.{hold_counts, release_counts}
use Rattle.mb_tables.specs.Follows.{followed, followed_if}

-- by the operation
pub follows_op : (opens : OpenCounts) (held : ℕ → ℕ) → TellsCounts opens held → ((ino : ℕ) → held ino < 4294967295) → (op : FsOp) (pick : Option ℕ) → TellsCounts (followed opens op pick) (opens_after held op pick)
follows_op opens held counts few (Create dir name mode uid gid moment) None = counts
follows_op opens held counts few (Create dir name mode uid gid moment) (Some ino) = hold_counts opens held ino counts (few ino)
follows_op opens held counts few (Empty ino moment) pick = hold_counts opens held ino counts (few ino)
follows_op opens held counts few (MakeDir dir name mode uid gid moment) pick = counts
follows_op opens held counts few (RemoveDir dir name moment) pick = counts
follows_op opens held counts few (Enlink dir name ino moment) pick = counts
follows_op opens held counts few (Delink dir name moment) pick = counts
follows_op opens held counts few (Put ino offset bytes moment) pick = counts
follows_op opens held counts few (SetMode ino mode moment) pick = counts
follows_op opens held counts few (SetOwner ino uid gid moment) pick = counts
follows_op opens held counts few (SetTimes ino atime mtime moment) pick = counts
follows_op opens held counts few (Hold ino) pick = hold_counts opens held ino counts (few ino)
follows_op opens held counts few (Release inos) pick = release_counts opens held inos counts

-- what an effect leaves of the counts
opens_of : (made : Answer Tree) (opens : ℕ → ℕ) (held : TreeAndOpens) → ◌≡◌ {A = Answer TreeAndOpens} (made >>= (λ (next : Tree). Ok (record { tree = next; opens = opens }))) (Ok held) → opens ≡ held.opens
opens_of (Ok tree) opens held leads = ap (λ (h : TreeAndOpens). h.opens) (same_ok (record { tree = tree; opens = opens }) held leads)
opens_of (Err e) opens held leads = cc

effect_opens : (tree : Tree) (opens : ℕ → ℕ) (op : FsOp) (pick : Option ℕ) (held : TreeAndOpens) → effect tree opens op pick ≡ Ok held → opens_after opens op pick ≡ held.opens
effect_opens tree opens op pick held leads = opens_of (tree_after tree opens op pick) (opens_after opens op pick) held leads

pub follows_effect : (opens : OpenCounts) (tree : Tree) (op : Option FsOp) (pick : Option ℕ) (held : TreeAndOpens) → ((ino : ℕ) → count_of opens ino < 4294967295)
    → effect_of tree (count_of opens) op pick ≡ Ok held → TellsCounts (followed_if opens op pick) held.opens
follows_effect opens tree None pick held few leads = λ ino. ap (λ (h : TreeAndOpens). h.opens ino) (same_ok (record { tree = tree; opens = count_of opens }) held leads)
follows_effect opens tree (Some op) pick held few leads = λ ino.
    follows_op opens (count_of opens) (λ other. refl) few op pick ino ∙ ap (λ (counts : Counts). counts ino) (effect_opens tree (count_of opens) op pick held leads)

pub follows_replay : (opens : OpenCounts) (logged : Logged) (made next : TreeAndOpens) → TellsCounts opens made.opens → ((ino : ℕ) → made.opens ino ≤ 136)
    → IsCarriedOut made (as_picked logged) next → TellsCounts (followed opens logged.op logged.pick) next.opens
follows_replay opens logged made next counts few carried = λ ino.
    follows_op opens made.opens counts (λ other. omega (arith, few other)) logged.op logged.pick ino
    ∙ ap (λ (held : Counts). held ino) (effect_opens made.tree made.opens logged.op logged.pick next carried.leads)
