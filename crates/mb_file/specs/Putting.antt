-- Bytes put into a regular file: a step for each part, and one for the size and the times.
use Rattle.std.specs.Prelude.{List, ℕ, ◌≡◌, Bool, true, max, is_some, Option, IfSome, Err}
use Rattle.std.specs.FinMap as fin
use Rattle.mb_kinds.specs.Image.{Image}
use Rattle.mb_kinds.specs.declared.errors.Errno.TheVariants.{ENOSPC}
use Rattle.mb_word.specs.Numbers.{put_at}
use Rattle.mb_layout.specs.declared.dinodes.Dinode.{Dinode}
use Rattle.mb_tree.specs.Effect.{fitting, put_bytes, touched, wrote}
use Rattle.mb_tree.specs.Inodes.{part_at}
use Rattle.mb_tree.specs.Maps.{Numbered}
use Rattle.mb_tree.specs.declared.nodes.Body.TheVariants.{Regular}
use Rattle.mb_tree.specs.declared.nodes.Node.{Node}
use Rattle.mb_tree.specs.declared.trees.Tree.{Tree}
use Rattle.mb_iface.specs.Acting.{with_changes}
use Rattle.mb_kinds.specs.Changed.{ChangeList, IsWithinView}
use Rattle.mb_iface.specs.Needs.{IsNeed}
use Rattle.mb_iface.specs.declared.replies.Need.{Need}
use Rattle.mb_nodes.specs.Stored.{with_node}
use Rattle.mb_moves.specs.Advancing.{AdvancesTo, IsNearTo, OnStored}
use Rattle.mb_file.specs.Clearing.{IsFileAt}
use Rattle.mb_file.specs.declared.puts.Written.{Written}
use Rattle.mb_file.specs.declared.puts.Written.TheVariants as written

-- a file of that size with these parts
abbrev pub with_parts : Node → ℕ → Numbered (List ℕ) → Node
with_parts node size parts = record node { body = Regular size parts }

-- what a step says of a stored tree in which a file that is looked at has the number, by its size and parts
abbrev pub OnParts : (ℕ → Option (List ℕ)) → ChangeList → ℕ → (Image → Tree → (ℕ → Bool) → Node → ℕ → Numbered (List ℕ) → Type 0) → Type 0
OnParts shown old ino says = OnStored shown old (λ image tree chain. (looks : ℕ → Bool) (node : Node) → (file : IsFileAt tree looks ino node) → says image tree looks node file.size file.parts)

abbrev pub AsksNearFile : (ℕ → Option (List ℕ)) → ChangeList → ℕ → ℕ → Type 0
AsksNearFile shown old ino first = OnParts shown old ino (λ image tree looks node size parts. IsNearTo (with_changes image old) tree looks first)

-- what is wanted to put bytes looked at
abbrev pub LacksForPut : (ℕ → Option (List ℕ)) → ChangeList → ℕ → Option Need → Type 0
LacksForPut shown old ino result = IfSome result (λ need. IsNeed shown need × AsksNearFile shown old ino need.first)

-- whatever file with that part and the parts that are there is refused
abbrev pub IsRefusedByParts : Tree → ℕ → Numbered (List ℕ) → ℕ → Type 0
IsRefusedByParts tree ino parts part = (wanted : Node) (other : ℕ) (more : Numbered (List ℕ)) → wanted.body ≡ Regular other more → is_some (fin.get more part) ≡ true
    → ((k : ℕ) → is_some (fin.get parts k) ≡ true → is_some (fin.get more k) ≡ true) → fitting tree (fin.insert tree.nodes ino wanted) ≡ Err ENOSPC

-- bytes put into one part, from a place in it on
abbrev pub PutsPart : (ℕ → Option (List ℕ)) → ChangeList → ChangeList → ℕ → ℕ → ℕ → List ℕ → Written → Type 0
PutsPart shown old new ino part place bytes written.Done = (IsWithinView shown old → IsWithinView shown new)
    × OnParts shown old ino (λ image tree looks node size parts. AdvancesTo image tree looks old new (with_node tree ino (with_parts node size (fin.insert parts part (put_at (part_at parts part) place bytes)))))
PutsPart shown old new ino part place bytes written.NoneLeft = OnParts shown old ino (λ image tree looks node size parts. IsRefusedByParts tree ino parts part)
PutsPart shown old new ino part place bytes (written.Need need) = IsNeed shown need × AsksNearFile shown old ino need.first
PutsPart shown old new ino part place bytes written.NoMemory = Unit {0}

-- bytes put into the parts of a file
abbrev pub PutsBytes : (ℕ → Option (List ℕ)) → ChangeList → ChangeList → ℕ → ℕ → List ℕ → Written → Type 0
PutsBytes shown old new ino offset bytes written.Done = (IsWithinView shown old → IsWithinView shown new)
    × OnParts shown old ino (λ image tree looks node size parts. AdvancesTo image tree looks old new (with_node tree ino (with_parts node size (put_bytes parts offset bytes))))
PutsBytes shown old new ino offset bytes written.NoneLeft = OnParts shown old ino (λ image tree looks node size parts.
    (wanted : Node) (other : ℕ) → wanted.body ≡ Regular other (put_bytes parts offset bytes) → fitting tree (fin.insert tree.nodes ino wanted) ≡ Err ENOSPC)
PutsBytes shown old new ino offset bytes (written.Need need) = IsNeed shown need × AsksNearFile shown old ino need.first
PutsBytes shown old new ino offset bytes written.NoMemory = Unit {0}

-- an inode's value with a size that holds what was put
abbrev pub grown_inode : Dinode → ℕ → ℕ → Dinode
grown_inode d end moment = record d { size = max d.size end; mtime = moment; ctime = moment }

-- the size and the times set
abbrev pub SetsSize : (ℕ → Option (List ℕ)) → ChangeList → ChangeList → ℕ → ℕ → ℕ → Written → Type 0
SetsSize shown old new ino end moment written.Done = (IsWithinView shown old → IsWithinView shown new)
    × OnParts shown old ino (λ image tree looks node size parts. AdvancesTo image tree looks old new (with_node tree ino (with_parts (touched moment node) (max size end) parts)))
SetsSize shown old new ino end moment written.NoneLeft = ⊥
SetsSize shown old new ino end moment (written.Need need) = IsNeed shown need × AsksNearFile shown old ino need.first
SetsSize shown old new ino end moment written.NoMemory = Unit {0}

-- the node as the operation leaves it
abbrev pub PutsWhole : (ℕ → Option (List ℕ)) → ChangeList → ChangeList → ℕ → ℕ → List ℕ → ℕ → Written → Type 0
PutsWhole shown old new ino offset bytes moment written.Done = (IsWithinView shown old → IsWithinView shown new)
    × OnParts shown old ino (λ image tree looks node size parts. AdvancesTo image tree looks old new (with_node tree ino (wrote moment offset bytes node)))
PutsWhole shown old new ino offset bytes moment written.NoneLeft = OnParts shown old ino (λ image tree looks node size parts. fitting tree (fin.insert tree.nodes ino (wrote moment offset bytes node)) ≡ Err ENOSPC)
PutsWhole shown old new ino offset bytes moment (written.Need need) = IsNeed shown need × AsksNearFile shown old ino need.first
PutsWhole shown old new ino offset bytes moment written.NoMemory = Unit {0}
