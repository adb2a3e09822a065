-- A slot added behind those of a directory.
use Rattle.std.specs.Prelude.{List, ℕ, ◌+◌, Option}
use Rattle.mb_layout.specs.declared.dinodes.Dinode.{Dinode}
use Rattle.mb_kinds.specs.Changed.{ChangeList}
use Rattle.mb_dirs.specs.Entering.{EntersName}
use Rattle.mb_dirs.specs.declared.enters.Entered.{Entered}
use Rattle.mb_dirs.specs.declared.enters.Gap.TheVariants as gap

-- a directory's inode with one slot more
abbrev pub longer_inode : Dinode → ℕ → ℕ → Dinode
longer_inode d links moment = record d { nlink = links; size = d.size + 16; mtime = moment; ctime = moment }

-- a name entered behind all slots
abbrev pub EntersBehind : (ℕ → Option (List ℕ)) → ChangeList → ChangeList → ℕ → ℕ → ℕ → List ℕ → ℕ → Entered → Type 0
EntersBehind shown old new dir links moment name ino result = EntersName shown old new dir links moment gap.End name ino result
