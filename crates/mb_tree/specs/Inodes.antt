-- What an inode's fields say (V7 filsys(5), stat(2)), and the bytes of its content.
use Rattle.std.specs.Prelude.{List, [], ◌∷◌, ℕ, zero, suc, ◌+◌, ◌-◌, ◌*◌, ◌/◌, ◌%◌, Bool, ◌||◌, ◌==◌, if◌then◌else◌, min, length, bit_and, Option, Some, None, option_map, unwrap_or, slice_get, slice_index}
use Rattle.std.specs.FinMap as fin
use Rattle.mb_kinds.specs.declared.credentials.Cred.{Cred}
use Rattle.mb_kinds.specs.declared.replies.Stat.{Stat}
use Rattle.mb_kinds.specs.Image.{zeros}
use Rattle.mb_tree.specs.Maps.{Numbered}
use Rattle.mb_tree.specs.declared.nodes.PlainSlot.{PlainSlot}
use Rattle.mb_tree.specs.declared.nodes.Node.{Node}
use Rattle.mb_tree.specs.declared.nodes.Body.{Body}
use Rattle.mb_tree.specs.declared.nodes.Body.TheVariants.{Regular, Directory, Special}

-- the kind bits of a mode, 0170000 in octal
abbrev pub kind_of : ℕ → ℕ
kind_of mode = bit_and mode 0xF000

-- 0040000 in octal
abbrev pub is_directory : ℕ → Bool
is_directory mode = kind_of mode == 0x4000

-- 0100000 in octal
abbrev pub is_regular : ℕ → Bool
is_regular mode = kind_of mode == 0x8000

-- 0020000 and 0060000 in octal
abbrev pub is_special : ℕ → Bool
is_special mode = kind_of mode == 0x2000 || kind_of mode == 0x6000

-- a directory's size is 16 bytes for each slot, empty ones among them; a size has 32 bits
abbrev pub body_size : Body → ℕ
body_size (Regular size parts) = size
body_size (Directory slots) = min (16 * length slots) 0xFFFFFFFF
body_size (Special size area) = size

abbrev pub slots_of : Body → Option (List PlainSlot)
slots_of (Regular size parts) = None
slots_of (Directory slots) = Some slots
slots_of (Special size area) = None

-- what stat tells of an inode
abbrev pub stat_of : ℕ → Node → Stat
stat_of ino node = record {
  ino = ino;
  mode = node.mode;
  nlink = node.nlink;
  uid = node.uid;
  gid = node.gid;
  size = body_size node.body;
  atime = node.atime;
  mtime = node.mtime;
  ctime = node.ctime;
}

-- the three permission bits that count for the caller: the owner's, else the group's, else the others'
abbrev pub bits_for : Cred → Stat → ℕ
bits_for cred stat =
    if cred.uid == stat.uid then stat.mode / 64 % 8
    else if cred.gid == stat.gid then stat.mode / 8 % 8
    else stat.mode % 8

-- whether the caller has all the wanted bits (4 read, 2 write, 1 search); uid 0 passes
abbrev pub may : Cred → Stat → ℕ → Bool
may cred stat wanted = cred.uid == 0 || bit_and (bits_for cred stat) wanted == wanted

-- a missing part reads as zeros
abbrev pub part_at : Numbered (List ℕ) → ℕ → List ℕ
part_at parts part = unwrap_or (fin.get parts part) zeros

-- dir(5): the number, low byte first, and then the name
abbrev pub plain_slot_bytes : PlainSlot → List ℕ
plain_slot_bytes slot = slot.ino % 256 ∷ slot.ino / 256 ∷ slot.name

-- the byte at an index: a directory's bytes are those of its slots
abbrev pub byte_at : Body → ℕ → ℕ
byte_at (Regular size parts) index = slice_index (part_at parts (index / 512)) (index % 512)
byte_at (Directory slots) index = unwrap_or (option_map (λ slot. slice_index (plain_slot_bytes slot) (index % 16)) (slice_get slots (index / 16))) 0
byte_at (Special size area) index = 0

-- count bytes from an index on
unfoldable pub bytes_from : Body → ℕ → ℕ → List ℕ
bytes_from body index zero = []
bytes_from body index (suc count) = byte_at body index ∷ bytes_from body (index + 1) count

-- what a read of count bytes at an offset gets: none at or past the size
abbrev pub read_at : Body → ℕ → ℕ → List ℕ
read_at body offset count = bytes_from body offset (min count (body_size body - offset))
