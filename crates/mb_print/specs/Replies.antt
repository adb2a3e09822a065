-- The printed text of a reply.
use Rattle.std.specs.Prelude.{List, [], ◌∷◌, ◌++◌, ℕ, ◌+◌, ◌/◌, ◌%◌, length, codes, decimal}
use Rattle.hex.specs.Hex.{encode_lower}
use Rattle.mb_kinds.specs.ErrorNames.{error_name}
use Rattle.mb_kinds.specs.declared.replies.Reply.{Reply}
use Rattle.mb_kinds.specs.declared.replies.Reply.TheVariants.{Num, Got, Info, Refused, Restart, Device, Failed}
use Rattle.mb_kinds.specs.declared.replies.Stat.{Stat}

-- a mode in octal, six digits
abbrev pub octal : ℕ → List ℕ
octal mode =
    (48 + mode / 32768 % 8) ∷ (48 + mode / 4096 % 8) ∷ (48 + mode / 512 % 8) ∷ (48 + mode / 64 % 8)
    ∷ (48 + mode / 8 % 8) ∷ (48 + mode % 8) ∷ []

-- the bytes of a read: how many, and where there are any their hex digits
abbrev pub got_text : List ℕ → List ℕ
got_text [] = codes "0"
got_text (byte ∷ more) = decimal (length (byte ∷ more)) ++ codes " " ++ encode_lower (byte ∷ more)

-- the fields of an inode: its number and mode, who holds it, its size and times
abbrev pub mode_text : Stat → List ℕ
mode_text stat = codes "ino " ++ decimal stat.ino ++ codes " mode " ++ octal stat.mode

abbrev pub owner_text : Stat → List ℕ
owner_text stat = codes " nlink " ++ decimal stat.nlink ++ codes " uid " ++ decimal stat.uid ++ codes " gid " ++ decimal stat.gid

abbrev pub size_text : Stat → List ℕ
size_text stat =
    codes " size " ++ decimal stat.size ++ codes " atime " ++ decimal stat.atime
    ++ codes " mtime " ++ decimal stat.mtime ++ codes " ctime " ++ decimal stat.ctime

abbrev pub info_text : Stat → List ℕ
info_text stat = mode_text stat ++ owner_text stat ++ size_text stat

abbrev pub reply_text : Reply → List ℕ
reply_text (Num number) = decimal number
reply_text (Got bytes) = got_text bytes
reply_text (Info stat) = info_text stat
reply_text (Refused error) = error_name error
reply_text (Restart first second) = codes "EIO restart " ++ decimal first ++ codes " " ++ decimal second
reply_text Device = codes "EIO device"
reply_text (Failed faults) = codes "FAILED " ++ decimal faults
