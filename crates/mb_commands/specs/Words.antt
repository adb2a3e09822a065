-- Which lists of words are commands (this project's choice).
use Rattle.std.specs.Prelude.{ℕ, ◌+◌, ◌-◌, ◌*◌, ◌&&◌, Bool, true, false, not, nat_eq, nat_le, nat_lt, bytes_eq, codes, if◌then◌else◌, List, [], ◌∷◌, Option, Some, None}
use Rattle.mb_commands.specs.declared.commands.Command.{Command}
use Rattle.mb_commands.specs.declared.commands.Command.TheVariants.{Mkfs, Check, Run, Soak}

-- the name of an image is not empty and does not begin with `-`
abbrev pub is_image_name : List ℕ → Bool
is_image_name [] = false
is_image_name (first ∷ rest) = not (nat_eq first 45)

-- the digits read on from a value, as long as it is at most 4,294,967,295; the digit 0 is the byte 48
abbrev pub digits_on : ℕ → List ℕ → Option ℕ
digits_on value [] = Some value
digits_on value (digit ∷ more) =
    if nat_le 48 digit && (nat_lt digit 58 && nat_lt (10 * value + (digit - 48)) 4294967296) then digits_on (10 * value + (digit - 48)) more
    else None

-- a `0` stands alone
abbrev pub zero_before : List ℕ → Option ℕ
zero_before [] = Some 0
zero_before (digit ∷ more) = None

-- a number: `0`, or decimal digits without a leading 0, at most 4,294,967,295
abbrev pub number_in : List ℕ → Option ℕ
number_in [] = None
number_in (digit ∷ more) = if nat_eq digit 48 then zero_before more else digits_on 0 (digit ∷ more)

abbrev pub mkfs_with : Option ℕ → Option ℕ → Option Command
mkfs_with (Some blocks) (Some inodes) = Some (Mkfs blocks inodes)
mkfs_with _ _ = None

-- `mkfs IMAGE BLOCKS INODES`
abbrev pub mkfs_of : List (List ℕ) → Option Command
mkfs_of (image ∷ blocks ∷ inodes ∷ []) = if is_image_name image then mkfs_with (number_in blocks) (number_in inodes) else None
mkfs_of words = None

-- `check IMAGE`
abbrev pub check_of : List (List ℕ) → Option Command
check_of (image ∷ []) = if is_image_name image then Some Check else None
check_of words = None

-- `run IMAGE`, `run IMAGE --threads`, `run --threads IMAGE`
abbrev pub threads_of : List ℕ → List ℕ → Option Command
threads_of one other =
    if is_image_name one && bytes_eq other (codes "--threads") then Some (Run true)
    else if bytes_eq one (codes "--threads") && is_image_name other then Some (Run true)
    else None

abbrev pub run_of : List (List ℕ) → Option Command
run_of (image ∷ []) = if is_image_name image then Some (Run false) else None
run_of (one ∷ other ∷ []) = threads_of one other
run_of words = None

-- 1 to 32768 generated calls, and at most 255 faults
abbrev pub soak_with : Option ℕ → Option ℕ → Option ℕ → Option Command
soak_with (Some number) (Some calls) (Some faults) = if nat_le 1 calls && (nat_le calls 32768 && nat_le faults 255) then Some (Soak number calls faults) else None
soak_with _ _ _ = None

-- `soak IMAGE NUMBER CALLS FAULTS`
abbrev pub soak_of : List (List ℕ) → Option Command
soak_of (image ∷ number ∷ calls ∷ faults ∷ []) = if is_image_name image then soak_with (number_in number) (number_in calls) (number_in faults) else None
soak_of words = None

-- the command that the words are
abbrev pub command_of : List (List ℕ) → Option Command
command_of [] = None
command_of (verb ∷ words) =
    if bytes_eq verb (codes "mkfs") then mkfs_of words
    else if bytes_eq verb (codes "check") then check_of words
    else if bytes_eq verb (codes "run") then run_of words
    else if bytes_eq verb (codes "soak") then soak_of words
    else None

-- a `run` whose callers have a thread each
abbrev pub is_threaded : Option Command → Bool
is_threaded (Some (Run threads)) = threads
is_threaded command = false

-- the second word, or the third where the second is `--threads`: of a command its image
abbrev pub image_in : List (List ℕ) → List ℕ
image_in (verb ∷ image ∷ []) = image
image_in (verb ∷ image ∷ other ∷ words) = if bytes_eq image (codes "--threads") then other else image
image_in words = []
