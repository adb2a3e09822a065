-- What comes of a `run`, from what comes of its job; the ranges of a `soak`'s numbers.
use Rattle.std.proofs.Common.{Bool, true, false, cond, nat_le, List, [], ◌∷◌, ℕ, ◌≤◌, ◌≡◌, Option, None, Some, refl, ap, sym, subst, ◌∙◌}
use Rattle.std.specs.Prelude.{◌&&◌, bytes_eq, codes}
use Rattle.std.proofs.lemmas.Bool.{and_parts, leb-true}
use Rattle.mb_commands.specs.Words.{check_of, command_of, is_image_name, is_threaded, mkfs_of, mkfs_with, number_in, run_of, soak_of, soak_with, threads_of}
use Rattle.mb_commands.specs.declared.commands.Command.{Command}
use Rattle.mb_commands.specs.declared.commands.Command.TheVariants.{Check, Mkfs, Run, Soak}
use Rattle.mb_kinds.specs.Image.{Image}
use Rattle.mb_program.proofs.Runs.{nobody}
use Rattle.mb_program.specs.Outcomes.{ComesOfCommand, ComesOfRunWords, IsJobRun, OfBytes, reads_job}
use Rattle.mb_program.specs.declared.finish.Held.{Held}
use Rattle.mb_program.specs.declared.manners.Manner.{Manner}
use Rattle.mb_program.specs.declared.manners.Manner.TheVariants as manners
use Rattle.mb_program.specs.declared.outcomes.Outcome.{Outcome}
use Rattle.mb_program.specs.declared.outcomes.Outcome.TheVariants.{WordsRefused, InputFault, JobRefused, DiskFault, OutOfMemory, Made, Checked, Unsound, Unsettled, GivenUp, Ran}

pub of_job : {D : Type 0} (told : D → Option Image) (faults : D → ℕ) (manner : Manner) (left now : Option (List ℕ)) (disk : D) (given : Held D) (outcome : Outcome)
    → OfBytes left now (λ bytes. IsJobRun told faults manner bytes disk given outcome) → ComesOfRunWords told faults manner left now disk given outcome
of_job told faults manner left now disk given WordsRefused is = absurd (nobody given is.fact.over.1)
of_job told faults manner left now disk given InputFault is = absurd (nobody given is.fact.over.1)
of_job told faults manner left now disk given (JobRefused line) is = absurd (nobody given is.fact.over.1)
of_job told faults manner left now disk given DiskFault is = is
of_job told faults manner left now disk given OutOfMemory is = is.fact.over
of_job told faults manner left now disk given (Made line) is = absurd (nobody given is.fact.over.1)
of_job told faults manner left now disk given (Checked line) is = absurd (nobody given is.fact.over.1)
of_job told faults manner left now disk given (Unsound line) is = is
of_job told faults manner left now disk given (Unsettled text) is = is
of_job told faults manner left now disk given (GivenUp text) is = is
of_job told faults manner left now disk given (Ran text) is = is

no_threads : false ≡ true → ⊥
no_threads asked = cc

-- a command that asks for threads reads a job
pub threads_read : (command : Option Command) → is_threaded command ≡ true → reads_job command ≡ false → ⊥
threads_read None asked unread = no_threads asked
threads_read (Some (Mkfs blocks inodes)) asked unread = no_threads asked
threads_read (Some Check) asked unread = no_threads asked
threads_read (Some (Run threads)) asked unread = no_threads (sym unread)
threads_read (Some (Soak number calls faulty)) asked unread = no_threads asked

-- words that ask for threads are a `run`
pub of_threads : {D : Type 0} (told : D → Option Image) (faults : D → ℕ) (command : Option Command) (left now : Option (List ℕ)) (disk : D) (given : Held D) (outcome : Outcome)
    → is_threaded command ≡ true → ComesOfRunWords told faults manners.Threads left now disk given outcome → ComesOfCommand told faults command left now disk given outcome
of_threads told faults None left now disk given outcome asked is = absurd (no_threads asked)
of_threads told faults (Some (Mkfs blocks inodes)) left now disk given outcome asked is = absurd (no_threads asked)
of_threads told faults (Some Check) left now disk given outcome asked is = absurd (no_threads asked)
of_threads told faults (Some (Run true)) left now disk given outcome asked is = is
of_threads told faults (Some (Run false)) left now disk given outcome asked is = absurd (no_threads asked)
of_threads told faults (Some (Soak number calls faulty)) left now disk given outcome asked is = absurd (no_threads asked)

-- ---- soaks

-- the numbers of a `soak` are in their ranges
abbrev pub IsInRange : Option Command → Type 0
IsInRange (Some (Soak number calls faulty)) = (1 ≤ calls) × (calls ≤ 32768) × (faulty ≤ 255)
IsInRange _ = Unit {0}

either_range : (b : Bool) (one other : Option Command) → IsInRange one → IsInRange other → IsInRange (cond b one other)
either_range true one other first second = first
either_range false one other first second = second

within : (number calls faulty : ℕ) (b : Bool) → nat_le 1 calls && (nat_le calls 32768 && nat_le faulty 255) ≡ b → IsInRange (cond b (Some (Soak number calls faulty)) None)
within number calls faulty true holds =
    let parts = and_parts (nat_le 1 calls) (nat_le calls 32768 && nat_le faulty 255) holds in
    let more = and_parts (nat_le calls 32768) (nat_le faulty 255) parts.1 in
    (leb-true 1 calls parts.0, leb-true calls 32768 more.0, leb-true faulty 255 more.1)
within number calls faulty false holds = tt

soak_with_range : (number calls faulty : Option ℕ) → IsInRange (soak_with number calls faulty)
soak_with_range (Some number) (Some calls) (Some faulty) = within number calls faulty _ refl
soak_with_range (Some number) (Some calls) None = tt
soak_with_range (Some number) None faulty = tt
soak_with_range None calls faulty = tt

mkfs_with_range : (blocks inodes : Option ℕ) → IsInRange (mkfs_with blocks inodes)
mkfs_with_range (Some blocks) (Some inodes) = tt
mkfs_with_range (Some blocks) None = tt
mkfs_with_range None inodes = tt

mkfs_range : (words : List (List ℕ)) → IsInRange (mkfs_of words)
mkfs_range [] = tt
mkfs_range (image ∷ []) = tt
mkfs_range (image ∷ blocks ∷ []) = tt
mkfs_range (image ∷ blocks ∷ inodes ∷ []) = either_range (is_image_name image) (mkfs_with (number_in blocks) (number_in inodes)) None (mkfs_with_range (number_in blocks) (number_in inodes)) tt
mkfs_range (image ∷ blocks ∷ inodes ∷ one ∷ more) = tt

check_range : (words : List (List ℕ)) → IsInRange (check_of words)
check_range [] = tt
check_range (image ∷ []) = either_range (is_image_name image) (Some Check) None tt tt
check_range (image ∷ one ∷ more) = tt

threads_range : (one other : List ℕ) → IsInRange (threads_of one other)
threads_range one other =
    either_range (is_image_name one && bytes_eq other (codes "--threads")) (Some (Run true)) _ tt
    (either_range (bytes_eq one (codes "--threads") && is_image_name other) (Some (Run true)) None tt tt)

run_range : (words : List (List ℕ)) → IsInRange (run_of words)
run_range [] = tt
run_range (image ∷ []) = either_range (is_image_name image) (Some (Run false)) None tt tt
run_range (one ∷ other ∷ []) = threads_range one other
run_range (one ∷ other ∷ third ∷ more) = tt

soak_range : (words : List (List ℕ)) → IsInRange (soak_of words)
soak_range [] = tt
soak_range (image ∷ []) = tt
soak_range (image ∷ number ∷ []) = tt
soak_range (image ∷ number ∷ calls ∷ []) = tt
soak_range (image ∷ number ∷ calls ∷ faulty ∷ []) =
    either_range (is_image_name image) (soak_with (number_in number) (number_in calls) (number_in faulty)) None (soak_with_range (number_in number) (number_in calls) (number_in faulty)) tt
soak_range (image ∷ number ∷ calls ∷ faulty ∷ one ∷ more) = tt

pub command_range : (words : List (List ℕ)) → IsInRange (command_of words)
command_range [] = tt
command_range (verb ∷ words) =
    either_range (bytes_eq verb (codes "mkfs")) (mkfs_of words) _ (mkfs_range words) (
    either_range (bytes_eq verb (codes "check")) (check_of words) _ (check_range words) (
    either_range (bytes_eq verb (codes "run")) (run_of words) _ (run_range words) (
    either_range (bytes_eq verb (codes "soak")) (soak_of words) None (soak_range words) tt)))

-- the numbers of the `soak` that was found
pub soak_numbers : (number calls faulty : ℕ) (words : List (List ℕ)) (found : Option Command) (command : Command) → found ≡ command_of words → found ≡ Some command → command ≡ Soak number calls faulty
    → (1 ≤ calls) × (calls ≤ 32768) × (faulty ≤ 255)
soak_numbers number calls faulty words found command same is soak = subst IsInRange (sym same ∙ is ∙ ap Some soak) (command_range words)
