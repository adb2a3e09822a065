-- What an answer to a query says on a volume: the reference tree's answer.
use Rattle.std.specs.Prelude.{◌≡◌, Ok, Err}
use Rattle.std.specs.FinMap as fin
use Rattle.mb_kinds.specs.Image.{Image}
use Rattle.mb_kinds.specs.declared.errors.Errno.TheVariants.{ENOENT}
use Rattle.mb_tree.specs.Answers as reference
use Rattle.mb_tree.specs.Answers.{◌>>=◌, ◌>>◌, some}
use Rattle.mb_tree.specs.Fits.{IsOpenable}
use Rattle.mb_tree.specs.Inodes.{read_at}
use Rattle.mb_tree.specs.Lookup.{find_path, find_place, stat_in, used_in}
use Rattle.mb_tree.specs.Trees.{IsThere, IsDirectoryAt}
use Rattle.mb_tree.specs.declared.lookups.Placed.{Placed}
use Rattle.mb_tree.specs.declared.lookups.Placed.TheVariants as placed
use Rattle.mb_tree.specs.declared.trees.Tree.{Tree}
use Rattle.mb_iface.specs.declared.queries.Query.{Query}
use Rattle.mb_iface.specs.declared.queries.Query.TheVariants as query
use Rattle.mb_iface.specs.declared.replies.Answer.{Answer}
use Rattle.mb_iface.specs.declared.replies.Answer.TheVariants as answer
use Rattle.mb_iface.specs.declared.replies.Asked.{Asked}
use Rattle.mb_iface.specs.declared.replies.Asked.TheVariants as asked
use Rattle.mb_iface.specs.Near.{IsNear, IsPassed}

-- a query of which an answer is promised: a look-up starts in a directory, stat is asked of an inode in
-- use, bytes of a regular file or a directory, and used slots of a directory
abbrev pub IsAskable : Tree → Query → Type 0
IsAskable tree (query.Find cwd cred path) = IsDirectoryAt tree.nodes cwd
IsAskable tree (query.Place cwd cred path) = IsDirectoryAt tree.nodes cwd
IsAskable tree (query.Info ino) = IsThere tree.nodes ino
IsAskable tree (query.Bytes ino offset count) = IsOpenable tree.nodes ino
IsAskable tree (query.Used ino) = IsDirectoryAt tree.nodes ino

abbrev pub place_answer : Placed → Answer
place_answer (placed.Itself ino) = answer.Itself ino
place_answer (placed.At dir name ino) = answer.Place dir name ino

-- the reference tree's answer
abbrev pub answer_of : Tree → Query → reference.Answer Answer
answer_of tree (query.Find cwd cred path) = do
  stat ← find_path tree.nodes cred cwd path
  Ok (answer.Node stat)
answer_of tree (query.Place cwd cred path) = do
  place ← find_place tree.nodes cred cwd path
  Ok (place_answer place)
answer_of tree (query.Info ino) = do
  stat ← stat_in tree.nodes ino
  Ok (answer.Node stat)
answer_of tree (query.Bytes ino offset count) = do
  node ← some (fin.get tree.nodes ino) ENOENT
  Ok (answer.Bytes (read_at node.body offset count))
answer_of tree (query.Used ino) = Ok (answer.Used (used_in tree.nodes ino))

-- a file system's answer on a volume of the tree; of a query that is not one of those nothing is promised
abbrev pub Finds : Image → Tree → Query → Asked → Type 0
Finds image tree query (asked.Found answer) = IsAskable tree query → answer_of tree query ≡ Ok answer
Finds image tree query (asked.Refused e) = IsAskable tree query → answer_of tree query ≡ Err e
Finds image tree query (asked.Need need) = IsAskable tree query → IsNear image tree (IsPassed tree query) need.first
Finds image tree query asked.NoMemory = Unit {0}
