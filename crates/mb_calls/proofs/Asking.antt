-- What a file system answers is what the model finds, and a row that goes on from a place.
use Rattle.std.proofs.Common.{Bool, ℕ, List, Option, Some, None, ◌≡◌, Result, Ok, Err, refl, ap, sym, ◌∙◌, subst, inl, inr, true, false, not, option_map, unwrap_or}
use Rattle.std.specs.FinMap as fin
use Rattle.mb_tree.specs.Answers.{Answer, ◌>>=◌, ◌>>◌, need, some}
use Rattle.mb_kinds.specs.declared.errors.Errno.{Errno}
use Rattle.mb_kinds.specs.declared.errors.Errno.TheVariants.{ENOENT, EBADF, EPERM}
use Rattle.mb_kinds.specs.declared.replies.Stat.{Stat}
use Rattle.mb_iface.specs.Asking.{place_answer}
use Rattle.mb_iface.specs.declared.replies.Answer.{Answer as Found}
use Rattle.mb_iface.specs.declared.replies.Answer.TheVariants as answer
use Rattle.mb_tree.specs.Inodes.{is_directory, read_at, body_size, stat_of}
use Rattle.mb_tree.specs.Lookup.{stat_in, used_in}
use Rattle.mb_tree.specs.Rows.{link_at, link_found, got, rmdir_at, size_in}
use Rattle.mb_tree.specs.declared.plans.CallPlan.{CallPlan}
use Rattle.mb_tree.specs.Maps.{Numbered}
use Rattle.mb_tree.specs.Trees.{IsDirectoryAt, IsSound, IsThere}
use Rattle.mb_tree.proofs.InodeKinds.{is_directory_at, stat_ok}
use Rattle.mb_tree.specs.Fits.{IsOpenable}
use Rattle.mb_tree.specs.Machines.{IsSeated}
use Rattle.mb_tree.specs.Sessions.{file_on}
use Rattle.mb_tree.proofs.CountsFollow.{on_place}
use Rattle.mb_tree.specs.declared.nodes.Node.{Node}
use Rattle.mb_tree.specs.declared.seats.Seat.{Seat}
use Rattle.mb_tree.specs.declared.seats.PlainFile.{PlainFile}
use Rattle.mb_tree.specs.declared.lookups.Placed.{Placed}
use Rattle.mb_tree.specs.declared.lookups.Placed.TheVariants as placed
use Rattle.mb_tree.specs.declared.trees.Tree.{Tree}
use Rattle.mb_calls.specs.Spots.{AreTold, MatchesPlace, SpotTold, used_by, SpotNeeds, placed_of}
use Rattle.mb_calls.specs.Continuing.{busy_by, ContinuesLink, ContinuesRemoval, ContinuesSpot, ContinuesThree, CountMap, bytes_in}
use Rattle.mb_calls.specs.Halts.{Matches, Needs, Scope, HaltMatches}
use Rattle.mb_tree.specs.Rows.{read_found, rmdir_found}
use Rattle.mb_calls.specs.declared.halts.Halt.{Halt}
use Rattle.mb_calls.specs.declared.halts.Halt.TheVariants as why
use Rattle.mb_calls.specs.declared.spots.Spot.{Spot}
use Rattle.mb_calls.specs.declared.spots.Spot.TheVariants as spot

pub found_stat : (r : Answer Stat) (stat : Stat) → (r >>= (λ s. Ok (answer.Node s))) ≡ Ok (answer.Node stat) → r ≡ Ok stat
found_stat (Ok s) stat is = let same : s ≡ stat = cc in ap Ok same
found_stat (Err e) stat is = cc

pub refused_any : {X : Type 0} (r : Answer X) (f : X → Found) (e : Errno) → (r >>= (λ s. Ok (f s))) ≡ Err e → r ≡ Err e
refused_any (Ok s) f e is = cc
refused_any (Err x) f e is = let same : x ≡ e = cc in ap Err same

itself_is : (p : Placed) (ino : ℕ) → place_answer p ≡ answer.Itself ino → p ≡ placed.Itself ino
itself_is (placed.Itself other) ino is = let same : other ≡ ino = cc in ap placed.Itself same
itself_is (placed.At dir name found) ino is = cc

at_is : (p : Placed) (dir : ℕ) (name : List ℕ) (ino : Option ℕ) → place_answer p ≡ answer.Place dir name ino → p ≡ placed.At dir name ino
at_is (placed.Itself other) dir name ino is = cc
at_is (placed.At d n found) dir name ino is = let a : d ≡ dir = cc in let b : n ≡ name = cc in let c : found ≡ ino = cc in rw (a, b, c) refl

pub found_itself : (r : Answer Placed) (ino : ℕ) → (r >>= (λ p. Ok (place_answer p))) ≡ Ok (answer.Itself ino) → r ≡ Ok (placed.Itself ino)
found_itself (Ok p) ino is = let same : place_answer p ≡ answer.Itself ino = cc in ap Ok (itself_is p ino same)
found_itself (Err e) ino is = cc

pub found_at : (r : Answer Placed) (dir : ℕ) (name : List ℕ) (ino : Option ℕ) → (r >>= (λ p. Ok (place_answer p))) ≡ Ok (answer.Place dir name ino) → r ≡ Ok (placed.At dir name ino)
found_at (Ok p) dir name ino is = let same : place_answer p ≡ answer.Place dir name ino = cc in ap Ok (at_is p dir name ino same)
found_at (Err e) dir name ino is = cc

there_of : (nodes : Numbered Node) (ino : ℕ) → IsOpenable nodes ino → IsThere nodes ino
there_of nodes ino (inl file) = record { node = file.node; has = file.has }
there_of nodes ino (inr directory) = record { node = directory.node; has = directory.has }

pub openable_there : (nodes : Numbered Node) (ino : ℕ) → IsOpenable nodes ino → IsThere nodes ino
openable_there nodes ino h = there_of nodes ino h

pub found_bytes : (o : Option Node) (offset count : ℕ) (bytes : List ℕ) → (some o ENOENT >>= (λ (node : Node). Ok (answer.Bytes (read_at node.body offset count)))) ≡ Ok (answer.Bytes bytes)
    → (some o EBADF >>= (λ (node : Node). Ok (read_at node.body offset count))) ≡ Ok bytes
found_bytes (Some node) offset count bytes is = let same : read_at node.body offset count ≡ bytes = cc in ap Ok same
found_bytes None offset count bytes is = cc

pub refused_bytes : (nodes : Numbered Node) (ino offset count : ℕ) (e : Errno) → IsOpenable nodes ino → (some (fin.get nodes ino) ENOENT >>= (λ (node : Node). Ok (answer.Bytes (read_at node.body offset count)))) ≡ Err e → ⊥
refused_bytes nodes ino offset count e opened is = let there = openable_there nodes ino opened in
    let at : Ok (answer.Bytes (read_at there.node.body offset count)) ≡ Err e = ap (λ (o : Option Node). some o ENOENT >>= (λ (node : Node). Ok (answer.Bytes (read_at node.body offset count)))) (sym there.has) ∙ is in cc

pub found_used : (n count : ℕ) → ◌≡◌ {A = Answer Found} (Ok (answer.Used n)) (Ok (answer.Used count)) → ◌≡◌ {A = Answer ℕ} (Ok n) (Ok count)
found_used n count is = let same : n ≡ count = cc in ap Ok same

pub refused_used : (n : ℕ) (e : Errno) → ◌≡◌ {A = Answer Found} (Ok (answer.Used n)) (Err e) → ⊥
refused_used n e is = cc

-- the size that stat tells
pub size_told : (nodes : Numbered Node) (ino : ℕ) (stat : Stat) → stat_in nodes ino ≡ Ok stat → size_in nodes ino ≡ stat.size
size_told nodes ino stat h = let at = stat_ok nodes ino stat h in ap (λ o. unwrap_or (option_map (λ (node : Node). body_size node.body) o) 0) at.1 ∙ sym (ap (λ (s : Stat). s.size) at.2)

pub stat_there : (nodes : Numbered Node) (ino : ℕ) (stop : Halt) → IsThere nodes ino → HaltMatches stop (stat_in nodes ino) → (row : Answer ℕ) → HaltMatches stop row
stat_there nodes ino (why.Refused e) there h row = let no : Ok (stat_of ino there.node) ≡ Err e = ap (λ (o : Option Node). some o ENOENT >>= (λ (node : Node). Ok (stat_of ino node))) (sym there.has) ∙ h in cc
stat_there nodes ino (why.Need need) there h row = tt
stat_there nodes ino why.NoMemory there h row = tt

-- a row that goes on from a place that was found
pub follows_spot : {Y : Type 0} (asked : Result Spot Halt) (spot : Spot) (result : Result Y Halt) (rest : Numbered Node → Placed → Answer Y) → asked ≡ Ok spot
    → ((nodes : Numbered Node) → AreTold nodes spot → Matches result (rest nodes (placed_of spot))) → ((scope : Scope) → SpotNeeds scope spot → Needs scope result) → ContinuesSpot asked result rest
follows_spot asked spot result rest is gives need = subst (λ a. ContinuesSpot a result rest) (sym is) (record {
  gives = λ nodes place told. subst (λ (p : Answer Placed). Matches result (p >>= rest nodes)) (sym told.is) (gives nodes told.told);
  need = need;
})

-- a name that leads to a directory
pub told_directory : (tree : Tree) (place : Spot) (dir : ℕ) (name : List ℕ) (ino : ℕ) (told parent : Result Stat Halt) (stat : Stat) → IsSound tree
    → place ≡ spot.Present dir name ino told parent → told ≡ Ok stat → is_directory stat.mode ≡ true → AreTold tree.nodes place
    → IsDirectoryAt tree.nodes ino × (used_by tree.nodes place ≡ used_in tree.nodes ino)
told_directory tree place dir name ino told parent stat sound is found directory tells =
    let both = subst (AreTold tree.nodes) is tells in
    (is_directory_at tree sound ino stat (subst (λ (t : Result Stat Halt). Matches t (stat_in tree.nodes ino)) found both.0) directory, ap (used_by tree.nodes) is)

-- link(2): the second path is looked at where the first leads to no directory
pub linked : (seat : Seat) (moment : ℕ) (asked : Result Stat Halt) (spot : Result Spot Halt) (result : Result CallPlan Halt) (stat : Stat) → asked ≡ Ok stat
    → is_directory stat.mode ≡ false → ContinuesSpot spot result (λ nodes. link_at nodes seat moment stat.ino) → ContinuesLink seat moment asked spot result
linked seat moment asked spot result stat is file follows = record {
  gives = λ r nodes place told found.
      let at : r ≡ Ok stat = subst (λ a. Matches a r) is told in
      subst (λ (r : Answer Stat). Matches result (r >>= link_found nodes seat moment place)) (sym at)
      (subst (λ b. Matches result (need (not b) EPERM >> (place >>= link_at nodes seat moment stat.ino))) (sym file) (follows.gives nodes place found));
  need = λ scope first second. follows.need scope second;
}

-- rmdir(1): whether a directory is busy is the same for all sessions that the call cannot tell apart
pub removal_named : (opens : CountMap) (given : List Seat) (seat : Seat) (moment dir : ℕ) (name : List ℕ) (ino : ℕ) (busy : Bool) (stat parent : Result Stat Halt) (asked : Result Spot Halt) (used : Result ℕ Halt) (result : Result CallPlan Halt)
    → asked ≡ Ok (spot.Present dir name ino stat parent) → busy ≡ busy_by opens given ino → ContinuesThree stat parent used result (rmdir_found seat moment dir name busy)
    → ContinuesRemoval opens given seat moment asked used result
removal_named opens given seat moment dir name ino busy stat parent asked used result is sees follows = subst (λ a. ContinuesRemoval opens given seat moment a used result) (sym is) (record {
  gives = λ nodes seats place alike told few.
      subst (λ (p : Answer Placed). Matches result (p >>= rmdir_at nodes seats seat moment)) (sym told.is)
      (subst (λ b. Matches result (stat_in nodes ino >>= rmdir_found seat moment dir name b (stat_in nodes dir) (Ok (used_in nodes ino)))) (sees ∙ alike ino)
      (follows.gives (stat_in nodes ino) (stat_in nodes dir) (Ok (used_in nodes ino)) told.told.0 told.told.1 few));
  need = λ scope wants more. follows.need scope wants.0 wants.1 more;
})

pub opened : (nodes : Numbered Node) (seat : Seat) (fd : ℕ) (file : PlainFile) → IsSeated nodes seat → file_on seat fd ≡ Some file → IsOpenable nodes file.ino
opened nodes seat fd file seated h = let at = on_place seat fd file h in (seated.files at.0 file at.2).openable

pub told_of : (nodes : Numbered Node) (place : Answer Placed) (asked : Result Spot Halt) → MatchesPlace asked nodes place → SpotTold nodes asked
told_of nodes place (Ok spot) told = told.told
told_of nodes place (Err why) told = tt

-- read(2) of an inode that is there
pub read_gives : (result : Result CallPlan Halt) (nodes : Numbered Node) (fd count : ℕ) (file : PlainFile) → Matches result (bytes_in nodes file count >>= read_found fd file)
    → Matches result (some (fin.get nodes file.ino) EBADF >>= (λ (node : Node). Ok (got fd file.offset (read_at node.body file.offset count))))
read_gives result nodes fd count file h = subst (Matches result) (alike (fin.get nodes file.ino)) h
  where
    alike : (o : Option Node) → ((some o EBADF >>= (λ (node : Node). Ok (read_at node.body file.offset count))) >>= read_found fd file) ≡ (some o EBADF >>= (λ (node : Node). Ok (got fd file.offset (read_at node.body file.offset count))))
    alike (Some node) = refl
    alike None = refl
