-- The inodes at which a query or an operation of a call looks are those of the call.
use Rattle.std.proofs.Common.{◌≡◌, ◌⊎◌, inl, inr, ℕ, zero, suc, ◌<◌, List, [], ◌∷◌, length, take, get_or, Option, Some, None, Result, Ok, Err, refl, sym, ap, subst, ◌∙◌, arith}
use Rattle.std.proofs.lemmas.List.{take_all}
use Rattle.std.specs.Prelude.{slice_get, slice_index_or}
use Rattle.std.specs.List.{Contains}
use Rattle.mb_kinds.specs.Image.{Image}
use Rattle.mb_kinds.specs.declared.calls.Call.{Call}
use Rattle.mb_kinds.specs.declared.credentials.Cred.{Cred}
use Rattle.mb_kinds.specs.declared.errors.Errno.TheVariants.{ENOENT}
use Rattle.mb_kinds.specs.declared.replies.Stat.{Stat}
use Rattle.mb_iface.specs.Asking.{Finds, IsAskable}
use Rattle.mb_iface.specs.Near.{IsNear, IsOnWay, IsPassed, top_of}
use Rattle.mb_iface.specs.Near.IsNear.{super_block, inode_list, free, held as held_by}
use Rattle.mb_iface.specs.declared.queries.Query.{Query}
use Rattle.mb_iface.specs.declared.replies.Asked.TheVariants as asked
use Rattle.mb_iface.specs.declared.replies.Need.{Need}
use Rattle.mb_tree.specs.Answers.{Answer, ◌>>=◌, need, some}
use Rattle.mb_tree.specs.Lookup.{components, enter, find_path, find_place, look, place_under, start_of, walk}
use Rattle.mb_tree.specs.Maps.{Numbered}
use Rattle.mb_tree.specs.Sessions.{file_on}
use Rattle.mb_tree.specs.declared.lookups.Placed.{Placed}
use Rattle.mb_tree.specs.declared.lookups.Placed.TheVariants as placed
use Rattle.mb_tree.specs.declared.nodes.Node.{Node}
use Rattle.mb_tree.specs.declared.seats.PlainFile.{PlainFile}
use Rattle.mb_tree.specs.declared.seats.Seat.{Seat}
use Rattle.mb_tree.specs.declared.trees.Tree.{Tree}
use Rattle.mb_tree.proofs.Always.{bind_ok, same_ok}
use Rattle.mb_tree.proofs.InodeKinds.{path_ok}
use Rattle.mb_calls.specs.Spots.{IsBeside, SpotBeside, MatchesPlace}
use Rattle.mb_calls.specs.Looked.{IsLooked, paths_of}
use Rattle.mb_calls.specs.Looked.IsLooked.{passed, held}
use Rattle.mb_calls.specs.declared.spots.Spot.{Spot}
use Rattle.mb_calls.specs.declared.halts.Halt.{Halt}

-- what a file system says of a block that it asks for, where the query can be asked of the tree
pub near_asked : (image : Image) (tree : Tree) (query : Query) (need : Need) → Finds image tree query (asked.Need need) → IsAskable tree query → IsNear image tree (IsPassed tree query) need.first
near_asked image tree query need h askable = h askable

pub near_more : (image : Image) (tree : Tree) (L M : ℕ → Type 0) (block : ℕ) → ((ino : ℕ) → L ino → M ino) → IsNear image tree L block → IsNear image tree M block
near_more image tree L M block more (super_block is) = super_block is
near_more image tree L M block more (inode_list above below) = inode_list above below
near_more image tree L M block more (free chain is has) = free chain is has
near_more image tree L M block more (held_by q place looks is) = held_by q place (more (top_of q) looks) is

-- ---- the ends of a path are on its way

walk_last : (nodes : Numbered Node) (cred : Cred) (start : ℕ) (first : List ℕ) (rest : List (List ℕ)) (dir ino : ℕ) → walk nodes cred start (take (length rest) (first ∷ rest)) ≡ Ok dir
    → enter nodes cred dir (get_or (first ∷ rest) (length rest) []) ≡ Ok ino → walk nodes cred start (first ∷ rest) ≡ Ok ino
walk_last nodes cred start first [] dir ino h e =
    let is : start ≡ dir = same_ok start dir h in
    ap (λ (r : Answer ℕ). r >>= (λ next. walk nodes cred next [])) (ap (λ d. enter nodes cred d first) is ∙ e)
walk_last nodes cred start first (second ∷ rest) dir ino h e =
    let one = bind_ok (enter nodes cred start first) _ dir h in
    ap (λ (r : Answer ℕ). r >>= (λ next. walk nodes cred next (second ∷ rest))) one.1 ∙ walk_last nodes cred one.0 second rest dir ino one.2 e

pub end_on_way : (nodes : Numbered Node) (cred : Cred) (start : ℕ) (names : List (List ℕ)) (ino : ℕ) → walk nodes cred start names ≡ Ok ino → IsOnWay nodes cred start names ino
end_on_way nodes cred start names ino h = (length names, omega arith, ap (walk nodes cred start) (take_all (length names) names (omega arith)) ∙ h)

found_on_way : (nodes : Numbered Node) (cred : Cred) (cwd : ℕ) (path : List ℕ) (stat : Stat) → find_path nodes cred cwd path ≡ Ok stat → IsOnWay nodes cred (start_of cwd path) (components path) stat.ino
found_on_way nodes cred cwd path stat h = end_on_way nodes cred (start_of cwd path) (components path) stat.ino (path_ok nodes cred cwd path stat h).0

pub before_is : (nodes : Numbered Node) (cred : Cred) (start : ℕ) (names : List (List ℕ)) (ino : ℕ) → (passed : ℕ) × (passed < length names) × (walk nodes cred start (take passed names) ≡ Ok ino) → IsOnWay nodes cred start names ino
before_is nodes cred start names ino h = (h.0, omega (arith, h.1), h.2)

pub only : {X : Type 0} (x y : X) → Contains (x ∷ []) y → x ≡ y
only x y h = let z : h.0 ≡ 0 = omega (arith, h.1) in subst (λ k. slice_index_or (x ∷ []) k y ≡ y) z h.2

pub either : {X : Type 0} (x y z : X) → Contains (x ∷ y ∷ []) z → (x ≡ z) ⊎ (y ≡ z)
either x y z (zero, low, is) = inl is
either x y z (suc zero, low, is) = inr is
either x y z (suc (suc k), low, is) = absurd (omega (arith, low))

pub first_of : {X : Type 0} (x : X) (xs : List X) → Contains (x ∷ xs) x
first_of x xs = (0, omega arith, refl)

pub second_of : {X : Type 0} (x y : X) (xs : List X) → Contains (x ∷ y ∷ xs) y
second_of x y xs = (1, omega arith, refl)

pub has_first : (paths : List (List ℕ)) (path : List ℕ) → slice_get paths 0 ≡ Some path → Contains paths path
has_first [] path is = cc
has_first (one ∷ more) path is = let same : one ≡ path = let e : Some one ≡ Some path = is in cc in subst (Contains (one ∷ more)) same (first_of one more)

module _ (nodes : Numbered Node) (seat : Seat) (made : Call) where
  module _ (path : List ℕ) (has : Contains (paths_of made) path) where
    under_beside : (names : List (List ℕ)) → names ≡ components path → (p : Placed) → place_under nodes seat.cred (start_of seat.cwd path) names ≡ Ok p → IsBeside nodes seat made p
    under_beside [] is p h = subst (IsBeside nodes seat made) (same_ok (placed.Itself (start_of seat.cwd path)) p h)
        (passed path has (0, omega arith, refl))
    under_beside (first ∷ rest) is p h =
        let last = get_or (first ∷ rest) (length rest) [] in
        let one = bind_ok (walk nodes seat.cred (start_of seat.cwd path) (take (length rest) (first ∷ rest))) _ p h in
        let two = bind_ok (look nodes seat.cred one.0 last) _ p one.2 in
        subst (IsBeside nodes seat made) (same_ok (placed.At one.0 last two.0) p two.2) (go one.0 one.1 two.0 two.1)
      where
        on_way : (ino : ℕ) → IsOnWay nodes seat.cred (start_of seat.cwd path) (first ∷ rest) ino → IsLooked nodes seat made ino
        on_way ino h = passed path has (subst (λ names. IsOnWay nodes seat.cred (start_of seat.cwd path) names ino) is h)

        go : (dir : ℕ) → walk nodes seat.cred (start_of seat.cwd path) (take (length rest) (first ∷ rest)) ≡ Ok dir
            → (found : Option ℕ) → look nodes seat.cred dir (get_or (first ∷ rest) (length rest) []) ≡ Ok found → IsBeside nodes seat made (placed.At dir (get_or (first ∷ rest) (length rest) []) found)
        go dir walked None looked = on_way dir (length rest, omega arith, walked)
        go dir walked (Some ino) looked = (
          on_way ino (end_on_way nodes seat.cred (start_of seat.cwd path) (first ∷ rest) ino (walk_last nodes seat.cred (start_of seat.cwd path) first rest dir ino walked (ap (λ (r : Answer (Option ℕ)). r >>= (λ found. some found ENOENT)) looked))),
          on_way dir (length rest, omega arith, walked),
        )

    pub place_beside : (p : Placed) → find_place nodes seat.cred seat.cwd path ≡ Ok p → IsBeside nodes seat made p
    place_beside p h = under_beside (components path) refl p h

    pub spot_beside : (spot : Result Spot Halt) → MatchesPlace spot nodes (find_place nodes seat.cred seat.cwd path) → SpotBeside nodes seat made spot
    spot_beside (Ok spot) told = place_beside _ told.is
    spot_beside (Err why) told = tt

    pub find_looked : (stat : Stat) → find_path nodes seat.cred seat.cwd path ≡ Ok stat → IsLooked nodes seat made stat.ino
    find_looked stat h = passed path has (found_on_way nodes seat.cred seat.cwd path stat h)

  pub named_looked : (named : ℕ) → IsLooked nodes seat made named → (ino : ℕ) → ino ≡ named → IsLooked nodes seat made ino
  named_looked named h ino is = subst (IsLooked nodes seat made) (sym is) h

  pub file_looked : (fd : ℕ) (file : PlainFile) → file_on seat fd ≡ Some file → IsLooked nodes seat made file.ino
  file_looked fd file h = held fd file h refl
