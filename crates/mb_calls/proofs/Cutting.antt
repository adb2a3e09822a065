-- A walk one component further.
use Rattle.std.proofs.Common.{◌≡◌, ◌≢◌, ℕ, suc, ◌+◌, ◌-◌, ◌<◌, true, List, ◌∷◌, ◌++◌, length, get_or, Option, Some, None, Result, Ok, Err, sym, ap, subst, ◌∙◌, arith}
use Rattle.std.proofs.lemmas.List.{drop-drop, get_or-drop, length-drop, length-take, take-append-drop}
use Rattle.std.proofs.Math.Seq.{drop-cons}
use Rattle.std.specs.Prelude.{drop, slice_index, IfSome}
use Rattle.std.specs.List.{Contains}
use Rattle.mb_kinds.specs.Image.{Image}
use Rattle.mb_kinds.specs.declared.calls.Call.{Call}
use Rattle.mb_kinds.specs.declared.replies.Stat.{Stat}
use Rattle.mb_iface.specs.Near.{IsNear, IsOnWay}
use Rattle.mb_iface.specs.declared.replies.Need.{Need}
use Rattle.mb_tree.specs.Inodes.{is_directory}
use Rattle.mb_tree.specs.Lookup.{components, find_path, find_place, slash, start_of}
use Rattle.mb_tree.specs.declared.lookups.Placed.{Placed}
use Rattle.mb_tree.specs.declared.seats.Seat.{Seat}
use Rattle.mb_tree.specs.declared.trees.Tree.{Tree}
use Rattle.mb_calls.specs.Following.{AsksNear, IsAhead, IsCut, IsGoing, IsKept, IsPlaceOf, LacksForCall, LacksOnWay, piece_of}
use Rattle.mb_calls.specs.Halts.{Matches, IsViewOf, Needs}
use Rattle.mb_calls.specs.Following.{ViewGrows}
use Rattle.mb_calls.specs.Looked.{IsFirst, IsLooked, paths_of}
use Rattle.mb_calls.specs.Looked.IsLooked.{passed}
use Rattle.mb_calls.specs.Halts.Scope.{around}
use Rattle.mb_calls.specs.declared.halts.Halt.{Halt}
use Rattle.mb_calls.specs.declared.halts.Halt.TheVariants as why
use Rattle.mb_calls.specs.declared.walks.Ahead.{Ahead}
use Rattle.mb_calls.specs.declared.walks.PathWalk.{PathWalk}
use Rattle.mb_calls.specs.declared.resuming.Performing.{Performing}
use Rattle.mb_calls.proofs.Nearby.{has_first, near_more}
use Rattle.mb_calls.proofs.Walking.{place_followed, way_followed, way_head, followed_on, grown_part}

module _ (path : List ℕ) (from next : ℕ) (cut : IsCut path from next) where
  cut_is : drop from path ≡ piece_of path from next ++ slash ∷ drop next path
  cut_is =
      let low = cut.some in
      let high = cut.within in
      let far : from + (next - 1 - from) ≡ next - 1 = omega arith in
      let on : suc (next - 1) ≡ next = omega arith in
      let within : next - 1 < length path = omega arith in
      sym (take-append-drop (next - 1 - from) (drop from path))
      ∙ ap (λ rest. piece_of path from next ++ rest) (drop-drop (next - 1 - from) from path ∙ ap (λ n. drop n path) far ∙ drop-cons path (next - 1) 0 within
      ∙ ap (λ x. x ∷ drop (suc (next - 1)) path) cut.ends ∙ ap (λ n. slash ∷ drop n path) on)

  head_some : 0 < length (piece_of path from next)
  head_some =
      let low = cut.some in
      let high = cut.within in
      omega (arith, length-take (next - 1 - from) (drop from path), length-drop from path)

  tail_some : 0 < length (drop next path)
  tail_some = let high = cut.within in omega (arith, length-drop next path)

  tail_other : slice_index (drop next path) 0 ≢ slash
  tail_other e = let zero_more : next + 0 ≡ next = omega arith in cut.begins (sym (get_or-drop next path 0 0 ∙ ap (λ n. get_or path n 0) zero_more) ∙ e)

module _ (shown : ℕ → Option (List ℕ)) (seat : Seat) (path : List ℕ) (walk : PathWalk) (next : ℕ) (head : List ℕ) (kept : IsKept shown seat path walk) (cut : IsCut path walk.from next) (is : head ≡ piece_of path walk.from next) where
  cut_with : drop walk.from path ≡ head ++ slash ∷ drop next path
  cut_with = cut_is path walk.from next cut ∙ ap (λ h. h ++ slash ∷ drop next path) (sym is)

  some_with : 0 < length head
  some_with = subst (λ h. 0 < length h) (sym is) (head_some path walk.from next cut)

  pub kept_on : (stat : Stat) → is_directory stat.mode ≡ true → ((image : Image) (tree : Tree) → IsViewOf shown seat image tree → find_path tree.nodes seat.cred walk.dir head ≡ Ok stat)
      → IsKept shown seat path (record { dir = stat.ino; from = next; ahead = None; end = None })
  kept_on stat d found = record {
    ahead = tt;
    place = tt;
    within = let high = cut.within in omega arith;
    followed = λ image tree over. followed_on tree over.volume.sound seat.cred seat.cwd path walk.dir (drop walk.from path) head (drop next path) (kept.followed image tree over) cut_with some_with
        (tail_some path walk.from next cut) (tail_other path walk.from next cut) stat (found image tree over) d;
  }

  -- a block on the way of the component is on the way of the path
  pub head_near : (image : Image) (tree : Tree) → IsViewOf shown seat image tree → (block : ℕ) → IsNear image tree (IsOnWay tree.nodes seat.cred (start_of walk.dir head) (components head)) block
      → IsNear image tree (IsOnWay tree.nodes seat.cred (start_of seat.cwd path) (components path)) block
  head_near image tree over block h = near_more image tree (IsOnWay tree.nodes seat.cred (start_of walk.dir head) (components head)) (IsOnWay tree.nodes seat.cred (start_of seat.cwd path) (components path)) block
      (way_head tree over.volume.sound seat.cred seat.cwd path walk.dir (drop walk.from path) head (drop next path) (kept.followed image tree over) cut_with some_with
      (tail_some path walk.from next cut) (tail_other path walk.from next cut)) h

-- what the rest of a walk finds is what the path finds
module _ (shown : ℕ → Option (List ℕ)) (seat : Seat) (path : List ℕ) (walk : PathWalk) (rest : List ℕ) (kept : IsKept shown seat path walk) (is : rest ≡ drop walk.from path) (image : Image) (tree : Tree) (over : IsViewOf shown seat image tree) where
  pub rest_place : (result : Result Placed Halt) → Matches result (find_place tree.nodes seat.cred walk.dir rest) → Matches result (find_place tree.nodes seat.cred seat.cwd path)
  rest_place result h = subst (Matches result) (sym (place_followed tree.nodes seat.cred seat.cwd path walk.dir (drop walk.from path) (kept.followed image tree over) ∙ ap (find_place tree.nodes seat.cred walk.dir) (sym is))) h

  pub rest_near : {X : Type 0} (result : Result X Halt) → AsksNear image tree seat.cred walk.dir rest result → AsksNear image tree seat.cred seat.cwd path result
  rest_near (Ok x) h = tt
  rest_near (Err (why.Need need)) h = near_more image tree (IsOnWay tree.nodes seat.cred (start_of walk.dir rest) (components rest)) (IsOnWay tree.nodes seat.cred (start_of seat.cwd path) (components path)) need.first
      (λ ino on. way_followed tree.nodes seat.cred seat.cwd path walk.dir (drop walk.from path) (kept.followed image tree over) ino (subst (λ r. IsOnWay tree.nodes seat.cred (start_of walk.dir r) (components r) ino) is on)) h
  rest_near (Err (why.Refused e)) h = tt
  rest_near (Err why.NoMemory) h = tt

-- a block on the way of a path of the call is one of the call's
pub asked_near : {X : Type 0} (image : Image) (tree : Tree) (seat : Seat) (made : Call) (path : List ℕ) (result : Result X Halt) → Contains (paths_of made) path → AsksNear image tree seat.cred seat.cwd path result
    → Needs (around image tree seat made) result
asked_near image tree seat made path (Ok x) has h = tt
asked_near image tree seat made path (Err (why.Need need)) has h = near_more image tree (IsOnWay tree.nodes seat.cred (start_of seat.cwd path) (components path)) (IsLooked tree.nodes seat made) need.first (λ ino on. passed path has on) h
asked_near image tree seat made path (Err (why.Refused e)) has h = tt
asked_near image tree seat made path (Err why.NoMemory) has h = tt

-- and so are the blocks that are lacking for the first path of the call
lacking_first : (shown : ℕ → Option (List ℕ)) (seat : Seat) (made : Call) (path : List ℕ) (need : Need) → IsFirst made path → LacksOnWay shown seat path need → LacksForCall shown seat made need
lacking_first shown seat made path need is lacks = record {
  lacking = lacks.lacking;
  near = λ image tree over. near_more image tree (IsOnWay tree.nodes seat.cred (start_of seat.cwd path) (components path)) (IsLooked tree.nodes seat made) need.first
      (λ ino on. passed path (has_first (paths_of made) path is) on) (lacks.near image tree over);
}

pub lacking_so : (shown : ℕ → Option (List ℕ)) (seat : Seat) (made : Call) (path : List ℕ) (need : Option Need) → IsFirst made path → IfSome need (LacksOnWay shown seat path) → IfSome need (LacksForCall shown seat made)
lacking_so shown seat made path None is lacks = tt
lacking_so shown seat made path (Some need) is lacks = lacking_first shown seat made path need is lacks

-- a place that was found stays that of the path as long as the view only grows
place_grows : (shown later : ℕ → Option (List ℕ)) (seat : Seat) (path : List ℕ) (end : Option Placed) → ViewGrows shown later → IfSome end (IsPlaceOf shown seat path) → IfSome end (IsPlaceOf later seat path)
place_grows shown later seat path None grows is = tt
place_grows shown later seat path (Some placed) grows is = λ image tree over. is image tree (record { part = grown_part shown later image.at grows over.part; volume = over.volume; seated = over.seated })

-- so does what is ahead
ahead_grows : (shown later : ℕ → Option (List ℕ)) (seat : Seat) (path : List ℕ) (dir from : ℕ) (ahead : Option Ahead) → ViewGrows shown later → IfSome ahead (IsAhead shown seat path dir from) → IfSome ahead (IsAhead later seat path dir from)
ahead_grows shown later seat path dir from None grows is = tt
ahead_grows shown later seat path dir from (Some ahead) grows is = record {
  cut = is.cut;
  led = λ image tree over. is.led image tree (record { part = grown_part shown later image.at grows over.part; volume = over.volume; seated = over.seated });
}

-- and so does a walk
pub kept_grows : (shown later : ℕ → Option (List ℕ)) (seat : Seat) (path : List ℕ) (walk : PathWalk) → ViewGrows shown later → IsKept shown seat path walk → IsKept later seat path walk
kept_grows shown later seat path walk grows kept = record {
  within = kept.within;
  followed = λ image tree over. kept.followed image tree (record { part = grown_part shown later image.at grows over.part; volume = over.volume; seated = over.seated });
  ahead = ahead_grows shown later seat path walk.dir walk.from walk.ahead grows kept.ahead;
  place = place_grows shown later seat path walk.end grows kept.place;
}

-- two values of one option are the same
pub same_path : (o : Option (List ℕ)) (path other : List ℕ) → o ≡ Some path → o ≡ Some other → path ≡ other
same_path o path other h e = let is : Some path ≡ Some other = sym h ∙ e in cc

-- a plan that is kept does not look at the view
pub going_grows : (shown later : ℕ → Option (List ℕ)) (seat : Seat) (made : Call) (on : Performing) → ViewGrows shown later → IsGoing shown seat made on → IsGoing later seat made on
going_grows shown later seat made on grows going = record {
  walks = record {
    first = λ path is. kept_grows shown later seat path on.walks.first grows (going.walks.first path is);
    second = λ path is. kept_grows shown later seat path on.walks.second grows (going.walks.second path is);
  };
  kept = going.kept;
}
