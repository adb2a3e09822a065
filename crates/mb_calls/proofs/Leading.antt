-- What the place of a path leads to is what the path leads to.
use Rattle.std.proofs.Common.{◌≡◌, ℕ, List, [], ◌∷◌, ◌++◌, length, take, get_or, Option, Some, None, Result, Ok, Err, refl, sym, ap, subst, ◌∙◌}
use Rattle.mb_kinds.specs.Image.{Image}
use Rattle.mb_kinds.specs.declared.credentials.Cred.{Cred}
use Rattle.mb_kinds.specs.declared.errors.Errno.TheVariants.{ENOENT}
use Rattle.mb_kinds.specs.declared.replies.Stat.{Stat}
use Rattle.mb_iface.specs.Near.{IsOnWay}
use Rattle.mb_tree.specs.Answers.{Answer, ◌>>=◌, some}
use Rattle.mb_tree.specs.LocalLaws.{IsKnown}
use Rattle.mb_tree.specs.Lookup.{components, find_path, find_place, look, place_under, start_of, stat_in, walk}
use Rattle.mb_tree.specs.Maps.{Numbered}
use Rattle.mb_tree.specs.Trees.{IsDirectoryAt, IsSound, IsThere}
use Rattle.mb_tree.specs.declared.lookups.Placed.{Placed}
use Rattle.mb_tree.specs.declared.lookups.Placed.TheVariants as placed
use Rattle.mb_tree.specs.declared.nodes.Node.{Node}
use Rattle.mb_tree.specs.declared.trees.Tree.{Tree}
use Rattle.mb_tree.proofs.KnownPlaces.{known_place}
use Rattle.mb_calls.specs.Asks.{AsksItself}
use Rattle.mb_calls.specs.Following.{AsksNear, IsLed, led_by}
use Rattle.mb_calls.specs.Halts.{Matches}
use Rattle.mb_calls.specs.declared.halts.Halt.{Halt}
use Rattle.mb_calls.specs.declared.halts.Halt.TheVariants as why
use Rattle.mb_calls.proofs.Nearby.{end_on_way, near_more}
use Rattle.mb_calls.proofs.Walking.{walk_append}

names_split : (first : List ℕ) (rest : List (List ℕ)) → first ∷ rest ≡ take (length rest) (first ∷ rest) ++ (get_or (first ∷ rest) (length rest) [] ∷ [])
names_split first [] = refl
names_split first (second ∷ rest) = ap (λ names. first ∷ names) (names_split second rest)

module _ (nodes : Numbered Node) (cred : Cred) where
  -- what a walk to names comes to is what their place leads to
  under_walked : (start : ℕ) (names : List (List ℕ)) → walk nodes cred start names ≡ (place_under nodes cred start names >>= λ place. some (led_by place) ENOENT)
  under_walked start [] = refl
  under_walked start (first ∷ rest) = ap (walk nodes cred start) (names_split first rest) ∙ walk_append nodes cred start (take (length rest) (first ∷ rest)) (last ∷ []) ∙ go (walk nodes cred start (take (length rest) (first ∷ rest)))
    where
      last : List ℕ
      last = get_or (first ∷ rest) (length rest) []

      looked : (dir : ℕ) (o : Answer (Option ℕ)) → ((o >>= λ found. some found ENOENT) >>= λ next. Ok next) ≡ ((o >>= λ found. Ok (placed.At dir last found)) >>= λ place. some (led_by place) ENOENT)
      looked dir (Err e) = refl
      looked dir (Ok None) = refl
      looked dir (Ok (Some ino)) = refl

      go : (r : Answer ℕ) → (r >>= λ m. walk nodes cred m (last ∷ [])) ≡ ((r >>= λ dir. look nodes cred dir last >>= λ found. Ok (placed.At dir last found)) >>= λ place. some (led_by place) ENOENT)
      go (Err e) = refl
      go (Ok dir) = looked dir (look nodes cred dir last)

  module _ (dir : ℕ) (path : List ℕ) where
    find_by_place : (r : Answer Placed) → find_place nodes cred dir path ≡ r → find_path nodes cred dir path ≡ ((r >>= λ place. some (led_by place) ENOENT) >>= stat_in nodes)
    find_by_place r is = ap (λ (walked : Answer ℕ). walked >>= stat_in nodes) (under_walked (start_of dir path) (components path)) ∙ ap (λ (r : Answer Placed). (r >>= λ place. some (led_by place) ENOENT) >>= stat_in nodes) is

    -- a path whose place is refused is refused so
    pub find_halted : (stop : Halt) → Matches {X = Placed} (Err stop) (find_place nodes cred dir path) → Matches {X = Stat} (Err stop) (find_path nodes cred dir path)
    find_halted (why.Refused e) is = find_by_place (Err e) is
    find_halted (why.Need need) is = tt
    find_halted why.NoMemory is = tt

    -- and so is one whose place leads to nothing
    pub find_missing : (place : Placed) → find_place nodes cred dir path ≡ Ok place → led_by place ≡ None → find_path nodes cred dir path ≡ Err ENOENT
    find_missing place is none = find_by_place (Ok place) is ∙ ap (λ (found : Option ℕ). some found ENOENT >>= stat_in nodes) none

    module _ (ino : ℕ) (led : IsLed nodes cred dir path ino) where
      -- of a path that leads to an inode stat tells what it tells of that
      pub led_says : (result : Result Stat Halt) → Matches result (stat_in nodes ino) → Matches result (find_path nodes cred dir path)
      led_says result told = subst (Matches result) (sym (ap (λ (walked : Answer ℕ). walked >>= stat_in nodes) led.walked)) told

-- and a block of that inode is on the path's way
pub led_near : {X : Type 0} (image : Image) (tree : Tree) (cred : Cred) (dir : ℕ) (path : List ℕ) (ino : ℕ) → IsLed tree.nodes cred dir path ino → (result : Result X Halt) → AsksItself image tree ino result → AsksNear image tree cred dir path result
led_near image tree cred dir path ino led (Ok x) h = tt
led_near image tree cred dir path ino led (Err (why.Need need)) h = near_more image tree (λ passed. passed ≡ ino) (IsOnWay tree.nodes cred (start_of dir path) (components path)) need.first
    (λ passed same. end_on_way tree.nodes cred (start_of dir path) (components path) passed (led.walked ∙ ap Ok (sym same))) h
led_near image tree cred dir path ino led (Err (why.Refused e)) h = tt
led_near image tree cred dir path ino led (Err why.NoMemory) h = tt

-- the place of a path leads to an inode that is there
pub led_place : (tree : Tree) → IsSound tree → (cred : Cred) (dir : ℕ) (path : List ℕ) (place : Placed) (ino : ℕ) → IsDirectoryAt tree.nodes dir → find_place tree.nodes cred dir path ≡ Ok place → led_by place ≡ Some ino → IsLed tree.nodes cred dir path ino
led_place tree sound cred dir path place ino d is leads = record {
  walked = under_walked tree.nodes cred (start_of dir path) (components path) ∙ ap (λ (r : Answer Placed). r >>= λ place. some (led_by place) ENOENT) is ∙ ap (λ (found : Option ℕ). some found ENOENT) leads;
  there = go place leads (known_place tree sound cred dir path place d is);
}
  where
    go : (place : Placed) → led_by place ≡ Some ino → IsKnown tree.nodes place → IsThere tree.nodes ino
    go (placed.Itself start) e known = let same : start ≡ ino = cc in subst (IsThere tree.nodes) same known
    go (placed.At under name (Some found)) e known = let same : found ≡ ino = cc in subst (IsThere tree.nodes) same known.0
    go (placed.At under name None) e known = absurd (let no : None ≡ Some ino = e in cc)
