-- A path followed component after component.
use Rattle.std.proofs.Common.{ℕ, suc, ◌≡◌, ◌+◌, ◌-◌, ◌<◌, Bool, true, false, cond, List, [], ◌∷◌, ◌++◌, length, take, get_or, Option, Some, None, Ok, Err, refl, sym, ap, subst, ◌∙◌, arith, append_assoc}
use Rattle.std.specs.Prelude.{◌==◌, ◌&&◌, bytes_eq, find, slice_index, option_map}
use Rattle.std.specs.FinMap as fin
use Rattle.std.proofs.lemmas.List.{append-nil, length-append}
use Rattle.mb_kinds.specs.Image.{Image}
use Rattle.mb_kinds.specs.declared.credentials.Cred.{Cred}
use Rattle.mb_kinds.specs.declared.errors.Errno.{Errno}
use Rattle.mb_kinds.specs.declared.errors.Errno.TheVariants.{ENOENT, ENOTDIR, EACCES}
use Rattle.std.proofs.lemmas.Option.{same_Some}
use Rattle.mb_tree.specs.Answers.{Answer, ◌>>=◌, need, some}
use Rattle.mb_tree.specs.Inodes.{may, slots_of, stat_of}
use Rattle.mb_tree.specs.declared.nodes.PlainSlot.{PlainSlot}
use Rattle.mb_tree.specs.declared.nodes.Body.{Body}
use Rattle.mb_tree.specs.declared.nodes.Body.TheVariants.{Regular, Directory, Special}
use Rattle.mb_tree.proofs.Always.{bind_ok, then_ok, same_ok}
use Rattle.mb_tree.proofs.Outcomes.{some_ok}
use Rattle.mb_tree.proofs.SlotLists.{found}
use Rattle.mb_tree.specs.Lookup.{components, start_of, slash, look, enter, walk, is_named, is_used, number_of, stat_in, find_path, place_under, find_place}
use Rattle.mb_tree.specs.Maps.{Numbered}
use Rattle.mb_tree.specs.Trees.{IsThere, IsDirectoryAt, IsSound}
use Rattle.mb_tree.specs.Views.{over, IsPart}
use Rattle.mb_tree.specs.Volume.{IsVolume}
use Rattle.mb_tree.specs.declared.lookups.Placed.TheVariants.{At, Itself}
use Rattle.mb_tree.specs.declared.nodes.Node.{Node}
use Rattle.mb_tree.specs.declared.trees.Tree.{Tree}
use Rattle.mb_kinds.specs.Changed.{ChangeList, changed}
use Rattle.mb_iface.specs.Near.{IsOnWay, IsOnWayBefore}
use Rattle.mb_iface.proofs.ChangedBlocks.{over_none}
use Rattle.mb_namei.specs.Lookups.{OnVolume}

-- ---- walks

walk_then : (nodes : Numbered Node) (cred : Cred) (start mid : ℕ) (passed names : List (List ℕ)) → walk nodes cred start passed ≡ Ok mid → walk nodes cred start (passed ++ names) ≡ walk nodes cred mid names
walk_then nodes cred start mid [] names h = ap (λ n. walk nodes cred n names) (same_ok start mid h)
walk_then nodes cred start mid (name ∷ passed) names h =
    let one = bind_ok (enter nodes cred start name) _ mid h in
    ap (λ a. a >>= (λ next. walk nodes cred next (passed ++ names))) one.1 ∙ walk_then nodes cred one.0 mid passed names one.2

walk_one : (nodes : Numbered Node) (cred : Cred) (dir ino : ℕ) (name : List ℕ) → look nodes cred dir name ≡ Ok (Some ino) → (names : List (List ℕ)) → walk nodes cred dir (name ∷ names) ≡ walk nodes cred ino names
walk_one nodes cred dir ino name h names = ap (λ (a : Answer (Option ℕ)). (a >>= (λ found. some found ENOENT)) >>= (λ next. walk nodes cred next names)) h

take_front : (passed names : List (List ℕ)) → take (length passed) (passed ++ names) ≡ passed
take_front [] names = refl
take_front (x ∷ passed) names = ap (λ xs. x ∷ xs) (take_front passed names)

get_front : (passed names : List (List ℕ)) (name : List ℕ) → get_or (passed ++ name ∷ names) (length passed) [] ≡ name
get_front [] names name = refl
get_front (x ∷ passed) names name = get_front passed names name

-- what a component leads to is there
found_there : (tree : Tree) (sound : IsSound tree) (cred : Cred) (dir ino : ℕ) (name : List ℕ) → look tree.nodes cred dir name ≡ Ok (Some ino) → IsThere tree.nodes ino
found_there tree sound cred dir ino name h =
    let one = bind_ok (some (fin.get tree.nodes dir) ENOTDIR) _ (Some ino) h in
    let two = bind_ok (some (slots_of one.0.body) ENOTDIR) _ (Some ino) one.2 in
    let three = then_ok (need (may cred (stat_of dir one.0) 1) EACCES) _ (Some ino) two.2 in
    let is : number_of two.0 name ≡ Some ino = same_ok (number_of two.0 name) (Some ino) three.2 in
    let slot = mapped (find (is_named name) two.0) ino is in
    let at = found (is_named name) two.0 slot.0 slot.1 in
    let body = slots_directory one.0.body two.0 (some_ok (slots_of one.0.body) ENOTDIR two.0 two.1) in
    let used : is_used slot.0 ≡ true = first_and (is_used slot.0) (bytes_eq slot.0.name name) at.3 in
    let leads = (sound.slots dir one.0 two.0 (some_ok (fin.get tree.nodes dir) ENOTDIR one.0 one.1) body).leads at.0 slot.0 (record { has = at.2; used = used }) in
    there_by slot.0 ino slot.2 leads.1
  where
    there_by : (slot : PlainSlot) (n : ℕ) → slot.ino ≡ n → IsThere tree.nodes slot.ino → IsThere tree.nodes n
    there_by slot n e there = subst (IsThere tree.nodes) e there

    mapped : (o : Option PlainSlot) (n : ℕ) → option_map (λ slot. slot.ino) o ≡ Some n → (slot : PlainSlot) × (o ≡ Some slot) × (slot.ino ≡ n)
    mapped None n e = cc
    mapped (Some slot) n e = (slot, refl, same_Some slot.ino n e)

    first_and : (a b : Bool) → (a && b) ≡ true → a ≡ true
    first_and true b e = refl
    first_and false b e = e

    slots_directory : (body : Body) (slots : List PlainSlot) → slots_of body ≡ Some slots → body ≡ Directory slots
    slots_directory (Regular size parts) slots e = cc
    slots_directory (Directory found) slots e = ap Directory (same_Some found slots e)
    slots_directory (Special size area) slots e = cc

-- ---- from the start of a path

-- the components passed lead to an inode, and these are left
pub record IsWalked (tree : Tree) (cred : Cred) (cwd : ℕ) (path : List ℕ) (ino : ℕ) (left : List (List ℕ)) : Type 0 where
  pub passed : List (List ℕ)
  pub names : components path ≡ passed ++ left
  pub here : walk tree.nodes cred (start_of cwd path) passed ≡ Ok ino
  pub there : IsThere tree.nodes ino

start_there : (tree : Tree) (sound : IsSound tree) (cwd : ℕ) (path : List ℕ) → IsDirectoryAt tree.nodes cwd → IsThere tree.nodes (start_of cwd path)
start_there tree sound cwd path is = elim (slice_index path 0 == slash) as (λ b. IsThere tree.nodes (cond b 2 cwd)) [
  | true ↦ record { node = sound.root.node; has = sound.root.has }
  | false ↦ record { node = is.node; has = is.has }
]

module _ (tree : Tree) (sound : IsSound tree) (cred : Cred) (cwd : ℕ) (path : List ℕ) where
  pub walked_none : IsDirectoryAt tree.nodes cwd → IsWalked tree cred cwd path (start_of cwd path) (components path)
  walked_none is = record { passed = []; names = refl; here = refl; there = start_there tree sound cwd path is }

  module _ (dir : ℕ) (name : List ℕ) (left : List (List ℕ)) (was : IsWalked tree cred cwd path dir (name ∷ left)) where
    pub walked_next : (ino : ℕ) → look tree.nodes cred dir name ≡ Ok (Some ino) → IsWalked tree cred cwd path ino left
    walked_next ino h = record {
      passed = was.passed ++ name ∷ [];
      names = was.names ∙ sym (append_assoc was.passed (name ∷ []) left);
      here = walk_then tree.nodes cred (start_of cwd path) dir was.passed (name ∷ []) was.here ∙ walk_one tree.nodes cred dir ino name h [];
      there = found_there tree sound cred dir ino name h;
    }

    pub walk_refused : (e : Errno) → enter tree.nodes cred dir name ≡ Err e → walk tree.nodes cred (start_of cwd path) (components path) ≡ Err e
    walk_refused e h = ap (walk tree.nodes cred (start_of cwd path)) was.names ∙ walk_then tree.nodes cred (start_of cwd path) dir was.passed (name ∷ left) was.here ∙ ap (λ a. a >>= (λ next. walk tree.nodes cred next left)) h

    pub enter_missing : look tree.nodes cred dir name ≡ Ok None → enter tree.nodes cred dir name ≡ Err ENOENT
    enter_missing h = ap (λ (a : Answer (Option ℕ)). a >>= (λ found. some found ENOENT)) h

    pub enter_refused : (e : Errno) → look tree.nodes cred dir name ≡ Err e → enter tree.nodes cred dir name ≡ Err e
    enter_refused e h = ap (λ (a : Answer (Option ℕ)). a >>= (λ found. some found ENOENT)) h

    pub on_way : IsOnWay tree.nodes cred (start_of cwd path) (components path) dir
    on_way = (
      length was.passed,
      (let n = ap length was.names ∙ length-append was.passed (name ∷ left) in omega (arith, n)),
      ap (walk tree.nodes cred (start_of cwd path)) (ap (take (length was.passed)) was.names ∙ take_front was.passed (name ∷ left)) ∙ was.here,
    )

    pub on_way_before : IsOnWayBefore tree.nodes cred (start_of cwd path) (components path) dir
    on_way_before = (
      length was.passed,
      (let n = ap length was.names ∙ length-append was.passed (name ∷ left) in omega (arith, n)),
      ap (walk tree.nodes cred (start_of cwd path)) (ap (take (length was.passed)) was.names ∙ take_front was.passed (name ∷ left)) ∙ was.here,
    )

  -- all components passed
  module _ (ino : ℕ) (was : IsWalked tree cred cwd path ino []) where
    walk_ends : walk tree.nodes cred (start_of cwd path) (components path) ≡ Ok ino
    walk_ends = ap (walk tree.nodes cred (start_of cwd path)) (was.names ∙ append-nil was.passed) ∙ was.here

    pub find_ends : find_path tree.nodes cred cwd path ≡ stat_in tree.nodes ino
    find_ends = ap (λ a. a >>= (λ n. stat_in tree.nodes n)) walk_ends

  pub find_refused : (e : Errno) → walk tree.nodes cred (start_of cwd path) (components path) ≡ Err e → find_path tree.nodes cred cwd path ≡ Err e
  find_refused e h = ap (λ a. a >>= (λ n. stat_in tree.nodes n)) h

  -- ---- places

  pub place_itself : components path ≡ [] → find_place tree.nodes cred cwd path ≡ Ok (Itself (start_of cwd path))
  place_itself none = ap (place_under tree.nodes cred (start_of cwd path)) none

  -- the place of at least one component
  placed : (names : List (List ℕ)) → 0 < length names → place_under tree.nodes cred (start_of cwd path) names
      ≡ (walk tree.nodes cred (start_of cwd path) (take (length names - 1) names) >>= (λ dir. look tree.nodes cred dir (get_or names (length names - 1) []) >>= (λ found. Ok (At dir (get_or names (length names - 1) []) found))))
  placed [] some = absurd (omega (arith, some))
  placed (name ∷ names) some =
      ap (λ n. walk tree.nodes cred (start_of cwd path) (take n (name ∷ names)) >>= (λ dir. look tree.nodes cred dir (get_or (name ∷ names) n []) >>= (λ found. Ok (At dir (get_or (name ∷ names) n []) found))))
      (let e : length names ≡ suc (length names) - 1 = omega arith in e)

  module _ (dir : ℕ) (name : List ℕ) (left : List (List ℕ)) (was : IsWalked tree cred cwd path dir (name ∷ left)) where
    -- an error before the last component
    pub place_refused : (e : Errno) → 0 < length left → enter tree.nodes cred dir name ≡ Err e → find_place tree.nodes cred cwd path ≡ Err e
    place_refused e more h =
        let n : length (components path) ≡ length was.passed + suc (length left) = ap length was.names ∙ length-append was.passed (name ∷ left) in
        let t : take (length (components path) - 1) (components path) ≡ was.passed ++ name ∷ take (length left - 1) left =
        ap (take (length (components path) - 1)) was.names ∙ ap (λ m. take m (was.passed ++ name ∷ left)) (let m : length (components path) - 1 ≡ length was.passed + suc (length left - 1) = omega (arith, n, more) in m) ∙ take_past was.passed (name ∷ left) (suc (length left - 1)) in
        placed (components path) (omega (arith, n))
        ∙ ap (λ (a : Answer ℕ). a >>= (λ d. look tree.nodes cred d (get_or (components path) (length (components path) - 1) []) >>= (λ found. Ok (At d (get_or (components path) (length (components path) - 1) []) found))))
        (ap (walk tree.nodes cred (start_of cwd path)) t ∙ walk_then tree.nodes cred (start_of cwd path) dir was.passed (name ∷ take (length left - 1) left) was.here ∙ ap (λ a. a >>= (λ next. walk tree.nodes cred next (take (length left - 1) left))) h)
      where
        take_past : (xs ys : List (List ℕ)) (m : ℕ) → take (length xs + m) (xs ++ ys) ≡ xs ++ take m ys
        take_past [] ys m = ap (λ n. take n ys) (let e : 0 + m ≡ m = omega arith in e)
        take_past (x ∷ xs) ys m = ap (λ n. take n (x ∷ xs ++ ys)) (let e : suc (length xs) + m ≡ suc (length xs + m) = omega arith in e) ∙ ap (λ zs. x ∷ zs) (take_past xs ys m)

    -- the last component
    pub place_last : left ≡ [] → find_place tree.nodes cred cwd path ≡ (look tree.nodes cred dir name >>= (λ found. Ok (At dir name found)))
    place_last none =
        let names : components path ≡ was.passed ++ name ∷ [] = was.names ∙ ap (λ xs. was.passed ++ name ∷ xs) none in
        let n : length (components path) ≡ length was.passed + 1 = ap length names ∙ length-append was.passed (name ∷ []) in
        let m : length (components path) - 1 ≡ length was.passed = omega (arith, n) in
        let w : walk tree.nodes cred (start_of cwd path) (take (length (components path) - 1) (components path)) ≡ Ok dir =
        ap (walk tree.nodes cred (start_of cwd path)) (ap (λ k. take k (components path)) m ∙ ap (take (length was.passed)) names ∙ take_front was.passed (name ∷ [])) ∙ was.here in
        let g : get_or (components path) (length (components path) - 1) [] ≡ name = ap (λ k. get_or (components path) k []) m ∙ ap (λ xs. get_or xs (length was.passed) []) names ∙ get_front was.passed [] name in
        placed (components path) (omega (arith, n))
        ∙ ap (λ (a : Answer ℕ). a >>= (λ d. look tree.nodes cred d (get_or (components path) (length (components path) - 1) []) >>= (λ found. Ok (At d (get_or (components path) (length (components path) - 1) []) found)))) w
        ∙ ap (λ x. look tree.nodes cred dir x >>= (λ found. Ok (At dir x found))) g

-- ---- a view without changes

pub as_it_is : (shown : ℕ → Option (List ℕ)) (changes : ChangeList) (ino : ℕ) (says : Image → Tree → Type 0) → changes ≡ [] → OnVolume shown changes ino says
    → (image : Image) (tree : Tree) → IsPart shown image.at → IsVolume image tree → IsThere tree.nodes ino → says image tree
as_it_is shown changes ino says none holds image tree part volume there =
    let e : over image.at (changed changes) ≡ image.at = ap (λ xs. over image.at (changed xs)) none ∙ over_none image.at in
    subst (λ f. says (record { count = image.count; at = f }) tree) e
    (holds image.count image.at tree part (subst (λ f. IsVolume (record { count = image.count; at = f }) tree) (sym e) volume) there)
