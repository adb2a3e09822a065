-- The answers to the queries on a volume.
use Rattle.std.proofs.Common.{ℕ, ◌≡◌, ◌<◌, List, [], ◌∷◌, length, Option, Some, None, Ok, Err, option_map, unwrap_or, refl, sym, ap, subst, ◌∙◌, arith}
use Rattle.std.specs.Prelude.{count_by, option_and_then}
use Rattle.mb_kinds.specs.Image.{Image}
use Rattle.mb_kinds.specs.declared.credentials.Cred.{Cred}
use Rattle.mb_kinds.specs.declared.errors.Errno.{Errno}
use Rattle.mb_kinds.specs.declared.errors.Errno.TheVariants.{ENOENT}
use Rattle.mb_kinds.specs.declared.replies.Stat.{Stat}
use Rattle.mb_word.specs.Fields.{inode_block}
use Rattle.mb_layout.specs.declared.dinodes.Dinode.{Dinode}
use Rattle.mb_tree.specs.Answers as reference
use Rattle.mb_tree.specs.Answers.{◌>>=◌}
use Rattle.mb_tree.specs.Inodes.{slots_of}
use Rattle.mb_tree.specs.Lookup.{components, start_of, look, slots_in, is_used}
use Rattle.mb_tree.specs.Trees.{IsDirectoryAt}
use Rattle.mb_tree.specs.Views.{over, IsPart}
use Rattle.mb_tree.specs.Volume.{IsVolume}
use Rattle.mb_tree.specs.declared.lookups.Placed.{Placed}
use Rattle.mb_tree.specs.declared.lookups.Placed.TheVariants as placed
use Rattle.mb_tree.specs.declared.nodes.Node.{Node}
use Rattle.mb_tree.specs.declared.nodes.PlainSlot.{PlainSlot}
use Rattle.mb_tree.specs.declared.trees.Tree.{Tree}
use Rattle.mb_iface.specs.Asking.{Finds, place_answer}
use Rattle.mb_kinds.specs.Changed.{ChangeList, changed}
use Rattle.mb_iface.specs.Near.{IsNear, IsPassed}
use Rattle.mb_iface.proofs.ChangedBlocks.{over_none}
use Rattle.mb_iface.specs.Near.IsNear.{super_block, inode_list, free, held}
use Rattle.mb_iface.specs.declared.queries.Query.{Query}
use Rattle.mb_iface.specs.declared.queries.Query.TheVariants as query
use Rattle.mb_iface.specs.declared.replies.Need.{Need}
use Rattle.mb_iface.specs.declared.replies.Answer.TheVariants as answer
use Rattle.mb_iface.specs.declared.replies.Asked.{Asked}
use Rattle.mb_iface.specs.declared.replies.Asked.TheVariants as asked
use Rattle.mb_namei.specs.Directories.{IsBlockOf, IsDirectoryOn}
use Rattle.mb_namei.specs.Inodes.{inode_in, stat_by}
use Rattle.mb_namei.specs.Lookups.{OnVolume}
use Rattle.mb_namei.specs.Searching.{OnDirectory}
use Rattle.mb_namei.proofs.Looking.{stat_found}
use Rattle.mb_namei.proofs.Stepping as stepping
use Rattle.mb_namei.proofs.Stepping.{IsWalked, as_it_is}
use Rattle.mb_namei.proofs.TreeDirectories.{near_inode, near_block, holds_addresses, directory_on}

near_more : (image : Image) (tree : Tree) (P Q : ℕ → Type 0) (block : ℕ) → ((ino : ℕ) → P ino → Q ino) → IsNear image tree P block → IsNear image tree Q block
near_more image tree P Q block more (super_block e) = super_block e
near_more image tree P Q block more (inode_list low high) = inode_list low high
near_more image tree P Q block more (free chain listed among) = free chain listed among
near_more image tree P Q block more (held q is looks leads) = held q is (more _ looks) leads

near_one : (image : Image) (tree : Tree) (Q : ℕ → Type 0) (dir block : ℕ) → Q dir → IsNear image tree (λ ino. ino ≡ dir) block → IsNear image tree Q block
near_one image tree Q dir block looks near = near_more image tree (λ ino. ino ≡ dir) Q block (λ ino e. subst Q (sym e) looks) near

-- what is promised of an answer on every volume of which the view is a part
abbrev pub Answers : (ℕ → Option (List ℕ)) → Query → Asked → Type 0
Answers shown query result = (image : Image) (tree : Tree) → IsPart shown image.at → IsVolume image tree → Finds image tree query result

pub read_as_it_is : (shown : ℕ → Option (List ℕ)) (changes : ChangeList) → changes ≡ [] → (ino : ℕ) (d : Dinode) → ((blocks : ℕ → List ℕ) → IsPart shown blocks → inode_in (over blocks (changed changes)) ino ≡ d)
    → (image : Image) → IsPart shown image.at → inode_in image.at ino ≡ d
read_as_it_is shown changes none ino d read image part =
    sym (ap (λ f. inode_in f ino) (ap (λ xs. over image.at (changed xs)) none ∙ over_none image.at)) ∙ read image.at part

-- the components before a rest of the path are passed
pub record HasWalked (shown : ℕ → Option (List ℕ)) (cwd : ℕ) (cred : Cred) (path : List ℕ) (ino : ℕ) (rest : List ℕ) : Type 0 where
  pub walked : (image : Image) (tree : Tree) → IsPart shown image.at → IsVolume image tree → IsDirectoryAt tree.nodes cwd → IsWalked tree cred cwd path ino (components rest)

-- all but one component before a rest of the path are passed
pub record HasPlaced (shown : ℕ → Option (List ℕ)) (cwd : ℕ) (cred : Cred) (path : List ℕ) (dir : ℕ) (name rest : List ℕ) : Type 0 where
  pub walked : (image : Image) (tree : Tree) → IsPart shown image.at → IsVolume image tree → IsDirectoryAt tree.nodes cwd → IsWalked tree cred cwd path dir (name ∷ components rest)

module _ (shown : ℕ → Option (List ℕ)) (changes : ChangeList) (none : changes ≡ []) (cwd : ℕ) (cred : Cred) (path : List ℕ) where
  pub walk_begins : (ino : ℕ) (rest : List ℕ) → ino ≡ start_of cwd path → rest ≡ path → HasWalked shown cwd cred path ino rest
  walk_begins ino rest is_start is_path = record {
    walked = λ image tree part volume is.
        subst (λ n. IsWalked tree cred cwd path n (components rest)) (sym is_start) (subst (λ xs. IsWalked tree cred cwd path (start_of cwd path) (components xs)) (sym is_path) (stepping.walked_none tree volume.sound cred cwd path is));
  }

  pub place_begins : (dir : ℕ) (name rest : List ℕ) → dir ≡ start_of cwd path → components path ≡ name ∷ components rest → HasPlaced shown cwd cred path dir name rest
  place_begins dir name rest is_start first = record {
    walked = λ image tree part volume is.
        subst (λ n. IsWalked tree cred cwd path n (name ∷ components rest)) (sym is_start) (subst (IsWalked tree cred cwd path (start_of cwd path)) first (stepping.walked_none tree volume.sound cred cwd path is));
  }

  pub placed_itself : (dir : ℕ) → dir ≡ start_of cwd path → components path ≡ [] → Answers shown (query.Place cwd cred path) (asked.Found (answer.Itself dir))
  placed_itself dir is_start no_name image tree part volume is =
      ap (λ (a : reference.Answer Placed). a >>= (λ place. Ok (place_answer place))) (stepping.place_itself tree volume.sound cred cwd path no_name) ∙ ap (λ n. Ok (answer.Itself n)) (sym is_start)

  module _ (dir : ℕ) (name more : List ℕ) (was : HasPlaced shown cwd cred path dir name more) where
    look_says : (says : Image → Tree → Type 0) → OnVolume shown changes dir says → (image : Image) (tree : Tree) → IsPart shown image.at → IsVolume image tree → IsDirectoryAt tree.nodes cwd → says image tree
    look_says says holds image tree part volume is = as_it_is shown changes dir says none holds image tree part volume (was.walked image tree part volume is).there

    pub walk_next : (ino : ℕ) → OnVolume shown changes dir (λ image tree. look tree.nodes cred dir name ≡ Ok (Some ino)) → HasWalked shown cwd cred path ino more
    walk_next ino holds = record {
      walked = λ image tree part volume is.
          stepping.walked_next tree volume.sound cred cwd path dir name (components more) (was.walked image tree part volume is) ino
          (look_says (λ image tree. look tree.nodes cred dir name ≡ Ok (Some ino)) holds image tree part volume is);
    }

    pub find_missing : OnVolume shown changes dir (λ image tree. look tree.nodes cred dir name ≡ Ok None) → Answers shown (query.Find cwd cred path) (asked.Refused ENOENT)
    find_missing holds image tree part volume is =
        (let w = was.walked image tree part volume is in
        let h = look_says (λ image tree. look tree.nodes cred dir name ≡ Ok None) holds image tree part volume is in
        ap (λ (a : reference.Answer Stat). a >>= (λ stat. Ok (answer.Node stat)))
        (stepping.find_refused tree volume.sound cred cwd path ENOENT
        (stepping.walk_refused tree volume.sound cred cwd path dir name (components more) w ENOENT (stepping.enter_missing tree volume.sound cred cwd path dir name (components more) w h))))

    pub find_refused : (e : Errno) → OnVolume shown changes dir (λ image tree. look tree.nodes cred dir name ≡ Err e) → Answers shown (query.Find cwd cred path) (asked.Refused e)
    find_refused e holds image tree part volume is =
        (let w = was.walked image tree part volume is in
        let h = look_says (λ image tree. look tree.nodes cred dir name ≡ Err e) holds image tree part volume is in
        ap (λ (a : reference.Answer Stat). a >>= (λ stat. Ok (answer.Node stat)))
        (stepping.find_refused tree volume.sound cred cwd path e
        (stepping.walk_refused tree volume.sound cred cwd path dir name (components more) w e (stepping.enter_refused tree volume.sound cred cwd path dir name (components more) w e h))))

    pub find_asks : (need : Need) → OnVolume shown changes dir (λ image tree. IsNear image tree (λ ino. ino ≡ dir) need.first) → Answers shown (query.Find cwd cred path) (asked.Need need)
    find_asks need holds image tree part volume is =
        near_one image tree (IsPassed tree (query.Find cwd cred path)) dir need.first (stepping.on_way tree volume.sound cred cwd path dir name (components more) (was.walked image tree part volume is))
        (look_says (λ image tree. IsNear image tree (λ ino. ino ≡ dir) need.first) holds image tree part volume is)

    pub place_missing : 0 < length (components more) → OnVolume shown changes dir (λ image tree. look tree.nodes cred dir name ≡ Ok None) → Answers shown (query.Place cwd cred path) (asked.Refused ENOENT)
    place_missing some holds image tree part volume is =
        (let w = was.walked image tree part volume is in
        let h = look_says (λ image tree. look tree.nodes cred dir name ≡ Ok None) holds image tree part volume is in
        ap (λ (a : reference.Answer Placed). a >>= (λ place. Ok (place_answer place)))
        (stepping.place_refused tree volume.sound cred cwd path dir name (components more) w ENOENT some (stepping.enter_missing tree volume.sound cred cwd path dir name (components more) w h)))

    pub place_refused : (e : Errno) → 0 < length (components more) → OnVolume shown changes dir (λ image tree. look tree.nodes cred dir name ≡ Err e) → Answers shown (query.Place cwd cred path) (asked.Refused e)
    place_refused e some holds image tree part volume is =
        (let w = was.walked image tree part volume is in
        let h = look_says (λ image tree. look tree.nodes cred dir name ≡ Err e) holds image tree part volume is in
        ap (λ (a : reference.Answer Placed). a >>= (λ place. Ok (place_answer place)))
        (stepping.place_refused tree volume.sound cred cwd path dir name (components more) w e some (stepping.enter_refused tree volume.sound cred cwd path dir name (components more) w e h)))

    pub place_asks : (need : Need) → OnVolume shown changes dir (λ image tree. IsNear image tree (λ ino. ino ≡ dir) need.first) → Answers shown (query.Place cwd cred path) (asked.Need need)
    place_asks need holds image tree part volume is =
        near_one image tree (IsPassed tree (query.Place cwd cred path)) dir need.first (stepping.on_way_before tree volume.sound cred cwd path dir name (components more) (was.walked image tree part volume is))
        (look_says (λ image tree. IsNear image tree (λ ino. ino ≡ dir) need.first) holds image tree part volume is)

    pub last_found : (found : Option ℕ) → components more ≡ [] → OnVolume shown changes dir (λ image tree. look tree.nodes cred dir name ≡ Ok found) → Answers shown (query.Place cwd cred path) (asked.Found (answer.Place dir name found))
    last_found found no_more holds image tree part volume is =
        (let w = was.walked image tree part volume is in
        let h = look_says (λ image tree. look tree.nodes cred dir name ≡ Ok found) holds image tree part volume is in
        ap (λ (a : reference.Answer Placed). a >>= (λ place. Ok (place_answer place)))
        (stepping.place_last tree volume.sound cred cwd path dir name (components more) w no_more ∙ ap (λ (a : reference.Answer (Option ℕ)). a >>= (λ found. Ok (placed.At dir name found))) h))

    pub last_refused : (e : Errno) → components more ≡ [] → OnVolume shown changes dir (λ image tree. look tree.nodes cred dir name ≡ Err e) → Answers shown (query.Place cwd cred path) (asked.Refused e)
    last_refused e no_more holds image tree part volume is =
        (let w = was.walked image tree part volume is in
        let h = look_says (λ image tree. look tree.nodes cred dir name ≡ Err e) holds image tree part volume is in
        ap (λ (a : reference.Answer Placed). a >>= (λ place. Ok (place_answer place)))
        (stepping.place_last tree volume.sound cred cwd path dir name (components more) w no_more ∙ ap (λ (a : reference.Answer (Option ℕ)). a >>= (λ found. Ok (placed.At dir name found))) h))

  -- one component further is all but one
  pub all_but_one : (ino : ℕ) (name rest more : List ℕ) → components rest ≡ name ∷ components more → HasWalked shown cwd cred path ino rest → HasPlaced shown cwd cred path ino name more
  all_but_one ino name rest more first was = record { walked = λ image tree part volume is. subst (IsWalked tree cred cwd path ino) first (was.walked image tree part volume is) }

  module _ (ino : ℕ) (rest : List ℕ) (end : components rest ≡ []) (was : HasWalked shown cwd cred path ino rest) where
    at_end : (image : Image) (tree : Tree) → IsPart shown image.at → IsVolume image tree → IsDirectoryAt tree.nodes cwd → IsWalked tree cred cwd path ino []
    at_end image tree part volume is = subst (IsWalked tree cred cwd path ino) end (was.walked image tree part volume is)

    pub find_found : (d : Dinode) (stat : Stat) → ((blocks : ℕ → List ℕ) → IsPart shown blocks → inode_in (over blocks (changed changes)) ino ≡ d) → stat ≡ stat_by ino d → Answers shown (query.Find cwd cred path) (asked.Found (answer.Node stat))
    find_found d stat read told image tree part volume is =
        (let w = at_end image tree part volume is in
        ap (λ (a : reference.Answer Stat). a >>= (λ stat. Ok (answer.Node stat))) (stepping.find_ends tree volume.sound cred cwd path ino w ∙ stat_found image tree volume ino w.there)
        ∙ ap (λ s. Ok (answer.Node s)) (ap (stat_by ino) (read_as_it_is shown changes none ino d read image part) ∙ sym told))

    pub end_asks : (need : Need) → need.first ≡ inode_block ino → Answers shown (query.Find cwd cred path) (asked.Need need)
    end_asks need first image tree part volume is = near_inode image tree volume (IsPassed tree (query.Find cwd cred path)) ino need.first (at_end image tree part volume is).there first

-- ---- queries of an inode

module _ (shown : ℕ → Option (List ℕ)) (changes : ChangeList) (none : changes ≡ []) (ino : ℕ) where
  pub info_found : (d : Dinode) (stat : Stat) → ((blocks : ℕ → List ℕ) → IsPart shown blocks → inode_in (over blocks (changed changes)) ino ≡ d) → stat ≡ stat_by ino d → Answers shown (query.Info ino) (asked.Found (answer.Node stat))
  info_found d stat read told image tree part volume there =
      ap (λ (a : reference.Answer Stat). a >>= (λ stat. Ok (answer.Node stat))) (stat_found image tree volume ino there)
      ∙ ap (λ s. Ok (answer.Node s)) (ap (stat_by ino) (read_as_it_is shown changes none ino d read image part) ∙ sym told)

  pub info_asks : (need : Need) → need.first ≡ inode_block ino → Answers shown (query.Info ino) (asked.Need need)
  info_asks need first image tree part volume there = near_inode image tree volume (λ n. n ≡ ino) ino need.first there first

  pub used_asks : (need : Need) → need.first ≡ inode_block ino → Answers shown (query.Used ino) (asked.Need need)
  used_asks need first image tree part volume is = near_inode image tree volume (λ n. n ≡ ino) ino need.first (record { node = is.node; has = is.has }) first

  module _ (d : Dinode) (read : (blocks : ℕ → List ℕ) → IsPart shown blocks → inode_in (over blocks (changed changes)) ino ≡ d) where
    slots_say : (says : (ℕ → List ℕ) → List PlainSlot → Type 0) → OnDirectory shown changes ino d.size says → (image : Image) (tree : Tree) → IsPart shown image.at → IsVolume image tree → (is : IsDirectoryAt tree.nodes ino) → says image.at is.slots
    slots_say says holds image tree part volume is =
        let e : over image.at (changed changes) ≡ image.at = ap (λ xs. over image.at (changed xs)) none ∙ over_none image.at in
        subst (λ f. says f is.slots) e
        (holds image.at is.slots part (subst (λ f. IsDirectoryOn f ino d.size is.slots) (sym e) (directory_on image tree volume ino is d.size (ap (λ (x : Dinode). x.size) (read_as_it_is shown changes none ino d read image part)))))

    pub used_counted : (count : ℕ) → OnDirectory shown changes ino d.size (λ blocks slots. count_by is_used slots ≡ count) → Answers shown (query.Used ino) (asked.Found (answer.Used count))
    used_counted count holds image tree part volume is =
        (let c = slots_say (λ blocks slots. count_by is_used slots ≡ count) holds image tree part volume is in
        let s : slots_in tree.nodes ino ≡ Some is.slots = ap (λ (o : Option Node). option_and_then (λ (node : Node). slots_of node.body) o) is.has ∙ ap slots_of is.body in
        ap (λ o. Ok (answer.Used (unwrap_or (option_map (count_by is_used) o) 0))) s ∙ ap (λ n. Ok (answer.Used n)) c)

    pub used_needs : (need : Need) → OnDirectory shown changes ino d.size (λ blocks slots. IsBlockOf blocks ino need.first) → Answers shown (query.Used ino) (asked.Need need)
    used_needs need holds image tree part volume is =
        near_block image tree volume (λ n. n ≡ ino) ino need.first refl (record { node = is.node; has = is.has }) (holds_addresses image tree volume ino is)
        (slots_say (λ blocks slots. IsBlockOf blocks ino need.first) holds image tree part volume is)

pub some_more : (path name : List ℕ) (more : List (List ℕ)) → components path ≡ name ∷ more → 0 < length (components path)
some_more path name more e = (let n = ap length e in omega (arith, n))
