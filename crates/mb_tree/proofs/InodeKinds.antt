-- What a look-up says of the inode that it found, and which changes keep the kind of an inode.
use Rattle.std.proofs.Common.{◌≡◌, inl, inr, ℕ, Bool, true, false, ◌||◌, List, Option, Some, None, Ok, option_map, unwrap_or, refl, sym, ap, ◌∙◌, arith}
use Rattle.std.proofs.lemmas.Option.{same_Some}
use Rattle.std.proofs.lemmas.Bool.Decides.{nat_tests}
use Rattle.std.specs.Prelude.{◌==◌}
use Rattle.std.specs.FinMap as fin
use Rattle.mb_kinds.specs.declared.credentials.Cred.{Cred}
use Rattle.mb_kinds.specs.declared.replies.Stat.{Stat}
use Rattle.mb_kinds.specs.declared.errors.Errno.TheVariants.{ENOENT}
use Rattle.mb_tree.specs.Answers.{some}
use Rattle.mb_tree.specs.Maps.{Numbered, changed_at}
use Rattle.mb_tree.specs.Inodes.{kind_of, is_directory, is_regular, is_special, slots_of, stat_of}
use Rattle.mb_tree.specs.Lookup.{stat_in, walk, find_path, components, start_of}
use Rattle.mb_tree.specs.Trees.{HasKind, IsThere, IsDirectoryAt, IsRegularAt, IsSound}
use Rattle.mb_tree.specs.Fits.{IsLeafAt, IsOpenable}
use Rattle.mb_tree.specs.SessionLaws.{KeepsKind}
use Rattle.mb_tree.specs.declared.nodes.PlainSlot.{PlainSlot}
use Rattle.mb_tree.specs.declared.nodes.Node.{Node}
use Rattle.mb_tree.specs.declared.nodes.Body.{Body}
use Rattle.mb_tree.specs.declared.nodes.Body.TheVariants.{Regular, Directory, Special}
use Rattle.mb_tree.specs.declared.trees.Tree.{Tree}
use Rattle.mb_tree.proofs.FiniteMaps.{get_here, get_there, one_or_not}
use Rattle.mb_tree.proofs.Always.{bind_ok, same_ok}
use Rattle.mb_tree.proofs.Outcomes.{some_ok}

-- ---- kinds

directory_bits : (mode : ℕ) → is_directory mode ≡ true → is_regular mode ≡ true → ⊥
directory_bits mode d r = grind (arith, nat_tests)

special_bits : (kind : ℕ) → (kind == 0x4000) ≡ true → (kind == 0x2000 || kind == 0x6000) ≡ true → ⊥
special_bits kind d s = grind (arith, nat_tests)

wrong : (b : Bool) → b ≡ false → b ≡ true → ⊥
wrong b f t = cc

module _ (nodes : Numbered Node) (ino : ℕ) (node : Node) (has : fin.get nodes ino ≡ Some node) where
  directory_by : (body : Body) → node.body ≡ body → HasKind node.mode body → is_directory node.mode ≡ true → IsDirectoryAt nodes ino
  directory_by (Regular size parts) b k d = absurd (directory_bits node.mode d k)
  directory_by (Directory slots) b k d = record { node = node; slots = slots; has = has; body = b }
  directory_by (Special size area) b k d = absurd (special_bits (kind_of node.mode) d k)

  regular_by : (body : Body) → node.body ≡ body → HasKind node.mode body → is_directory node.mode ≡ false → is_special node.mode ≡ false → IsRegularAt nodes ino
  regular_by (Regular size parts) b k d s = record { node = node; size = size; parts = parts; has = has; body = b }
  regular_by (Directory slots) b k d s = absurd (wrong _ d k)
  regular_by (Special size area) b k d s = absurd (wrong _ s k)

  openable_by : (body : Body) → node.body ≡ body → HasKind node.mode body → is_special node.mode ≡ false → IsOpenable nodes ino
  openable_by (Regular size parts) b k s = inl (record { node = node; size = size; parts = parts; has = has; body = b })
  openable_by (Directory slots) b k s = inr (record { node = node; slots = slots; has = has; body = b })
  openable_by (Special size area) b k s = absurd (wrong _ s k)

  leaf_by : (body : Body) → node.body ≡ body → HasKind node.mode body → is_directory node.mode ≡ false → IsLeafAt nodes ino
  leaf_by (Regular size parts) b k d = record { node = node; has = has; body = ap slots_of b }
  leaf_by (Directory slots) b k d = absurd (wrong _ d k)
  leaf_by (Special size area) b k d = record { node = node; has = has; body = ap slots_of b }

-- ---- what stat tells

pub stat_ok : (nodes : Numbered Node) (ino : ℕ) (stat : Stat) → stat_in nodes ino ≡ Ok stat → (node : Node) × (fin.get nodes ino ≡ Some node) × (stat ≡ stat_of ino node)
stat_ok nodes ino stat h =
    let one = bind_ok (some (fin.get nodes ino) ENOENT) _ stat h in
    (one.0, some_ok (fin.get nodes ino) ENOENT one.0 one.1, sym (same_ok (stat_of ino one.0) stat one.2))

-- a path leads by its components to an inode
pub path_ok : (nodes : Numbered Node) (cred : Cred) (cwd : ℕ) (path : List ℕ) (stat : Stat) → find_path nodes cred cwd path ≡ Ok stat
    → (walk nodes cred (start_of cwd path) (components path) ≡ Ok stat.ino) × (stat_in nodes stat.ino ≡ Ok stat)
path_ok nodes cred cwd path stat h =
    let one = bind_ok (walk nodes cred (start_of cwd path) (components path)) _ stat h in
    let at = stat_ok nodes one.0 stat one.2 in
    let is : stat.ino ≡ one.0 = ap (λ (s : Stat). s.ino) at.2 in
    (one.1 ∙ ap Ok (sym is), ap (stat_in nodes) is ∙ one.2)

module _ (tree : Tree) (sound : IsSound tree) (ino : ℕ) (stat : Stat) (h : stat_in tree.nodes ino ≡ Ok stat) where
  abbrev at_stat : (node : Node) × (fin.get tree.nodes ino ≡ Some node) × (stat ≡ stat_of ino node)
  at_stat = stat_ok tree.nodes ino stat h

  abbrev mode_is : stat.mode ≡ at_stat.0.mode
  mode_is = ap (λ (s : Stat). s.mode) at_stat.2

  pub is_there : IsThere tree.nodes ino
  is_there = record { node = at_stat.0; has = at_stat.1 }

  pub is_directory_at : is_directory stat.mode ≡ true → IsDirectoryAt tree.nodes ino
  is_directory_at d = directory_by tree.nodes ino at_stat.0 at_stat.1 at_stat.0.body refl (sound.kinds ino at_stat.0 at_stat.1) (sym (ap is_directory mode_is) ∙ d)

  pub is_regular_at : is_directory stat.mode ≡ false → is_special stat.mode ≡ false → IsRegularAt tree.nodes ino
  is_regular_at d s = regular_by tree.nodes ino at_stat.0 at_stat.1 at_stat.0.body refl (sound.kinds ino at_stat.0 at_stat.1) (sym (ap is_directory mode_is) ∙ d) (sym (ap is_special mode_is) ∙ s)

  pub is_openable_at : is_special stat.mode ≡ false → IsOpenable tree.nodes ino
  is_openable_at s = openable_by tree.nodes ino at_stat.0 at_stat.1 at_stat.0.body refl (sound.kinds ino at_stat.0 at_stat.1) (sym (ap is_special mode_is) ∙ s)

  pub is_leaf_at : is_directory stat.mode ≡ false → IsLeafAt tree.nodes ino
  is_leaf_at d = leaf_by tree.nodes ino at_stat.0 at_stat.1 at_stat.0.body refl (sound.kinds ino at_stat.0 at_stat.1) (sym (ap is_directory mode_is) ∙ d)

-- ---- kinds that stay

pub kind_by_get : (old new : Numbered Node) (ino : ℕ) → fin.get new ino ≡ fin.get old ino → KeepsKind old new ino
kind_by_get old new ino e = record {
  directory = λ d. record { node = d.node; slots = d.slots; has = e ∙ d.has; body = d.body };
  regular = λ r. record { node = r.node; size = r.size; parts = r.parts; has = e ∙ r.has; body = r.body };
}

pub kind_after : (old mid new : Numbered Node) (ino : ℕ) → KeepsKind old mid ino → KeepsKind mid new ino → KeepsKind old new ino
kind_after old mid new ino first second = record { directory = λ d. second.directory (first.directory d); regular = λ r. second.regular (first.regular r) }

-- a body of the same kind
pub record SameKind (old new : Body) : Type 0 where
  pub directory : (slots : List PlainSlot) → old ≡ Directory slots → (later : List PlainSlot) × (new ≡ Directory later)
  pub regular : (size : ℕ) (parts : Numbered (List ℕ)) → old ≡ Regular size parts → (size_later : ℕ) × (parts_later : Numbered (List ℕ)) × (new ≡ Regular size_later parts_later)

pub same_body : (old new : Body) → new ≡ old → SameKind old new
same_body old new e = record { directory = λ slots b. (slots, e ∙ b); regular = λ size parts b. (size, parts, e ∙ b) }

pub kind_changed : (nodes : Numbered Node) (key : ℕ) (f : Node → Node) → ((node : Node) → SameKind node.body (f node).body) → (ino : ℕ) → KeepsKind nodes (changed_at nodes key f) ino
kind_changed nodes key f same ino =
    elim (fin.get nodes key) as (λ (o : Option Node). fin.get nodes key ≡ o → KeepsKind nodes (unwrap_or (option_map (λ x. fin.insert nodes key (f x)) o) nodes) ino) [
      | None ↦ λ e. kind_by_get nodes nodes ino refl
      | Some node ↦ λ e. elim (one_or_not ino key) [
        | inl is ↦
            let here : fin.get (fin.insert nodes key (f node)) ino ≡ Some (f node) = ap (fin.get (fin.insert nodes key (f node))) is ∙ get_here nodes key (f node) in
            let old : fin.get nodes ino ≡ Some node = ap (fin.get nodes) is ∙ e in
            record {
              directory = λ d.
                  let at : d.node ≡ node = same_Some d.node node (sym d.has ∙ old) in
                  let later = (same node).directory d.slots (ap (λ (n : Node). n.body) (sym at) ∙ d.body) in
                  record { node = f node; slots = later.0; has = here; body = later.1 };
              regular = λ r.
                  let at : r.node ≡ node = same_Some r.node node (sym r.has ∙ old) in
                  let later = (same node).regular r.size r.parts (ap (λ (n : Node). n.body) (sym at) ∙ r.body) in
                  record { node = f node; size = later.0; parts = later.1; has = here; body = later.2 };
            }
        | inr apart ↦ kind_by_get nodes (fin.insert nodes key (f node)) ino (get_there nodes key (f node) ino apart)
      ]
    ] refl
