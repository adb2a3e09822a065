-- The inodes of a place of a path are there, on a sound tree.
use Rattle.std.proofs.Common.{◌≡◌, ℕ, if◌then◌else◌, true, false, List, [], ◌∷◌, length, take, get_or, Option, Some, None, Ok, subst}
use Rattle.std.specs.Prelude.{slice_index, ◌==◌}
use Rattle.mb_kinds.specs.declared.credentials.Cred.{Cred}
use Rattle.mb_tree.specs.LocalLaws.{IsKnown}
use Rattle.mb_tree.specs.Lookup.{components, start_of, slash, look, walk, place_under, find_place}
use Rattle.mb_tree.specs.Trees.{IsDirectoryAt, IsThere, IsSound}
use Rattle.mb_tree.specs.declared.lookups.Placed.{Placed}
use Rattle.mb_tree.specs.declared.lookups.Placed.TheVariants.{Itself, At}
use Rattle.mb_tree.specs.declared.trees.Tree.{Tree}
use Rattle.mb_tree.proofs.Always.{bind_ok, same_ok}
use Rattle.mb_tree.proofs.PlacedNames.{IsLooked, look_ok, numbered}

module _ (tree : Tree) (sound : IsSound tree) where
  found_known : (dir : ℕ) (name : List ℕ) (found : Option ℕ) (key : List ℕ) → IsLooked tree.nodes dir name found → IsKnown tree.nodes (At dir key found)
  found_known dir name None key looked = record { node = looked.node; has = looked.has }
  found_known dir name (Some ino) key looked =
      let by = numbered looked.slots name ino looked.number in
      (subst (IsThere tree.nodes) by.3 ((sound.slots dir looked.node looked.slots looked.has looked.body).leads by.0 by.1 by.2).1, record { node = looked.node; has = looked.has })

  under_known : (cred : Cred) (start : ℕ) (names : List (List ℕ)) (placed : Placed) → IsThere tree.nodes start → place_under tree.nodes cred start names ≡ Ok placed → IsKnown tree.nodes placed
  under_known cred start [] placed there h = subst (IsKnown tree.nodes) (same_ok (Itself start) placed h) there
  under_known cred start (first ∷ rest) placed there h =
      let last = get_or (first ∷ rest) (length rest) [] in
      let one = bind_ok (walk tree.nodes cred start (take (length rest) (first ∷ rest))) _ placed h in
      let two = bind_ok (look tree.nodes cred one.0 last) _ placed one.2 in
      subst (IsKnown tree.nodes) (same_ok (At one.0 last two.0) placed two.2) (found_known one.0 last two.0 last (look_ok tree.nodes cred one.0 last two.0 two.1))

  -- what a path starts at is there
  pub start_there : (cwd : ℕ) (path : List ℕ) → IsDirectoryAt tree.nodes cwd → IsThere tree.nodes (start_of cwd path)
  start_there cwd path d = elim (slice_index path 0 == slash) as (λ b. IsThere tree.nodes (if b then 2 else cwd)) [
    | true ↦ record { node = sound.root.node; has = sound.root.has }
    | false ↦ record { node = d.node; has = d.has }
  ]

  pub known_place : (cred : Cred) (cwd : ℕ) (path : List ℕ) (placed : Placed) → IsDirectoryAt tree.nodes cwd → find_place tree.nodes cred cwd path ≡ Ok placed → IsKnown tree.nodes placed
  known_place cred cwd path placed d h = under_known cred (start_of cwd path) (components path) placed (start_there cwd path d) h
