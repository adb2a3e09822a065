-- A file with more parts costs no less: where a hole cannot be filled, what the operation wanted is refused.
use Rattle.std.proofs.Common.{ℕ, ◌≡◌, ◌+◌, ◌<◌, ◌≤◌, Bool, true, false, ◌||◌, List, [], ◌∷◌, ◌++◌, length, Some, None, nat_eq, nat_le, Err, inl, inr, refl, sym, ap, ◌∙◌, arith}
use Rattle.std.specs.Prelude.{is_some}
use Rattle.std.specs.FinMap as fin
use Rattle.std.specs.FinSet as set
use Rattle.std.specs.Cmp.{nat_eq_equiv}
use Rattle.std.proofs.lemmas.Bool.Decides.{Decides-eqb, nat_tests}
use Rattle.std.proofs.lemmas.Map.Made.{IsDistinct-from_AllPairs, length-le_from_is_member}
use Rattle.mb_kinds.specs.Image.{Image, zeros}
use Rattle.mb_kinds.specs.declared.errors.Errno.TheVariants.{ENOSPC}
use Rattle.mb_tree.specs.Blocks.{pointers}
use Rattle.mb_tree.specs.Cost.{body_cost, cost, cost_at, index_blocks, most_parts}
use Rattle.mb_tree.specs.Effect.{fitting}
use Rattle.mb_tree.specs.Maps.{Numbered}
use Rattle.mb_tree.specs.Places.{place_of}
use Rattle.mb_tree.specs.declared.nodes.Body.TheVariants.{Regular}
use Rattle.mb_tree.specs.declared.nodes.Node.{Node}
use Rattle.mb_tree.specs.declared.trees.Tree.{Tree}
use Rattle.mb_tree.proofs.FiniteMaps.{get_here, get_there, one_or_not}
use Rattle.mb_tree.proofs.Sums.{sum_but}
use Rattle.mb_blocks.specs.Growing.{missing}
use Rattle.mb_blocks.specs.Laid.{AreOnce}
use Rattle.mb_blocks.proofs.Groupings.{keys_once}
use Rattle.mb_blocks.proofs.Keys.{index_grows, key_in}
use Rattle.mb_blocks.proofs.Shares.{is_in, touched_same}
use Rattle.mb_nodes.specs.Stored.{IsStored, with_node}
use Rattle.mb_nodes.proofs.Filling.{refused}

in_append : (xs ys : List ℕ) (k : ℕ) → is_in (xs ++ ys) k ≡ (is_in xs k || is_in ys k)
in_append [] ys k = refl
in_append (x ∷ xs) ys k = elim (nat_eq k x) as (λ b. (b || is_in (xs ++ ys) k) ≡ ((b || is_in xs k) || is_in ys k)) [ true ↦ refl | false ↦ in_append xs ys k ]

behind : (many few : List ℕ) → index_blocks few ≤ index_blocks (many ++ few)
behind [] few = (let e : index_blocks ([] ++ few) ≡ index_blocks few = refl in omega (arith, e))
behind (x ∷ xs) few =
    let rest = behind xs few in
    let more = index_grows x (xs ++ few) (x ∷ (xs ++ few)) (λ k. refl) in
    let e : index_blocks ((x ∷ xs) ++ few) ≡ index_blocks (x ∷ (xs ++ few)) = refl in
    omega (arith, rest, more, e)

same_index : (xs ys : List ℕ) → ((k : ℕ) → is_in xs k ≡ is_in ys k) → index_blocks xs ≡ index_blocks ys
same_index xs ys same =
    let t = λ (low high size : ℕ). ap (λ s. set.len s) (touched_same low high size xs ys same) in
    omega (arith, t 10 138 128, t 138 16522 128, t 138 16522 16384, t 16522 2113674 128, t 16522 2113674 16384, t 16522 2113674 2097152)

or_within : (a b : Bool) → (b ≡ true → a ≡ true) → (a || b) ≡ a
or_within true b f = refl
or_within false true f = sym (f refl)
or_within false false f = refl

module _ (few many : List ℕ) (within : (k : ℕ) → is_in few k ≡ true → is_in many k ≡ true) where
  index_within : index_blocks few ≤ index_blocks many
  index_within =
      let a = behind many few in
      let b = same_index (many ++ few) many (λ k. in_append many few k ∙ or_within (is_in many k) (is_in few k) (within k)) in
      omega (arith, a, b)

  length_within : AreOnce few → length few ≤ length many
  length_within once = length-le_from_is_member nat_eq_equiv few many (IsDistinct-from_AllPairs Decides-eqb few once) within

pub parts_grow : (size other : ℕ) (parts more : Numbered (List ℕ)) → ((k : ℕ) → is_some (fin.get parts k) ≡ true → is_some (fin.get more k) ≡ true)
    → body_cost (Regular size parts) ≤ body_cost (Regular other more)
parts_grow size other parts more within =
    let keys = λ (k : ℕ) (t : is_in (fin.keys parts) k ≡ true). key_in more k ∙ within k (sym (key_in parts k) ∙ t) in
    let a = index_within (fin.keys parts) (fin.keys more) keys in
    let b = length_within (fin.keys parts) (fin.keys more) keys (keys_once parts) in
    omega (arith, a, b)

module _ (image : Image) (tree : Tree) (chain : List ℕ) (stored : IsStored image tree chain) (ino : ℕ) (node : Node) (has : fin.get tree.nodes ino ≡ Some node) (size : ℕ) (parts : Numbered (List ℕ)) (part : ℕ)
    (body : node.body ≡ Regular size parts) (none : fin.get parts part ≡ None) (below : part < most_parts) (short : length chain < missing (pointers image.at) (place_of ino part))
    (wanted : Node) (other : ℕ) (more : Numbered (List ℕ)) (is : wanted.body ≡ Regular other more) (there : is_some (fin.get more part) ≡ true)
    (within : (k : ℕ) → is_some (fin.get parts k) ≡ true → is_some (fin.get more k) ≡ true) where
  abbrev filled : Node
  filled = record node { body = Regular size (fin.insert parts part zeros) }

  filled_within : (k : ℕ) → is_some (fin.get (fin.insert parts part zeros) k) ≡ true → is_some (fin.get more k) ≡ true
  filled_within k t = elim (one_or_not k part) [
    | inl same ↦ ap (λ x. is_some (fin.get more x)) same ∙ there
    | inr apart ↦ within k (sym (ap is_some (get_there parts part zeros k apart)) ∙ t)
  ]

  total : (x : Node) → cost (with_node tree ino x) + cost_at (fin.get tree.nodes ino) ≡ cost tree + body_cost x.body
  total x =
      let moved = sum_but (λ j. cost_at (fin.get tree.nodes j)) (λ j. cost_at (fin.get (with_node tree ino x).nodes j)) ino (tree.last + 1) (let n = stored.numbers ino node has in omega (arith, n.1)) (λ j apart. ap cost_at (get_there tree.nodes ino x j apart)) in
      let here : cost_at (fin.get (with_node tree ino x).nodes ino) ≡ body_cost x.body = ap cost_at (get_here tree.nodes ino x) in
      omega (arith, moved, here)

  pub costs_more : tree.cap < cost (with_node tree ino wanted)
  costs_more =
      let over = refused image tree chain stored ino node size parts part has body none below short in
      let a = total filled in
      let b = total wanted in
      let c = parts_grow size other (fin.insert parts part zeros) more filled_within in
      let d : body_cost wanted.body ≡ body_cost (Regular other more) = ap body_cost is in
      omega (arith, over, a, b, c, d)

  pub no_space : fitting tree (fin.insert tree.nodes ino wanted) ≡ Err ENOSPC
  no_space =
      let over = costs_more in
      let t : nat_le (cost (with_node tree ino wanted)) tree.cap ≡ false = grind (arith, nat_tests) in
      rw t refl
