-- A path is found by its components one after another.
use Rattle.std.proofs.Common.{◌≡◌, ◌≢◌, inl, inr, ℕ, ◌+◌, ◌<◌, ◌≤◌, Bool, true, false, cond, not, if◌then◌else◌, List, [], ◌∷◌, ◌++◌, append_assoc, length, map, filter, take, get_or, Option, Some, None, Ok, Err, refl, sym, ap, subst, ◌∙◌, arith}
use Rattle.std.proofs.lemmas.Bool.Decides.{nat_tests}
use Rattle.std.proofs.lemmas.List.{length-append, map-append, take-append-le}
use Rattle.std.proofs.lemmas.List.Elements.{filter-append}
use Rattle.std.proofs.Math.Seq.{take-append-add}
use Rattle.std.specs.Prelude.{slice_index, ◌==◌, IfSome}
use Rattle.std.specs.List.{slice_split, onto_first}
use Rattle.mb_kinds.specs.declared.credentials.Cred.{Cred}
use Rattle.mb_kinds.specs.declared.replies.Stat.{Stat}
use Rattle.mb_iface.specs.Near.{IsOnWay}
use Rattle.mb_tree.specs.Answers.{Answer, ◌>>=◌, some}
use Rattle.mb_tree.specs.Inodes.{is_directory}
use Rattle.mb_tree.specs.Lookup.{components, enter, find_path, find_place, look, padded, place_under, slash, start_of, stat_in, walk}
use Rattle.mb_tree.specs.Maps.{Numbered}
use Rattle.mb_tree.specs.Trees.{IsDirectoryAt, IsSound}
use Rattle.mb_tree.specs.Views.{IsPart}
use Rattle.mb_tree.specs.declared.lookups.Placed.TheVariants.{At}
use Rattle.mb_tree.specs.declared.nodes.Node.{Node}
use Rattle.mb_tree.specs.declared.trees.Tree.{Tree}
use Rattle.mb_tree.proofs.Always.{same_ok}
use Rattle.mb_tree.proofs.InodeKinds.{is_directory_at, path_ok}
use Rattle.mb_calls.specs.Following.{ViewGrows, IsFollowed}

-- ---- the components of two pieces of a path

abbrev pieces : List ℕ → List (List ℕ)
pieces path = slice_split (λ byte. byte == slash) path

abbrev kept : List ℕ → Bool
kept piece = not (length piece == 0)

onto_some : (x : ℕ) (parts : List (List ℕ)) → (part : List ℕ) × (more : List (List ℕ)) × (onto_first x parts ≡ (x ∷ part) ∷ more)
onto_some x [] = ([], [], refl)
onto_some x (part ∷ parts) = (part, parts, refl)

some_piece : (path : List ℕ) → (part : List ℕ) × (parts : List (List ℕ)) × (pieces path ≡ part ∷ parts)
some_piece [] = ([], [], refl)
some_piece (x ∷ xs) = elim (x == slash) as (λ b. (part : List ℕ) × (parts : List (List ℕ)) × (cond b ([] ∷ pieces xs) (onto_first x (pieces xs)) ≡ part ∷ parts)) [
  | true ↦ ([], pieces xs, refl)
  | false ↦ let at = onto_some x (pieces xs) in (x ∷ at.0, at.1, at.2)
]

onto_append : (x : ℕ) (path : List ℕ) (more : List (List ℕ)) → onto_first x (pieces path ++ more) ≡ onto_first x (pieces path) ++ more
onto_append x path more = let at = some_piece path in subst (λ ps. onto_first x (ps ++ more) ≡ onto_first x ps ++ more) (sym at.2) refl

pieces_cut : (head tail : List ℕ) → pieces (head ++ slash ∷ tail) ≡ pieces head ++ pieces tail
pieces_cut [] tail = refl
pieces_cut (x ∷ xs) tail = elim (x == slash) as (λ b. cond b ([] ∷ pieces (xs ++ slash ∷ tail)) (onto_first x (pieces (xs ++ slash ∷ tail))) ≡ cond b ([] ∷ pieces xs) (onto_first x (pieces xs)) ++ pieces tail) [
  | true ↦ ap (λ ps. [] ∷ ps) (pieces_cut xs tail)
  | false ↦ ap (onto_first x) (pieces_cut xs tail) ∙ onto_append x xs (pieces tail)
]

pub components_cut : (head tail : List ℕ) → components (head ++ slash ∷ tail) ≡ components head ++ components tail
components_cut head tail = ap (λ ps. map padded (filter kept ps)) (pieces_cut head tail) ∙ ap (map padded) (filter-append kept (pieces head) (pieces tail)) ∙ map-append padded (filter kept (pieces head)) (filter kept (pieces tail))

kept_some : (x : ℕ) (piece : List ℕ) → kept (x ∷ piece) ≡ true
kept_some x piece = let no : length (x ∷ piece) ≢ 0 = (λ e. omega (arith, e)) in grind (arith, nat_tests)

pub some_component : (tail : List ℕ) → 0 < length tail → slice_index tail 0 ≢ slash → (name : List ℕ) × (names : List (List ℕ)) × (components tail ≡ name ∷ names)
some_component [] some other = absurd (omega (arith, some))
some_component (x ∷ xs) some other =
    let at = onto_some x (pieces xs) in
    let no : (x == slash) ≡ false = let h : x ≢ 47 = other in grind (arith, nat_tests) in
    let yes : kept (x ∷ at.0) ≡ true = kept_some x at.0 in (
      padded (x ∷ at.0),
      map padded (filter kept at.1),
      ap (λ b. map padded (filter kept (cond b ([] ∷ pieces xs) (onto_first x (pieces xs))))) no ∙ ap (λ ps. map padded (filter kept ps)) at.2
          ∙ ap (λ b. map padded (cond b ((x ∷ at.0) ∷ filter kept at.1) (filter kept at.1))) yes,
    )

pub start_head : (cwd : ℕ) (head tail : List ℕ) → 0 < length head → start_of cwd (head ++ slash ∷ tail) ≡ start_of cwd head
start_head cwd [] tail some = absurd (omega (arith, some))
start_head cwd (x ∷ xs) tail some = refl

pub start_tail : (dir : ℕ) (tail : List ℕ) → slice_index tail 0 ≢ slash → start_of dir tail ≡ dir
start_tail dir tail other = let no : (slice_index tail 0 == slash) ≡ false = let h : slice_index tail 0 ≢ 47 = other in grind (arith, nat_tests) in ap (λ (b : Bool). if◌then◌else◌ {A = ℕ} b 2 dir) no

-- ---- walks one after another

module _ (nodes : Numbered Node) (cred : Cred) where
  pub walk_append : (s : ℕ) (a b : List (List ℕ)) → walk nodes cred s (a ++ b) ≡ (walk nodes cred s a >>= λ m. walk nodes cred m b)
  walk_append s [] b = refl
  walk_append s (name ∷ a) b = go (λ next. walk_append next a b) (enter nodes cred s name)
    where
      go : ((next : ℕ) → walk nodes cred next (a ++ b) ≡ (walk nodes cred next a >>= λ m. walk nodes cred m b)) → (r : Answer ℕ) → (r >>= (λ next. walk nodes cred next (a ++ b))) ≡ ((r >>= (λ next. walk nodes cred next a)) >>= λ m. walk nodes cred m b)
      go by (Ok next) = by next
      go by (Err e) = refl

  pub walk_past : (s m : ℕ) (a b : List (List ℕ)) → walk nodes cred s a ≡ Ok m → walk nodes cred s (a ++ b) ≡ walk nodes cred m b
  walk_past s m a b h = walk_append s a b ∙ ap (λ (r : Answer ℕ). r >>= λ m. walk nodes cred m b) h

  place_step : (s : ℕ) (first name : List ℕ) (names : List (List ℕ)) → place_under nodes cred s (first ∷ name ∷ names) ≡ (enter nodes cred s first >>= λ next. place_under nodes cred next (name ∷ names))
  place_step s first name names = go (enter nodes cred s first)
    where
      last : List ℕ
      last = get_or (name ∷ names) (length names) []

      go : (r : Answer ℕ) → ((r >>= λ next. walk nodes cred next (take (length names) (name ∷ names))) >>= λ dir. look nodes cred dir last >>= λ found. Ok (At dir last found)) ≡ (r >>= λ next. place_under nodes cred next (name ∷ names))
      go (Ok next) = refl
      go (Err e) = refl

  place_steps : (s : ℕ) (first : List ℕ) (rest : List (List ℕ)) → 0 < length rest → place_under nodes cred s (first ∷ rest) ≡ (enter nodes cred s first >>= λ next. place_under nodes cred next rest)
  place_steps s first [] some = absurd (omega (arith, some))
  place_steps s first (name ∷ names) some = place_step s first name names

  pub place_append : (s : ℕ) (a b : List (List ℕ)) → 0 < length b → place_under nodes cred s (a ++ b) ≡ (walk nodes cred s a >>= λ m. place_under nodes cred m b)
  place_append s [] b some = refl
  place_append s (name ∷ a) b some = place_steps s name (a ++ b) (longer a) ∙ go (λ next. place_append next a b some) (enter nodes cred s name)
    where
      longer : (a : List (List ℕ)) → 0 < length (a ++ b)
      longer [] = some
      longer (x ∷ xs) = omega arith

      go : ((next : ℕ) → place_under nodes cred next (a ++ b) ≡ (walk nodes cred next a >>= λ m. place_under nodes cred m b)) → (r : Answer ℕ) → (r >>= (λ next. place_under nodes cred next (a ++ b))) ≡ ((r >>= (λ next. walk nodes cred next a)) >>= λ m. place_under nodes cred m b)
      go by (Ok next) = by next
      go by (Err e) = refl

-- ---- a path followed

pub begun : (nodes : Numbered Node) (cred : Cred) (cwd : ℕ) (path : List ℕ) → IsDirectoryAt nodes cwd → IsFollowed nodes cred cwd path cwd path
begun nodes cred cwd path d = record { front = []; names = refl; walked = refl; directory = d; more = inl refl }

module _ (nodes : Numbered Node) (cred : Cred) (cwd : ℕ) (path : List ℕ) (dir : ℕ) (rest : List ℕ) (at : IsFollowed nodes cred cwd path dir rest) where
  -- what a path finds is what its rest finds
  pub find_followed : find_path nodes cred cwd path ≡ find_path nodes cred dir rest
  find_followed = ap (λ names. walk nodes cred (start_of cwd path) names >>= stat_in nodes) at.names
      ∙ ap (λ (r : Answer ℕ). r >>= stat_in nodes) (walk_past nodes cred (start_of cwd path) (start_of dir rest) at.front (components rest) at.walked)

  pub place_followed : find_place nodes cred cwd path ≡ find_place nodes cred dir rest
  place_followed = ap (place_under nodes cred (start_of cwd path)) at.names ∙ elim at.more [
    | inl none ↦
        let same : start_of cwd path ≡ start_of dir rest = same_ok (start_of cwd path) (start_of dir rest) (sym (ap (walk nodes cred (start_of cwd path)) none) ∙ at.walked) in
        ap (λ front. place_under nodes cred (start_of cwd path) (front ++ components rest)) none ∙ ap (λ s. place_under nodes cred s (components rest)) same
    | inr some ↦ place_append nodes cred (start_of cwd path) at.front (components rest) some ∙ ap (λ (r : Answer ℕ). r >>= λ m. place_under nodes cred m (components rest)) at.walked
  ]

  -- what is on the way of the rest is on the way of the path
  pub way_followed : (ino : ℕ) → IsOnWay nodes cred (start_of dir rest) (components rest) ino → IsOnWay nodes cred (start_of cwd path) (components path) ino
  way_followed ino on = (
    length at.front + on.0,
    subst (λ names. length at.front + on.0 ≤ length names) (sym at.names) (shorter at.front on.0 (components rest) on.1),
    ap (λ names. walk nodes cred (start_of cwd path) (take (length at.front + on.0) names)) at.names ∙ ap (walk nodes cred (start_of cwd path)) (take-append-add at.front (components rest) on.0)
        ∙ walk_past nodes cred (start_of cwd path) (start_of dir rest) at.front (take on.0 (components rest)) at.walked ∙ on.2,
  )
    where
      shorter : (front : List (List ℕ)) (n : ℕ) (names : List (List ℕ)) → n ≤ length names → length front + n ≤ length (front ++ names)
      shorter [] n names h = omega (arith, h)
      shorter (x ∷ xs) n names h = omega (arith, shorter xs n names h)

module _ (tree : Tree) (sound : IsSound tree) (cred : Cred) (cwd : ℕ) (path : List ℕ) (dir : ℕ) (rest head tail : List ℕ) (at : IsFollowed tree.nodes cred cwd path dir rest)
    (cut : rest ≡ head ++ slash ∷ tail) (filled : 0 < length head) (left : 0 < length tail) (other : slice_index tail 0 ≢ slash) where
  names_left : 0 < length (components tail)
  names_left = let c = some_component tail left other in subst (λ names. 0 < length names) (sym c.2) (omega arith)

  start_is : start_of dir rest ≡ start_of dir head
  start_is = ap (start_of dir) cut ∙ start_head dir head tail filled

  rest_names : components rest ≡ components head ++ components tail
  rest_names = ap components cut ∙ components_cut head tail

  -- one component further
  pub followed_on : (stat : Stat) → find_path tree.nodes cred dir head ≡ Ok stat → is_directory stat.mode ≡ true → IsFollowed tree.nodes cred cwd path stat.ino tail
  followed_on stat found d =
      let found_at = path_ok tree.nodes cred dir head stat found in
      record {
        front = at.front ++ components head;
        names = at.names ∙ ap (λ names. at.front ++ names) rest_names ∙ sym (append_assoc at.front (components head) (components tail));
        walked = walk_past tree.nodes cred (start_of cwd path) (start_of dir rest) at.front (components head) at.walked ∙ ap (λ s. walk tree.nodes cred s (components head)) start_is ∙ found_at.0
            ∙ ap Ok (sym (start_tail stat.ino tail other));
        directory = is_directory_at tree sound stat.ino stat found_at.1 d;
        more = inr names_left;
      }

  -- what is on the way of a component is on the way of the path
  pub way_head : (ino : ℕ) → IsOnWay tree.nodes cred (start_of dir head) (components head) ino → IsOnWay tree.nodes cred (start_of cwd path) (components path) ino
  way_head ino on =
      let short : on.0 ≤ length (components head) = on.1 in
      let short_rest : on.0 ≤ length (components rest) = subst (λ names. on.0 ≤ length names) (sym rest_names) (omega (arith, short, length-append (components head) (components tail))) in
      way_followed tree.nodes cred cwd path dir rest at ino (
        on.0,
        short_rest,
        ap (λ names. walk tree.nodes cred (start_of dir rest) (take on.0 names)) rest_names
            ∙ ap (walk tree.nodes cred (start_of dir rest)) (take-append-le on.0 (components head) (components tail) short)
            ∙ ap (λ s. walk tree.nodes cred s (take on.0 (components head))) start_is ∙ on.2,
      )

-- ---- a view that grew is a part of fewer images
pub grown_part : (shown later : ℕ → Option (List ℕ)) (blocks : ℕ → List ℕ) → ViewGrows shown later → IsPart later blocks → IsPart shown blocks
grown_part shown later blocks grows part = λ block. go block (shown block) (later block) (grows block) (part block)
  where
    go : (block : ℕ) (a b : Option (List ℕ)) → IfSome a (λ bytes. b ≡ Some bytes) → IfSome b (λ bytes. blocks block ≡ bytes) → IfSome a (λ bytes. blocks block ≡ bytes)
    go block None b grows part = tt
    go block (Some bytes) b is part = subst (λ (o : Option (List ℕ)). IfSome o (λ bytes. blocks block ≡ bytes)) is part
