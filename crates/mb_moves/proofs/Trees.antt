-- Equations of trees.
use Rattle.std.proofs.Common.{ℕ, ◌≡◌, ◌≢◌, inl, inr, ◌+◌, ◌≤◌, Bool, true, false, not, ◌&&◌, ◌||◌, cond, nat_eq, nat_le, List, [], ◌∷◌, Option, Some, None, Ok, Err, refl, sym, ap, ◌∙◌, arith}
use Rattle.std.specs.FinMap as fin
use Rattle.std.specs.FinMap.{get-retain_keys, nat_cmp-IsAntisymmetric}
use Rattle.std.specs.List.{list_any}
use Rattle.std.proofs.lemmas.Bool.{cases_lt}
use Rattle.std.proofs.lemmas.Bool.Decides.{nat_tests}
use Rattle.mb_kinds.specs.declared.errors.Errno.TheVariants.{ENOSPC}
use Rattle.mb_tree.specs.Answers.{Answer, ◌>>◌, need}
use Rattle.mb_tree.specs.Cost.{cost, cost_at}
use Rattle.mb_tree.specs.Effect.{fitting, is_lost, less_open}
use Rattle.mb_tree.specs.Maps.{Numbered}
use Rattle.mb_tree.specs.Sessions.{Counts}
use Rattle.mb_tree.specs.declared.nodes.Node.{Node}
use Rattle.mb_tree.specs.declared.trees.Tree.{Tree}
use Rattle.mb_tree.proofs.FiniteMaps.{get_here, get_there, gone_here, gone_there, one_or_not, same}
use Rattle.mb_tree.proofs.Sums.{sum_put, sum_same}
use Rattle.mb_moves.specs.TreeLaws.{NodesPut, Released}

-- ---- what a node more costs

module _ (tree : Tree) (nodes : Numbered Node) (ino : ℕ) (node : Node) (none : fin.get nodes ino ≡ None) where
  pub costs_no_less : cost (record tree { nodes = nodes }) ≤ cost (record tree { nodes = fin.insert nodes ino node })
  costs_no_less = elim (cases_lt ino (tree.last + 1)) [
    | inl low ↦
        (let put = sum_put {X = Node} cost_at nodes ino (tree.last + 1) low node in
        let free : cost_at (fin.get nodes ino) ≡ 0 = ap cost_at none in
        omega (arith, put, free))
    | inr past ↦
        (let stays = sum_same (λ q. cost_at (fin.get nodes q)) (λ q. cost_at (fin.get (fin.insert nodes ino node) q)) (tree.last + 1)
        (λ k less. ap cost_at (get_there nodes ino node k (omega (arith, less, past)))) in
        omega (arith, stays))
  ]

  pub refused_more : fitting tree nodes ≡ Err ENOSPC → fitting tree (fin.insert nodes ino node) ≡ Err ENOSPC
  refused_more was =
      let over = costs_no_less in
      let t : nat_le (cost (record tree { nodes = nodes })) tree.cap ≡ false = refused (nat_le (cost (record tree { nodes = nodes })) tree.cap) was in
      let u : nat_le (cost (record tree { nodes = fin.insert nodes ino node })) tree.cap ≡ false = grind (arith, nat_tests) in
      rw u refl
    where
      refused : (b : Bool) → ◌≡◌ {A = Answer Tree} (need b ENOSPC >> Ok (record tree { nodes = nodes })) (Err ENOSPC) → b ≡ false
      refused true e = cc
      refused false e = refl

-- ---- nodes put and taken

pub put_twice : (nodes : Numbered Node) (ino : ℕ) (one two : Node) → fin.insert (fin.insert nodes ino one) ino two ≡ fin.insert nodes ino two
put_twice nodes ino one two = same (fin.insert (fin.insert nodes ino one) ino two) (fin.insert nodes ino two) (λ q. elim (one_or_not q ino) [
  | inl e ↦ rw e (get_here (fin.insert nodes ino one) ino two ∙ sym (get_here nodes ino two))
  | inr apart ↦ get_there (fin.insert nodes ino one) ino two q apart ∙ get_there nodes ino one q apart ∙ sym (get_there nodes ino two q apart)
])

pub put_same : (nodes : Numbered Node) (ino : ℕ) (node : Node) → fin.get nodes ino ≡ Some node → fin.insert nodes ino node ≡ nodes
put_same nodes ino node has = same (fin.insert nodes ino node) nodes (λ q. elim (one_or_not q ino) [
  | inl e ↦ rw e (get_here nodes ino node ∙ sym has)
  | inr apart ↦ get_there nodes ino node q apart
])

pub put_beside : (nodes : Numbered Node) (ino other : ℕ) (one two : Node) → other ≢ ino → fin.insert (fin.insert nodes ino one) other two ≡ fin.insert (fin.insert nodes other two) ino one
put_beside nodes ino other one two off =
    let back : ino ≢ other = λ e. off (sym e) in
    same (fin.insert (fin.insert nodes ino one) other two) (fin.insert (fin.insert nodes other two) ino one) (λ q. elim (one_or_not q ino) [
      | inl e ↦ rw e (get_there (fin.insert nodes ino one) other two ino back ∙ get_here nodes ino one ∙ sym (get_here (fin.insert nodes other two) ino one))
      | inr apart ↦ elim (one_or_not q other) [
        | inl e ↦ rw e (get_here (fin.insert nodes ino one) other two ∙ sym (get_there (fin.insert nodes other two) ino one other off ∙ get_here nodes other two))
        | inr away ↦
            get_there (fin.insert nodes ino one) other two q away ∙ get_there nodes ino one q apart
            ∙ sym (get_there (fin.insert nodes other two) ino one q apart ∙ get_there nodes other two q away)
      ]
    ])

pub taken_after : (nodes : Numbered Node) (ino : ℕ) (node : Node) → fin.remove (fin.insert nodes ino node) ino ≡ fin.remove nodes ino
taken_after nodes ino node = same (fin.remove (fin.insert nodes ino node) ino) (fin.remove nodes ino) (λ q. elim (one_or_not q ino) [
  | inl e ↦ rw e (gone_here (fin.insert nodes ino node) ino ∙ sym (gone_here nodes ino))
  | inr apart ↦ gone_there (fin.insert nodes ino node) ino q apart ∙ get_there nodes ino node q apart ∙ sym (gone_there nodes ino q apart)
])

pub taken_beside : (nodes : Numbered Node) (ino other : ℕ) (node : Node) → other ≢ ino → fin.remove (fin.insert nodes ino node) other ≡ fin.insert (fin.remove nodes other) ino node
taken_beside nodes ino other node off =
    let back : ino ≢ other = λ e. off (sym e) in
    same (fin.remove (fin.insert nodes ino node) other) (fin.insert (fin.remove nodes other) ino node) (λ q. elim (one_or_not q ino) [
      | inl e ↦ rw e (gone_there (fin.insert nodes ino node) other ino back ∙ get_here nodes ino node ∙ sym (get_here (fin.remove nodes other) ino node))
      | inr apart ↦ elim (one_or_not q other) [
        | inl e ↦ rw e (gone_here (fin.insert nodes ino node) other ∙ sym (get_there (fin.remove nodes other) ino node other off ∙ gone_here nodes other))
        | inr away ↦
            gone_there (fin.insert nodes ino node) other q away ∙ get_there nodes ino node q apart
            ∙ sym (get_there (fin.remove nodes other) ino node q apart ∙ gone_there nodes other q away)
      ]
    ])

pub nodes_put : NodesPut
nodes_put = record { twice = put_twice; same = put_same; beside = put_beside; taken = taken_after; taken_beside = taken_beside }

-- ---- released inodes

module _ (nodes : Numbered Node) (opens : Counts) where
  abbrev stays : List ℕ → ℕ → Bool
  stays inos q = not (list_any (nat_eq q) inos && is_lost opens q (fin.get nodes q))

  after : (inos : List ℕ) (q : ℕ) → fin.get (less_open nodes opens inos) q ≡ cond (stays inos q) (fin.get nodes q) None
  after inos q = get-retain_keys nodes (stays inos) q (λ x t. ap (stays inos) (sym (nat_cmp-IsAntisymmetric q x t)))

  none_released : less_open nodes opens [] ≡ nodes
  none_released = same (less_open nodes opens []) nodes (λ q. after [] q)

  kept_first : (ino : ℕ) (inos : List ℕ) → is_lost opens ino (fin.get nodes ino) ≡ false → less_open nodes opens (ino ∷ inos) ≡ less_open nodes opens inos
  kept_first ino inos f = same (less_open nodes opens (ino ∷ inos)) (less_open nodes opens inos) (λ q. after (ino ∷ inos) q ∙ ap (λ b. cond b (fin.get nodes q) None) (alike q) ∙ sym (after inos q))
    where
      alike : (q : ℕ) → stays (ino ∷ inos) q ≡ stays inos q
      alike q = elim (one_or_not q ino) [
        | inl e ↦
            (let l : is_lost opens q (fin.get nodes q) ≡ false = ap (λ x. is_lost opens x (fin.get nodes x)) e ∙ f in
            ap (λ b. not (list_any (nat_eq q) (ino ∷ inos) && b)) l ∙ ap not (none (list_any (nat_eq q) (ino ∷ inos)) ∙ sym (none (list_any (nat_eq q) inos))) ∙ sym (ap (λ b. not (list_any (nat_eq q) inos && b)) l))
        | inr apart ↦ (let off : nat_eq q ino ≡ false = grind (arith, nat_tests) in ap (λ b. not ((b || list_any (nat_eq q) inos) && is_lost opens q (fin.get nodes q))) off)
      ]
        where
          none : (b : Bool) → (b && false) ≡ false
          none true = refl
          none false = refl

lost_first : (nodes : Numbered Node) (opens : Counts) (ino : ℕ) (inos : List ℕ) → is_lost opens ino (fin.get nodes ino) ≡ true → less_open nodes opens (ino ∷ inos) ≡ less_open (fin.remove nodes ino) opens inos
lost_first nodes opens ino inos t = same (less_open nodes opens (ino ∷ inos)) (less_open (fin.remove nodes ino) opens inos) (λ q. elim (one_or_not q ino) [
  | inl e ↦ rw e (after nodes opens (ino ∷ inos) ino ∙ ap (λ b. cond b (fin.get nodes ino) None) away ∙ sym (after (fin.remove nodes ino) opens inos ino ∙ gone (stays (fin.remove nodes ino) opens inos ino)))
  | inr apart ↦ after nodes opens (ino ∷ inos) q ∙ beside q apart ∙ sym (after (fin.remove nodes ino) opens inos q)
])
  where
    away : stays nodes opens (ino ∷ inos) ino ≡ false
    away = (let on : nat_eq ino ino ≡ true = grind (arith, nat_tests) in ap (λ b. not ((b || list_any (nat_eq ino) inos) && is_lost opens ino (fin.get nodes ino))) on ∙ ap not t)

    gone : (b : Bool) → cond b (fin.get (fin.remove nodes ino) ino) None ≡ None
    gone true = gone_here nodes ino
    gone false = refl

    beside : (q : ℕ) → q ≢ ino → cond (stays nodes opens (ino ∷ inos) q) (fin.get nodes q) None ≡ cond (stays (fin.remove nodes ino) opens inos q) (fin.get (fin.remove nodes ino) q) None
    beside q apart =
        let off : nat_eq q ino ≡ false = grind (arith, nat_tests) in
        ap (λ b. cond (not ((b || list_any (nat_eq q) inos) && is_lost opens q (fin.get nodes q))) (fin.get nodes q) None) off
        ∙ ap (λ (o : Option Node). cond (not (list_any (nat_eq q) inos && is_lost opens q o)) o None) (sym (gone_there nodes ino q apart))

pub released : (nodes : Numbered Node) (opens : Counts) → Released nodes opens
released nodes opens = record { none = none_released nodes opens; lost = lost_first nodes opens; kept = kept_first nodes opens }
