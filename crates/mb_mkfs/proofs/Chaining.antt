-- The lists of a fresh volume are laid by the steps that free a block.
use Rattle.std.proofs.Common.{ℕ, zero, suc, ◌≡◌, ◌≢◌, inl, inr, ◌+◌, ◌-◌, ◌*◌, ◌%◌, ◌<◌, ◌≤◌, true, false, ◌&&◌, cond, nat_eq, nat_le, nat_lt, List, length, refl, sym, ap, subst, ◌∙◌, arith}
use Rattle.std.proofs.lemmas.Bool.{cases_eq, cases_lt}
use Rattle.std.proofs.lemmas.Bool.Decides.{eqb_tells, nat_tests}
use Rattle.mb_kinds.specs.Image.{zeros}
use Rattle.mb_word.specs.Fields.{chain_count, chain_entry, inode_block, inode_place, mode_of}
use Rattle.mb_tree.specs.Blocks.{first_list, list_in}
use Rattle.mb_tree.specs.Chain.{Listed}
use Rattle.mb_blocks.specs.FreeLists.{AreFreed, IsFreed, IsSameList, after_freeing, emptied, ended, pushed}
use Rattle.mb_nodes.specs.Fresh.{IsBlank, falling}
use Rattle.mb_mkfs.specs.FreeLists.{free_block, has_list, last_place, number_at, super_block}
use Rattle.mb_mkfs.specs.Volume.{root_slots}
use Rattle.mb_mkfs.proofs.SuperBytes.{same_back, same_front}
use Rattle.mb_mkfs.proofs.Values.{free_now, fsize_now, isize_now, length_free, length_super, list_now, nfree_now, ninode_now, no_list, zero_word}

after_full : (it : Listed) (block : ℕ) → it.count ≡ 50 → after_freeing it block ≡ pushed emptied block
unfolding after_freeing
after_full it block full =
    let some : nat_eq it.count 0 ≡ false = grind (arith, nat_tests) in
    let all : nat_eq it.count 50 ≡ true = grind (arith, nat_tests) in
    ap (λ b. pushed (cond b ended (cond (nat_eq it.count 50) emptied it)) block) some ∙ ap (λ b. pushed (cond b emptied it) block) all

after_more : (it : Listed) (block : ℕ) → it.count ≢ 0 → it.count ≢ 50 → after_freeing it block ≡ pushed it block
unfolding after_freeing
after_more it block some room =
    let one : nat_eq it.count 0 ≡ false = grind (arith, nat_tests) in
    let few : nat_eq it.count 50 ≡ false = grind (arith, nat_tests) in
    ap (λ b. pushed (cond b ended (cond (nat_eq it.count 50) emptied it)) block) one ∙ ap (λ b. pushed (cond b emptied it) block) few

module _ (isize top : ℕ) (some : 3 ≤ isize) (narrow : isize ≤ 8193) (room : isize < top) (few : top ≤ 262144) where
  -- the blocks where those from `next` on are free, the root's slots among them and its inode not yet
  abbrev pub laid : ℕ → ℕ → List ℕ
  laid next block = cond (nat_eq block 1) (super_block isize top next) (cond (nat_eq block isize) root_slots (free_block top next block))

  small : isize < 65536
  small = omega (arith, narrow)

  pub other_now : (next block : ℕ) → block ≢ 1 → block ≢ isize → laid next block ≡ free_block top next block
  other_now next block first root =
      let one : nat_eq block 1 ≡ false = grind (arith, nat_tests) in
      let two : nat_eq block isize ≡ false = grind (arith, nat_tests) in
      ap (λ b. cond b (super_block isize top next) (cond (nat_eq block isize) root_slots (free_block top next block))) one ∙ ap (λ b. cond b root_slots (free_block top next block)) two

  pub root_now : (next : ℕ) → laid next isize ≡ root_slots
  root_now next =
      let one : nat_eq isize 1 ≡ false = grind (arith, nat_tests) in
      let two : nat_eq isize isize ≡ true = grind (arith, nat_tests) in
      ap (λ b. cond b (super_block isize top next) (cond (nat_eq isize isize) root_slots (free_block top next isize))) one ∙ ap (λ b. cond b root_slots (free_block top next isize)) two

  below_now : (next block : ℕ) → block < next → has_list top next block ≡ false
  below_now next block low = let b : nat_le next block ≡ false = grind (arith, nat_tests) in ap (λ x. x && nat_eq ((top - 1 - block) % 50) 49) b

  pub low_now : (next block : ℕ) → block < next → block ≢ 1 → block ≢ isize → laid next block ≡ zeros
  low_now next block low first root = other_now next block first root ∙ no_list top few next block (below_now next block low)

  same_list : (next block : ℕ) → block ≢ next → has_list top (next + 1) block ≡ has_list top next block
  same_list next block apart = elim (cases_lt block next) [
    | inl low ↦ below_now (next + 1) block (omega (arith, low)) ∙ sym (below_now next block low)
    | inr high ↦
        (let one : nat_le (next + 1) block ≡ true = grind (arith, nat_tests) in
        let two : nat_le next block ≡ true = grind (arith, nat_tests) in
        ap (λ x. x && nat_eq ((top - 1 - block) % 50) 49) (one ∙ sym two))
  ]

  free_same : (next block : ℕ) → block ≢ next → free_block top next block ≡ free_block top (next + 1) block
  unfolding free_block
  free_same next block apart = let e = same_list next block apart in rw e refl

  module _ (next : ℕ) (above : isize < next) (below : next < top) where
    abbrev old : ℕ → List ℕ
    old = laid (next + 1)

    abbrev new : ℕ → List ℕ
    new = laid next

    abbrev count : ℕ
    count = (first_list old).count

    count_is : count ≡ last_place top (next + 1) + 1
    count_is = nfree_now isize top small few (next + 1)

    full_list : count ≡ 50 → IsSameList (first_list new) (pushed emptied next)
    full_list full = (let was = count_is in let now = nfree_now isize top small few next in record {
      count = omega (arith, full, was, now, below);
      entry = λ k low.
          (let none : last_place top next ≡ 0 = omega (arith, full, was, below) in
          let z : k ≡ 0 = omega (arith, low) in
          free_now isize top small few next k (omega (arith, z)) ∙ grind (arith, nat_tests));
    })

    more_list : count ≢ 50 → IsSameList (first_list new) (pushed (first_list old) next)
    more_list room = (let was = count_is in let now = nfree_now isize top small few next in
        let up : last_place top next ≡ last_place top (next + 1) + 1 = omega (arith, room, was, below) in record {
          count = omega (arith, up, was, now);
          entry = λ k low. elim (eqb_tells k (first_list old).count) [
            | inl is ↦
                (let e = is.1 in let t = is.0 in
                free_now isize top small few next k (omega (arith, e, was, up))
                ∙ (let here : next + last_place top next - k ≡ next = omega (arith, e, was, up) in let yes : nat_lt next top ≡ true = grind (arith, nat_tests) in
                ap (λ x. cond (nat_lt x top) x 0) here ∙ ap (λ b. cond b next 0) yes)
                ∙ sym (ap (λ b. cond b next ((first_list old).entry k)) t))
            | inr not ↦
                (let apart = not.1 in let f = not.0 in
                let within : k ≤ last_place top (next + 1) = omega (arith, apart, was, low) in
                free_now isize top small few next k (omega (arith, within, up))
                ∙ (let same : next + last_place top next - k ≡ next + 1 + last_place top (next + 1) - k = omega (arith, up) in ap (λ x. cond (nat_lt x top) x 0) same)
                ∙ sym (free_now isize top small few (next + 1) k within)
                ∙ sym (ap (λ b. cond b next ((first_list old).entry k)) f))
          ];
        })

    list_same : IsSameList (first_list new) (after_freeing (first_list old) next)
    list_same = elim (cases_eq count 50) [
      | inl full ↦ subst (IsSameList (first_list new)) (sym (after_full (first_list old) next full)) (full_list full)
      | inr room ↦ (let was = count_is in subst (IsSameList (first_list new)) (sym (after_more (first_list old) next (λ e. omega (arith, e, was)) room)) (more_list room))
    ]

    copied : count ≡ 50 → IsSameList (list_in new next) (first_list old)
    copied full =
        let was = count_is in
        let here = other_now next next (omega (arith, above, some)) (omega (arith, above)) in
        let left : (top - 1 - next) % 50 ≡ 49 = omega (arith, full, was) in
        let from : nat_le next next ≡ true = grind (arith, nat_tests) in
        let fiftieth : nat_eq ((top - 1 - next) % 50) 49 ≡ true = grind (arith, nat_tests) in
        let has : has_list top next next ≡ true = ap (λ b. b && nat_eq ((top - 1 - next) % 50) 49) from ∙ fiftieth in
        let list = list_now top few next next has in record {
          count = ap (λ (b : List ℕ). chain_count b) here ∙ list.0 ∙ sym full;
          entry = λ k low.
              (let last : last_place top (next + 1) ≡ 49 = omega (arith, full, was) in
              let small_k : k < 50 = omega (arith, low, full) in
              ap (λ (b : List ℕ). chain_entry b k) here
              ∙ list.1 k small_k
              ∙ ap (λ c. number_at top (next + 1) c k) (sym last)
              ∙ sym (free_now isize top small few (next + 1) k (omega (arith, last, small_k))));
        }

    pub freed : IsFreed old new next
    freed = record {
      list = list_same;
      copied = copied;
      sized = length_super isize top small few next;
      filled = ap length (other_now next next (omega (arith, above, some)) (omega (arith, above))) ∙ length_free top few next next;
      front = same_front isize top next (next + 1);
      back = same_back isize top next (next + 1);
      others = λ other first apart. (let e = free_same next other apart in let one : nat_eq other 1 ≡ false = grind (arith, nat_tests) in
          ap (λ b. cond b (super_block isize top next) (cond (nat_eq other isize) root_slots (free_block top next other))) one
          ∙ ap (λ (x : List ℕ). cond (nat_eq other isize) root_slots x) e
          ∙ sym (ap (λ b. cond b (super_block isize top (next + 1)) (cond (nat_eq other isize) root_slots (free_block top (next + 1) other))) one));
    }

  pub all_freed : (first n : ℕ) → isize < first → first + n ≤ top → AreFreed (laid (first + n)) (laid first) (falling first n)
  all_freed first zero above within = let e : first ≡ first + 0 = omega arith in ap laid e
  all_freed first (suc n) above within =
      let e : first + n + 1 ≡ first + suc n = omega arith in (
        laid (first + n),
        subst (λ m. IsFreed (laid m) (laid (first + n)) (first + n)) e (freed (first + n) (omega (arith, above)) (omega (arith, within))),
        all_freed first n above (omega (arith, within)),
      )

  -- no block free yet
  pub blank : ((block : ℕ) → length (laid top block) ≡ 512) → IsBlank (laid top) isize top
  blank sized = record {
    sized = sized;
    isize_is = isize_now isize top small few top;
    fsize_is = fsize_now isize top small few top;
    uncached = ninode_now isize top small few top;
    list = (let many = nfree_now isize top small few top in let none : last_place top top ≡ 0 = omega arith in record {
      count = omega (arith, many, none);
      entry = λ k low. (let z : k ≡ 0 = omega (arith, low) in free_now isize top small few top k (omega (arith, z)) ∙ grind (arith, nat_tests));
    });
    unused = λ ino real low.
        ap (λ (b : List ℕ). mode_of b (inode_place ino)) (low_now top (inode_block ino) (omega (arith, low, room)) (omega arith) (omega (arith, low)))
        ∙ zero_word (64 * inode_place ino);
  }
