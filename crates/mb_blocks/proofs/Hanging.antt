-- A block in hand hung at a place: an address of an inode, or one in an index block.
use Rattle.std.proofs.Common.{ℕ, ◌≡◌, ◌≢◌, ◌⊎◌, inl, inr, ◌<◌, ◌≤◌, Bool, List, ◌∷◌, ◌++◌, length, All, refl, sym, ap, subst, ◌∙◌, arith}
use Rattle.std.proofs.lemmas.Bool.{cases_eq}
use Rattle.std.proofs.lemmas.List.Elements.{All-head, All-tail}
use Rattle.mb_word.specs.Fields.{isize_of, fsize_of, nfree_of, free_of, inode_block, inode_place, address_of, index_entry}
use Rattle.mb_tree.specs.Blocks.{entry_in, pointers, first_list, list_in}
use Rattle.mb_tree.specs.Places.{Place, at, level, IsPlace}
use Rattle.mb_tree.specs.Places.Place.{Top, Under}
use Rattle.mb_tree.specs.Volume.{IsOpenToFiles}
use Rattle.mb_blocks.specs.FreeLists.{IsSameList}
use Rattle.mb_blocks.specs.Growing.{IsEntrySet, IsTopSet}
use Rattle.mb_blocks.specs.Laid.{IsBare, IsLaid}
use Rattle.mb_blocks.proofs.Frames.{SetsEntry, SetsTop, at_set, hung_at, hung_top}
use Rattle.mb_blocks.proofs.Freeing.{same_list}
use Rattle.mb_blocks.proofs.InodeStays.{top_stays}
use Rattle.mb_blocks.proofs.Listing.{chain_alike}
use Rattle.mb_blocks.proofs.PartBytes.{entry_is}
use Rattle.mb_blocks.proofs.Pointing.{entry_same, zero_entry}
use Rattle.mb_blocks.proofs.Rearranged.{all_right, first_other, rest_once}

module _ (has : ℕ → Bool) (old new : ℕ → List ℕ) (r : Place) (block : ℕ) (loose chain : List ℕ) (laid : IsLaid has old (block ∷ loose) chain) (is : IsPlace has r)
    (first : new 1 ≡ old 1) (sized : (other : ℕ) → length (new other) ≡ 512) (offs : (other : ℕ) → IsOpenToFiles old other → IsBare has old other → new other ≡ old other)
    (here : at (pointers new) r ≡ block) (either : (q : Place) → IsPlace has q → (q ≡ r) ⊎ (at (pointers new) q ≡ at (pointers old) q)) where
  free_of_places : IsBare has old block
  free_of_places = All-head (IsBare has old) block (loose ++ chain) laid.spare.bare

  open_still : (other : ℕ) → IsOpenToFiles old other → IsOpenToFiles new other
  open_still other open_to = record {
    from = subst (λ (bytes : List ℕ). isize_of bytes ≤ other) (sym first) open_to.from;
    below = subst (λ (bytes : List ℕ). other < fsize_of bytes) (sym first) open_to.below;
  }

  apart_hung : (q s : Place) → IsPlace has s → q ≡ r → at (pointers new) s ≡ at (pointers old) s → at (pointers new) q ≡ at (pointers new) s → ⊥
  apart_hung q s g hung same e = free_of_places s g (sym same ∙ sym e ∙ ap (at (pointers new)) hung ∙ here)

  open_rest : All (IsOpenToFiles old) (loose ++ chain)
  open_rest = All-tail (IsOpenToFiles old) block (loose ++ chain) laid.spare.in_range

  bare_rest : All (IsBare has old) (loose ++ chain)
  bare_rest = All-tail (IsBare has old) block (loose ++ chain) laid.spare.bare

  lists : All (λ b. list_in old b ≡ list_in new b) chain
  lists i d within = same_list old new _ (offs _ (all_right (IsOpenToFiles old) loose chain open_rest i d within) (all_right (IsBare has old) loose chain bare_rest i d within))

  pub laid_hung : IsLaid has new loose chain
  laid_hung = record {
    sized = sized;
    wide = subst (λ (bytes : List ℕ). 3 ≤ isize_of bytes) (sym first) laid.wide;
    inodes = λ ino h. (let was = laid.inodes ino h in (was.0, subst (λ (bytes : List ℕ). inode_block ino < isize_of bytes) (sym first) was.1));
    in_range = λ q h some. elim (either q h) [
      | inl hung ↦ subst (IsOpenToFiles new) (sym (ap (at (pointers new)) hung ∙ here)) (open_still block (All-head (IsOpenToFiles old) block (loose ++ chain) laid.spare.in_range))
      | inr same ↦ subst (IsOpenToFiles new) (sym same) (open_still (at (pointers old) q) (laid.in_range q h (omega (arith, some, same))))
    ];
    once = λ q s h g some e. elim (either q h) [
      | inl hung ↦ elim (either s g) [
        | inl twin ↦ hung ∙ sym twin
        | inr same ↦ absurd (apart_hung q s g hung same e)
      ]
      | inr kept ↦ elim (either s g) [
        | inl twin ↦ absurd (apart_hung s q h twin kept (sym e))
        | inr same ↦ laid.once q s h g (omega (arith, some, kept)) (sym kept ∙ e ∙ same)
      ]
    ];
    free =
        chain_alike (list_in old) (list_in new) (first_list old) (first_list new) chain lists
        (subst (λ (bytes : List ℕ). IsSameList (record { count = nfree_of bytes; entry = free_of bytes }) (first_list old)) (sym first) (record { count = refl; entry = λ j low. refl })) laid.free;
    spare = record {
      in_range = λ i d within. open_still _ (open_rest i d within);
      once = rest_once block (loose ++ chain) laid.spare.once;
      bare = λ i d within q h. elim (either q h) [
        | inl hung ↦ (λ e. first_other block (loose ++ chain) laid.spare.once i d within (sym here ∙ sym (ap (at (pointers new)) hung) ∙ e))
        | inr same ↦ (λ e. bare_rest i d within q h (sym same ∙ e))
      ];
    };
  }

-- ---- in an index block

module _ (has : ℕ → Bool) (old new : ℕ → List ℕ) (w : Place) (k block : ℕ) (loose chain : List ℕ) (laid : IsLaid has old (block ∷ loose) chain) (is : IsPlace has (Under w k))
    (there : 0 < at (pointers old) w) (missing : at (pointers old) (Under w k) ≡ 0) (blank : (j : ℕ) → index_entry (old block) j ≡ 0) (sets : IsEntrySet old new (at (pointers old) w) k block) where
  index_from : isize_of (old 1) ≤ at (pointers old) w
  index_from = (laid.in_range w is.0 there).from

  real : 0 < block
  real = (let from = (All-head (IsOpenToFiles old) block (loose ++ chain) laid.spare.in_range).from in let wide = laid.wide in omega (arith, from, wide))

  pub entry_first : new 1 ≡ old 1
  entry_first = sets.others 1 (let from = index_from in let wide = laid.wide in omega (arith, from, wide))

  apart_from_index : block ≢ at (pointers old) w
  apart_from_index e = All-head (IsBare has old) block (loose ++ chain) laid.spare.bare w is.0 (sym e)

  sets_entry : SetsEntry has (pointers old) (pointers new) (at (pointers old) w) k block
  sets_entry = record {
    top = λ ino p h low. ap (λ (bytes : List ℕ). address_of bytes (inode_place ino) p)
        (sets.others (inode_block ino) (let within = laid.inodes ino h in let from = index_from in omega (arith, within.1, from)));
    here = entry_is new (at (pointers old) w) k there ∙ sets.here;
    others = λ c j off. elim (cases_eq c (at (pointers old) w)) [
      | inr apart ↦ entry_same old new c j (λ some. sets.others c apart)
      | inl same ↦ elim off [
        | inl apart ↦ absurd (apart same)
        | inr beside ↦ subst (λ b. entry_in new b j ≡ entry_in old b j) (sym same)
            (entry_is new (at (pointers old) w) j there ∙ sets.beside j beside ∙ sym (entry_is old (at (pointers old) w) j there))
      ]
    ];
  }

  no_addresses : 0 < level (Under w k) → (j : ℕ) → j < 128 → (pointers new).entry block j ≡ 0
  no_addresses up j low = sets_entry.others block j (inl apart_from_index) ∙ entry_is old block j real ∙ blank j

  pub entry_either : (q : Place) → IsPlace has q → (q ≡ Under w k) ⊎ (at (pointers new) q ≡ at (pointers old) q)
  entry_either q h = hung_at has (pointers old) (pointers new) w k block is.0 there laid.once sets_entry missing no_addresses (zero_entry old) q h

  pub entry_here : at (pointers new) (Under w k) ≡ block
  entry_here = at_set has (pointers old) (pointers new) w k block is.0 there laid.once sets_entry

  pub laid_entry : IsLaid has new loose chain
  laid_entry = laid_hung has old new (Under w k) block loose chain laid is entry_first
      (λ other. elim (cases_eq other (at (pointers old) w)) [
        | inl e ↦ ap (λ b. length (new b)) e ∙ sets.sized
        | inr apart ↦ ap length (sets.others other apart) ∙ laid.sized other
      ])
      (λ other open_to bare. sets.others other (λ e. bare w is.0 (sym e))) entry_here entry_either

-- ---- in an inode

module _ (has : ℕ → Bool) (old new : ℕ → List ℕ) (ino p block : ℕ) (loose chain : List ℕ) (laid : IsLaid has old (block ∷ loose) chain) (is : IsPlace has (Top ino p))
    (missing : at (pointers old) (Top ino p) ≡ 0) (blank : (j : ℕ) → index_entry (old block) j ≡ 0) (sets : IsTopSet old new ino p block) where
  listed : inode_block ino < isize_of (old 1)
  listed = (laid.inodes ino is.0).1

  open_off : (other : ℕ) → IsOpenToFiles old other → new other ≡ old other
  open_off other open_to = sets.written.others other (let from = open_to.from in let low = listed in omega (arith, from, low))

  pub top_first : new 1 ≡ old 1
  top_first = sets.written.others 1 (omega arith)

  hand : IsOpenToFiles old block
  hand = All-head (IsOpenToFiles old) block (loose ++ chain) laid.spare.in_range

  sized_now : (other : ℕ) → length (new other) ≡ 512
  sized_now other = elim (cases_eq other (inode_block ino)) [
    | inl e ↦ ap (λ b. length (new b)) e ∙ sets.written.sized
    | inr apart ↦ ap length (sets.written.others other apart) ∙ laid.sized other
  ]

  sets_top : SetsTop has (pointers old) (pointers new) ino p block (inode_block ino)
  sets_top = record {
    here = sets.here;
    others = λ i j h low off. elim (cases_eq i ino) [
      | inr apart ↦ top_stays old new i (sized_now (inode_block i)) (laid.sized (inode_block i)) (sets.written.beside i (laid.inodes i h).0 apart) j low
      | inl same ↦ elim off [
        | inl apart ↦ absurd (apart same)
        | inr beside ↦ subst (λ x. (pointers new).top x j ≡ (pointers old).top x j) (sym same) (sets.tops j low beside)
      ]
    ];
    entry = λ c j apart. entry_same old new c j (λ some. sets.written.others c apart);
  }

  pub top_either : (q : Place) → IsPlace has q → (q ≡ Top ino p) ⊎ (at (pointers new) q ≡ at (pointers old) q)
  top_either q h = hung_top has (pointers old) (pointers new) ino p block (inode_block ino) sets_top missing
      (λ s g e. elim (cases_eq (at (pointers old) s) 0) [
        | inl none ↦ omega (arith, none, e)
        | inr some ↦ (let from = (laid.in_range s g (omega (arith, some))).from in let low = listed in omega (arith, from, low, e))
      ])
      (λ up j low. (let real : 0 < block = (let from = hand.from in let wide = laid.wide in omega (arith, from, wide)) in
      let off : new block ≡ old block = open_off block hand in
      entry_is new block j real ∙ ap (λ (bytes : List ℕ). index_entry bytes j) off ∙ blank j)) (zero_entry old) q h

  pub laid_top : IsLaid has new loose chain
  laid_top = laid_hung has old new (Top ino p) block loose chain laid is top_first sized_now (λ other open_to bare. open_off other open_to) sets.here top_either
