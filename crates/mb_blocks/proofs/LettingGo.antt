-- An inode's blocks let go, which are in hand then, and inodes without an address that join those that have some.
use Rattle.std.proofs.Common.{ℕ, ◌≡◌, ◌≢◌, ◌⊎◌, inl, inr, ◌<◌, Bool, true, nat_eq, List, ◌++◌, sym, ap, subst, ◌∙◌, arith, append_assoc}
use Rattle.std.specs.List.{Contains}
use Rattle.std.proofs.lemmas.Bool.{cases_eq}
use Rattle.std.proofs.lemmas.Bool.Decides.{nat_tests}
use Rattle.std.proofs.lemmas.List.Elements.{All-weaker, All-append, All-contains, Contains-get_or, Contains-append_left, Contains-append_right, Contains-append_cases}
use Rattle.mb_tree.specs.Blocks.{entry_in, pointers}
use Rattle.mb_tree.specs.Places.{Place, at, IsPlace}
use Rattle.mb_tree.specs.Places.Place.{Top, Under}
use Rattle.mb_tree.specs.Volume.{IsOpenToFiles}
use Rattle.mb_blocks.specs.Laid.{AreSpare, IndexesLeadOn, IsBare, IsHad, IsLaid}
use Rattle.mb_blocks.specs.Laid.IsHad.{by_none, by_place}
use Rattle.mb_blocks.specs.Owners.{Enumerates, ino_of, without}
use Rattle.mb_blocks.proofs.Owning.{mine_owner, mine_place, place_apart, place_mine, place_over, place_still, place_was, without_has}
use Rattle.mb_blocks.proofs.Pointing.{zero_entry}
use Rattle.mb_blocks.proofs.Rearranged.{once_joined}
use Rattle.mb_blocks.specs.Inodes.{IsBorn}

module _ (has : ℕ → Bool) (blocks : ℕ → List ℕ) (ino : ℕ) (held loose chain : List ℕ) (laid : IsLaid has blocks loose chain) (is : has ino ≡ true) (list : Enumerates blocks ino held) where
  open_held : (b : ℕ) → Contains held b → IsOpenToFiles blocks b
  open_held b among =
      let only = list.only b among in
      let some = only.0 in
      let e = only.3 in
      subst (IsOpenToFiles blocks) only.3 (laid.in_range only.1 (mine_place has ino is only.1 only.2) (omega (arith, some, e)))

  bare_held : (b : ℕ) → Contains held b → IsBare (without has ino) blocks b
  bare_held b among q h e =
      let only = list.only b among in
      let some = only.0 in
      let f = only.3 in
      let same : only.1 ≡ q = laid.once only.1 q (mine_place has ino is only.1 only.2) (place_was has ino q h) (omega (arith, some, f)) (only.3 ∙ sym e) in
      place_apart has ino q h (ap ino_of (sym same) ∙ mine_owner has ino only.1 only.2)

  apart_held : (x y : ℕ) → Contains held x → Contains (loose ++ chain) y → x ≢ y
  apart_held x y among spare e =
      let only = list.only x among in
      All-contains (IsBare has blocks) (loose ++ chain) y laid.spare.bare spare only.1 (mine_place has ino is only.1 only.2) (only.3 ∙ e)

  spare_more : AreSpare (without has ino) blocks (held ++ (loose ++ chain))
  spare_more = record {
    in_range = All-append (IsOpenToFiles blocks) held (loose ++ chain) (λ i d within. open_held _ (Contains-get_or held i d within)) laid.spare.in_range;
    once = once_joined held (loose ++ chain) list.once laid.spare.once apart_held;
    bare = All-append (IsBare (without has ino) blocks) held (loose ++ chain) (λ i d within. bare_held _ (Contains-get_or held i d within))
        (All-weaker (IsBare has blocks) (IsBare (without has ino) blocks) (λ b bare q h. bare q (place_was has ino q h)) (loose ++ chain) laid.spare.bare);
  }

  -- the inode's blocks are in hand, and no byte was written
  pub laid_less : IsLaid (without has ino) blocks (held ++ loose) chain
  laid_less = record {
    sized = laid.sized;
    wide = laid.wide;
    inodes = λ i h. laid.inodes i (without_has has ino i h);
    in_range = λ q h some. laid.in_range q (place_was has ino q h) some;
    once = λ q r h g some e. laid.once q r (place_was has ino q h) (place_was has ino r g) some e;
    free = laid.free;
    spare = subst (AreSpare (without has ino) blocks) (sym (append_assoc held loose chain)) spare_more;
  }

  -- the same blocks are accounted for
  pub less_had : (b : ℕ) → 0 < b → IsHad has blocks (loose ++ chain) b → IsHad (without has ino) blocks (held ++ (loose ++ chain)) b
  less_had b some (by_place q h e) = elim (cases_eq (ino_of q) ino) [
    | inl mine ↦ by_none (Contains-append_left held (loose ++ chain) b (subst (Contains held) e (list.all q (place_mine has ino q h mine) (omega (arith, some, e)))))
    | inr apart ↦ by_place q (place_still has ino q h apart) e
  ]
  less_had b some (by_none among) = by_none (Contains-append_right held (loose ++ chain) b among)

  pub had_less : (b : ℕ) → IsHad (without has ino) blocks (held ++ (loose ++ chain)) b → IsHad has blocks (loose ++ chain) b
  had_less b (by_place q h e) = by_place q (place_was has ino q h) e
  had_less b (by_none among) = elim (Contains-append_cases held (loose ++ chain) b among) [
    | inl mine ↦ (let only = list.only b mine in by_place only.1 (mine_place has ino is only.1 only.2) only.3)
    | inr spare ↦ by_none spare
  ]

-- ---- inodes without an address

module _ (few has : ℕ → Bool) (blocks : ℕ → List ℕ) (adds : (i : ℕ) → has i ≡ true → (few i ≡ true) ⊎ IsBorn blocks i) where
  pub place_or_hole : (q : Place) → IsPlace has q → IsPlace few q ⊎ (at (pointers blocks) q ≡ 0)
  place_or_hole (Top i p) h = elim (adds i h.0) [ inl t ↦ inl (t, h.1) | inr born ↦ inr (born.holes p h.1) ]
  place_or_hole (Under q k) h = elim (place_or_hole q h.0) [ inl g ↦ inl (g, h.1, h.2) | inr none ↦ inr (ap (λ b. entry_in blocks b k) none ∙ zero_entry blocks k) ]

  pub place_there : (q : Place) → IsPlace has q → 0 < at (pointers blocks) q → IsPlace few q
  place_there q h some = elim (place_or_hole q h) [ inl g ↦ g | inr none ↦ absurd (omega (arith, some, none)) ]

  pub lead_more : IndexesLeadOn few blocks → IndexesLeadOn has blocks
  lead_more leads q h up some = leads q (place_there q h some) up some

  pub laid_more : (loose chain : List ℕ) → IsLaid few blocks loose chain → IsLaid has blocks loose chain
  laid_more loose chain laid = record {
    sized = laid.sized;
    wide = laid.wide;
    inodes = λ i h. elim (adds i h) [ inl t ↦ laid.inodes i t | inr born ↦ (born.some, born.listed) ];
    in_range = λ q h some. laid.in_range q (place_there q h some) some;
    once = λ q r h g some e. laid.once q r (place_there q h some) (place_there r g (omega (arith, some, e))) some e;
    free = laid.free;
    spare = record {
      in_range = laid.spare.in_range;
      once = laid.spare.once;
      bare = λ i d within q h. elim (place_or_hole q h) [
        | inl g ↦ laid.spare.bare i d within q g
        | inr none ↦ (λ e. (let from = (laid.spare.in_range i d within).from in let wide = laid.wide in omega (arith, none, e, from, wide)))
      ];
    };
  }

-- nothing stands under thirteen holes
pub hole_under : (blocks : ℕ → List ℕ) (ino : ℕ) → ((p : ℕ) → p < 13 → (pointers blocks).top ino p ≡ 0) → (q : Place) → IsPlace (nat_eq ino) q → at (pointers blocks) q ≡ 0
hole_under blocks ino holes (Top i p) h = (let same : ino ≡ i = grind (arith, nat_tests) in subst (λ x. (pointers blocks).top x p ≡ 0) same (holes p h.1))
hole_under blocks ino holes (Under q k) h = ap (λ b. entry_in blocks b k) (hole_under blocks ino holes q h.0) ∙ zero_entry blocks k

-- fewer inodes: what is laid for all is laid for some of them
pub laid_fewer : (few has : ℕ → Bool) (blocks : ℕ → List ℕ) (loose chain : List ℕ) → ((i : ℕ) → few i ≡ true → has i ≡ true) → IsLaid has blocks loose chain → IsLaid few blocks loose chain
laid_fewer few has blocks loose chain within laid =
    let up : (q : Place) → IsPlace few q → IsPlace has q = λ q. place_over few has q (within (ino_of q)) in
    record {
      sized = laid.sized;
      wide = laid.wide;
      inodes = λ i h. laid.inodes i (within i h);
      in_range = λ q h some. laid.in_range q (up q h) some;
      once = λ q r h g some e. laid.once q r (up q h) (up r g) some e;
      free = laid.free;
      spare = record {
        in_range = laid.spare.in_range;
        once = laid.spare.once;
        bare = All-weaker (IsBare has blocks) (IsBare few blocks) (λ b bare q h. bare q (up q h)) (loose ++ chain) laid.spare.bare;
      };
    }
