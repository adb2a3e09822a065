-- A block taken, zeroed and hung where a place was a hole.
use Rattle.std.proofs.Common.{ℕ, ◌≡◌, ◌⊎◌, inl, inr, ◌<◌, Bool, List, ◌∷◌, ◌++◌, length, slice_index, sym, ap, ◌∙◌, arith}
use Rattle.std.proofs.lemmas.List.Elements.{All-head}
use Rattle.mb_kinds.specs.Image.{zeros}
use Rattle.mb_word.specs.Fields.{isize_of, inode_block, index_entry}
use Rattle.mb_tree.specs.Blocks.{pointers}
use Rattle.mb_tree.specs.Places.{Place, at, IsPlace}
use Rattle.mb_tree.specs.Places.Place.{Top, Under}
use Rattle.mb_tree.specs.Volume.{IsOpenToFiles}
use Rattle.mb_blocks.specs.Conserved.{Conserves}
use Rattle.mb_blocks.specs.Growing.{Grows, SetsPlace, missing}
use Rattle.mb_blocks.specs.Laid.{IsBare, IsLaid}
use Rattle.mb_blocks.specs.Laid.IsHad.{by_place}
use Rattle.mb_blocks.specs.Owners.{ino_of}
use Rattle.mb_blocks.specs.Pointing.{KeepsHeld}
use Rattle.mb_blocks.specs.Reached.{HasHung, HasIndexAbove, IsParent}
use Rattle.mb_blocks.proofs.Conserving.{conserved_hung, conserved_taken, conserved_then, conserved_written}
use Rattle.mb_blocks.proofs.FieldsKept.{fields_off, fields_then}
use Rattle.mb_blocks.proofs.Hanging.{entry_either, entry_first, entry_here, laid_entry, laid_top, top_either, top_first}
use Rattle.mb_blocks.proofs.Keeping.{sizes_same}
use Rattle.mb_blocks.proofs.Owning.{place_owner}
use Rattle.mb_blocks.proofs.Pointing.{at_alike, held_then, its_pointers}
use Rattle.mb_blocks.proofs.Taking.{hand_first, hand_held, laid_taken, laid_written, length-zeros, taken_held, zeros_entry}
use Rattle.mb_blocks.specs.Inodes.{KeepsFields}

module _ (has : ℕ → Bool) (old new : ℕ → List ℕ) (block : ℕ) (loose chain : List ℕ) (laid : IsLaid has old (block ∷ loose) chain) (blank : (j : ℕ) → index_entry (old block) j ≡ 0) where
  hand : IsOpenToFiles old block
  hand = All-head (IsOpenToFiles old) block (loose ++ chain) laid.spare.in_range

  bare : IsBare has old block
  bare = All-head (IsBare has old) block (loose ++ chain) laid.spare.bare

  pub hung_place : (r : Place) → IsPlace has r → HasIndexAbove old r → at (pointers old) r ≡ 0 → SetsPlace old new r block → HasHung has old new r block loose chain
  hung_place (Top ino p) is ready missing sets =
      let low = (laid.inodes ino is.0).1 in
      let same : new 1 ≡ old 1 = top_first has old new ino p block loose chain laid is missing blank sets in
      record {
        laid = laid_top has old new ino p block loose chain laid is missing blank sets;
        here = sets.here;
        either = top_either has old new ino p block loose chain laid is missing blank sets;
        bytes = λ q h some apart. sets.written.others (at (pointers old) q) (let from = (laid.in_range q h some).from in omega (arith, from, low));
        fresh = sets.written.others block (let from = hand.from in omega (arith, from, low));
        off = λ b from unhad. sets.written.others b (omega (arith, from, low));
        boot = sets.written.others 0 (omega arith);
        keeps = record {
          front = λ k from to. ap (λ (b : List ℕ). slice_index b k) same;
          back = λ k from to. ap (λ (b : List ℕ). slice_index b k) same;
          head = sets.head;
          tail = sets.tail;
          beside = λ other some listed apart. sets.written.beside other some apart;
        };
      }
  hung_place (Under w k) is ready missing sets =
      let from = (laid.in_range w is.0 ready).from in
      let same : new 1 ≡ old 1 = entry_first has old new w k block loose chain laid is ready missing blank sets in
      record {
        laid = laid_entry has old new w k block loose chain laid is ready missing blank sets;
        here = entry_here has old new w k block loose chain laid is ready missing blank sets;
        either = entry_either has old new w k block loose chain laid is ready missing blank sets;
        bytes = λ q h some apart. sets.others (at (pointers old) q) (λ e. apart (sym (laid.once q w h is.0 some e)));
        fresh = sets.others block (λ e. bare w is.0 (sym e));
        off = λ b high unhad. sets.others b (λ e. unhad (by_place w is.0 (sym e)));
        boot = sets.others 0 (let wide = laid.wide in omega (arith, from, wide));
        keeps = fields_off old new (ino_of w) (λ k from to. ap (λ (b : List ℕ). slice_index b k) same) (λ k from to. ap (λ (b : List ℕ). slice_index b k) same)
            (λ b off low. sets.others b (omega (arith, low, from))) (laid.inodes (ino_of w) (place_owner has w is.0)).1;
      }

pub record HasGrown (has : ℕ → Bool) (old new : ℕ → List ℕ) (r : Place) (block : ℕ) (loose chain : List ℕ) : Type 0 where
  pub left : List ℕ
  pub was : chain ≡ block ∷ left
  pub laid : IsLaid has new loose left
  pub some : 0 < block
  pub here : at (pointers new) r ≡ block
  pub either : (q : Place) → IsPlace has q → (q ≡ r) ⊎ (at (pointers new) q ≡ at (pointers old) q)
  pub bytes : (q : Place) → IsPlace has q → 0 < at (pointers old) q → (IsParent q r → ⊥) → new (at (pointers old) q) ≡ old (at (pointers old) q)
  pub fresh : new block ≡ zeros
  pub conserves : Conserves has has old new (loose ++ chain) (loose ++ left)
  pub keeps : KeepsFields old new (ino_of r)

ready_still : (has : ℕ → Bool) (old new : ℕ → List ℕ) (r : Place) → KeepsHeld has old new → IsPlace has r → HasIndexAbove old r → HasIndexAbove new r
ready_still has old new (Top ino p) keeps is ready = tt
ready_still has old new (Under w k) keeps is ready = (let e = at_alike has old new (its_pointers has old new keeps) w is.0 in omega (arith, e, ready))

module _ (has : ℕ → Bool) (old new : ℕ → List ℕ) (r : Place) (block : ℕ) (loose chain : List ℕ) (laid : IsLaid has old loose chain) (is : IsPlace has r) (ready : HasIndexAbove old r)
    (missing : at (pointers old) r ≡ 0) (grows : Grows old new r block) where
  abbrev one : ℕ → List ℕ
  one = grows.one

  abbrev two : ℕ → List ℕ
  two = grows.two

  pub grown : HasGrown has old new r block loose chain
  grown =
      let t = laid_taken has old one block loose chain laid grows.taken in
      let long : length (two block) ≡ 512 = ap length grows.zeroed.here ∙ length-zeros in
      let laid_two : IsLaid has two (block ∷ loose) t.0 = laid_written has one two block loose t.0 t.2 grows.zeroed.others long in
      let held_one : KeepsHeld has old one = taken_held has old one block loose chain laid grows.taken in
      let held_more : KeepsHeld has one two = hand_held has one two block loose t.0 t.2 grows.zeroed.others long in
      let held : KeepsHeld has old two = held_then has old one two held_one held_more in
      let same_at : (q : Place) → IsPlace has q → at (pointers two) q ≡ at (pointers old) q = at_alike has old two (its_pointers has old two held) in
      let blank : (j : ℕ) → index_entry (two block) j ≡ 0 = λ j. ap (λ (b : List ℕ). index_entry b j) grows.zeroed.here ∙ zeros_entry j in
      let hung = hung_place has two new block loose t.0 laid_two blank r is (ready_still has old two r held is ready) (same_at r is ∙ missing) grows.hung in
      let from = (All-head (IsOpenToFiles one) block (loose ++ t.0) t.2.spare.in_range).from in
      let wide = t.2.wide in
      let owner = laid.inodes (ino_of r) (place_owner has r is) in
      let size_one = sizes_same old one grows.taken.front in
      let listed_one : inode_block (ino_of r) < isize_of (one 1) = (let a = owner.1 in omega (arith, a, size_one.0)) in
      let first : two 1 ≡ one 1 = hand_first has one two block loose t.0 t.2 grows.zeroed.others long in
      let keeps_one : KeepsFields old one (ino_of r) = fields_off old one (ino_of r) grows.taken.front grows.taken.back (λ b off low. grows.taken.others b off) owner.1 in
      let keeps_two : KeepsFields one two (ino_of r) =
      fields_off one two (ino_of r) (λ k a b. ap (λ (x : List ℕ). slice_index x k) first) (λ k a b. ap (λ (x : List ℕ). slice_index x k) first)
      (λ b off low. grows.zeroed.others b (omega (arith, low, from))) listed_one in
      record {
        left = t.0;
        was = t.1;
        laid = hung.laid;
        some = omega (arith, from, wide);
        here = hung.here;
        either = λ q h. elim (hung.either q h) [ inl e ↦ inl e | inr e ↦ inr (e ∙ same_at q h) ];
        bytes = λ q h some apart.
            (let e = same_at q h in
            ap new (sym e) ∙ hung.bytes q h (omega (arith, some, e)) apart ∙ ap two e ∙ held.blocks q h some);
        fresh = hung.fresh ∙ grows.zeroed.here;
        conserves =
            conserved_then has has has old one new (loose ++ chain) (block ∷ (loose ++ t.0)) (loose ++ t.0) laid.wide
            (conserved_taken has old one block loose chain t.0 laid grows.taken t.1)
            (conserved_then has has has one two new (block ∷ (loose ++ t.0)) (block ∷ (loose ++ t.0)) (loose ++ t.0) t.2.wide
            (conserved_written has one two block loose t.0 t.2 grows.zeroed.others long)
            (conserved_hung has two new block loose t.0 r is (same_at r is ∙ missing) hung.here hung.either hung.off hung.boot hung.keeps.front));
        keeps = fields_then old two new (ino_of r) (fields_then old one two (ino_of r) keeps_one keeps_two) hung.keeps;
      }
