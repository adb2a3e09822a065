-- Bytes of a block changed, in place or in a copy of the view's block.
use Rattle.std.proofs.Common.{ℕ, ◌≡◌, Option, Some, None, IsSome, Bool, true, false, cond, nat_eq, unwrap_or, IfSome, MatchOption, List, refl, sym, ap, subst, ◌∙◌, arith}
use Rattle.std.specs.Prelude.{is_some}
use Rattle.std.specs.Option.{option_or}
use Rattle.std.proofs.lemmas.Bool.Decides.{nat_tests}
use mathlib.Core.Path.{fun_ext}
use Rattle.mb_word.specs.Numbers.{put_at}
use Rattle.mb_tree.specs.Views.{over}
use Rattle.mb_kinds.specs.Changed.{ChangeList, changed, put_block, shown_over}
use Rattle.mb_iface.specs.Edits.{HasEdited, HasEditedBoth}
use Rattle.mb_iface.proofs.ChangedBlocks.{over_put, put_block_same}
use Rattle.mb_iface.proofs.WithinViews.{within_put}

-- one block of the changes is another
abbrev pub Sets : ChangeList → ChangeList → ℕ → List ℕ → Type 0
Sets old new block bytes = (other : ℕ) → changed new other ≡ cond (nat_eq block other) (Some bytes) (changed old other)

-- what a change in place of a block does
abbrev pub Patches : Option (List ℕ) → ChangeList → ChangeList → ℕ → ℕ → List ℕ → Type 0
Patches here old new block at bytes = MatchOption here (new ≡ old) (λ was. Sets old new block (put_at was at bytes))

pub over_changed : (blocks : ℕ → List ℕ) (changes : ChangeList) (block : ℕ) (bytes : List ℕ) → changed changes block ≡ Some bytes → over blocks (changed changes) block ≡ bytes
unfolding over
over_changed blocks changes block bytes e = ap (λ o. unwrap_or o (blocks block)) e

pub over_unchanged : (blocks : ℕ → List ℕ) (changes : ChangeList) (block : ℕ) → changed changes block ≡ None → over blocks (changed changes) block ≡ blocks block
unfolding over
over_unchanged blocks changes block e = ap (λ o. unwrap_or o (blocks block)) e

either_twice : (b : Bool) (one two other : List ℕ) → cond b two (cond b one other) ≡ cond b two other
either_twice true one two other = refl
either_twice false one two other = refl

-- of two writes of a block the later one counts
put_block_twice : (blocks : ℕ → List ℕ) (block : ℕ) (one two : List ℕ) → put_block (put_block blocks block one) block two ≡ put_block blocks block two
unfolding put_block
put_block_twice blocks block one two = fun_ext (λ other. either_twice (nat_eq block other) one two (blocks other))

-- a block that is changed, or that the view has, is found under the changes
pub found_changed : (shown : ℕ → Option (List ℕ)) (changes : ChangeList) (block : ℕ) (bytes : List ℕ) → changed changes block ≡ Some bytes → IsSome (shown_over shown changes block)
found_changed shown changes block bytes e = subst (λ c. IsSome (option_or c (shown block))) (sym e) refl

pub found_shown : (shown : ℕ → Option (List ℕ)) (changes : ChangeList) (block : ℕ) (bytes : List ℕ) → changed changes block ≡ None → shown block ≡ Some bytes → IsSome (shown_over shown changes block)
found_shown shown changes block bytes none there = subst (λ c. IsSome (option_or c (shown block))) (sym none) (subst (λ s. IsSome s) (sym there) refl)

pub there_now : (old new : ChangeList) (block : ℕ) (bytes : List ℕ) → Sets old new block bytes → IsSome (changed new block)
there_now old new block bytes each =
    let t : nat_eq block block ≡ true = grind (arith, nat_tests) in
    subst (λ o. IsSome o) (sym (each block ∙ ap (λ b. cond b (Some bytes) (changed old block)) t)) refl

-- a block that is changed already is changed in place
pub by_patch : (shown : ℕ → Option (List ℕ)) (old new : ChangeList) (block at : ℕ) (bytes : List ℕ) → is_some (changed old block) ≡ true → Patches (changed old block) old new block at bytes
    → HasEdited shown old new block at bytes
by_patch shown old new block at bytes told each =
    elim (changed old block) as (λ (o : Option (List ℕ)). changed old block ≡ o → is_some o ≡ true → Patches o old new block at bytes → HasEdited shown old new block at bytes) [
      | None ↦ λ e t h. cc
      | Some was ↦ λ e t h. record {
        wrote = λ blocks part. over_put old new block (put_at was at bytes) h blocks ∙ ap (λ b. put_block (over blocks (changed old)) block (put_at b at bytes)) (sym (over_changed blocks old block was e));
        within = within_put shown old new block (put_at was at bytes) h (found_changed shown old block was e);
        there = there_now old new block (put_at was at bytes) h;
      }
    ] refl told each

either_again : (b : Bool) (one two other : Option (List ℕ)) → cond b two (cond b one other) ≡ cond b two other
either_again true one two other = refl
either_again false one two other = refl

-- a block put, and then changed in place
pub put_patched : (old mid new : ChangeList) (block at : ℕ) (bytes found : List ℕ) → Sets old mid block found → Patches (changed mid block) mid new block at bytes → Sets old new block (put_at found at bytes)
put_patched old mid new block at bytes found put each =
    let t : nat_eq block block ≡ true = grind (arith, nat_tests) in
    let here : changed mid block ≡ Some found = put block ∙ ap (λ b. cond b (Some found) (changed old block)) t in
    let then : Sets mid new block (put_at found at bytes) = subst (λ (o : Option (List ℕ)). Patches o mid new block at bytes) here each in
    λ other. then other ∙ ap (cond (nat_eq block other) (Some (put_at found at bytes))) (put other) ∙ either_again (nat_eq block other) (Some found) (Some (put_at found at bytes)) (changed old other)

-- another one is changed in a copy of the view's
pub by_put : (shown : ℕ → Option (List ℕ)) (old mid new : ChangeList) (block at : ℕ) (bytes found whole : List ℕ) → is_some (changed old block) ≡ false → Patches (changed old block) old mid block at bytes
    → shown block ≡ Some found → whole ≡ put_at found at bytes → Sets mid new block whole → HasEdited shown old new block at bytes
by_put shown old mid new block at bytes found whole told kept there made each =
    elim (changed old block) as (λ (o : Option (List ℕ)). changed old block ≡ o → is_some o ≡ false → Patches o old mid block at bytes → HasEdited shown old new block at bytes) [
      | Some was ↦ λ e t k. cc
      | None ↦ λ e t k.
          let all : Sets old new block whole = λ other. each other ∙ ap (λ l. cond (nat_eq block other) (Some whole) (changed l other)) k in
          record {
            wrote = λ blocks part.
                (let same : blocks block ≡ found = subst (λ (o : Option (List ℕ)). IfSome o (λ b. blocks block ≡ b)) there (part block) in
                over_put old new block whole all blocks ∙ ap (put_block (over blocks (changed old)) block) (made ∙ ap (λ b. put_at b at bytes) (sym (over_unchanged blocks old block e ∙ same))));
            within = within_put shown old new block whole all (found_shown shown old block found e there);
            there = there_now old new block whole all;
          }
    ] refl told kept

-- a change in place of a block that is not changed does nothing
pub unpatched : (old new : ChangeList) (block at : ℕ) (bytes : List ℕ) → is_some (changed old block) ≡ false → Patches (changed old block) old new block at bytes → new ≡ old
unpatched old new block at bytes told each =
    elim (changed old block) as (λ (o : Option (List ℕ)). is_some o ≡ false → Patches o old new block at bytes → new ≡ old) [
      | None ↦ λ t p. p
      | Some was ↦ λ t p. cc
    ] told each

pub none_told : (o : Option (List ℕ)) → is_some o ≡ false → o ≡ None
none_told None told = refl
none_told (Some bytes) told = cc

-- the second of two edits is in place
pub by_both : (shown : ℕ → Option (List ℕ)) (old mid new : ChangeList) (block at beside : ℕ) (bytes more : List ℕ) → HasEdited shown old mid block at bytes → Patches (changed mid block) mid new block beside more
    → HasEditedBoth shown old new block at bytes beside more
by_both shown old mid new block at beside bytes more first each =
    elim (changed mid block) as (λ (o : Option (List ℕ)). changed mid block ≡ o → IsSome o → Patches o mid new block beside more → HasEditedBoth shown old new block at bytes beside more) [
      | None ↦ λ e t h. cc
      | Some was ↦ λ e t h. record {
        wrote = λ blocks part.
            (let at_mid : over blocks (changed mid) block ≡ was = over_changed blocks mid block was e in
            let one = first.wrote blocks part in
            let here : was ≡ put_at (over blocks (changed old) block) at bytes = sym at_mid ∙ ap (λ f. f block) one ∙ put_block_same (over blocks (changed old)) block (put_at (over blocks (changed old) block) at bytes) in
            over_put mid new block (put_at was beside more) h blocks ∙ ap (λ f. put_block f block (put_at was beside more)) one
            ∙ put_block_twice (over blocks (changed old)) block (put_at (over blocks (changed old) block) at bytes) (put_at was beside more)
            ∙ ap (λ b. put_block (over blocks (changed old)) block (put_at b beside more)) here);
        within = λ inside. within_put shown mid new block (put_at was beside more) h (found_changed shown mid block was e) (first.within inside);
        there = there_now mid new block (put_at was beside more) h;
      }
    ] refl first.there each
