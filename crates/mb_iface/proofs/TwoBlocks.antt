-- Changes of two blocks, of both or of none.
use Rattle.std.proofs.Common.{ℕ, ◌≡◌, ◌≢◌, ◌⊎◌, inl, inr, Option, Some, None, IsSome, Bool, true, false, cond, nat_eq, IfSome, List, refl, sym, ap, subst, ◌∙◌, arith}
use Rattle.std.specs.Option.{option_or}
use Rattle.std.proofs.lemmas.Bool.{cases_eq}
use Rattle.std.proofs.lemmas.Bool.Decides.{nat_tests}
use mathlib.Core.Path.{fun_ext}
use Rattle.mb_word.specs.Numbers.{put_at}
use Rattle.mb_tree.specs.Views.{over, IsPart}
use Rattle.mb_kinds.specs.Changed.{ChangeList, changed, put_block, IsWithinView}
use Rattle.mb_iface.specs.Pairs.{HasHeld, HasHeldBoth, HasPutAndEdited}
use Rattle.mb_iface.proofs.ChangedBlocks.{over_put, over_both, put_block_other}
use Rattle.mb_iface.proofs.Editing.{Sets, Patches, over_unchanged, found_shown, there_now, by_patch}
use Rattle.mb_iface.proofs.WithinViews.{within_put}

-- a block written with the bytes that it has
put_block_kept : (blocks : ℕ → List ℕ) (block : ℕ) (bytes : List ℕ) → blocks block ≡ bytes → put_block blocks block bytes ≡ blocks
unfolding put_block
put_block_kept blocks block bytes has = fun_ext (λ other. elim (cases_eq block other) [
  | inl same ↦
      let t : nat_eq block other ≡ true = grind (arith, nat_tests) in
      ap (λ b. cond b bytes (blocks other)) t ∙ sym has ∙ ap blocks same
  | inr apart ↦
      let t : nat_eq block other ≡ false = grind (arith, nat_tests) in
      ap (λ b. cond b bytes (blocks other)) t
])

-- a block that is not changed has the view's bytes
view_bytes : (shown : ℕ → Option (List ℕ)) (changes : ChangeList) (block : ℕ) (found : List ℕ) → changed changes block ≡ None → shown block ≡ Some found
    → (blocks : ℕ → List ℕ) → IsPart shown blocks → over blocks (changed changes) block ≡ found
view_bytes shown changes block found none there blocks part =
    over_unchanged blocks changes block none ∙ subst (λ (o : Option (List ℕ)). IfSome o (λ b. blocks block ≡ b)) there (part block)

either_some : (b : Bool) (bytes : List ℕ) (o : Option (List ℕ)) → IsSome o → IsSome (cond b (Some bytes) o)
either_some true bytes o some = refl
either_some false bytes o some = some

-- what is changed stays so when a block is changed in place
pub still_there : (old new : ChangeList) (block at : ℕ) (bytes : List ℕ) → IsSome (changed old block) → Patches (changed old block) old new block at bytes
    → (other : ℕ) → IsSome (changed old other) → IsSome (changed new other)
still_there old new block at bytes there patched other some =
    elim (changed old block) as (λ (o : Option (List ℕ)). IsSome o → Patches o old new block at bytes → IsSome (changed new other)) [
      | None ↦ λ t p. cc
      | Some was ↦ λ t p. subst IsSome (sym (p other)) (either_some (nat_eq block other) (put_at was at bytes) (changed old other) some)
    ] there patched

-- a block of the view is found under the changes
found_over : (c s : Option (List ℕ)) → IsSome s → IsSome (option_or c s)
found_over None s some = some
found_over (Some bytes) s some = refl

-- two blocks of which one is another one's, put
abbrev SetsBoth : ChangeList → ChangeList → ℕ → List ℕ → ℕ → List ℕ → Type 0
SetsBoth old new block bytes then after = (other : ℕ) → changed new other ≡ cond (nat_eq then other) (Some after) (cond (nat_eq block other) (Some bytes) (changed old other))

second_there : (old new : ChangeList) (block : ℕ) (bytes : List ℕ) (then : ℕ) (after : List ℕ) → SetsBoth old new block bytes then after → IsSome (changed new then)
second_there old new block bytes then after each =
    let t : nat_eq then then ≡ true = grind (arith, nat_tests) in
    subst IsSome (sym (each then ∙ ap (λ b. cond b (Some after) (cond (nat_eq block then) (Some bytes) (changed old then))) t)) refl

first_there : (old new : ChangeList) (block : ℕ) (bytes : List ℕ) (then : ℕ) (after : List ℕ) → SetsBoth old new block bytes then after → IsSome (changed new block)
first_there old new block bytes then after each =
    let t : nat_eq block block ≡ true = grind (arith, nat_tests) in
    subst IsSome (sym (each block)) (either_some (nat_eq then block) after (cond (nat_eq block block) (Some bytes) (changed old block)) (subst (λ b. IsSome (cond b (Some bytes) (changed old block))) (sym t) refl))

-- two blocks of the view changed
within_both : (shown : ℕ → Option (List ℕ)) (old new : ChangeList) (block : ℕ) (bytes : List ℕ) (then : ℕ) (after : List ℕ) → SetsBoth old new block bytes then after
    → IsSome (shown block) → IsSome (shown then) → IsWithinView shown old → IsWithinView shown new
within_both shown old new block bytes then after each one two within other some = elim (cases_eq then other) [
  | inl is ↦ subst (λ b. IsSome (shown b)) is two
  | inr apart ↦
      let t : nat_eq then other ≡ false = grind (arith, nat_tests) in
      elim (cases_eq block other) [
        | inl same ↦ subst (λ b. IsSome (shown b)) same one
        | inr off ↦
            let u : nat_eq block other ≡ false = grind (arith, nat_tests) in
            within other (subst IsSome (each other ∙ ap (λ b. cond b (Some after) (cond (nat_eq block other) (Some bytes) (changed old other))) t ∙ ap (λ b. cond b (Some bytes) (changed old other)) u) some)
      ]
]

-- a block put that the view has with these bytes
pub held_now : (shown : ℕ → Option (List ℕ)) (old new : ChangeList) (block : ℕ) (found : List ℕ) → changed old block ≡ None → shown block ≡ Some found → Sets old new block found → HasHeld shown old new block
held_now shown old new block found none there each = record {
  same = λ blocks part. over_put old new block found each blocks ∙ put_block_kept (over blocks (changed old)) block found (view_bytes shown old block found none there blocks part);
  within = within_put shown old new block found each (found_shown shown old block found none there);
  there = there_now old new block found each;
  kept = λ other some. subst IsSome (sym (each other)) (either_some (nat_eq block other) found (changed old other) some);
}

pub both_held_now : (shown : ℕ → Option (List ℕ)) (old new : ChangeList) (block : ℕ) (found : List ℕ) (then : ℕ) (after : List ℕ) → changed old block ≡ None → shown block ≡ Some found
    → changed old then ≡ None → shown then ≡ Some after → SetsBoth old new block found then after → HasHeldBoth shown old new block then
both_held_now shown old new block found then after none there none_then there_then each = record {
  same = λ blocks part.
      (let was = over blocks (changed old) in
      let first = put_block_kept was block found (view_bytes shown old block found none there blocks part) in
      over_both old new block found then after each blocks
      ∙ put_block_kept (put_block was block found) then after (ap (λ f. f then) first ∙ view_bytes shown old then after none_then there_then blocks part)
      ∙ first);
  within = within_both shown old new block found then after each (subst IsSome (sym there) refl) (subst IsSome (sym there_then) refl);
  first = first_there old new block found then after each;
  second = second_there old new block found then after each;
}

-- a block put, and then another changed in place
put_edited : (shown : ℕ → Option (List ℕ)) (old mid new : ChangeList) (put : ℕ) (whole : List ℕ) (block at : ℕ) (bytes : List ℕ)
    → ((blocks : ℕ → List ℕ) → IsPart shown blocks → over blocks (changed mid) ≡ put_block (over blocks (changed old)) put whole)
    → (IsSome (shown put) → IsWithinView shown old → IsWithinView shown mid)
    → IsSome (changed mid block) → Patches (changed mid block) mid new block at bytes → HasPutAndEdited shown old new put whole block at bytes
put_edited shown old mid new put whole block at bytes made within there patched =
    let edited = by_patch shown mid new block at bytes there patched in
    record {
      wrote = λ blocks part. edited.wrote blocks part ∙ ap (λ f. put_block f block (put_at (f block) at bytes)) (made blocks part);
      within = λ handed inside. edited.within (within handed inside);
    }

pub edited_in_place : (shown : ℕ → Option (List ℕ)) (old mid new : ChangeList) (put : ℕ) (whole : List ℕ) (block at : ℕ) (bytes : List ℕ) → (put ≡ block) ⊎ IsSome (changed old block)
    → Sets old mid put whole → Patches (changed mid block) mid new block at bytes → HasPutAndEdited shown old new put whole block at bytes
edited_in_place shown old mid new put whole block at bytes has each patched =
    put_edited shown old mid new put whole block at bytes (λ blocks part. over_put old mid put whole each blocks)
    (λ handed. within_put shown old mid put whole each (found_over (changed old put) (shown put) handed))
    (elim has [
      | inl same ↦ subst (λ b. IsSome (changed mid b)) same (there_now old mid put whole each)
      | inr some ↦ subst IsSome (sym (each block)) (either_some (nat_eq put block) whole (changed old block) some)
    ])
    patched

pub edited_in_copy : (shown : ℕ → Option (List ℕ)) (old mid new : ChangeList) (put : ℕ) (whole : List ℕ) (block at : ℕ) (bytes found : List ℕ) → block ≢ put → changed old block ≡ None → shown block ≡ Some found
    → SetsBoth old mid put whole block found → Patches (changed mid block) mid new block at bytes → HasPutAndEdited shown old new put whole block at bytes
edited_in_copy shown old mid new put whole block at bytes found apart none there each patched =
    put_edited shown old mid new put whole block at bytes
    (λ blocks part.
    (let was = over blocks (changed old) in
    over_both old mid put whole block found each blocks
    ∙ put_block_kept (put_block was put whole) block found (put_block_other was put whole block apart ∙ view_bytes shown old block found none there blocks part)))
    (λ handed. within_both shown old mid put whole block found each handed (subst IsSome (sym there) refl))
    (second_there old mid put whole block found each)
    patched
