-- Two operations in a row that are one: it leads where both lead.
use Rattle.std.proofs.Common.{◌≡◌, inl, inr, ℕ, ◌+◌, ◌≤◌, ◌<◌, max, true, false, List, ◌++◌, length, Option, Some, None, Ok, option_map, unwrap_or, nat_le, refl, sym, ap, subst, ◌∙◌, arith}
use Rattle.std.specs.Prelude.{bit_or}
use Rattle.std.proofs.lemmas.List.{length-append}
use Rattle.std.proofs.lemmas.Bool.Decides.{nat_tests}
use Rattle.std.specs.FinMap as fin
use Rattle.mb_kinds.specs.declared.errors.Errno.{Errno}
use Rattle.mb_kinds.specs.declared.errors.Errno.TheVariants.{ENOSPC, EFBIG}
use Rattle.mb_tree.specs.Answers.{Answer, ◌>>=◌, need}
use Rattle.mb_tree.specs.Maps.{Numbered, changed_at}
use Rattle.mb_tree.specs.Cost.{cost}
use Rattle.mb_tree.specs.Sessions.{Counts}
use Rattle.mb_tree.specs.Effect.{TreeAndOpens, fitting, on_node, put, put_bytes, with_mode, with_owner, with_times, written, wrote}
use Rattle.mb_tree.specs.CarriedOut.{IsCarriedOut, PickedOp}
use Rattle.mb_tree.specs.declared.nodes.Node.{Node}
use Rattle.mb_tree.specs.declared.nodes.Body.{Body}
use Rattle.mb_tree.specs.declared.nodes.Body.TheVariants.{Regular, Directory, Special}
use Rattle.mb_tree.specs.declared.trees.Tree.{Tree}
use Rattle.mb_tree.specs.declared.operations.FsOp.{FsOp}
use Rattle.mb_tree.specs.declared.operations.FsOp.TheVariants.{Put, SetMode, SetOwner, SetTimes}
use Rattle.mb_tree.proofs.Always.{bind_ok, same_ok, then_ok}
use Rattle.mb_tree.proofs.BytesOrAttributes.{kind_set}
use Rattle.mb_tree.proofs.FiniteMaps.{get_here, get_there, one_or_not, same}
use Rattle.mb_tree.proofs.PuttingParts.{put_splits}
use Rattle.mb_folds.specs.Folded.{is_behind, is_merged, is_one, joined, put_on, sets_mode, sets_owner, sets_times}

-- ---- one value of a map changed twice

module _ {X : Type 0} where
  insert_again : (m : Numbered X) (k : ℕ) (x y : X) → fin.insert (fin.insert m k x) k y ≡ fin.insert m k y
  insert_again m k x y = same _ _ (λ q. elim (one_or_not q k) [
    | inl is ↦ rw is (get_here (fin.insert m k x) k y ∙ sym (get_here m k y))
    | inr apart ↦ get_there (fin.insert m k x) k y q apart ∙ get_there m k x q apart ∙ sym (get_there m k y q apart)
  ])

  changed_some : (m : Numbered X) (k : ℕ) (f : X → X) (x : X) → fin.get m k ≡ Some x → changed_at m k f ≡ fin.insert m k (f x)
  changed_some m k f x has = ap (λ o. unwrap_or (option_map (λ x. fin.insert m k (f x)) o) m) has

  changed_none : (m : Numbered X) (k : ℕ) (f : X → X) → fin.get m k ≡ None → changed_at m k f ≡ m
  changed_none m k f has = ap (λ o. unwrap_or (option_map (λ x. fin.insert m k (f x)) o) m) has

  pub changed_twice : (m : Numbered X) (k : ℕ) (f g h : X → X) → ((x : X) → g (f x) ≡ h x) → changed_at (changed_at m k f) k g ≡ changed_at m k h
  changed_twice m k f g h each =
      elim (fin.get m k) as (λ (o : Option X). fin.get m k ≡ o → changed_at (changed_at m k f) k g ≡ changed_at m k h) [
        | None ↦ λ has. ap (λ n. changed_at n k g) (changed_none m k f has) ∙ changed_none m k g has ∙ sym (changed_none m k h has)
        | Some x ↦ λ has.
            ap (λ n. changed_at n k g) (changed_some m k f x has)
            ∙ changed_some (fin.insert m k (f x)) k g (f x) (get_here m k (f x))
            ∙ insert_again m k (f x) (g (f x))
            ∙ ap (fin.insert m k) (each x)
            ∙ sym (changed_some m k h x has)
      ] refl

-- ---- attributes set again

-- a change of a node that needs no block, and then another that covers it
covered : (held mid last : TreeAndOpens) (ino : ℕ) (f g : Node → Node) → ((x : Node) → g (f x) ≡ g x)
    → ◌≡◌ {A = Answer TreeAndOpens} (Ok (record { tree = on_node held.tree ino f; opens = held.opens })) (Ok mid)
    → ◌≡◌ {A = Answer TreeAndOpens} (Ok (record { tree = on_node mid.tree ino g; opens = mid.opens })) (Ok last)
    → ◌≡◌ {A = Answer TreeAndOpens} (Ok (record { tree = on_node held.tree ino g; opens = held.opens })) (Ok last)
covered held mid last ino f g each first second =
    let e : record { tree = on_node held.tree ino f; opens = held.opens } ≡ mid = same_ok {A = TreeAndOpens} _ mid first in
    let both : ◌≡◌ {A = Answer TreeAndOpens} (Ok (record { tree = on_node (on_node held.tree ino f) ino g; opens = held.opens })) (Ok last) =
    subst (λ (m : TreeAndOpens). ◌≡◌ {A = Answer TreeAndOpens} (Ok (record { tree = on_node m.tree ino g; opens = m.opens })) (Ok last)) (sym e) second in
    sym (ap (λ (nodes : Numbered Node). Ok (record { tree = record held.tree { nodes = nodes }; opens = held.opens })) (changed_twice held.tree.nodes ino f g g each)) ∙ both

mode_covers : (first second moment later : ℕ) (x : Node) → first < 4096 → with_mode second later (with_mode first moment x) ≡ with_mode second later x
mode_covers first second moment later x low = ap (λ (kind : ℕ). record x { mode = bit_or kind second; ctime = later }) (kind_set x.mode first low)

-- ---- bytes put right behind others

body_splits : (offset : ℕ) (front back : List ℕ) (body : Body) → written (offset + length front) back (written offset front body) ≡ written offset (front ++ back) body
body_splits offset front back (Regular size parts) =
    let far : max (max size (offset + length front)) (offset + length front + length back) ≡ max size (offset + length (front ++ back)) = omega (arith, length-append front back) in
    ap (λ (n : ℕ). Regular n (put_bytes (put_bytes parts offset front) (offset + length front) back)) far
    ∙ ap (Regular (max size (offset + length (front ++ back)))) (sym (put_splits parts offset front back))
body_splits offset front back (Directory slots) = refl
body_splits offset front back (Special size area) = refl

wrote_splits : (moment later offset : ℕ) (front back : List ℕ) (x : Node) → wrote later (offset + length front) back (wrote moment offset front x) ≡ wrote later offset (front ++ back) x
wrote_splits moment later offset front back x = ap (λ (body : Body). record x { mtime = later; ctime = later; body = body }) (body_splits offset front back x.body)

abbrev put_in : Tree → ℕ → ℕ → List ℕ → ℕ → Tree
put_in tree ino offset bytes moment = record tree { nodes = changed_at tree.nodes ino (wrote moment offset bytes) }

-- what it takes that bytes are put
record IsPut (tree : Tree) (ino offset : ℕ) (bytes : List ℕ) (moment : ℕ) (next : Tree) : Type 0 where
  limit : offset + length bytes ≤ 1082201088
  room : cost (put_in tree ino offset bytes moment) ≤ tree.cap
  leads : put_in tree ino offset bytes moment ≡ next

needed : (a b : ℕ) (e : Errno) (u : Unit {0}) → need (nat_le a b) e ≡ Ok u → a ≤ b
needed a b e u h = elim (nat_le a b) as (λ t. nat_le a b ≡ t → need t e ≡ Ok u → a ≤ b) [
  | true ↦ λ is s. grind (arith, nat_tests)
  | false ↦ λ is s. cc
] refl h

is_put : (tree : Tree) (ino offset : ℕ) (bytes : List ℕ) (moment : ℕ) (next : Tree) → put tree ino offset bytes moment ≡ Ok next → IsPut tree ino offset bytes moment next
is_put tree ino offset bytes moment next h =
    let one = then_ok (need (nat_le (offset + length bytes) 1082201088) EFBIG) (fitting tree (changed_at tree.nodes ino (wrote moment offset bytes))) next h in
    let two = then_ok (need (nat_le (cost (put_in tree ino offset bytes moment)) tree.cap) ENOSPC) (Ok (put_in tree ino offset bytes moment)) next one.2 in
    record {
      limit = needed (offset + length bytes) 1082201088 EFBIG one.0 one.1;
      room = needed (cost (put_in tree ino offset bytes moment)) tree.cap ENOSPC two.0 two.1;
      leads = same_ok {A = Tree} (put_in tree ino offset bytes moment) next two.2;
    }

passes : (a b : ℕ) → a ≤ b → nat_le a b ≡ true
passes a b h = grind (arith, nat_tests)

goes : (tree : Tree) (ino offset : ℕ) (bytes : List ℕ) (moment : ℕ) (next : Tree) → IsPut tree ino offset bytes moment next → put tree ino offset bytes moment ≡ Ok next
goes tree ino offset bytes moment next is =
    rw (passes (offset + length bytes) 1082201088 is.limit, passes (cost (put_in tree ino offset bytes moment)) tree.cap is.room) (ap Ok is.leads)

put_both : (tree mid last : Tree) (ino offset : ℕ) (front back : List ℕ) (moment later : ℕ) → IsPut tree ino offset front moment mid → IsPut mid ino (offset + length front) back later last
    → IsPut tree ino offset (front ++ back) later last
put_both tree mid last ino offset front back moment later first second =
    let twice : put_in (put_in tree ino offset front moment) ino (offset + length front) back later ≡ put_in tree ino offset (front ++ back) later =
    ap (λ (nodes : Numbered Node). record tree { nodes = nodes }) (changed_twice tree.nodes ino (wrote moment offset front) (wrote later (offset + length front) back) (wrote later offset (front ++ back)) (wrote_splits moment later offset front back)) in
    let here : IsPut (put_in tree ino offset front moment) ino (offset + length front) back later last = subst (λ (t : Tree). IsPut t ino (offset + length front) back later last) (sym first.leads) second in
    record {
      limit = omega (arith, second.limit, length-append front back);
      room = subst (λ (t : Tree). cost t ≤ tree.cap) twice here.room;
      leads = sym twice ∙ here.leads;
    }

-- ---- two operations

pub record MergesTo (first second one : PickedOp) : Type 0 where
  pub leads : (held mid last : TreeAndOpens) → IsCarriedOut held first mid → IsCarriedOut mid second last → IsCarriedOut held one last

abbrev plain : FsOp → PickedOp
plain op = record { op = op; pick = None }

-- an operation of one kind alone
no_other : false ≡ true → ⊥
no_other h = cc

put_merges : (ino offset : ℕ) (front : List ℕ) (moment other from : ℕ) (back : List ℕ) (later : ℕ) → other ≡ ino → from ≡ offset + length front → length front + length back ≤ 65535
    → MergesTo (plain (Put ino offset front moment)) (plain (Put other from back later)) (plain (Put ino offset (front ++ back) later))
put_merges ino offset front moment other from back later same_ino meets few = rw (same_ino, meets) (record {
  leads = λ held mid last first second.
      let one = bind_ok (put held.tree ino offset front moment) (λ (next : Tree). Ok (record { tree = next; opens = held.opens })) mid first.leads in
      let mid_is = same_ok {A = TreeAndOpens} (record { tree = one.0; opens = held.opens }) mid one.2 in
      let two = bind_ok (put mid.tree ino (offset + length front) back later) (λ (next : Tree). Ok (record { tree = next; opens = mid.opens })) last second.leads in
      let last_is = same_ok {A = TreeAndOpens} (record { tree = two.0; opens = mid.opens }) last two.2 in
      let tree_is : one.0 ≡ mid.tree = ap (λ (h : TreeAndOpens). h.tree) mid_is in
      let opens_are : held.opens ≡ mid.opens = ap (λ (h : TreeAndOpens). h.opens) mid_is in
      let before = subst (λ (t : Tree). IsPut held.tree ino offset front moment t) tree_is (is_put held.tree ino offset front moment one.0 one.1) in
      let behind = is_put mid.tree ino (offset + length front) back later two.0 two.1 in
      let both = goes held.tree ino offset (front ++ back) later two.0 (put_both held.tree mid.tree two.0 ino offset front back moment later before behind) in
      record {
        fits = record { regular = first.fits.regular; some = omega (arith, first.fits.some, length-append front back); few = omega (arith, few, length-append front back) };
        leads = ap (λ (a : Answer Tree). a >>= λ next. Ok (record { tree = next; opens = held.opens })) both
            ∙ ap (λ (opens : Counts). Ok (record { tree = two.0; opens = opens })) opens_are ∙ ap Ok last_is;
      };
})

put_on_merges : (ino offset : ℕ) (front : List ℕ) (moment : ℕ) (next : FsOp) → is_behind ino offset front next ≡ true → MergesTo (plain (Put ino offset front moment)) (plain next) (plain (put_on ino offset front next))
put_on_merges ino offset front moment (Put other from back later) h =
    let same_ino : other ≡ ino = grind (arith, nat_tests) in
    let meets : from ≡ offset + length front = grind (arith, nat_tests) in
    let few : length front + length back ≤ 65535 = grind (arith, nat_tests) in
    put_merges ino offset front moment other from back later same_ino meets few
put_on_merges ino offset front moment _ h = absurd (no_other h)

mode_merges : (ino first moment : ℕ) (next : FsOp) → sets_mode ino next ≡ true → MergesTo (plain (SetMode ino first moment)) (plain next) (plain next)
mode_merges ino first moment (SetMode other second later) h =
    let same_ino : other ≡ ino = grind (arith, nat_tests) in
    rw same_ino (record {
      leads = λ held mid last a b. record {
        fits = (a.fits.0, b.fits.1);
        leads = covered held mid last ino (with_mode first moment) (with_mode second later) (λ x. mode_covers first second moment later x a.fits.1) a.leads b.leads;
      };
    })
mode_merges ino first moment _ h = absurd (no_other h)

owner_merges : (ino uid gid moment : ℕ) (next : FsOp) → sets_owner ino next ≡ true → MergesTo (plain (SetOwner ino uid gid moment)) (plain next) (plain next)
owner_merges ino uid gid moment (SetOwner other user group later) h =
    let same_ino : other ≡ ino = grind (arith, nat_tests) in
    rw same_ino (record {
      leads = λ held mid last a b. record {
        fits = a.fits;
        leads = covered held mid last ino (with_owner uid gid moment) (with_owner user group later) (λ x. refl) a.leads b.leads;
      };
    })
owner_merges ino uid gid moment _ h = absurd (no_other h)

times_merges : (ino atime mtime moment : ℕ) (next : FsOp) → sets_times ino next ≡ true → MergesTo (plain (SetTimes ino atime mtime moment)) (plain next) (plain next)
times_merges ino atime mtime moment (SetTimes other read changed later) h =
    let same_ino : other ≡ ino = grind (arith, nat_tests) in
    rw same_ino (record {
      leads = λ held mid last a b. record {
        fits = a.fits;
        leads = covered held mid last ino (with_times atime mtime moment) (with_times read changed later) (λ x. refl) a.leads b.leads;
      };
    })
times_merges ino atime mtime moment _ h = absurd (no_other h)

one_merges : (first next : FsOp) → is_one first next ≡ true → MergesTo (plain first) (plain next) (plain (joined first next))
one_merges (Put ino offset bytes moment) next h = put_on_merges ino offset bytes moment next h
one_merges (SetMode ino mode moment) next h = mode_merges ino mode moment next h
one_merges (SetOwner ino uid gid moment) next h = owner_merges ino uid gid moment next h
one_merges (SetTimes ino atime mtime moment) next h = times_merges ino atime mtime moment next h
one_merges _ next h = absurd (no_other h)

pub merges : (first next : FsOp) (pick other : Option ℕ) → is_merged (record { op = first; pick = pick }) (record { op = next; pick = other }) ≡ true
    → MergesTo (record { op = first; pick = pick }) (record { op = next; pick = other }) (plain (joined first next))
merges first next None None h = one_merges first next h
merges first next None (Some other) h = absurd (no_other h)
merges first next (Some pick) other h = absurd (no_other h)
