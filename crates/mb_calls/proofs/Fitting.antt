-- On every view a call ends with a plain reply and a change that the sessions can make.
use Rattle.std.proofs.Common.{◌≡◌, ℕ, Bool, List, [], Option, Some, None, refl, sym, subst}
use Rattle.std.specs.Prelude.{IsSome}
use Rattle.mb_kinds.specs.Image.{Image}
use Rattle.mb_iface.specs.Acting.{Acts, KeepsIfHold}
use Rattle.mb_kinds.specs.Changed.{ChangeList, IsWithinView, changed}
use Rattle.mb_iface.specs.Near.{IsNear, IsTouched}
use Rattle.mb_iface.specs.OpenCounts.{count_of}
use Rattle.mb_iface.specs.declared.replies.Acted.TheVariants as acted
use Rattle.mb_iface.specs.declared.replies.Need.{Need}
use Rattle.mb_tree.specs.Fits.{Fits}
use Rattle.mb_tree.specs.Sessions.{HasDescriptorInRange, free_descriptor}
use Rattle.mb_tree.specs.declared.operations.FsOp.{FsOp}
use Rattle.mb_tree.specs.declared.operations.FsOp.TheVariants as op
use Rattle.mb_tree.specs.declared.plans.CallPlan.{CallPlan}
use Rattle.mb_tree.specs.declared.seats.Seat.{Seat}
use Rattle.mb_tree.specs.declared.seats.SessionChange.{SessionChange}
use Rattle.mb_tree.specs.declared.seats.SessionChange.TheVariants.{Same, Fresh, Twin, Free, Move, Cwd, Mask, Clear}
use Rattle.mb_tree.specs.declared.trees.Tree.{Tree}
use Rattle.mb_tree.proofs.Descriptors.{free_above, free_unused, free_within}
use Rattle.mb_kinds.specs.declared.replies.Reply.{Reply}
use Rattle.mb_kinds.specs.declared.replies.Reply.TheVariants.{Num, Got, Info, Refused, Restart, Device, Failed}
use Rattle.mb_tree.specs.Plans.{IsServedReply}
use Rattle.mb_calls.specs.Endings.{IsEndOf}
use Rattle.mb_calls.specs.Performed.{IsPlainReply, CanApply, IsFit, IsFreeDescriptor}
use Rattle.mb_tree.specs.PickLaws.{fresh_on, on_number}
use Rattle.mb_calls.specs.Endings.IsEndOf.{alone, done, refused}
use Rattle.mb_tree.specs.Plans.{CanMake, IsPlanFor}
use Rattle.mb_calls.specs.Continuing.{CountMap}
use Rattle.mb_calls.specs.declared.performing.ReadyCall.{ReadyCall}

-- what a file system says of a block that an operation asks for, where the operation fits
pub near_acted : (shown : ℕ → Option (List ℕ)) (image : Image) (tree : Tree) (opens : CountMap) (op : FsOp) (need : Need) → Acts shown image tree opens op None (acted.Need need) → Fits tree (count_of opens) op None
    → IsNear image tree (IsTouched tree op) need.first
near_acted shown image tree opens op need h fits = h fits

pub none_within : (shown : ℕ → Option (List ℕ)) → IsWithinView shown []
none_within shown block some = absurd (let no : None ≡ Some tt = none_some (changed [] block) refl some in cc)
  where
    none_some : {X : Type 0} (o : Option X) → o ≡ None → IsSome o → ◌≡◌ {A = Option (Unit {0})} None (Some tt)
    none_some None h s = cc
    none_some (Some x) h s = cc

-- the least free descriptor
descriptor_fit : (seat : Seat) (fd : ℕ) → free_descriptor seat ≡ Some fd → IsFreeDescriptor seat fd
descriptor_fit seat fd h = (free_above seat fd h, free_within seat fd h, free_unused seat fd h)

can_apply : (seat : Seat) (change : SessionChange) → CanMake seat change → CanApply seat change
can_apply seat Same h = tt
can_apply seat (Fresh fd ino how) h = descriptor_fit seat fd h
can_apply seat (Twin fd to) h = (descriptor_fit seat to h.0, h.1)
can_apply seat (Free fd) h = h
can_apply seat (Move fd offset) h = h
can_apply seat (Cwd ino) h = tt
can_apply seat (Mask mask) h = tt
can_apply seat Clear h = tt

numbered : (seat : Seat) (ino : ℕ) (change : SessionChange) → CanApply seat change → CanApply seat (on_number ino change)
numbered seat ino Same h = tt
numbered seat ino (Fresh fd old how) h = h
numbered seat ino (Twin fd to) h = h
numbered seat ino (Free fd) h = h
numbered seat ino (Move fd offset) h = h
numbered seat ino (Cwd dir) h = tt
numbered seat ino (Mask mask) h = tt
numbered seat ino Clear h = tt

freshened : (seat : Seat) (op : FsOp) (pick : Option ℕ) (change : SessionChange) → CanApply seat change → CanApply seat (fresh_on op pick change)
freshened seat (op.Create dir name mode uid gid moment) (Some ino) change h = numbered seat ino change h
freshened seat (op.Create dir name mode uid gid moment) None change h = h
freshened seat (op.Empty ino moment) pick change h = h
freshened seat (op.MakeDir dir name mode uid gid moment) pick change h = h
freshened seat (op.RemoveDir dir name moment) pick change h = h
freshened seat (op.Enlink dir name ino moment) pick change h = h
freshened seat (op.Delink dir name moment) pick change h = h
freshened seat (op.Put ino offset bytes moment) pick change h = h
freshened seat (op.SetMode ino mode moment) pick change h = h
freshened seat (op.SetOwner ino uid gid moment) pick change h = h
freshened seat (op.SetTimes ino atime mtime moment) pick change h = h
freshened seat (op.Hold ino) pick change h = h
freshened seat (op.Release inos) pick change h = h

in_range : (seat : Seat) (change : SessionChange) → CanApply seat change → HasDescriptorInRange change
in_range seat Same h = tt
in_range seat (Fresh fd ino how) h = h.1
in_range seat (Twin fd to) h = h.0.1
in_range seat (Free fd) h = tt
in_range seat (Move fd offset) h = tt
in_range seat (Cwd ino) h = tt
in_range seat (Mask mask) h = tt
in_range seat Clear h = tt

plain_reply : (reply : Reply) → IsServedReply reply → IsPlainReply reply
plain_reply (Num number) h = tt
plain_reply (Got bytes) h = tt
plain_reply (Info stat) h = tt
plain_reply (Refused e) h = tt
plain_reply (Restart first second) h = h
plain_reply Device h = h
plain_reply (Failed faults) h = h

some_none : (op : FsOp) → Some op ≡ None → ⊥
some_none op e = cc

held_still : (acts : FsOp) (changes : ChangeList) (ino : ℕ) → Some acts ≡ Some (op.Hold ino) → KeepsIfHold acts changes → changes ≡ []
held_still acts changes ino holds keeps = subst (λ o. KeepsIfHold o changes) (let e : acts ≡ op.Hold ino = cc in e) keeps

pub fit_of : {shown : ℕ → Option (List ℕ)} {opens : CountMap} (seat : Seat) (shared : Bool) (planned : CallPlan) (ready : ReadyCall) → IsPlanFor seat planned → IsEndOf shown opens shared planned ready → IsFit seat shared ready
fit_of seat shared planned ready makes (alone none is) = subst (IsFit seat shared) (sym is) (record { plain = plain_reply planned.reply makes.1; session = can_apply seat planned.session makes.0; range = in_range seat planned.session (can_apply seat planned.session makes.0); shared = refl; still = λ none. refl; held = λ ino holds. refl })
fit_of seat shared planned ready makes (done op changes pick acts has keeps is) = subst (IsFit seat shared) (sym is) (record {
  plain = plain_reply planned.reply makes.1;
  session = freshened seat op pick planned.session (can_apply seat planned.session makes.0);
  range = in_range seat (fresh_on op pick planned.session) (freshened seat op pick planned.session (can_apply seat planned.session makes.0));
  shared = refl;
  still = λ none. absurd (some_none op none);
  held = λ ino holds. held_still op changes ino holds keeps;
})
fit_of seat shared planned ready makes (refused op e acts has is) = subst (IsFit seat shared) (sym is) (record { plain = tt; session = tt; range = tt; shared = refl; still = λ none. refl; held = λ ino holds. refl })
