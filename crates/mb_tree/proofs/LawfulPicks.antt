-- Which pick is lawful for a call, from its plan for one number and the effect of the plan's operation.
use Rattle.std.proofs.Common.{ℕ, ◌≡◌, Bool, true, false, Option, Some, None, Ok, Err, IsSome, inl, inr, ◌⊎◌, refl, sym, ap, subst, ◌∙◌}
use Rattle.std.specs.Prelude.{IfSome}
use Rattle.std.specs.FinMap as fin
use Rattle.mb_kinds.specs.declared.calls.Call.{Call}
use Rattle.mb_kinds.specs.declared.errors.Errno.{Errno}
use Rattle.mb_kinds.specs.declared.errors.Errno.TheVariants.{ENOSPC}
use Rattle.mb_kinds.specs.declared.replies.Reply.{Reply}
use Rattle.mb_tree.specs.Answers.{Answer, ◌>>=◌}
use Rattle.mb_tree.specs.Effect.{TreeAndOpens, effect}
use Rattle.mb_tree.specs.PickLaws.{makes_inode, plan_makes, with_pick, repicked, IsMadeWith, IsRefusedWith}
use Rattle.mb_tree.specs.Rows.{plan}
use Rattle.mb_tree.specs.Sessions.{Counts, counts, with_change}
use Rattle.mb_tree.specs.Step.{IsFreeNumber, IsLawful, Makes, effect_of, or_refused, serve}
use Rattle.mb_tree.specs.Trees.{IsSound}
use Rattle.mb_tree.specs.declared.machines.Machine.{Machine}
use Rattle.mb_tree.specs.declared.operations.FsOp.{FsOp}
use Rattle.mb_tree.specs.declared.operations.FsOp.TheVariants.{Create, Empty, MakeDir, RemoveDir, Enlink, Delink, Put, SetMode, SetOwner, SetTimes, Hold, Release}
use Rattle.mb_tree.specs.declared.plans.CallPlan.{CallPlan}
use Rattle.mb_tree.specs.declared.trees.Tree.{Tree}
use Rattle.mb_tree.proofs.PickedEffects.{refused_alike, unpicked, refused_unpicked, adds_none, adds_one}
use Rattle.mb_tree.proofs.Repicking.{replans, refused_plans}

none_some : {X : Type 0} (o : Option X) → o ≡ None → IsSome o → ⊥
none_some None h s = cc
none_some (Some x) h s = cc

same_err : {X : Type 0} (a b : Errno) → ◌≡◌ {A = Answer X} (Err a) (Err b) → a ≡ b
same_err a b h = cc

bool_of : (b : Bool) → (b ≡ true) ⊎ (b ≡ false)
bool_of true = inl refl
bool_of false = inr refl

-- where an inode is made with a number, or none is made, the call is planned
pub repick_ok : (op : FsOp) (pick : Option ℕ) (planned : CallPlan) → (makes_inode op ≡ true → IsSome pick) → repicked (Some op) pick planned ≡ Ok (with_pick op pick planned)
repick_ok (Create dir name mode uid gid moment) (Some ino) planned some = refl
repick_ok (Create dir name mode uid gid moment) None planned some = absurd (none_some {X = ℕ} None refl (some refl))
repick_ok (Empty ino moment) pick planned some = refl
repick_ok (MakeDir dir name mode uid gid moment) pick planned some = refl
repick_ok (RemoveDir dir name moment) pick planned some = refl
repick_ok (Enlink dir name ino moment) pick planned some = refl
repick_ok (Delink dir name moment) pick planned some = refl
repick_ok (Put ino offset bytes moment) pick planned some = refl
repick_ok (SetMode ino mode moment) pick planned some = refl
repick_ok (SetOwner ino uid gid moment) pick planned some = refl
repick_ok (SetTimes ino atime mtime moment) pick planned some = refl
repick_ok (Hold ino) pick planned some = refl
repick_ok (Release inos) pick planned some = refl

-- without a number it is planned too, or no inode is free
pub repick_none : (op : FsOp) (planned : CallPlan) → (repicked (Some op) None planned ≡ Ok (with_pick op None planned))
    ⊎ ((repicked (Some op) None planned ≡ Err ENOSPC) × ((tree : Tree) (opens : Counts) → effect tree opens op None ≡ Err ENOSPC))
repick_none (Create dir name mode uid gid moment) planned = inr (refl, λ tree opens. refl)
repick_none (Empty ino moment) planned = inl refl
repick_none (MakeDir dir name mode uid gid moment) planned = inl refl
repick_none (RemoveDir dir name moment) planned = inl refl
repick_none (Enlink dir name ino moment) planned = inl refl
repick_none (Delink dir name moment) planned = inl refl
repick_none (Put ino offset bytes moment) planned = inl refl
repick_none (SetMode ino mode moment) planned = inl refl
repick_none (SetOwner ino uid gid moment) planned = inl refl
repick_none (SetTimes ino atime mtime moment) planned = inl refl
repick_none (Hold ino) planned = inl refl
repick_none (Release inos) planned = inl refl

module _ (machine : Machine) (caller : ℕ) (made : Call) (moment : ℕ) where
  abbrev serves : Option ℕ → Answer (Reply × Machine)
  serves pick = serve machine caller made moment pick

  abbrev pub moved_to : TreeAndOpens → CallPlan → Machine
  moved_to held planned = record { tree = held.tree; seats = with_change machine.seats caller planned.session }

  -- ---- a call that is served or refused, from its plan and the effect

  pub served_by : (pick : Option ℕ) (planned : CallPlan) (held : TreeAndOpens) → plan machine caller made moment pick ≡ Ok planned → effect_of machine.tree (counts machine.seats) planned.op pick ≡ Ok held
      → serves pick ≡ Ok (planned.reply, moved_to held planned)
  served_by pick planned held plans acts =
      ap (λ (r : Answer CallPlan). r >>= (λ (found : CallPlan). effect_of machine.tree (counts machine.seats) found.op pick >>= (λ (held : TreeAndOpens). Ok (found.reply, moved_to held found)))) plans
      ∙ ap (λ (r : Answer TreeAndOpens). r >>= (λ (held : TreeAndOpens). Ok (planned.reply, moved_to held planned))) acts

  pub stopped_by : (pick : Option ℕ) (planned : CallPlan) (e : Errno) → plan machine caller made moment pick ≡ Ok planned → effect_of machine.tree (counts machine.seats) planned.op pick ≡ Err e → serves pick ≡ Err e
  stopped_by pick planned e plans acts =
      ap (λ (r : Answer CallPlan). r >>= (λ (found : CallPlan). effect_of machine.tree (counts machine.seats) found.op pick >>= (λ (held : TreeAndOpens). Ok (found.reply, moved_to held found)))) plans
      ∙ ap (λ (r : Answer TreeAndOpens). r >>= (λ (held : TreeAndOpens). Ok (planned.reply, moved_to held planned))) acts

  pub unplanned_by : (pick : Option ℕ) (e : Errno) → plan machine caller made moment pick ≡ Err e → serves pick ≡ Err e
  unplanned_by pick e plans = ap (λ (r : Answer CallPlan). r >>= (λ (found : CallPlan). effect_of machine.tree (counts machine.seats) found.op pick >>= (λ (held : TreeAndOpens). Ok (found.reply, moved_to held found)))) plans

  -- ---- a call that makes no inode with a number: it is refused, or there is no inode more

  pub not_made : (ino : ℕ) (e : Errno) → serves (Some ino) ≡ Err e → Makes machine caller made moment ino → ⊥
  not_made ino e stops makes = none_some _ makes.0.unused (subst (λ (done : Reply × Machine). IsSome (fin.get done.1.tree.nodes ino)) (ap (or_refused machine) stops) makes.1)

  pub not_new : (ino : ℕ) (reply : Reply) (next : Machine) → serves (Some ino) ≡ Ok (reply, next) → (fin.get machine.tree.nodes ino ≡ None → fin.get next.tree.nodes ino ≡ None) → Makes machine caller made moment ino → ⊥
  not_new ino reply next is same makes = none_some _ (same makes.0.unused) (subst (λ (done : Reply × Machine). IsSome (fin.get done.1.tree.nodes ino)) (ap (or_refused machine) is) makes.1)

  pub lawful_unplanned : (number : ℕ) (e : Errno) → plan machine caller made moment (Some number) ≡ Err e → IsLawful machine caller made moment None
  lawful_unplanned number e h = λ ino makes. not_made ino e (unplanned_by (Some ino) e (refused_plans number machine caller made moment (Some ino) e h)) makes

  module _ (number : ℕ) (planned : CallPlan) (h : plan machine caller made moment (Some number) ≡ Ok planned) where
    -- a plan without an operation
    lawful_alone : planned.op ≡ None → IsLawful machine caller made moment None
    lawful_alone none =
        let held : TreeAndOpens = record { tree = machine.tree; opens = counts machine.seats } in
        let plans : (pick : Option ℕ) → plan machine caller made moment pick ≡ Ok planned = λ pick. replans number machine caller made moment pick planned h ∙ ap (λ o. repicked o pick planned) none in
        let acts : (pick : Option ℕ) → effect_of machine.tree (counts machine.seats) planned.op pick ≡ Ok held = λ pick. ap (λ o. effect_of machine.tree (counts machine.seats) o pick) none in
        λ ino makes. not_new ino planned.reply (moved_to held planned) (served_by (Some ino) planned held (plans (Some ino)) (acts (Some ino))) (λ gone. gone) makes

    module _ (op : FsOp) (is : planned.op ≡ Some op) where
      pub plans_with : (pick : Option ℕ) → (makes_inode op ≡ true → IsSome pick) → plan machine caller made moment pick ≡ Ok (with_pick op pick planned)
      plans_with pick some = replans number machine caller made moment pick planned h ∙ ap (λ o. repicked o pick planned) is ∙ repick_ok op pick planned some

      effect_with : (pick : Option ℕ) (r : Answer TreeAndOpens) → effect machine.tree (counts machine.seats) op pick ≡ r → effect_of machine.tree (counts machine.seats) planned.op pick ≡ r
      effect_with pick r acts = ap (λ o. effect_of machine.tree (counts machine.seats) o pick) is ∙ acts

      -- an operation that makes no inode, served or not
      lawful_quiet : makes_inode op ≡ false → IsLawful machine caller made moment None
      lawful_quiet quiet = λ ino makes. go ino makes (effect machine.tree (counts machine.seats) op (Some ino)) refl
        where
          go : (ino : ℕ) → Makes machine caller made moment ino → (r : Answer TreeAndOpens) → effect machine.tree (counts machine.seats) op (Some ino) ≡ r → ⊥
          go ino makes (Ok held) acts =
              not_new ino planned.reply (moved_to held (with_pick op (Some ino) planned)) (served_by (Some ino) (with_pick op (Some ino) planned) held (plans_with (Some ino) (λ some. refl)) (effect_with (Some ino) (Ok held) acts))
              (adds_none machine.tree (counts machine.seats) op (Some ino) held ino quiet acts) makes
          go ino makes (Err e) stops = not_made ino e (stopped_by (Some ino) (with_pick op (Some ino) planned) e (plans_with (Some ino) (λ some. refl)) (effect_with (Some ino) (Err e) stops)) makes

      -- what is refused with the number
      refused_none : (e : Errno) → effect machine.tree (counts machine.seats) op (Some number) ≡ Err e → effect machine.tree (counts machine.seats) op None ≡ Err e
      refused_none e stops = elim (bool_of (makes_inode op)) [
        | inl makes ↦ refused_unpicked machine.tree (counts machine.seats) op number e makes stops
        | inr quiet ↦ sym (unpicked machine.tree (counts machine.seats) op (Some number) quiet) ∙ stops
      ]

      serves_none : (e : Errno) → effect machine.tree (counts machine.seats) op None ≡ Err e → serves None ≡ Err e
      serves_none e stops = elim (repick_none op planned) [
        | inl ok ↦ stopped_by None (with_pick op None planned) e (replans number machine caller made moment None planned h ∙ ap (λ o. repicked o None planned) is ∙ ok) (effect_with None (Err e) stops)
        | inr full ↦
            let same : ENOSPC ≡ e = same_err {X = TreeAndOpens} ENOSPC e (sym (full.1 machine.tree (counts machine.seats)) ∙ stops) in
            unplanned_by None e (replans number machine caller made moment None planned h ∙ ap (λ o. repicked o None planned) is ∙ full.0 ∙ ap Err same)
      ]

  pub lawful_unmade : (number : ℕ) (planned : CallPlan) → plan machine caller made moment (Some number) ≡ Ok planned → plan_makes planned.op ≡ false → IsLawful machine caller made moment None
  lawful_unmade number planned h quiet = elim planned.op as (λ (o : Option FsOp). planned.op ≡ o → plan_makes o ≡ false → IsLawful machine caller made moment None) [
    | None ↦ λ e q. lawful_alone number planned h e
    | Some op ↦ λ e q. lawful_quiet number planned h op e q
  ] refl quiet

  pub lawful_made : (number : ℕ) → IsMadeWith machine caller made moment number → IsLawful machine caller made moment (Some number)
  lawful_made number by =
      let serves_it = served_by (Some number) by.planned by.held by.plans (ap (λ o. effect_of machine.tree (counts machine.seats) o (Some number)) by.operation ∙ by.acts) in
      (by.free, subst (λ (done : Reply × Machine). IsSome (fin.get done.1.tree.nodes number)) (sym (ap (or_refused machine) serves_it)) (adds_one machine.tree (counts machine.seats) by.op by.held number by.makes by.acts))

  pub refused_with_all : (number : ℕ) (e : Errno) → IsSound machine.tree → IsRefusedWith machine caller made moment number e → (pick : Option ℕ) → IfSome pick (IsFreeNumber machine.tree) → serves pick ≡ Err e
  refused_with_all number e sound by None free = serves_none number by.planned by.plans by.op by.operation e (refused_none number by.planned by.plans by.op by.operation e by.stops)
  refused_with_all number e sound by (Some other) free =
      stopped_by (Some other) (with_pick by.op (Some other) by.planned) e (plans_with number by.planned by.plans by.op by.operation (Some other) (λ some. refl))
      (effect_with number by.planned by.plans by.op by.operation (Some other) (Err e) (refused_alike machine.tree (counts machine.seats) by.op number other e sound by.fits by.free free by.stops))

  pub lawful_refused : (number : ℕ) (e : Errno) → IsSound machine.tree → IsRefusedWith machine caller made moment number e → IsLawful machine caller made moment None
  lawful_refused number e sound by = λ ino makes. not_made ino e (refused_with_all number e sound by (Some ino) makes.0) makes
