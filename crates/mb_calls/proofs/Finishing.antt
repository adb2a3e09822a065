-- From a plan and what the file system did, to the model's step.
use Rattle.std.proofs.Common.{List, [], ℕ, ◌≡◌, Bool, true, false, Option, Some, None, Ok, Err, IsSome, inl, inr, ◌⊎◌, refl, sym, ap, subst, ◌∙◌}
use Rattle.mb_kinds.specs.Image.{Image}
use Rattle.mb_kinds.specs.declared.calls.Call.{Call}
use Rattle.mb_kinds.specs.declared.errors.Errno.{Errno}
use Rattle.mb_kinds.specs.declared.errors.Errno.TheVariants.{ENOSPC}
use Rattle.mb_kinds.specs.declared.replies.Reply.{Reply}
use Rattle.mb_kinds.specs.declared.replies.Reply.TheVariants.{Num, Got, Info, Refused, Restart, Device, Failed}
use Rattle.mb_iface.specs.Acting.{HasDone, HasRefused, Picks, PicksIf, with_changes}
use Rattle.mb_tree.specs.Answers.{Answer}
use Rattle.mb_tree.specs.Effect.{TreeAndOpens, effect}
use Rattle.mb_tree.specs.Fits.{Fits}
use Rattle.mb_tree.specs.PickLaws.{IsRefusedWith, fresh_on, makes_inode, plan_makes, repicked, with_pick}
use Rattle.mb_tree.specs.Plans.{IsServedReply}
use Rattle.mb_tree.specs.Rows.{plan}
use Rattle.mb_tree.specs.Sessions.{counts}
use Rattle.mb_tree.specs.Step.{IsFreeNumber, IsLawful, effect_of, serve}
use Rattle.mb_tree.specs.Trees.{IsSound}
use Rattle.mb_tree.specs.Views.{Kept}
use Rattle.mb_tree.specs.Volume.{IsVolume}
use Rattle.mb_tree.specs.declared.machines.Machine.{Machine}
use Rattle.mb_tree.specs.declared.operations.FsOp.{FsOp}
use Rattle.mb_tree.specs.declared.plans.CallPlan.{CallPlan}
use Rattle.mb_tree.proofs.LawfulPicks.{lawful_made, lawful_refused, lawful_unmade, lawful_unplanned, plans_with, refused_with_all, repick_none, stopped_by, unplanned_by}
use Rattle.mb_tree.proofs.PickedEffects.{makes_by_number}
use Rattle.mb_tree.proofs.Repicking.{refused_plans, replans}
use Rattle.mb_calls.specs.Endings.{ready_refused, ready_with}
use Rattle.mb_calls.specs.Performed.{IsAnsweredOver, IsPerformedOver, IsServedOver}
use Rattle.mb_calls.specs.declared.performing.ReadyCall.{ReadyCall}

answered_by : (view : Image) (machine : Machine) (caller : ℕ) (made : Call) (moment : ℕ) (ready : ReadyCall) (reply : Reply) → IsServedReply reply → IsServedOver view machine caller made moment ready → IsAnsweredOver view machine caller made moment ready reply
answered_by view machine caller made moment ready (Num number) plain by = by
answered_by view machine caller made moment ready (Got bytes) plain by = by
answered_by view machine caller made moment ready (Info stat) plain by = by
answered_by view machine caller made moment ready (Refused e) plain by = absurd plain
answered_by view machine caller made moment ready (Restart first second) plain by = absurd plain
answered_by view machine caller made moment ready Device plain by = absurd plain
answered_by view machine caller made moment ready (Failed faults) plain by = absurd plain

some_none : (ino : ℕ) → ◌≡◌ {A = Option ℕ} (Some ino) None → ⊥
some_none ino h = cc

same_err : {X : Type 0} (a b : Errno) → ◌≡◌ {A = Answer X} (Err a) (Err b) → a ≡ b
same_err a b h = cc

bool_of : (b : Bool) → (b ≡ true) ⊎ (b ≡ false)
bool_of true = inl refl
bool_of false = inr refl

not_both : (b : Bool) → b ≡ true → b ≡ false → ⊥
not_both b t f = let no : true ≡ false = sym t ∙ f in cc

module _ (machine : Machine) (caller : ℕ) (made : Call) (moment : ℕ) where
  -- ---- a plan that is refused
  pub performed_unplanned : (view : Image) (shared : Bool) (e : Errno) → plan machine caller made moment (Some 0) ≡ Err e → IsPerformedOver view machine caller made moment (ready_refused shared e)
  performed_unplanned view shared e h = record {
    lawful = lawful_unplanned machine caller made moment 0 e h;
    answered = record { refused = unplanned_by machine caller made moment None e (refused_plans 0 machine caller made moment None e h); op = refl; session = refl; changes = refl };
  }

  module _ (planned : CallPlan) (h : plan machine caller made moment (Some 0) ≡ Ok planned) (plain : IsServedReply planned.reply) where
    -- ---- a plan without an operation
    pub performed_alone : (view : Image) (shared : Bool) → IsVolume view machine.tree → with_changes view [] ≡ view → Kept machine.tree view machine.tree view → planned.op ≡ None
        → IsPerformedOver view machine caller made moment (ready_with shared planned)
    performed_alone view shared volume same kept none =
        let held : TreeAndOpens = record { tree = machine.tree; opens = counts machine.seats } in
        let plans : plan machine caller made moment None ≡ Ok planned = replans 0 machine caller made moment None planned h ∙ ap (λ o. repicked o None planned) none in
        let here : record { reply = planned.reply; op = None; session = planned.session } ≡ planned = ap (λ o. record planned { op = o }) (sym none) in
        record {
          lawful = lawful_unmade machine caller made moment 0 planned h (ap plan_makes none);
          answered = answered_by view machine caller made moment (ready_with shared planned) planned.reply plain (record {
            planned = plans ∙ ap Ok (sym here);
            held = held;
            effect = refl;
            volume = subst (λ v. IsVolume v machine.tree) (sym same) volume;
            kept = subst (λ v. Kept machine.tree view machine.tree v) (sym same) kept;
          });
        }

    module _ (op : FsOp) (is : planned.op ≡ Some op) where
      planned_with : (pick : Option ℕ) → (makes_inode op ≡ true → IsSome pick) → plan machine caller made moment pick ≡ Ok (with_pick op pick planned)
      planned_with pick some = plans_with machine caller made moment 0 planned h op is pick some

      effect_with : (pick : Option ℕ) (r : Answer TreeAndOpens) → effect machine.tree (counts machine.seats) op pick ≡ r → effect_of machine.tree (counts machine.seats) planned.op pick ≡ r
      effect_with pick r acts = ap (λ o. effect_of machine.tree (counts machine.seats) o pick) is ∙ acts

      quiet_lawful : makes_inode op ≡ false → IsLawful machine caller made moment None
      quiet_lawful quiet = lawful_unmade machine caller made moment 0 planned h (ap plan_makes is ∙ quiet)

      -- ---- an operation that was done
      abbrev is_done : Option ℕ → List (ℕ × List ℕ) → Bool → ReadyCall
      is_done pick changes shared = record { reply = planned.reply; op = Some op; pick = pick; changes = changes; session = fresh_on op pick planned.session; shared = shared }

      done_with : (view : Image) (shown : ℕ → Option (List ℕ)) (changes : List (ℕ × List ℕ)) (pick : Option ℕ) (shared : Bool)
          → HasDone shown view machine.tree (counts machine.seats) op None changes pick → (makes_inode op ≡ true → IsSome pick) → IsLawful machine caller made moment pick
          → IsPerformedOver view machine caller made moment (is_done pick changes shared)
      done_with view shown changes pick shared done some lawful = record {
        lawful = lawful;
        answered = answered_by view machine caller made moment (is_done pick changes shared) planned.reply plain (record {
          planned = planned_with pick some ∙ ap (λ o. Ok (record { reply = planned.reply; op = o; session = fresh_on op pick planned.session })) is;
          held = done.held;
          effect = done.effect;
          volume = done.volume;
          kept = done.kept;
        });
      }

      pub performed_done : (view : Image) (shown : ℕ → Option (List ℕ)) (changes : List (ℕ × List ℕ)) (pick : Option ℕ) (shared : Bool)
          → HasDone shown view machine.tree (counts machine.seats) op None changes pick → IsPerformedOver view machine caller made moment (is_done pick changes shared)
      performed_done view shown changes (Some ino) shared done = done_with view shown changes (Some ino) shared done (λ makes. refl) (elim (bool_of (makes_inode op)) [
        | inl makes ↦ lawful_made machine caller made moment ino (record {
          planned = with_pick op (Some ino) planned;
          op = op;
          held = done.held;
          plans = planned_with (Some ino) (λ makes. refl);
          operation = is;
          makes = makes;
          free = subst (λ b. PicksIf b machine.tree None (Some ino)) makes done.picks;
          acts = done.effect;
        })
        | inr quiet ↦ absurd (some_none ino (subst (λ b. PicksIf b machine.tree None (Some ino)) quiet done.picks))
      ])
      performed_done view shown changes None shared done = elim (bool_of (makes_inode op)) [
        | inl makes ↦ absurd (makes_by_number machine.tree (counts machine.seats) op done.held makes done.effect)
        | inr quiet ↦ done_with view shown changes None shared done (λ makes. absurd (not_both (makes_inode op) makes quiet)) (quiet_lawful quiet)
      ]

      -- ---- an operation that was refused
      refused_with : (ino : ℕ) (e : Errno) → Fits machine.tree (counts machine.seats) op None → IsFreeNumber machine.tree ino → effect machine.tree (counts machine.seats) op (Some ino) ≡ Err e → IsRefusedWith machine caller made moment ino e
      refused_with ino e fits free stops = record {
        planned = with_pick op (Some ino) planned;
        op = op;
        plans = planned_with (Some ino) (λ makes. refl);
        operation = is;
        fits = fits;
        free = free;
        stops = stops;
      }

      serves_none : (e : Errno) → effect machine.tree (counts machine.seats) op None ≡ Err e → serve machine caller made moment None ≡ Err e
      serves_none e stops = elim (repick_none op planned) [
        | inl ok ↦ stopped_by machine caller made moment None (with_pick op None planned) e (replans 0 machine caller made moment None planned h ∙ ap (λ o. repicked o None planned) is ∙ ok) (effect_with None (Err e) stops)
        | inr full ↦
            let same : ENOSPC ≡ e = same_err {X = TreeAndOpens} ENOSPC e (sym (full.1 machine.tree (counts machine.seats)) ∙ stops) in
            unplanned_by machine caller made moment None e (replans 0 machine caller made moment None planned h ∙ ap (λ o. repicked o None planned) is ∙ full.0 ∙ ap Err same)
      ]

      -- no inode is free, or the operation makes none
      none_lawful : (e : Errno) → Picks machine.tree op None None → effect machine.tree (counts machine.seats) op None ≡ Err e → IsLawful machine caller made moment None
      none_lawful e picks stops = elim (bool_of (makes_inode op)) [
        | inl makes ↦ λ ino made_with. absurd (let no = subst (λ b. PicksIf b machine.tree None None) makes picks in no ino made_with.0)
        | inr quiet ↦ quiet_lawful quiet
      ]

      pub performed_refused : (view : Image) (shared : Bool) (e : Errno) → IsSound machine.tree → Fits machine.tree (counts machine.seats) op None → HasRefused machine.tree (counts machine.seats) op None e
          → IsPerformedOver view machine caller made moment (ready_refused shared e)
      performed_refused view shared e sound fits by = go by.picked by.picks by.effect
        where
          go : (picked : Option ℕ) → Picks machine.tree op None picked → effect machine.tree (counts machine.seats) op picked ≡ Err e → IsPerformedOver view machine caller made moment (ready_refused shared e)
          go None picks stops = record {
            lawful = none_lawful e picks stops;
            answered = record { refused = serves_none e stops; op = refl; session = refl; changes = refl };
          }
          go (Some ino) picks stops = elim (bool_of (makes_inode op)) [
            | inl makes ↦
                let with_it = refused_with ino e fits (subst (λ b. PicksIf b machine.tree None (Some ino)) makes picks) stops in
                record {
                  lawful = lawful_refused machine caller made moment ino e sound with_it;
                  answered = record { refused = refused_with_all machine caller made moment ino e sound with_it None tt; op = refl; session = refl; changes = refl };
                }
            | inr quiet ↦ absurd (some_none ino (subst (λ b. PicksIf b machine.tree None (Some ino)) quiet picks))
          ]
