-- The operations of a legal history of calls are carried out.
use Rattle.std.proofs.Common.{List, [], ◌∷◌, ◌++◌, ℕ, ◌*◌, ◌≤◌, ◌≡◌, Bool, true, false, if◌then◌else◌, nat_eq, Option, Some, None, IfSome, Ok, Err, length, option_map, unwrap_or, refl, ap, sym, ◌∙◌, subst, arith, length-set}
use Rattle.std.specs.Prelude.{slice_get, slice_set}
use Rattle.std.specs.FinMap as fin
use Rattle.std.specs.List.{AllByRecursion}
use Rattle.std.proofs.lemmas.List.{append_assoc}
use Rattle.std.proofs.lemmas.List.Sums.{sum_by-cons}
use Rattle.mb_kinds.specs.declared.entries.Entry.{Entry}
use Rattle.mb_kinds.specs.declared.errors.Errno.{Errno}
use Rattle.mb_kinds.specs.declared.replies.Reply.{Reply}
use Rattle.mb_kinds.specs.declared.replies.Reply.TheVariants.{Num, Got, Info, Refused, Restart, Device, Failed}
use Rattle.mb_tree.specs.Answers.{Answer}
use Rattle.mb_tree.specs.Sessions.{counts, changed, held_by, held_in, with_change}
use Rattle.mb_tree.specs.Effect.{TreeAndOpens}
use Rattle.mb_tree.specs.Rows.{plan}
use Rattle.mb_tree.specs.Step.{IsFreeNumber, IsLawful, effect_of, or_refused, serve}
use Rattle.mb_tree.specs.Machines.{IsValid}
use Rattle.mb_tree.specs.History.{stepped, past_reply, past, after, IsStep, Runs, AreRuns}
use Rattle.mb_tree.specs.SessionLaws.{IsCall}
use Rattle.mb_tree.specs.CarriedOut.{AreCarriedOut, FindFewOpens, tree_and_opens, picked_op, planned_op, op_replied, operations}
use Rattle.mb_tree.specs.HistoryLaws.{CallersStay, HistoryCarriesOut, HistoryFindsFewOpens, OperationsAppend, FewOpens}
use Rattle.mb_tree.specs.declared.machines.Machine.{Machine}
use Rattle.mb_tree.specs.declared.operations.FsOp.{FsOp}
use Rattle.mb_tree.specs.declared.plans.CallPlan.{CallPlan}
use Rattle.mb_tree.specs.declared.seats.PlainFile.{PlainFile}
use Rattle.mb_tree.specs.declared.seats.Seat.{Seat}
use Rattle.mb_tree.specs.declared.seats.SessionChange.{SessionChange}
use Rattle.mb_tree.proofs.Always.{same_ok}
use Rattle.mb_tree.proofs.CarryingOut.{carried_out_appends, find_few_both, find_few_ends}
use Rattle.mb_tree.proofs.CountsFollow.{counts_follow}
use Rattle.mb_tree.proofs.OperationsFit.{operations_fit}
use Rattle.mb_tree.proofs.Served.{served, refused}
use Rattle.mb_tree.proofs.Sums.{sum_few}
use Rattle.mb_tree.proofs.ValidHistories.{past_valid}

-- ---- few open files

one_file : (ino : ℕ) (o : Option PlainFile) → held_by ino o ≤ 1
one_file ino None = omega arith
one_file ino (Some file) = one_or_none (nat_eq file.ino ino)
  where
    one_or_none : (b : Bool) → (if b then 1 else 0) ≤ 1
    one_or_none true = omega arith
    one_or_none false = omega arith

pub few_opens : FewOpens
few_opens [] ino = omega arith
few_opens (seat ∷ seats) ino =
    let first : held_in seat ino ≤ 17 = sum_few (λ place. held_by ino (fin.get seat.files place)) 17 (λ place. one_file ino (fin.get seat.files place)) in
    let rest = few_opens seats ino in
    let sum = sum_by-cons (λ (s : Seat). held_in s ino) seat seats in
    omega (arith, first, rest, sum)

-- ---- the callers stay

change_length : (seats : List Seat) (caller : ℕ) (change : SessionChange) → length (with_change seats caller change) ≡ length seats
change_length seats caller change = by_seat (slice_get seats caller)
  where
    by_seat : (o : Option Seat) → length (unwrap_or (option_map (λ seat. slice_set seats caller (changed seat change)) o) seats) ≡ length seats
    by_seat None = refl
    by_seat (Some seat) = length-set seats caller (changed seat change)

step_length : (machine : Machine) (entry : Entry) → length (stepped machine entry).1.seats ≡ length machine.seats
unfolding stepped
step_length machine entry =
    elim (serve machine entry.caller entry.call entry.moment entry.pick) as (λ (r : Answer (Reply × Machine)). serve machine entry.caller entry.call entry.moment entry.pick ≡ r → length (or_refused machine r).1.seats ≡ length machine.seats) [
      | Ok s ↦ λ is. let by = served machine entry.caller entry.call entry.moment entry.pick s.0 s.1 is in ap length by.seats ∙ change_length machine.seats entry.caller by.planned.session
      | Err e ↦ λ is. refl
    ] refl

past_length : (machine : Machine) (entry : Entry) (reply : Reply) → length (past_reply machine (stepped machine entry).1 reply).seats ≡ length machine.seats
past_length machine entry (Num number) = step_length machine entry
past_length machine entry (Got bytes) = step_length machine entry
past_length machine entry (Info stat) = step_length machine entry
past_length machine entry (Refused e) = step_length machine entry
past_length machine entry (Restart first second) = refl
past_length machine entry Device = refl
past_length machine entry (Failed faults) = refl

pub callers_stay : CallersStay
callers_stay machine [] = refl
callers_stay machine (entry ∷ entries) = callers_stay (past machine entry) entries ∙ past_length machine entry entry.reply

-- ---- one entry

free_pick : (machine : Machine) (entry : Entry) (pick : Option ℕ) → IsLawful machine entry.caller entry.call entry.moment pick → IfSome pick (IsFreeNumber machine.tree)
free_pick machine entry None lawful = tt
free_pick machine entry (Some ino) lawful = lawful.0

abbrev IsAnswered : Reply → Type 0
IsAnswered (Refused e) = ⊥
IsAnswered _ = Unit {0}

not_refused : (e : Errno) (reply : Reply) → IsAnswered reply → Refused e ≡ reply → ⊥
not_refused e reply answered is = subst IsAnswered (sym is) answered

module _ (machine : Machine) (entry : Entry) (valid : IsValid machine) (good : IsCall entry.call) where
  carried : (planned : CallPlan) (held : TreeAndOpens) (next : Machine) (op : Option FsOp) → plan machine entry.caller entry.call entry.moment entry.pick ≡ Ok planned → planned.op ≡ op
      → IfSome entry.pick (IsFreeNumber machine.tree) → effect_of machine.tree (counts machine.seats) op entry.pick ≡ Ok held → held ≡ tree_and_opens next
      → AreCarriedOut (tree_and_opens machine) (picked_op op entry.pick) (tree_and_opens next)
  carried planned held next None plans is free acts leads = same_ok (tree_and_opens machine) held acts ∙ leads
  carried planned held next (Some op) plans is free acts leads =
      (held, record { fits = operations_fit machine entry.caller entry.call entry.moment entry.pick planned op (valid entry.caller) good plans is free; leads = acts }, leads)

  answered_step : (reply : Reply) → IsAnswered reply → IsStep machine entry → (stepped machine entry).0 ≡ reply
      → AreCarriedOut (tree_and_opens machine) (planned_op (plan machine entry.caller entry.call entry.moment entry.pick) entry.pick) (tree_and_opens (stepped machine entry).1)
  unfolding stepped
  answered_step reply answered run =
      elim (serve machine entry.caller entry.call entry.moment entry.pick) as (λ (r : Answer (Reply × Machine)). serve machine entry.caller entry.call entry.moment entry.pick ≡ r → (or_refused machine r).0 ≡ reply
      → AreCarriedOut (tree_and_opens machine) (planned_op (plan machine entry.caller entry.call entry.moment entry.pick) entry.pick) (tree_and_opens (or_refused machine r).1)) [
        | Ok s ↦ λ is says.
            let by = served machine entry.caller entry.call entry.moment entry.pick s.0 s.1 is in
            let opens : counts s.1.seats ≡ by.held.opens = ap counts by.seats ∙ counts_follow machine entry.caller entry.call entry.moment entry.pick by.planned by.held (valid entry.caller) by.plans by.acts in
            let leads : by.held ≡ tree_and_opens s.1 = λ i. record { tree = sym by.tree i; opens = sym opens i } in
            subst (λ (p : Answer CallPlan). AreCarriedOut (tree_and_opens machine) (planned_op p entry.pick) (tree_and_opens s.1)) (sym by.plans)
            (carried by.planned by.held s.1 by.planned.op by.plans refl (free_pick machine entry entry.pick run.lawful) by.acts leads)
        | Err e ↦ λ is says. absurd (not_refused e reply answered says)
      ] refl

  refused_step : (e : Errno) → IsStep machine entry → (stepped machine entry).0 ≡ Refused e → tree_and_opens machine ≡ tree_and_opens (stepped machine entry).1
  unfolding stepped
  refused_step e run says = ap tree_and_opens (sym (refused machine entry.caller entry.call entry.moment entry.pick e says))

  pub entry_carries : (reply : Reply) → entry.reply ≡ reply → Runs machine entry reply → AreCarriedOut (tree_and_opens machine) (op_replied machine entry reply) (tree_and_opens (past_reply machine (stepped machine entry).1 reply))
  entry_carries (Num number) is run = answered_step (Num number) tt run (run.answer ∙ is)
  entry_carries (Got bytes) is run = answered_step (Got bytes) tt run (run.answer ∙ is)
  entry_carries (Info stat) is run = answered_step (Info stat) tt run (run.answer ∙ is)
  entry_carries (Refused e) is run = refused_step e run (run.answer ∙ is)
  entry_carries (Restart first second) is run = refl
  entry_carries Device is run = refl
  entry_carries (Failed faults) is run = refl

-- ---- histories

runs_carry : (machine : Machine) (history : List Entry) → IsValid machine → AllByRecursion (λ (entry : Entry). IsCall entry.call) history → AreRuns machine history
    → AreCarriedOut (tree_and_opens machine) (operations machine history) (tree_and_opens (after machine history))
runs_carry machine [] valid good runs = refl
runs_carry machine (entry ∷ entries) valid good runs =
    carried_out_appends (tree_and_opens machine) (tree_and_opens (past machine entry)) (tree_and_opens (after (past machine entry) entries)) (op_replied machine entry entry.reply) (operations (past machine entry) entries)
    (entry_carries machine entry valid good.0 entry.reply refl runs.0)
    (runs_carry (past machine entry) entries (past_valid machine entry entry.reply valid good.0 runs.0) good.1 runs.1)

pub history_carries_out : HistoryCarriesOut
history_carries_out machine start history valid good legal = runs_carry machine history valid good legal.runs

module _ (most : ℕ) (machine : Machine) (entry : Entry) (next : Machine) (first : (ino : ℕ) → counts machine.seats ino ≤ most) (end : (ino : ℕ) → counts next.seats ino ≤ most) where
  few_planned : (answer : Answer CallPlan) → AreCarriedOut (tree_and_opens machine) (planned_op answer entry.pick) (tree_and_opens next) → FindFewOpens most (tree_and_opens machine) (planned_op answer entry.pick)
  few_planned (Ok planned) leads = find_few_ends most (tree_and_opens machine) (tree_and_opens next) planned.op entry.pick leads first end
  few_planned (Err e) leads = first

  few_replied : (reply : Reply) → AreCarriedOut (tree_and_opens machine) (op_replied machine entry reply) (tree_and_opens next) → FindFewOpens most (tree_and_opens machine) (op_replied machine entry reply)
  few_replied (Num number) leads = few_planned (plan machine entry.caller entry.call entry.moment entry.pick) leads
  few_replied (Got bytes) leads = few_planned (plan machine entry.caller entry.call entry.moment entry.pick) leads
  few_replied (Info stat) leads = few_planned (plan machine entry.caller entry.call entry.moment entry.pick) leads
  few_replied (Refused e) leads = first
  few_replied (Restart one other) leads = first
  few_replied Device leads = first
  few_replied (Failed faults) leads = first

few_at : (most : ℕ) (machine : Machine) → 17 * length machine.seats ≡ most → (ino : ℕ) → counts machine.seats ino ≤ most
few_at most machine is ino = let few = few_opens machine.seats ino in omega (arith, few, is)

runs_find_few : (most : ℕ) (machine : Machine) (history : List Entry) → 17 * length machine.seats ≡ most → IsValid machine → AllByRecursion (λ (entry : Entry). IsCall entry.call) history → AreRuns machine history
    → FindFewOpens most (tree_and_opens machine) (operations machine history)
runs_find_few most machine [] is valid good runs = few_at most machine is
runs_find_few most machine (entry ∷ entries) is valid good runs =
    let next = past machine entry in
    let same : 17 * length next.seats ≡ most = ap (λ n. 17 * n) (past_length machine entry entry.reply) ∙ is in
    let leads = entry_carries machine entry valid good.0 entry.reply refl runs.0 in
    find_few_both most (tree_and_opens machine) (tree_and_opens next) (op_replied machine entry entry.reply) (operations next entries) leads
    (few_replied most machine entry next (few_at most machine is) (few_at most next same) entry.reply leads)
    (runs_find_few most next entries same (past_valid machine entry entry.reply valid good.0 runs.0) good.1 runs.1)

pub history_finds_few_opens : HistoryFindsFewOpens
history_finds_few_opens machine start history valid good legal = runs_find_few (17 * length machine.seats) machine history refl valid good legal.runs

pub operations_append : OperationsAppend
operations_append machine [] back = refl
operations_append machine (entry ∷ front) back =
    ap (λ later. op_replied machine entry entry.reply ++ later) (operations_append (past machine entry) front back)
    ∙ sym (append_assoc (op_replied machine entry entry.reply) (operations (past machine entry) front) (operations (after (past machine entry) front) back))
