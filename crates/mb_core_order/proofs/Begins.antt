-- A core that begins is in order.
use Rattle.std.proofs.Common.{Option, IsSome, List, [], ◌∷◌, ℕ, zero, suc, ◌≡◌, ◌≤◌, true, Some, None, length, map, slice_get, refl, ap, sym, ◌∙◌, subst, arith}
use Rattle.std.specs.Prelude.{replicate}
use Rattle.mb_kinds.specs.Image.{Image}
use Rattle.mb_kinds.specs.declared.entries.Flight.{Flight}
use Rattle.mb_tree.specs.Machines.{IsValid}
use Rattle.mb_tree.specs.Opening.{first_seat, opening}
use Rattle.mb_tree.specs.Views.{Kept}
use Rattle.mb_tree.specs.Volume.{IsVolume}
use Rattle.mb_tree.specs.Sessions.{counts}
use Rattle.mb_tree.specs.declared.trees.Tree.{Tree}
use Rattle.mb_edge.specs.Damage.{OpenCounts}
use Rattle.mb_cache.specs.Stamps.{stamp_of}
use Rattle.mb_cache.specs.Pages.{under}
use Rattle.mb_cache.specs.State.{CacheState}
use Rattle.mb_core_spec.specs.declared.config.Config.{Config}
use Rattle.mb_core_spec.specs.declared.stages.Stage.TheVariants as stage
use Rattle.mb_core_order.proofs.Keepings.{no_copies, no_true}
use Rattle.mb_core_order.proofs.Logs.{log_sealed}
use Rattle.mb_core_order.proofs.Overlays.{same_some}
use Rattle.mb_core_spec.specs.Bounds.{IsConfig}
use Rattle.mb_core_spec.specs.Callers.{EachCaller, one_if, total}
use Rattle.mb_core_spec.specs.Copies.{AreTrue, KeepsCopies}
use Rattle.mb_session.specs.OpenFiles.{TellsCounts}
use Rattle.mb_core_spec.specs.Flights.{IsAnswered, IsFlying, IsUndoable, MayBeInside, is_pin}
use Rattle.mb_core_spec.specs.Numbers.{OwnsEntries, is_open, open_flight}
use Rattle.mb_core_spec.specs.Right.{IsOrderly, Right}
use Rattle.mb_core_spec.specs.Seen.{Holds}
use Rattle.mb_core_spec.specs.State.{CallerState, CoreState, JournalRoom}
use Rattle.mb_core_spec.specs.Traced.{IsSeatedAt}
use Rattle.mb_core_spec.specs.Begun.{begun_core, idle}
use Rattle.mb_tree.proofs.HistoryOperations.{few_opens}
use Rattle.mb_core_spec.specs.Trail.{Place, watch_from}

each_idle : (n caller : ℕ) (d : CallerState) → slice_get (replicate n idle) caller ≡ Some d → idle ≡ d
each_idle zero caller d is = absurd (let wrong : None ≡ Some d = is in cc)
each_idle (suc n) zero d is = same_some idle d is
each_idle (suc n) (suc caller) d is = each_idle n caller d is

all_idle : (n : ℕ) (P : ℕ → CallerState → Type 0) → ((caller : ℕ) → P caller idle) → EachCaller P (replicate n idle)
all_idle n P holds caller d is = subst (P caller) (each_idle n caller d is) (holds caller)

total_idle : (n : ℕ) (f : CallerState → ℕ) → f idle ≡ 0 → total f (replicate n idle) ≡ 0
total_idle zero f none = refl
total_idle (suc n) f none = let rest = total_idle n f none in omega (arith, rest, none)

many : {X : Type 0} (n : ℕ) (x : X) → length (replicate n x) ≡ n
many zero x = refl
many (suc n) x = let rest = many n x in omega (arith, rest)

length_map : {X Y : Type 0} (f : X → Y) (xs : List X) → length (map f xs) ≡ length xs
length_map f [] = refl
length_map f (x ∷ xs) = let rest = length_map f xs in omega (arith, rest)

module _ {F D : Type 0} (fs : F) (first : D) (config : Config) (cache : CacheState D) (opens : OpenCounts) (room : JournalRoom) (good : IsConfig config) (stamps : (block : ℕ) → stamp_of cache.stamps block ≤ 1)
    (pins : (block : ℕ) → stamp_of cache.pins block ≡ 0) where
  abbrev core : CoreState F D
  core = begun_core fs first config cache opens room

  abbrev n : ℕ
  n = length config.callers

  no_flight : (f : Flight) → None ≡ Some f → ⊥
  no_flight f is = cc

  pub orderly_begins : IsOrderly core
  orderly_begins = record {
    numbered = record {
      callers_are = many n idle;
      begun = all_idle n (λ caller d. d.begun ≤ config.most) (λ caller. omega arith);
      entries = tt;
      pairs = tt;
      ordinals = all_idle n _ (λ caller. tt);
      counted = all_idle n (λ caller d. OwnsEntries [] d) (λ caller. record { begun = omega arith; places = λ all. refl });
      waiting = λ caller d is flight waits. absurd (no_flight flight (ap (λ (x : CallerState). open_flight x.flight) (each_idle n caller d is) ∙ waits));
      apart = λ one other d next f g is at apart f_is g_is. absurd (no_flight f (ap (λ (x : CallerState). open_flight x.flight) (each_idle n one d is) ∙ f_is));
      says = tt;
      recorded = tt;
      few = omega arith;
      fits = (let none = total_idle n (λ (d : CallerState). one_if (is_open (open_flight d.flight))) refl in omega (arith, none));
    };
    trailed = record {
      watch = watch_from n;
      folded = ap (λ k. Some (watch_from k)) (many n idle);
      places = many n _ ∙ sym (many n idle);
      mode = refl;
      struck = refl;
      covers = omega arith;
      sealed = refl;
      seated = λ caller d is place at. subst (λ (x : CallerState). IsSeatedAt x place) (each_idle n caller d is) (record { begun = (let low = first_place n caller place at in omega (arith, low)); placed = tt });
      plain = refl;
    };
    flying = all_idle n (λ caller d. IsFlying caller d.inside true 0 d.answer d.flight) (λ caller. refl);
    answers = all_idle n (λ caller d. IsAnswered caller [] d) (λ caller flight flies done. absurd (no_flight flight flies));
    unwound = all_idle n (λ caller d. MayBeInside stage.Running d.inside) (λ caller. tt);
    copies = λ now. all_idle n (λ caller d. KeepsCopies caller cache.stamps core.tables d.pages) (λ caller. no_copies caller cache.stamps core.tables);
    undoable = all_idle n (λ caller d. IsUndoable caller None d) (λ caller. record { outside = λ out. (refl, refl, refl, refl); stales = omega arith; fourth = λ four. absurd (omega (arith, four)) });
    pinned = λ block. pins block ∙ sym (total_idle n (λ (d : CallerState). total (is_pin block) d.undo) refl);
    floor = tt;
    fresh = λ now caller d is holds. absurd (let wrong : None ≡ Some caller = holds in cc);
    incarnation = omega arith;
    marks = λ some. absurd (let none = total_idle n (λ (d : CallerState). one_if d.inside) refl in omega (arith, some, none));
    entries = (let none = total_idle n (λ (d : CallerState). one_if (is_open (open_flight d.flight))) refl in omega (arith, none));
    stamps = λ block. (let one = stamps block in omega (arith, one));
    logged = omega arith;
    sessions = length_map first_seat config.callers ∙ sym (many n idle);
    saved = length_map first_seat config.callers ∙ sym (many n idle);
    dropped = λ failed. absurd (let wrong : stage.Running ≡ stage.Failed = failed in cc);
    within = omega arith;
    bounds = good;
    changes = omega arith;
  }
    where
      first_place : (n caller : ℕ) (place : Place) → slice_get (watch_from n).places caller ≡ Some place → place.ordinal ≡ 0
      first_place zero caller place is = absurd (let wrong : None ≡ Some place = is in cc)
      first_place (suc n) zero place is = ap (λ (p : Place). p.ordinal) (sym (same_some _ place is))
      first_place (suc n) (suc caller) place is = first_place n caller place is

  -- the swept volume under the sealed pages, with sessions and a table that have no open file
  pub holds_begins : (tree : Tree) (image base : Image) → cache.current ≡ [] → IsVolume base (opening tree config.callers).tree → Kept tree image (opening tree config.callers).tree base → IsValid (opening tree config.callers)
      → TellsCounts opens (counts (map first_seat config.callers)) → Holds tree image base core
  holds_begins tree image base none volume kept valid counted = record {
    legal = record { legal = record { runs = tt; above = tt; order = tt }; valid = valid; seats = refl };
    checkpoint = record { within = omega arith; volume = volume; kept = kept; seats = refl };
    replay = record { carried = refl; few = λ ino. few_opens (map first_seat config.callers) ino; since = log_sealed (opening tree config.callers) [] };
    view = (let bare : under base cache.current ≡ base = ap (under base) none in record {
      volume = subst (λ (view : Image). IsVolume view (opening tree config.callers).tree) (sym bare) volume;
      kept = subst (λ (view : Image). Kept tree image (opening tree config.callers).tree view) (sym bare) kept;
      counted = counted;
    });
  }

  pub right_begins : (told : D → Option Image) (faults : D → ℕ) → cache.current ≡ [] → TellsCounts opens (counts (map first_seat config.callers)) → ((image : Image) → told first ≡ Some image → IsSome (told cache.disk)) → faults first ≤ faults cache.disk
      → ((old image : Image) (tree : Tree) → told first ≡ Some old → told cache.disk ≡ Some image → IsVolume old tree
      → IsVolume (under image cache.sealed) (opening tree config.callers).tree × Kept tree old (opening tree config.callers).tree (under image cache.sealed) × IsValid (opening tree config.callers))
      → Right told faults core
  right_begins told faults none counted tells more swept = record {
    holds = λ old image tree began now volume. (let one = swept old image tree began now volume in holds_begins tree old (under image cache.sealed) none one.0 one.1 one.2 counted);
    seen = λ first image began now runs. all_idle n (λ caller d. AreTrue (under (under image cache.sealed) cache.current).at cache.stamps d.pages.blocks) (λ caller. no_true _ cache.stamps);
    tells = tells;
    orderly = orderly_begins;
    later = more;
    devices = λ below. omega (arith, more);
  }
