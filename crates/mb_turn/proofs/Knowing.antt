-- What follows what: a value after what a caller saw, and after what another caller gave.
use Rattle.std.proofs.Common.{◌≡◌, ◌≢◌, ℕ, List, [], ◌++◌, sym, ap, refl, ◌∙◌, arith}
use Rattle.std.specs.Prelude.{Option}
use Rattle.std.proofs.lemmas.List.Elements.{filter-append}
use Rattle.std.proofs.lemmas.List.{append-nil}
use Rattle.mb_kinds.specs.Own.{own, OwnAppends}
use Rattle.mb_kinds.specs.declared.Entry.{Entry}
use Rattle.mb_kinds.specs.declared.Stand.{Stand}
use Rattle.mb_turn.specs.Passes.{EachIn, Follows, Adds, ContinuesBy}
use Rattle.mb_turn.proofs.Lists.{prefix_trans, append_nil_left, append_cancel, own_all, own_none}

pub own_append : OwnAppends
own_append front back caller = filter-append _ front back

-- where a list goes on and a caller's own entries stay the same, what came has none of that caller's
pub own_between : (saw rest : List Entry) (caller : ℕ) → own (saw ++ rest) caller ≡ own saw caller → own rest caller ≡ []
own_between saw rest caller e = append_nil_left (own saw caller) (own rest caller) (sym (own_append saw rest caller) ∙ e)

-- a caller's new entries stand behind its older ones
pub own_added : (took new : List Entry) (caller : ℕ) → EachIn (λ (e : Entry). e.caller ≡ caller) new → own (took ++ new) caller ≡ own took caller ++ new
own_added took new caller all = own_append took new caller ∙ ap (λ l. own took caller ++ l) (own_all new caller all)

-- and another caller has none of them
pub own_others : (took now : List Entry) (caller other : ℕ) → caller ≢ other → ContinuesBy caller took now → own now other ≡ own took other
own_others took now caller other apart c =
    ap (λ l. own l other) c.whole ∙ own_append took c.new other ∙ ap (λ l. own took other ++ l) (own_none c.new caller other apart c.all_own) ∙ append-nil (own took other)

-- whichever new entries are named, they are the ones that stand behind the older
pub own_grows : (took now new : List Entry) (caller : ℕ) → ContinuesBy caller took now → now ≡ took ++ new → own now caller ≡ own took caller ++ new
own_grows took now new caller c e =
    ap (λ l. own l caller) c.whole ∙ own_added took c.new caller c.all_own ∙ ap (λ l. own took caller ++ l) (append_cancel took c.new new (sym c.whole ∙ e))

module _ {T Origin : Type 0} (list : T → List Entry) (stand : T → ℕ → Option Stand) (origin : T → Origin) (tally : T → ℕ) where
  pub follows_itself : (caller : ℕ) (saw : T) → Follows list stand origin tally caller saw saw
  follows_itself caller saw = record { same = refl; goes_on = ([], append-nil (list saw)); keeps_own = refl; stands = refl; fewer = omega arith }

  pub follows_trans : (caller : ℕ) (first then last : T) → Follows list stand origin tally caller first then → Follows list stand origin tally caller then last → Follows list stand origin tally caller first last
  follows_trans caller first then last f g = record {
    same = g.same ∙ f.same;
    goes_on = prefix_trans (list first) (list then) (list last) f.goes_on g.goes_on;
    keeps_own = g.keeps_own ∙ f.keeps_own;
    stands = g.stands ∙ f.stands;
    fewer = omega (arith, f.fewer, g.fewer);
  }

  -- what one caller gives follows, for every other caller, what that one took
  pub adds_follows : (caller other : ℕ) (took now : T) → other ≢ caller → Adds list stand origin tally caller took now → Follows list stand origin tally other took now
  adds_follows caller other took now apart a = record {
    same = a.same;
    goes_on = (a.entries.new, sym a.entries.whole);
    keeps_own = own_others (list took) (list now) caller other (λ e. apart (sym e)) a.entries;
    stands = a.others other apart;
    fewer = a.fewer;
  }
