-- A call that goes on over what it gathered.
use Rattle.std.proofs.Common.{◌≡◌, ◌⊎◌, inl, inr, ℕ, List, true, false, is_some, refl, sym, subst, Option, None, Some, IfSome}
use Rattle.mb_calls.proofs.Cutting.{going_grows}
use Rattle.mb_calls.specs.Following.{IsGoingFor, ViewGrows}
use Rattle.mb_calls.specs.declared.resuming.Performing.{Performing}
use Rattle.mb_cache.specs.Kept.{shown}
use Rattle.mb_core_spec.specs.Copies.{PagesState, TableCopy, no_pages}
use Rattle.mb_iface.specs.declared.replies.Need.{Need}
use Rattle.mb_kinds.specs.declared.calls.Call.{Call}
use Rattle.mb_run.specs.Pages.{PagesGrow, PagesGrowBy, IsUnderWay, LacksAll, has}

-- ---- a view that grows

each_same : (o : Option (List ℕ)) → IfSome o (λ bytes. o ≡ Some bytes)
each_same None = tt
each_same (Some bytes) = refl

same_view : (view : ℕ → Option (List ℕ)) → ViewGrows view view
same_view view block = each_same (view block)

given_same : (tables : Option TableCopy) → IfSome tables (λ (given : TableCopy). tables ≡ Some given)
given_same None = tt
given_same (Some given) = refl

-- what was gathered is there
pub grows_same : (pages : PagesState) → PagesGrow pages pages
grows_same pages = record { blocks = same_view (shown pages.blocks); tables = given_same pages.tables }

-- ---- a call under way

never : false ≡ true → ⊥
never same = cc

same_tables : (before now : Option TableCopy) (Was Is : TableCopy → Type 0) → is_some before ≡ true → IfSome before (λ (given : TableCopy). now ≡ Some given) → ((given : TableCopy) → Was given → Is given) → IfSome before Was → IfSome now Is
same_tables None now Was Is there same on had = absurd (never there)
same_tables (Some given) now Was Is there same on had = subst (λ (o : Option TableCopy). IfSome o Is) (sym same) (on given had)

module _ (before now : PagesState) (caller : ℕ) (call : Call) where
  grown_on : (on : Performing) → is_some before.tables ≡ true → PagesGrow before now → IsUnderWay before caller call (Some on) → IsUnderWay now caller call (Some on)
  grown_on on there grows under = same_tables before.tables now.tables (λ given. IsGoingFor (shown before.blocks) given.sessions caller call on) (λ given. IsGoingFor (shown now.blocks) given.sessions caller call on) there grows.tables
      (λ given going seat here. going_grows (shown before.blocks) (shown now.blocks) seat call on grows.blocks (going seat here)) under

  grown_way : (way : Option Performing) → is_some before.tables ≡ true → PagesGrow before now → IsUnderWay before caller call way → IsUnderWay now caller call way
  grown_way None there grows under = tt
  grown_way (Some on) there grows under = grown_on on there grows under

  empty_way : (way : Option Performing) → now ≡ no_pages → IsUnderWay now caller call way
  empty_way None empty = tt
  empty_way (Some on) empty = subst (λ (p : PagesState). IsUnderWay p caller call (Some on)) (sym empty) tt

  -- after blocks were asked for
  pub gathered_way : (need : Need) (was way : Option Performing) → has before 0 ≡ true → IsUnderWay before caller call was → (way ≡ None) ⊎ ((way ≡ was) × LacksAll before need) → PagesGrowBy need before now → IsUnderWay now caller call way
  gathered_way need was way there under (inl none) grown = subst (IsUnderWay now caller call) (sym none) tt
  gathered_way need was way there under (inr kept) (inl empty) = empty_way way empty
  gathered_way need was way there under (inr kept) (inr grows) = subst (IsUnderWay now caller call) (sym kept.0) (grown_way was there (grows kept.1) under)
