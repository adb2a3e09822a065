use Rattle.std.proofs.Common.{◌≡◌, ◌≢◌, ℕ, ◌<◌, arith, length}
use Rattle.std.proofs.lemmas.Option.{slice_get_within}
use Rattle.mb_run.proofs.Asked.{asked_seals, none_asked, one_asked, whole_asks}
use Rattle.mb_run.proofs.Moving.{whole_same}
use Rattle.mb_run.proofs.Quiet.{quiet_whole}
use Rattle.mb_run.proofs.Taking.{takes_none, takes_one}
use Rattle.mb_run.proofs.Timely.{timely_more}
use Rattle.std.proofs.Common.{◌∙◌, refl, sym}
use Rattle.mb_run.proofs.Starting.{lacked_begins, letter_begins, no_letter_begins, no_letter_is, quiet_alone, same_alone}
use Rattle.mb_run.proofs.orders.step_character.Goals as goal
use Rattle.mb_run.proofs.Calm.{lacked_keeps, letter_keeps, no_letter_keeps, sealed_still, star_keeps, still_same}

not_asked : (character other : ℕ) → character ≡ other → other ≢ 61 → character ≢ 61
not_asked character other is apart same = apart (sym is ∙ same)

pub returns-then-character-eq61-clause-whole : goal.returns-then-character-eq61-clause-whole
returns-then-character-eq61-clause-whole g c = λ so. quiet_whole _ _ _ _ _ _ c.requires.underway c.seal_now.ensures.quiet (asked_seals c.args.character (g.C.EventCore.sight c.args.core.now) (g.C.EventCore.sight c.seal_now.new.core) c.if-character-eq61.true (c.seal_now.ensures.sealed so)) (takes_one _ _ _ (one_asked c.args.character c.if-character-eq61.true) (c.seal_now.ensures.sealed so)) c.seal_now.ensures.right

pub returns-then-character-eq62-clause-whole : goal.returns-then-character-eq62-clause-whole
returns-then-character-eq62-clause-whole g c = λ so. quiet_whole _ _ _ _ _ _ c.requires.underway c.flush.ensures.quiet (timely_more _ _ 0 _ (omega arith) c.flush.ensures.seals) (takes_none _ _ _ (none_asked c.args.character (not_asked c.args.character 62 c.if-character-eq62.true (λ same. omega (arith, same)))) c.flush.ensures.quiet) c.flush.ensures.right

pub step_letter-requires-clause-within : goal.step_letter-requires-clause-within
step_letter-requires-clause-within g c =
    let low : c.in-Some.caller < length c.args.callers.now = slice_get_within c.args.callers.now c.in-Some.caller c.in-Some.ensures.found.caller c.in-Some.ensures.found.here in
    omega (arith, low, c.requires.callers)

pub returns-then-character-eq32-clause-letters : goal.returns-then-character-eq32-clause-letters
returns-then-character-eq32-clause-letters g c = λ so letters. no_letter_begins _ _ (g.C.EventCore.sight c.args.core.now) (g.C.EventCore.sight c.args.core.now) letters _ (no_letter_is _ 32 c.if-character-eq32.true (omega arith)) (same_alone (g.C.EventCore.sight c.args.core.now))

pub returns-then-character-eq61-clause-letters : goal.returns-then-character-eq61-clause-letters
returns-then-character-eq61-clause-letters g c = λ so letters. no_letter_begins _ _ _ _ letters _ (no_letter_is _ 61 c.if-character-eq61.true (omega arith)) (quiet_alone _ _ c.seal_now.ensures.quiet)

pub returns-then-character-eq62-clause-letters : goal.returns-then-character-eq62-clause-letters
returns-then-character-eq62-clause-letters g c = λ so letters. no_letter_begins _ _ _ _ letters _ (no_letter_is _ 62 c.if-character-eq62.true (omega arith)) (quiet_alone _ _ c.flush.ensures.quiet)

pub returns-then-character-eq42-clause-letters : goal.returns-then-character-eq42-clause-letters
returns-then-character-eq42-clause-letters g c = λ so letters. no_letter_begins _ _ _ _ letters _ (no_letter_is _ 42 c.if-character-eq42.true (omega arith)) (c.recover_once.ensures.alone so)

pub returns-in_default-clause-letters : goal.returns-in_default-clause-letters
returns-in_default-clause-letters g c = λ so letters. lacked_begins _ _ (g.C.EventCore.sight c.args.core.now) (g.C.EventCore.sight c.args.core.now) letters _ (rw c.to_ascii_lowercase-letter.ensures.value at c.in_default.ensures.lacks refl) refl

pub returns-clause-letters : goal.returns-clause-letters
returns-clause-letters g c = λ so letters. letter_begins _ _ _ _ letters _ _ (rw c.to_ascii_lowercase-letter.ensures.value at c.in-Some.ensures.found) (c.step_letter.ensures.begins so) (c.step_letter.ensures.alone so)

pub returns-then-character-eq32-clause-whole : goal.returns-then-character-eq32-clause-whole
returns-then-character-eq32-clause-whole g c = λ so. whole_asks _ _ _ _ _ _ _ (not_asked c.args.character 32 c.if-character-eq32.true (λ same. omega (arith, same))) (whole_same _ _ _ _ c.requires.underway)

pub returns-then-character-eq42-clause-whole : goal.returns-then-character-eq42-clause-whole
returns-then-character-eq42-clause-whole g c = λ so. whole_asks _ _ _ _ _ _ _ (not_asked c.args.character 42 c.if-character-eq42.true (λ same. omega (arith, same))) (c.recover_once.ensures.whole so)

pub returns-in_default-clause-whole : goal.returns-in_default-clause-whole
returns-in_default-clause-whole g c = λ so. whole_asks _ _ _ _ _ _ _ c.if-character-eq61.false (whole_same _ _ _ _ c.requires.underway)

pub returns-clause-whole : goal.returns-clause-whole
returns-clause-whole g c = λ so. whole_asks _ _ _ _ _ _ _ c.if-character-eq61.false (c.step_letter.ensures.whole so)

pub returns-then-character-eq32-clause-calm : goal.returns-then-character-eq32-clause-calm
returns-then-character-eq32-clause-calm g c = λ so nowhere letters. no_letter_keeps _ _ (g.C.EventCore.sight c.args.core.now) (g.C.EventCore.sight c.args.core.now) _ _ letters _ (no_letter_is _ 32 c.if-character-eq32.true (omega arith)) (still_same (g.C.EventCore.sight c.args.core.now)) refl

pub returns-then-character-eq61-clause-calm : goal.returns-then-character-eq61-clause-calm
returns-then-character-eq61-clause-calm g c = λ so nowhere letters. no_letter_keeps _ _ (g.C.EventCore.sight c.args.core.now) (g.C.EventCore.sight c.seal_now.new.core) _ _ letters _ (no_letter_is _ 61 c.if-character-eq61.true (omega arith)) (sealed_still _ _ (c.seal_now.ensures.sealed so)) refl

pub returns-then-character-eq62-clause-calm : goal.returns-then-character-eq62-clause-calm
returns-then-character-eq62-clause-calm g c = λ so nowhere letters. no_letter_keeps _ _ (g.C.EventCore.sight c.args.core.now) (g.C.EventCore.sight c.flush.new.core) _ _ letters _ (no_letter_is _ 62 c.if-character-eq62.true (omega arith)) c.flush.ensures.still refl

pub returns-then-character-eq42-clause-calm : goal.returns-then-character-eq42-clause-calm
returns-then-character-eq42-clause-calm g c = λ so nowhere letters. star_keeps _ _ (g.C.EventCore.sight c.args.core.now) (g.C.EventCore.sight c.recover_once.new.core) _ _ letters _ (no_letter_is _ 42 c.if-character-eq42.true (omega arith)) c.recover_once.ensures.idle

pub returns-in_default-clause-calm : goal.returns-in_default-clause-calm
returns-in_default-clause-calm g c = λ so nowhere letters. lacked_keeps _ _ (g.C.EventCore.sight c.args.core.now) (g.C.EventCore.sight c.args.core.now) _ _ letters _ (rw c.to_ascii_lowercase-letter.ensures.value at c.in_default.ensures.lacks refl) refl refl

pub returns-clause-calm : goal.returns-clause-calm
returns-clause-calm g c = λ so nowhere letters. letter_keeps _ _ (g.C.EventCore.sight c.args.core.now) (g.C.EventCore.sight c.step_letter.new.core) _ _ letters _ c.in-Some.caller c.is_ascii_uppercase-capital.result (g.H.Hook.test c.args.hook.now) (rw c.to_ascii_lowercase-letter.ensures.value at c.in-Some.ensures.found) (sym c.is_ascii_uppercase-capital.ensures.value) (c.step_letter.ensures.calm so) nowhere
