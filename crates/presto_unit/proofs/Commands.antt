-- What a command, and a flush, come to.
use Rattle.std.proofs.Common.{◌≡◌, ◌≢◌, ℕ, zero, suc, ◌≤◌, Option, None, IsSome, IfSome, List, [], ◌∷◌, length, refl, sym, ◌∙◌, ap, subst, arith}
use Rattle.stable.specs.Counts.{RoseBy, one_more}
use Rattle.stable.specs.States.{after_command, flushes, reads_battery, HasLeft, IsCommanded}
use Rattle.stable.specs.declared.battery.Battery.{Battery}
use Rattle.stable.specs.declared.battery.Battery.TheVariants.{Good, Low}
use Rattle.stable.specs.declared.state.Cause.{Cause}
use Rattle.stable.specs.declared.state.Cause.TheVariants as cause
use Rattle.stable.specs.declared.state.State.{State}
use Rattle.stable.specs.declared.state.State.TheVariants.{Up, Down, Error}
use Rattle.stable.specs.declared.command.Command.{Command}
use Rattle.stable.specs.declared.command.Command.TheVariants as command
use Rattle.stable.specs.declared.command.Answer.{Answer}
use Rattle.stable.specs.declared.snapshot.Snapshot.{Snapshot}
use Rattle.presto_states.specs.Table.{after}
use Rattle.presto_unit.specs.Happenings.{flushing, left_answer}
use Rattle.presto_cache.specs.Entries.{Entry}
use Rattle.presto_unit.specs.Flushing.{AreTried, IsDeviceCause}
use Rattle.presto_unit.proofs.Happenings.{why_of, why_device, flushed_state}

left_rose : (n before now : ℕ) → RoseBy n before now → before ≤ now → HasLeft (left_answer n) before now
left_rose zero before now rose later = later
left_rose (suc n) before now rose later = rose

no_reads : (state : State) (asked : Command) → asked ≢ command.Up → reads_battery state asked → ⊥
no_reads Down command.Up ne reads = ne refl
no_reads Down command.Down ne reads = reads
no_reads Down command.Flush ne reads = reads
no_reads Down command.Reset ne reads = reads
no_reads Up asked ne reads = reads
no_reads (Error was) asked ne reads = reads

idle_down : (state : State) (asked : Command) → asked ≢ command.Up → (asked ≡ command.Reset → state ≢ Up) → (flushes state asked → ⊥) → state ≡ Down
idle_down state command.Up ne reset idle = absurd (ne refl)
idle_down state command.Down ne reset idle = absurd (idle tt)
idle_down Up command.Flush ne reset idle = absurd (idle tt)
idle_down Down command.Flush ne reset idle = refl
idle_down (Error was) command.Flush ne reset idle = absurd (idle tt)
idle_down Up command.Reset ne reset idle = absurd (reset refl refl)
idle_down Down command.Reset ne reset idle = refl
idle_down (Error was) command.Reset ne reset idle = absurd (idle tt)

-- all was flushed
pub flushed : (asked : Command) (first : Option Cause) (result : Answer) (before now : ℕ) (old new : Snapshot)
    → asked ≢ command.Up → (asked ≡ command.Reset → old.state ≢ Up) → (old.state ≡ Down → old.dirty ≡ 0)
    → (first ≡ None → new.dirty ≡ 0) → (IsSome first → 1 ≤ new.dirty) → IfSome first IsDeviceCause → RoseBy new.dirty before now → before ≤ now → new.dirty ≤ old.dirty
    → result ≡ left_answer new.dirty → new.state ≡ after old.state (flushing asked first)
    → new.battery ≡ old.battery → new.puts ≡ old.puts → new.polls ≡ old.polls → new.ups ≡ old.ups → new.tries ≡ old.tries
    → IsCommanded asked result before now old new
flushed asked first result before now old new ne reset clean none some device rose later fewer result_is state_is battery puts polls ups tries = record {
  why = why_of first;
  not_battery = why_device first device;
  answered = ap (λ (a : Answer). (a, new.state)) result_is ∙ ap (λ (s : State). (left_answer new.dirty, s)) state_is
      ∙ flushed_state old.state asked new.battery first new.dirty ne reset (λ down. let e = clean down in omega (arith, e, fewer)) none some;
  cause = subst (λ (a : Answer). HasLeft a before now) (sym result_is) (left_rose new.dirty before now rose later);
  dirty = fewer;
  idle = λ idle. let e = clean (idle_down old.state asked ne reset idle) in omega (arith, e, fewer);
  readings = ((λ reads. absurd (no_reads old.state asked ne reads)), λ _. (ups, battery));
  puts = puts;
  polls = polls;
  tries = tries;
}

up_left : (state : State) (battery : Battery) (why : Cause) (n before now : ℕ) → before ≤ now → HasLeft (after_command state command.Up battery why n).0 before now
up_left Up battery why n before now later = later
up_left Down Good why n before now later = later
up_left Down Low why n before now later = later
up_left (Error was) battery why n before now later = later

reads_down : (state : State) → reads_battery state command.Up → state ≡ Down
reads_down Down reads = refl
reads_down Up reads = absurd reads
reads_down (Error was) reads = absurd reads

-- Up was asked for
pub upped : (result : Answer) (before now : ℕ) (old new : Snapshot)
    → ((why : Cause) (n : ℕ) → (result, new.state) ≡ after_command old.state command.Up new.battery why n)
    → (old.state ≡ Down → new.ups ≡ one_more old.ups) → (old.state ≢ Down → (new.ups ≡ old.ups) × (new.battery ≡ old.battery))
    → before ≤ now → new.dirty ≡ old.dirty → new.puts ≡ old.puts → new.polls ≡ old.polls → new.tries ≡ old.tries
    → IsCommanded command.Up result before now old new
upped result before now old new answered read unread later dirty puts polls tries = record {
  why = cause.Disk;
  not_battery = tt;
  answered = answered cause.Disk new.dirty;
  cause = subst (λ (a : Answer). HasLeft a before now) (sym (ap (λ (p : Answer × State). p.0) (answered cause.Disk new.dirty))) (up_left old.state new.battery cause.Disk new.dirty before now later);
  dirty = omega (arith, dirty);
  idle = λ _. dirty;
  readings = ((λ reads. read (reads_down old.state reads)), λ none. unread (λ down. none (subst (λ (s : State). reads_battery s command.Up) (sym down) tt)));
  puts = puts;
  polls = polls;
  tries = tries;
}

none_tried : (old new : List Entry) → length old ≡ 0 → AreTried old new → new ≡ old
none_tried [] new none tried = tried
none_tried (e ∷ es) new none tried = absurd (omega (arith, none))

-- where nothing was to be flushed, the entries are as before
pub idle_entries : (state : State) (asked : Command) (old new : List Entry) → asked ≢ command.Up → (asked ≡ command.Reset → state ≢ Up) → (state ≡ Down → length old ≡ 0) → AreTried old new → (flushes state asked → ⊥) → new ≡ old
idle_entries state asked old new ne reset clean tried idle = none_tried old new (clean (idle_down state asked ne reset idle)) tried
