-- What comes of the opening of the volumes and of the run over them together.
use Rattle.std.proofs.Common.{arith, ◌≡◌, ◌≢◌, inl, ◌∙◌, ℕ, suc, ◌+◌, ◌≤◌, List, [], ◌∷◌, ◌++◌, length, map, Option, Some, None, slice_get, refl, sym, ap, subst}
use Rattle.std.specs.Option.{option_map}
use Rattle.std.proofs.lemmas.List.{length-append, append-nil}
use Rattle.stable.specs.Counts.{Rose, RoseBy}
use Rattle.files_model.specs.declared.attributes.FileId.{FileId}
use Rattle.rig.specs.declared.clock.Clock.{Ghosts as ClockGhosts}
use Rattle.rig.specs.declared.host.Host.{Ghosts as HostGhosts}
use Rattle.rig.specs.declared.host.Post.{Post}
use Rattle.rig.specs.declared.link.Link.{Ghosts as LinkGhosts}
use Rattle.rig.specs.declared.rig.Rig.{Ghosts}
use Rattle.rig.specs.declared.say.Say.{Ghosts as SayGhosts}
use Rattle.presto_unit.specs.declared.presto.Presto.{Presto}
use Rattle.volume.specs.Mounted.{root_of}
use Rattle.volume.specs.Opens.{root_in}
use Rattle.volume.specs.declared.mounted.Volume.{Volume}
use Rattle.run_lines.specs.Naming.{Named}
use Rattle.run_lines.specs.Overlays.{overlay_of}
use Rattle.run_lines.specs.Told.{Loan, Said}
use Rattle.run_lines.specs.declared.refusing.Refusal.{Refusal}
use Rattle.run_lines.proofs.Loans.{lent_both, loan_none, loan_within}
use Rattle.run_lines.proofs.Sayings.{said_both}
use Rattle.run_lines.proofs.Statuses.{host_not}
use Rattle.nfs_worker.specs.Account.{Hold}
use Rattle.nfs_worker.specs.Sharing.{SharedFrom}
use Rattle.nfs_worker.specs.Turns.{EndsBy}
use Rattle.server_volumes.specs.Ends.{EachServed, no_holds}
use Rattle.server_volumes.specs.Kept.{Kept}
use Rattle.server_volumes.specs.Lines.{starts_lines}
use Rattle.server_volumes.specs.Obstacles.{Obstacle, NoRig, NoUnit, NoVolume, Hinders, IsOfWord, obstacle_line, obstacle_status}
use Rattle.server_volumes.specs.Opens.{EachOpen, OpensAll, OpensSome}
use Rattle.server_volumes.specs.Starts.{Start}
use Rattle.server_volumes.specs.declared.opening.OpenOptions.{OpenOptions}
use Rattle.server_volumes.specs.declared.stopping.Stopped.{Stopped}
use Rattle.server_volumes.proofs.Lists.{open_rigs, open_starts}
use Rattle.server_words.specs.Words.{Words}
use Rattle.nfs_server.specs.Course.{Served, Unopened, Ran, NoPost, Ending, ending_lines, ending_status, dids_in, obstacle_in, first_failed}
use Rattle.nfs_server.specs.Outcome.{AnyRose, EndsAsAsked, Outcome, Volumes, opening_of}
use Rattle.nfs_server.specs.Run.{EachPair, EndsAs, HasRoots, RunsOver, StopsRest, Workers, changes_in, numbered}
use Rattle.nfs_server.proofs.Devices.{hindered_rose}
use Rattle.nfs_server.proofs.Endings.{closing_failed}
use Rattle.nfs_server.proofs.Lists.{found_all, found_with, numbered_things, pairs_none, polls_with, rose_right, served_backs, stop_rose, volumes_all, volumes_with}

-- no volume has an event, and so they are no worker's
pub shared_none : {A : Type 0} (n : ℕ) (xs : List A) → SharedFrom n (no_holds xs) []
shared_none n [] = tt
shared_none n (x ∷ xs) = (record { lists = tt; whole = tt }, shared_none (n + 1) xs)

shared_both : {A B : Type 0} (n : ℕ) (xs : List A) (ys : List B) → SharedFrom n (no_holds xs ++ no_holds ys) []
shared_both n [] ys = shared_none n ys
shared_both n (x ∷ xs) ys = (record { lists = tt; whole = tt }, shared_both (n + 1) xs ys)

numbered_length : {A : Type 0} (n : ℕ) (xs : List A) → length (numbered n xs) ≡ length xs
numbered_length n [] = refl
numbered_length n (x ∷ xs) = ap suc (numbered_length (n + 1) xs)

module _ {R : Type 0} (r : Ghosts R) (options : OpenOptions) where
  -- what is kept of the rig of a volume that wasn't opened
  hindered_kept : (n : ℕ) (why : Obstacle) (rigs backs : List R) → Hinders r options why rigs backs → Volumes (Kept r) n rigs (numbered n backs) (no_holds rigs)
  hindered_kept n (NoRig word fault) [] [] hinders = tt
  hindered_kept n (NoRig word fault) [] (back ∷ backs) hinders = absurd hinders
  hindered_kept n (NoRig word fault) (rig ∷ rigs) backs hinders = absurd hinders
  hindered_kept n (NoUnit fault) (rig ∷ []) (back ∷ []) hinders = (refl, hinders.1, tt)
  hindered_kept n (NoUnit fault) [] backs hinders = absurd hinders
  hindered_kept n (NoUnit fault) (rig ∷ []) [] hinders = absurd hinders
  hindered_kept n (NoUnit fault) (rig ∷ []) (back ∷ more ∷ backs) hinders = absurd hinders
  hindered_kept n (NoUnit fault) (rig ∷ other ∷ rigs) backs hinders = absurd hinders
  hindered_kept n (NoVolume fault) (rig ∷ []) (back ∷ []) hinders = (refl, hinders.1, tt)
  hindered_kept n (NoVolume fault) [] backs hinders = absurd hinders
  hindered_kept n (NoVolume fault) (rig ∷ []) [] hinders = absurd hinders
  hindered_kept n (NoVolume fault) (rig ∷ []) (back ∷ more ∷ backs) hinders = absurd hinders
  hindered_kept n (NoVolume fault) (rig ∷ other ∷ rigs) backs hinders = absurd hinders

  pub hindered_length : (why : Obstacle) (rigs backs : List R) → Hinders r options why rigs backs → length backs ≡ length rigs
  hindered_length (NoRig word fault) [] [] hinders = refl
  hindered_length (NoRig word fault) [] (back ∷ backs) hinders = absurd hinders
  hindered_length (NoRig word fault) (rig ∷ rigs) backs hinders = absurd hinders
  hindered_length (NoUnit fault) (rig ∷ []) (back ∷ []) hinders = refl
  hindered_length (NoUnit fault) [] backs hinders = absurd hinders
  hindered_length (NoUnit fault) (rig ∷ []) [] hinders = absurd hinders
  hindered_length (NoUnit fault) (rig ∷ []) (back ∷ more ∷ backs) hinders = absurd hinders
  hindered_length (NoUnit fault) (rig ∷ other ∷ rigs) backs hinders = absurd hinders
  hindered_length (NoVolume fault) (rig ∷ []) (back ∷ []) hinders = refl
  hindered_length (NoVolume fault) [] backs hinders = absurd hinders
  hindered_length (NoVolume fault) (rig ∷ []) [] hinders = absurd hinders
  hindered_length (NoVolume fault) (rig ∷ []) (back ∷ more ∷ backs) hinders = absurd hinders
  hindered_length (NoVolume fault) (rig ∷ other ∷ rigs) backs hinders = absurd hinders

  -- a device failed in stopping only where the count of its rig rose
  ending_rose : (times : ℕ) (rigs : List R) (backs : List (ℕ × R)) (starts : List Start) (more : List Stopped) (all : List (List Hold)) → EachServed r options times 0 rigs backs starts more all
      → (ending : Ending) (volumes port turns : ℕ) → EndsAs volumes port turns ending → ending_status ending more ≡ 74 → AnyRose r.faults rigs backs
  ending_rose times rigs backs starts more all served (Ran way did) volumes port turns ends is = let failed = closing_failed way (first_failed 0 more) is in stop_rose r options times 0 failed.0 rigs backs starts more all served failed.1
  ending_rose times rigs backs starts more all served (NoPost at fault) volumes port turns ends is = absurd (host_not fault 74 (λ e. omega (arith, e)) (λ e. omega (arith, e)) is)
  ending_rose times rigs backs starts more all served (Unopened why) volumes port turns ends is = absurd ends

  -- MNT gives the roots of the volumes found
  roots_found : r.tells → (rigs : List R) (volumes : List (Volume (Presto R r))) (starts : List Start) → EachOpen r options rigs volumes starts → map root_of volumes ≡ map (λ rig. root_in (overlay_of r rig)) rigs
  roots_found tells [] [] [] opens = refl
  roots_found tells (rig ∷ rigs) (volume ∷ volumes) (start ∷ starts) opens =
      ap (λ (root : FileId). root ∷ map root_of volumes) (opens.0.rooted tells) ∙ ap (λ (roots : List FileId). root_in (overlay_of r rig) ∷ roots) (roots_found tells rigs volumes starts opens.1)
  roots_found tells [] [] (start ∷ starts) opens = absurd opens
  roots_found tells [] (volume ∷ volumes) starts opens = absurd opens
  roots_found tells (rig ∷ rigs) [] starts opens = absurd opens
  roots_found tells (rig ∷ rigs) (volume ∷ volumes) [] opens = absurd opens

-- over all volumes that are asked for
ends_asked : (given : Words) (ending : Ending) (volumes started : ℕ) → started ≡ volumes → volumes ≡ length given.volumes → EndsAs volumes given.options.port given.options.turns ending → EndsAsAsked given started ending
ends_asked given (Ran way did) volumes started is whole ends = (is ∙ whole, subst (λ (n : ℕ). EndsBy n way given.options.turns did.heard) (sym is) ends)
ends_asked given (NoPost port fault) volumes started is whole ends = (is ∙ whole, ends)
ends_asked given (Unopened why) volumes started is whole ends = absurd ends

no_obstacle : (ending : Ending) (volumes port turns : ℕ) → EndsAs volumes port turns ending → obstacle_in ending ≡ None
no_obstacle (Ran way did) volumes port turns ends = refl
no_obstacle (NoPost at fault) volumes port turns ends = refl
no_obstacle (Unopened why) volumes port turns ends = absurd ends

module _ {S R L C P : Type 0} (h : HostGhosts S R L C P) (say : SayGhosts S) (r : Ghosts R) (l : LinkGhosts L) (c : ClockGhosts C) (given : Words) where
  -- a volume wasn't opened, and those before it were stopped
  pub outcome_refused : {old mid new : S} (words : List (List ℕ)) (volumes : List (Volume (Presto R r))) (back : List R) (refusal : Refusal) (result : ℕ)
      → ((word : List ℕ) → slice_get words (length volumes) ≡ Some word → (named : Named) × (slice_get given.volumes (length volumes) ≡ Some named) × (named.word ≡ word))
      → OpensSome h say r (opening_of (Some given)) words old mid volumes back refusal → StopsRest h say r mid new volumes back refusal result → Outcome h say r l c (Some given) old new result
  outcome_refused {old} {mid} {new} words volumes back refusal result names some rest =
      let options = opening_of (Some given) in
      let all = some.opens in
      let none = some.none in
      let starts = all.starts in
      let n = length volumes in
      let count : length starts ≡ n = open_starts r options all.rigs volumes starts all.each in
      let rigs : length all.rigs ≡ n = open_rigs r options all.rigs volumes starts all.each in
      let served = rest.served options all.rigs starts all.each in
      let status : result ≡ obstacle_status none.obstacle = rest.status ∙ none.refuses.status_is in
      let line : refusal.line.bytes ≡ obstacle_line (length starts) none.obstacle = none.refuses.line_is ∙ ap (λ (k : ℕ). obstacle_line k none.obstacle) (sym count) in
      let next = names some.word some.next in
      let back_count = hindered_length r options none.obstacle none.rigs back none.hinders in
      let after : n ≡ 0 + length all.rigs = omega (arith, rigs) in
      record {
        course = Served starts (Unopened none.obstacle) rest.stops;
        rigs = all.rigs ++ none.rigs;
        rig_backs = rest.backs ++ numbered n back;
        volumes = no_holds volumes ++ no_holds none.rigs;
        posts = [];
        post_backs = [];
        rig_loan = record {
          lent = lent_both all.rigs none.rigs _ _ _ all.given.lent (none.given.lent ∙ ap (option_map (λ more. none.rigs ++ more)) (sym rest.left));
          returned = rest.returned ∙ ap (option_map (λ before. before ++ (rest.backs ++ numbered n back))) (none.given.back ∙ all.given.back);
        };
        post_loan = loan_none (rest.posts.left ∙ none.given.posts.left ∙ all.given.posts.left) (rest.posts.back ∙ none.given.posts.back ∙ all.given.posts.back);
        kept = volumes_with r options 0 0 all.rigs rest.backs starts rest.stops (no_holds volumes) none.rigs (numbered n back) (no_holds none.rigs) served
            (subst (λ (k : ℕ). Volumes (Kept r) k none.rigs (numbered n back) (no_holds none.rigs)) after (hindered_kept r options n none.obstacle none.rigs back none.hinders));
        workers = tt;
        shared = shared_both 0 volumes none.rigs;
        polled = pairs_none (λ (rig : R) (post post' : Post L C P). RoseBy (changes_in c post post') 0 (r.readings rig).count) (all.rigs ++ none.rigs) (rest.backs ++ numbered n back) (
            let first = served_backs r options 0 0 all.rigs rest.backs starts rest.stops (no_holds volumes) served in
            let numbers = numbered_length n back in
            let left = length-append rest.backs (numbered n back) in
            let right = length-append all.rigs none.rigs in
            omega (arith, first, numbers, left, right, back_count)
            );
        understood = (given, refl, (next.0, subst (λ (k : ℕ). slice_get given.volumes k ≡ Some next.0) (sym count) next.1, subst (λ (word : List ℕ). IsOfWord word none.obstacle) (sym next.2) none.of_word));
        found = found_with r options 0 0 (Some none.obstacle) all.rigs rest.backs starts rest.stops (no_holds volumes) none.rigs (numbered n back) served
            (subst (λ (backs : List R). Hinders r options none.obstacle none.rigs backs) (sym (numbered_things n back)) none.hinders);
        roots = λ tells. tt;
        status = status;
        said = said_both say (starts_lines 0 starts) (obstacle_line (length starts) none.obstacle ∷ []) all.said
            (said_both say [] (obstacle_line (length starts) none.obstacle ∷ []) none.said (subst (λ (bytes : List ℕ). Said say mid new (bytes ∷ [])) line rest.said));
        device = λ is. rose_right r options 0 0 all.rigs rest.backs starts rest.stops (no_holds volumes) none.rigs (numbered n back) served (hindered_rose r options n none.obstacle none.rigs back none.hinders (sym status ∙ is));
        host = λ is.
            let rose : Rose (h.host_faults some.mid) (h.host_faults mid) = none.host (sym status ∙ is) in
            let before = all.given.later in
            let last = rest.faults in
            omega (arith, rose, before, last);
      }

  -- all volumes were opened, and a run over them ended
  pub outcome_served : {old mid new : S} (volumes : List (Volume (Presto R r))) (result : ℕ) → length volumes ≡ length given.volumes
      → OpensAll h say r (opening_of (Some given)) old mid volumes → RunsOver h say r l c given.options.port given.options.turns mid new volumes result → Outcome h say r l c (Some given) old new result
  outcome_served {old} {mid} {new} volumes result all_of_them all run =
      let options = opening_of (Some given) in
      let starts = all.starts in
      let count : length starts ≡ length volumes = open_starts r options all.rigs volumes starts all.each in
      let served = run.served options all.rigs starts all.each in
      record {
        course = Served starts run.ending run.stops;
        rigs = all.rigs;
        rig_backs = run.backs;
        volumes = run.holds;
        posts = run.posts;
        post_backs = run.post_backs;
        rig_loan = record {
          lent = all.given.lent ∙ ap (option_map (λ more. all.rigs ++ more)) (sym run.left);
          returned = run.returned ∙ ap (option_map (λ before. before ++ run.backs)) all.given.back;
        };
        post_loan = loan_within all.given.posts.left all.given.posts.back run.post_loan refl refl;
        kept = volumes_all r options run.times 0 all.rigs run.backs starts run.stops run.holds served;
        workers = subst (λ (k : ℕ). Workers l k 0 run.posts run.post_backs (dids_in run.ending)) (sym count) run.workers;
        shared = run.shared;
        polled = polls_with r options run.times c run.posts run.post_backs run.polled 0 all.rigs run.backs starts run.stops run.holds served;
        understood = (given, refl, ends_asked given run.ending (length volumes) (length starts) count all_of_them run.ends);
        found = found_all r options run.times 0 (obstacle_in run.ending) (no_obstacle run.ending _ _ _ run.ends) all.rigs run.backs starts run.stops run.holds served;
        roots = λ tells. subst (λ (roots : List FileId). HasRoots run.ending roots) (roots_found r options tells all.rigs volumes starts all.each) run.roots;
        status = run.status;
        said = said_both say (starts_lines 0 starts) (ending_lines (length starts) run.ending run.stops) all.said (subst (λ (k : ℕ). Said say mid new (ending_lines k run.ending run.stops)) (sym count) run.said);
        device = λ is. ending_rose r options run.times all.rigs run.backs starts run.stops run.holds served run.ending _ _ _ run.ends (sym run.status ∙ is);
        host = λ is.
            let rose : Rose (h.host_faults mid) (h.host_faults new) = run.host is in
            let before = all.given.later in
            omega (arith, rose, before);
      }
