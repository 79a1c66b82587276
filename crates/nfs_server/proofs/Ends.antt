-- How a run over open volumes ends, by its worker.
use Rattle.std.proofs.Common.{arith, ◌≡◌, ◌∙◌, ℕ, ◌≤◌, List, [], ◌∷◌, ◌++◌, length, map, refl, sym, ap}
use Rattle.std.specs.Option.{option_map}
use Rattle.std.proofs.lemmas.List.{length-map}
use Rattle.stable.specs.Counts.{Rose}
use Rattle.rig.specs.Hosts.{Gives, SameLines, SameLoans}
use Rattle.rig.specs.declared.clock.Clock.{Ghosts as ClockGhosts}
use Rattle.rig.specs.declared.host.Host.{Ghosts as HostGhosts}
use Rattle.rig.specs.declared.host.HostFault.{HostFault}
use Rattle.rig.specs.declared.host.Post.{Post}
use Rattle.rig.specs.declared.link.Link.{Ghosts as LinkGhosts}
use Rattle.rig.specs.declared.rig.Rig.{Ghosts}
use Rattle.rig.specs.declared.say.Say.{Ghosts as SayGhosts}
use Rattle.presto_unit.specs.declared.presto.Presto.{Presto}
use Rattle.volume.specs.Mounted.{root_of}
use Rattle.volume.specs.declared.mounted.Volume.{Volume}
use Rattle.run_lines.specs.Overlays.{unit_store}
use Rattle.run_lines.specs.Refusals.{host_status}
use Rattle.run_lines.proofs.Loans.{loan_none, loan_one}
use Rattle.run_lines.proofs.Sayings.{said_later}
use Rattle.nfs_worker.specs.Desk.{new_desk}
use Rattle.nfs_worker.specs.declared.desk.Desk.{Desk}
use Rattle.server_volumes.specs.Ends.{no_holds}
use Rattle.nfs_server.specs.Course.{NoPost, Ran, first_failed}
use Rattle.nfs_server.specs.Run.{RefusesPost, RunsOver, ServesPost, changes_in, no_mounts}
use Rattle.nfs_server.proofs.Endings.{closing_not}
use Rattle.nfs_server.proofs.Outcomes.{shared_none}

module _ {S R L C P : Type 0} (h : HostGhosts S R L C P) (say : SayGhosts S) (r : Ghosts R) (l : LinkGhosts L) (c : ClockGhosts C) where
  -- the host gave no post, or there was no memory for a worker
  pub runs_refused : {old mid new : S} (volumes : List (Volume (Presto R r))) (port turns result : ℕ) (fault : HostFault)
      → SameLoans h.rigs_left h.rigs_back h.rigs_out old mid → SameLoans h.posts_left h.posts_back h.posts_out old mid → SameLines say.lines say.say_faults old mid → h.host_faults old ≤ h.host_faults mid
      → (host_status fault ≡ 66 → Rose (h.host_faults old) (h.host_faults mid)) → RefusesPost h say r port fault mid new volumes result → RunsOver h say r l c port turns old new volumes result
  runs_refused volumes port turns result fault rigs posts lines later failed refused =
      let last = refused.faults in
      record {
        ending = NoPost port fault;
        stops = refused.stops;
        holds = no_holds volumes;
        times = 0;
        backs = refused.backs;
        posts = [];
        post_backs = [];
        left = refused.left ∙ rigs.left;
        returned = refused.returned ∙ ap (option_map (λ before. before ++ refused.backs)) rigs.back;
        post_loan = loan_none (refused.posts.left ∙ posts.left) (refused.posts.back ∙ posts.back);
        served = refused.served;
        polled = tt;
        workers = tt;
        shared = shared_none 0 volumes;
        ends = refl;
        roots = tt;
        status = refused.status;
        said = said_later say lines refused.said;
        host = λ is. let rose = failed (sym refused.status ∙ is) in omega (arith, rose, last);
        later = omega (arith, later, last);
      }

  -- a worker ran
  pub runs_served : {old mid new : S} (volumes : List (Volume (Presto R r))) (desk : Desk) (post : Post L C P) (port turns result : ℕ) (puts : List ℕ)
      → desk ≡ new_desk (map root_of volumes) puts → Gives h.posts_left h.posts_back h.posts_out old mid post
      → SameLoans h.rigs_left h.rigs_back h.rigs_out old mid → SameLines say.lines say.say_faults old mid → h.host_faults old ≤ h.host_faults mid
      → ServesPost h say r l c turns mid new volumes desk post result → RunsOver h say r l c port turns old new volumes result
  runs_served {old} {mid} {new} volumes desk post port turns result puts is gives rigs lines later ran =
      let last = ran.faults in
      let began : ran.did.desk ≡ new_desk (map root_of volumes) puts = ran.began ∙ is in
      record {
        ending = Ran ran.way ran.did;
        stops = ran.stops;
        holds = ran.holds;
        times = changes_in c post ran.back;
        backs = ran.backs;
        posts = post ∷ [];
        post_backs = (0, ran.back) ∷ [];
        left = ran.left ∙ rigs.left;
        returned = ran.returned ∙ ap (option_map (λ before. before ++ ran.backs)) rigs.back;
        post_loan = loan_one mid gives.left gives.back ran.posts_left ran.posts_back;
        served = ran.served;
        polled = (omega arith, tt);
        workers = (refl, (ap (λ (d : Desk). d.mounts) began ∙ ap (λ (n : ℕ). no_mounts n) (length-map volumes root_of), ran.works), tt);
        shared = ran.shared;
        ends = ran.ends;
        roots = ap (λ (d : Desk). d.roots) began;
        status = ran.status;
        said = said_later say lines ran.said;
        host = λ is. absurd (closing_not ran.way (first_failed 0 ran.stops) 66 (λ e. omega (arith, e)) (λ e. omega (arith, e)) (λ e. omega (arith, e)) (sym ran.status ∙ is));
        later = omega (arith, later, last);
      }
