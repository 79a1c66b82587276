use Rattle.std.proofs.Common.{[], ◌∷◌, ◌++◌, List, ℕ, refl, ap, ◌∙◌, sym}
use Rattle.stable.specs.declared.snapshot.Snapshot.{Snapshot}
use Rattle.volume.specs.Mounted.{store_of, is_hurt, name_of, root_of}
use Rattle.run_lines.proofs.Sayings.{told_both, told_as}
use Rattle.nfs_worker.proofs.Accounts.{grew_idle}
use Rattle.server_volumes.specs.Lines.{loss_lines, opened_line}
use Rattle.server_volumes.specs.Starts.{Start, state_after}
use Rattle.server_volumes.proofs.starting.begin.Goals as goal

pub returns : goal.returns
returns g c =
    let s = g.S.Stable in
    let up = c.go_up.ensures in
    let shown = c.snapshot-state.ensures in
    let old = s.snapshot_of (store_of c.args.volume.now) in
    let start : Start = record { name = c.name.result; recovered = c.args.recovery.recovered; lost = c.args.recovery.lost; opened = old.state; battery = c.snapshot-state.result.battery; state = c.snapshot-state.result.state } in
    record {
      begun = record {
        start = start;
        told = told_both g.H.Host g.H.Say (loss_lines c.args.number c.args.recovery.lost) (_ ∷ []) c.tell_loss.ensures
            (told_as g.H.Host g.H.Say (ap (λ (line : List ℕ). line ∷ []) (c.as_str.ensures.value ∙ c.opened_line-line.ensures)) c.tell.ensures);
        rest = up.rest;
        sound = ap (λ v. is_hurt v) up.kept;
        root = ap (λ v. root_of v) up.kept;
        grows = grew_idle s g.met.S.Stable.clocked up.keeps;
        named = c.name.ensures ∙ ap (λ v. name_of v) up.kept;
        recovered = refl;
        lost = refl;
        opened = refl;
        started = ap (λ (x : Snapshot). x.state) shown ∙ up.started.state ∙ ap (λ (x : Snapshot). state_after c.args.down old.state x.battery) (sym shown);
        polls = up.started.polls;
      };
    }
