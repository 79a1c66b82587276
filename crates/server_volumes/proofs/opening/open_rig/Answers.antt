use Rattle.std.proofs.Common.{◌≡◌, ◌≤◌, ◌^◌, [], ◌∷◌, List, ℕ, refl, sym, ap, subst, ◌∙◌}
use Rattle.stable.specs.Store.{Image}
use Rattle.presto_recover.proofs.Shown.{same_overlay}
use Rattle.presto_unit.specs.Parts.{rig_of}
use Rattle.volume.specs.Opens.{root_in}
use Rattle.run_lines.proofs.Sayings.{told_none}
use Rattle.server_volumes.specs.Obstacles.{Hinders, NoUnit, NoVolume}
use Rattle.server_volumes.proofs.Founds.{none_found}
use Rattle.server_volumes.proofs.Overlays.{kept_refused, kept_opened}
use Rattle.server_volumes.proofs.opening.open_rig.Goals as goal

pub returns-in-Err : goal.returns-in-Err
returns-in-Err g c =
    let r = g.R.Rig in
    let refused = c.in-Err.ensures.refused in
    record {
      opened = tt;
      refused = record {
        obstacle = NoUnit c.in-Err.fault;
        refuses = c.unit_refusal.ensures;
        hinders = (
          record { reason = refused.reason; same = same_overlay r g.met.R.Rig.clocked refused.only_formats.sizes refused.crash },
          kept_refused r g.met.R.Rig.clocked c.args.options.accept_loss c.in-Err.fault refused,
        );
        told = told_none g.H.Host g.H.Say;
      };
    }

pub returns-in-Err-open_store : goal.returns-in-Err-open_store
returns-in-Err-open_store g c =
    let r = g.R.Rig in
    let law = g.met.R.Rig in
    let opened = c.in-Ok.ensures.opened in
    let refused = c.in-Err-open_store.ensures.refused in
    let unit' = c.in-Err-open_store.unit in
    let is : c.take_rig.result ≡ rig_of unit' = c.take_rig.ensures.rig in
    let few : (r.sizes (rig_of unit')).sectors ≤ 2 ^ 32 = subst (λ rig. (r.sizes rig).sectors ≤ 2 ^ 32) is c.take_rig.ensures.few in
    record {
      opened = tt;
      refused = record {
        obstacle = NoVolume c.in-Err-open_store.fault;
        refuses = c.volume_refusal.ensures;
        hinders = subst (λ rig. Hinders r c.args.options (NoVolume c.in-Err-open_store.fault) (c.args.rig ∷ []) (rig ∷ [])) (sym is) (
          none_found r law.clocked c.args.options _ opened unit' c.in-Err-open_store.fault refused.0,
          kept_opened r law.clocked law.shape law.board c.args.options.accept_loss _ opened unit' few [] refused.0.grows,
        );
        told = refused.1;
      };
    }

pub returns-in-Ok-open_store : goal.returns-in-Ok-open_store
returns-in-Ok-open_store g c =
    let opened = c.in-Ok-open_store.ensures.opened in
    let is = c.in-Ok.ensures.opened in
    record {
      opened = record {
        start = opened.start;
        told = opened.told;
        over = record {
          opened = _;
          is = is;
          on = opened.on;
          rooted = λ tells. opened.on.rooted tells ∙ ap (λ (image : Image). root_in image) (same_overlay g.R.Rig g.met.R.Rig.clocked is.sizes is.crash tells);
        };
      };
      refused = tt;
    }
