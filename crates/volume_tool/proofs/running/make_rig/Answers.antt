use Rattle.std.proofs.Common.{arith, ℕ, ◌*◌, ◌∙◌, refl, ap, subst}
use Rattle.v7_make.proofs.Fitting.{fitting-room}
use Rattle.v7_make.specs.Sizes.{list_blocks}
use Rattle.volume_tool.specs.Asking.{plan_read}
use Rattle.volume_tool.specs.Course.{NotMade, Made, make_status}
use Rattle.volume_tool.specs.Lines.{made_line}
use Rattle.volume_tool.specs.Made.{MakesOn}
use Rattle.volume_tool.proofs.Lent.{make_not, positive}
use Rattle.volume_tool.proofs.Tellings.{tells_as, tells_refused}
use Rattle.volume_tool.proofs.running.make_rig.Goals as goal

pub rounded-requires : goal.rounded-requires
rounded-requires g c =
    let room = fitting-room c.args.plan.now.size c.args.plan.now.inodes c.requires.fits in
    room.1

pub returns-in-Err : goal.returns-in-Err
returns-in-Err g c =
    let fault = c.in-Err.fault in
    let made = subst (λ made. MakesOn g.R.Rig (plan_read c.args.plan.now) c.args.rig c.make_volume-made.result.1 made) c.in-Err.is c.make_volume-made.ensures in
    record {
      course = NotMade fault;
      found = (c.requires.fits, made);
      tells = tells_refused g.H.Host g.H.Say (make_status fault) (positive (make_status fault) (make_not fault 0 (omega arith))) c.make_refusal.ensures c.refuse.ensures.told c.refuse.ensures.status;
    }

pub returns-in-Ok : goal.returns-in-Ok
returns-in-Ok g c =
    let plan = c.args.plan.now in
    let made = subst (λ made. MakesOn g.R.Rig (plan_read plan) c.args.rig c.make_volume-made.result.1 made) c.in-Ok.is c.make_volume-made.ensures in
    record { course = Made plan.size (8 * list_blocks plan.inodes) c.in-Ok.left; found = (c.requires.fits, refl, refl, made); tells = tells_as g.H.Host g.H.Say (c.as_str.ensures.value ∙ c.made_line-line.ensures ∙ ap (λ (inodes : ℕ). made_line plan.size inodes c.in-Ok.left) c.rounded.ensures) c.answer.ensures }
